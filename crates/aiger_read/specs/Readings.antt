-- What the reader answers.
use Rattle.std.specs.Prelude.{◌≡◌, ℕ, ◌+◌, ◌*◌, ◌/◌, ◌%◌, ◌<◌, max, min, List, length, slice_index, Result, Ok, Err}
use Rattle.aig_net.specs.declared.parts.And.{And}
use Rattle.aig_net.specs.declared.parts.NetParts.{NetParts}
use Rattle.aiger_body.specs.declared.error.AigerError.{AigerError}
use Rattle.aiger_body.specs.declared.body.Body.{Body}
use Rattle.aig_order.specs.declared.gate.Gate.{Gate}
use Rattle.aiger_body.specs.Outcomes.{outcome, read, circuit}
use Rattle.aiger_body.specs.Answers.{Refuses}

-- The bytes are the text of the net.
abbrev pub IsText : List ℕ → NetParts → Type 0
IsText bytes net = outcome bytes ≡ read net

abbrev pub IsReadAnswer : List ℕ → Result NetParts AigerError → Type 0
IsReadAnswer bytes (Ok net) = IsText bytes net
IsReadAnswer bytes (Err e) = Refuses (outcome bytes) e

-- ---- how the net is made

-- the literal with its variable's new number
abbrev pub renumbered_by : (ℕ → ℕ) → ℕ → ℕ
renumbered_by numbering l = 2 * numbering (l / 2) + l % 2

abbrev pub and_by : (ℕ → ℕ) → Gate → And
and_by numbering g = record {
  left = max (renumbered_by numbering g.left) (renumbered_by numbering g.right);
  right = min (renumbered_by numbering g.left) (renumbered_by numbering g.right);
}

-- These are numbers of the ands.
abbrev pub AreOf : List ℕ → List Gate → Type 0
AreOf order gates = (i : ℕ) → i < length order → slice_index order i < length gates

-- The parts are those of the text's circuit.
abbrev pub AreParts : List ℕ → Body → NetParts → Type 0
AreParts bytes body parts = parts ≡ circuit body.header bytes
