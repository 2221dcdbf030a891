-- Where the binary ands stand.
use Rattle.std.specs.Prelude.{◌≡◌, ℕ, suc, ◌*◌, ◌≤◌, List, map, length, None, Result, Ok, Err}
use Rattle.std.specs.List.{range_with_len}
use Rattle.aiger_body.specs.declared.error.AigerError.{AigerError}
use Rattle.aiger_body.specs.declared.header.Header.{Header}
use Rattle.aig_order.specs.declared.gate.Gate.{Gate}
use Rattle.aig_order.specs.Firsts.{first_some}
use Rattle.aiger_body.specs.Files.{counted, line_start, group_start, delta, binary_gate}
use Rattle.aiger_body.specs.Outcomes.{of_number, least, greatest}
use Rattle.aiger_body.specs.Answers.{Tells}

-- The counted lines end here.
pub record IsBehind (h : Header) (bytes : List ℕ) (base : ℕ) : Type 0 where
  pub place : base ≡ line_start bytes (counted h bytes)
  pub within : base ≤ length bytes

-- Number j of the ands begins here.
pub record IsNumberAt (h : Header) (bytes : List ℕ) (j at : ℕ) : Type 0 where
  pub place : at ≡ group_start h bytes j
  pub within : at ≤ length bytes

pub record IsDelta (h : Header) (bytes : List ℕ) (j value next : ℕ) : Type 0 where
  pub clear : of_number h bytes j ≡ None
  pub value_is : value ≡ delta h bytes j
  pub low : least j ≤ value
  pub high : value ≤ greatest h bytes j
  pub at : IsNumberAt h bytes (suc j) next

abbrev pub IsDeltaAnswer : Header → List ℕ → ℕ → Result (ℕ × ℕ) AigerError → Type 0
IsDeltaAnswer h bytes j (Ok found) = IsDelta h bytes j found.0 found.1
IsDeltaAnswer h bytes j (Err e) = Tells (of_number h bytes j) e

-- all ands of the binary form
pub record AreGates (h : Header) (bytes : List ℕ) (gates : List Gate) (at : ℕ) : Type 0 where
  pub clear : first_some (2 * h.ands) (of_number h bytes) ≡ None
  pub are : gates ≡ map (binary_gate h bytes) (range_with_len 0 h.ands)
  pub end : IsNumberAt h bytes (2 * h.ands) at

abbrev pub IsGatesAnswer : Header → List ℕ → Result (List Gate × ℕ) AigerError → Type 0
IsGatesAnswer h bytes (Ok found) = AreGates h bytes found.0 found.1
IsGatesAnswer h bytes (Err e) = Tells (first_some (2 * h.ands) (of_number h bytes)) e
