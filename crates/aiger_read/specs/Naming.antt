-- What has been named by the symbol lines that were read.
use Rattle.std.specs.Prelude.{◌≡◌, ℕ, ◌+◌, Bool, true, false, cond, not, ◌&&◌, nat_eq, List, [], length, slice_index_or, slice_set, sum, Option, Some, None, Result, Ok, Err}
use Rattle.hy_base.specs.declared.memory.Memory.{Memory}
use Rattle.aiger_body.specs.declared.error.AigerError.{AigerError}
use Rattle.aiger_body.specs.declared.header.Header.{Header}
use Rattle.aig_order.specs.Firsts.{first_some}
use Rattle.aiger_body.specs.Texts.{is_ended, is_feed, line_text}
use Rattle.aiger_body.specs.Symbols.{Symbol, symbol_of, is_symbol, symbol_counts, symbol_lines}
use Rattle.aiger_body.specs.Outcomes.{of_symbol, names_of}
use Rattle.aiger_body.specs.Answers.{Tells}
use Rattle.aiger_read.specs.declared.names.Names.{Names}
use Rattle.aiger_read.specs.declared.names.Reading.{Reading}
use Rattle.aiger_read.specs.Symbols.{start_of}

-- There is a mark for all that can be named, and a name for each input, latch and output.
pub record AreLong (h : Header) (r : Reading) : Type 0 where
  pub named : length r.named ≡ sum (symbol_counts h)
  pub inputs : length r.names.inputs ≡ h.inputs
  pub latches : length r.names.latches ≡ h.latches
  pub outputs : length r.names.outputs ≡ h.outputs

-- No line is read.
pub record IsNew (h : Header) (r : Reading) : Type 0 where
  pub at : r.at ≡ 0
  pub line : r.line ≡ 0
  pub long : AreLong h r
  pub named : (i : ℕ) → slice_index_or r.named i false ≡ false
  pub inputs : (n : ℕ) → slice_index_or r.names.inputs n [] ≡ []
  pub latches : (n : ℕ) → slice_index_or r.names.latches n [] ≡ []
  pub outputs : (n : ℕ) → slice_index_or r.names.outputs n [] ≡ []

-- where the mark of a symbol stands
abbrev pub place_of : Header → Symbol → ℕ
place_of h s = start_of h s.kind + s.number

abbrev pub is_marked : Header → List Bool → Option Symbol → Bool
is_marked h marks (Some s) = slice_index_or marks (place_of h s) false
is_marked h marks None = false

-- The line is a symbol of what is not marked.
abbrev pub is_kept : Header → List ℕ → List Bool → Bool
is_kept h line marks =
    is_ended is_feed line && is_symbol h (symbol_of (line_text line))
    && not (is_marked h marks (symbol_of (line_text line)))

-- with the name for number n of the kind, if the letter is this one
abbrev pub with_one : ℕ → ℕ → ℕ → List ℕ → List (List ℕ) → List (List ℕ)
with_one kind letter n name names = cond (nat_eq letter kind) (slice_set names n name) names

abbrev pub with_name : ℕ → ℕ → List ℕ → Names → Names
with_name letter n name names = record {
  inputs = with_one 105 letter n name names.inputs;
  latches = with_one 108 letter n name names.latches;
  outputs = with_one 111 letter n name names.outputs;
}

-- The symbol of the line is kept.
pub record IsKept (h : Header) (line : List ℕ) (old new : Reading) : Type 0 where
  pub s : Symbol
  pub said : symbol_of (line_text line) ≡ Some s
  pub kept : is_kept h line old.named ≡ true
  pub at : new.at ≡ old.at
  pub line_same : new.line ≡ old.line
  pub named : new.named ≡ slice_set old.named (place_of h s) true
  pub names : new.names ≡ with_name s.kind s.number s.name old.names

abbrev pub IsKeepAnswer : Header → List ℕ → Reading → Reading → Result Bool Memory → Type 0
IsKeepAnswer h line old new (Ok true) = IsKept h line old new
IsKeepAnswer h line old new (Ok false) = (is_kept h line old.named ≡ false) × (new.at ≡ old.at)
IsKeepAnswer h line old new (Err e) = Unit {0}

-- These are the names, and no symbol line is at fault.
pub record AreNamed (h : Header) (bytes : List ℕ) (found : Names) : Type 0 where
  pub clear : first_some (symbol_lines h bytes) (of_symbol h bytes) ≡ None
  pub inputs : found.inputs ≡ names_of h bytes 105 h.inputs
  pub latches : found.latches ≡ names_of h bytes 108 h.latches
  pub outputs : found.outputs ≡ names_of h bytes 111 h.outputs

abbrev pub IsNamesAnswer : Header → List ℕ → Result Names AigerError → Type 0
IsNamesAnswer h bytes (Ok found) = AreNamed h bytes found
IsNamesAnswer h bytes (Err e) = Tells (first_some (symbol_lines h bytes) (of_symbol h bytes)) e
