-- A circuit text up to its symbols.
use Rattle.std.specs.Prelude.{◌≡◌, ℕ, ◌*◌, ◌≤◌, List, length, drop, None, Result, Ok, Err}
use Rattle.aiger_body.specs.declared.error.AigerError.{AigerError}
use Rattle.aiger_body.specs.declared.header.Header.{Header}
use Rattle.aiger_body.specs.declared.content.Content.{Content}
use Rattle.aiger_body.specs.declared.body.Body.{Body}
use Rattle.aig_order.specs.Firsts.{first_some, otherwise}
use Rattle.aiger_body.specs.Files.{content, counted, tail, literals}
use Rattle.aig_order.specs.Gates.{order, IsComplete}
use Rattle.aiger_body.specs.Symbols.{symbol_lines}
use Rattle.aiger_body.specs.Outcomes.{judged, circuit, outcome, numbers, of_line, of_number, of_uses, of_cycle, of_symbol}
use Rattle.aiger_body.specs.Answers.{Fits, Tells, Refuses, IsLargeEnough}

-- The symbols begin here.
pub record IsTail (h : Header) (bytes : List ℕ) (at : ℕ) : Type 0 where
  pub within : at ≤ length bytes
  pub rest : drop at bytes ≡ tail h bytes

-- The content, with no fault in the binary ands.
pub record IsOwn (h : Header) (bytes : List ℕ) (c : Content) (at : ℕ) : Type 0 where
  pub clear : first_some (numbers h) (of_number h bytes) ≡ None
  pub same : c ≡ content h bytes
  pub end : IsTail h bytes at

abbrev pub IsOwnAnswer : Header → List ℕ → Result (Content × ℕ) AigerError → Type 0
IsOwnAnswer h bytes (Ok found) = IsOwn h bytes found.0 found.1
IsOwnAnswer h bytes (Err e) = Tells (first_some (numbers h) (of_number h bytes)) e

-- The content, with no fault in the lines, in the binary ands and in what lines use.
pub record IsContent (h : Header) (bytes : List ℕ) (c : Content) : Type 0 where
  pub large : IsLargeEnough h
  pub lines : first_some (counted h bytes) (of_line h bytes) ≡ None
  pub deltas : first_some (numbers h) (of_number h bytes) ≡ None
  pub uses : first_some (counted h bytes) (of_uses h bytes) ≡ None
  pub few : literals h bytes ≤ 10000000000 * 67108864
  pub same : c ≡ content h bytes

abbrev pub IsContentAnswer : Header → List ℕ → Result (Content × ℕ) AigerError → Type 0
IsContentAnswer h bytes (Ok found) = IsContent h bytes found.0 × IsTail h bytes found.1
IsContentAnswer h bytes (Err e) =
    Tells (otherwise (first_some (counted h bytes) (of_line h bytes)) (otherwise (first_some (numbers h) (of_number h bytes)) (first_some (counted h bytes) (of_uses h bytes)))) e

-- The order has all ands, and none depends on itself.
pub record IsWhole (h : Header) (bytes list : List ℕ) : Type 0 where
  pub same : list ≡ order (content h bytes).gates
  pub all : IsComplete (content h bytes).gates list
  pub clear : first_some (length (content h bytes).gates) (of_cycle h bytes) ≡ None

abbrev pub IsOrderAnswer : Header → List ℕ → Result (List ℕ) AigerError → Type 0
IsOrderAnswer h bytes (Ok list) = IsWhole h bytes list
IsOrderAnswer h bytes (Err e) = Tells (first_some (length (content h bytes).gates) (of_cycle h bytes)) e

-- All but the symbols is read, and these alone decide the outcome.
pub record IsBody (bytes : List ℕ) (b : Body) : Type 0 where
  pub fits : Fits b.header
  pub content : IsContent b.header bytes b.content
  pub order : IsWhole b.header bytes b.order
  pub end : IsTail b.header bytes b.tail
  pub left : outcome bytes ≡ judged (circuit b.header bytes) (first_some (symbol_lines b.header bytes) (of_symbol b.header bytes))

abbrev pub IsBodyAnswer : List ℕ → Result Body AigerError → Type 0
IsBodyAnswer bytes (Ok b) = IsBody bytes b
IsBodyAnswer bytes (Err e) = Refuses (outcome bytes) e
