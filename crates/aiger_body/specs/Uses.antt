-- What the check of uses keeps.
use Rattle.std.specs.Prelude.{◌≡◌, ℕ, ◌/◌, ◌≤◌, Bool, false, ◌||◌, nat_eq, List, slice_index_or, None, Result, Ok, Err}
use Rattle.aiger_body.specs.declared.error.AigerError.{AigerError}
use Rattle.aiger_body.specs.declared.header.Header.{Header}
use Rattle.aiger_body.specs.declared.uses.Checked.{Checked}
use Rattle.aig_order.specs.Firsts.{first_some, holds}
use Rattle.aiger_body.specs.Files.{content, counted, variables_of}
use Rattle.aiger_body.specs.Outcomes.{of_line, of_uses}
use Rattle.aiger_body.specs.Answers.{Tells}
use Rattle.aiger_body.specs.Passes.{IsStart}

-- The literal is constant, or its variable is marked.
abbrev pub is_marked : List Bool → ℕ → Bool
is_marked marks l = nat_eq (l / 2) 0 || slice_index_or marks (l / 2) false

-- No counted line is at fault, and the marks are those of the variables that are defined.
pub record AreKnown (h : Header) (bytes : List ℕ) (marks : List Bool) : Type 0 where
  pub clear : first_some (counted h bytes) (of_line h bytes) ≡ None
  pub each : (v : ℕ) → v ≤ h.top → slice_index_or marks v false ≡ holds v (variables_of (content h bytes))

-- the k lines that have been checked
pub record AreChecked (h : Header) (bytes : List ℕ) (k : ℕ) (checked : Checked) : Type 0 where
  pub count : checked.line ≡ k
  pub start : IsStart bytes k checked.at
  pub clear : first_some k (of_uses h bytes) ≡ None

abbrev pub IsUseAnswer : Header → List ℕ → ℕ → Checked → Result (Unit {0}) AigerError → Type 0
IsUseAnswer h bytes k checked (Ok _) = AreChecked h bytes k checked
IsUseAnswer h bytes k checked (Err e) = Tells (first_some k (of_uses h bytes)) e

abbrev pub IsUsesAnswer : Header → List ℕ → Result (Unit {0}) AigerError → Type 0
IsUsesAnswer h bytes (Ok _) = first_some (counted h bytes) (of_uses h bytes) ≡ None
IsUsesAnswer h bytes (Err e) = Tells (first_some (counted h bytes) (of_uses h bytes)) e
