-- What a comparison of two traces says.
use Rattle.std.specs.Prelude.{◌≡◌, ◌↔◌, ℕ, true, List, Option, Some, None}
use Rattle.hy_formula.specs.Trees.{Tree}
use Rattle.hy_finite.specs.declared.lengths.Lengths.{Lengths}
use Rattle.hy_finite.specs.Traces.{Trace}
use Rattle.dominance.specs.declared.compare.Compare.{Compare}
use Rattle.dominance.specs.declared.compare.Compare.TheVariants.{Yes, No}
use Rattle.dominance.specs.declared.order.Order.{Order}
use Rattle.dominance.specs.Dominance.{Dominates, DominatesAt, Refutes}

abbrev pub IsComparison : Lengths → ℕ → Tree → Trace → Trace → Compare → Type 0
IsComparison rule n body t u Yes = Dominates rule n body t u
IsComparison rule n body t u (No place others) = Refutes rule n body t u place others

-- What is answered at one place: words by which the one does not dominate the other, or none.
abbrev pub IsAnswerAt : Lengths → ℕ → Tree → ℕ → Trace → Trace → Option (List Trace) → Type 0
IsAnswerAt rule n body place t u (Some others) = Refutes rule n body t u place others
IsAnswerAt rule n body place t u None = DominatesAt rule n body place t u

-- Which of two traces dominates the other.
pub record IsOrder (rule : Lengths) (n : ℕ) (body : Tree) (t u : Trace) (order : Order) : Type 0 where
  pub over : (order.over ≡ true) ↔ Dominates rule n body t u
  pub under : (order.under ≡ true) ↔ Dominates rule n body u t

-- What is left at a place of the claims that either of two traces dominates the other.
pub record IsOrderAt (rule : Lengths) (n : ℕ) (body : Tree) (place : ℕ) (t u : Trace)
    (claimed order : Order) : Type 0 where
  pub over : (order.over ≡ true) ↔ ((claimed.over ≡ true) × DominatesAt rule n body place t u)
  pub under : (order.under ≡ true) ↔ ((claimed.under ≡ true) × DominatesAt rule n body place u t)
