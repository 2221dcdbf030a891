-- What a search for a list within a bound answers.
use Rattle.std.specs.Prelude.{◌≡◌, ◌≢◌, ◌⊎◌, ◌↔◌, ℕ, ◌<◌, ◌≤◌, true, List, [], ◌∷◌, ◌++◌, length, slice_index_or}
use Rattle.std.specs.FinSet.{contains}
use Rattle.std.specs.List.{Contains}
use Rattle.hy_bits.specs.Letter.{Letter}
use Rattle.hy_formula.specs.Atoms.{has_name}
use Rattle.hy_formula.specs.Lassos.{Lasso}
use Rattle.hy_formula.specs.Trees.{Tree}
use Rattle.hy_formula.specs.declared.prefix.Quant.{Quant}
use Rattle.hy_lasso.specs.NormalForms.{IsNormal}
use Rattle.hy_lasso.specs.Words.{no_lasso, letter_at}
use Rattle.chain_check.specs.Logs.{IsRefutation}
use Rattle.sat_core.specs.declared.solving.Outcome.TheVariants as outcomes
use Rattle.sat_core.specs.Outcomes.{IsOutcome}
use Rattle.bound_search.specs.declared.bound.Bound.{Bound}
use Rattle.bound_search.specs.declared.search.BoundAnswer.{BoundAnswer}
use Rattle.bound_search.specs.declared.search.BoundAnswer.TheVariants.{Found, NoneWithin, Spent}
use Rattle.bound_search.specs.Bounds.{IsWithin}
use Rattle.bound_search.specs.Queries.{clauses_of, variables_of}

-- No lasso stands at two places.
abbrev pub StandOnce : List (Lasso Letter) → Type 0
StandOnce list = (j k : ℕ) → j < k → k < length list →
    slice_index_or list j no_lasso ≢ slice_index_or list k no_lasso

-- The lasso is in the list, which stays as it was, or is added behind it.
abbrev pub AddsOnce : List (Lasso Letter) → List (Lasso Letter) → Lasso Letter → Type 0
AddsOnce old new l =
    (Contains old l × (new ≡ old)) ⊎ ((¬ Contains old l) × (new ≡ old ++ l ∷ []))

-- The list has each lasso of the other, once.
pub record HasEachOnce (other list : List (Lasso Letter)) : Type 0 where
  pub same : (l : Lasso Letter) → Contains list l ↔ Contains other l
  pub few : length list ≤ length other
  pub once : StandOnce list

-- The list is within the bound, and each of its lassos stands once, in normal form and over names
-- of the formula.
pub record IsFound (bound : Bound) (prefix : List Quant) (body : Tree)
    (list : List (Lasso Letter)) : Type 0 where
  pub within : IsWithin bound prefix body list
  pub once : StandOnce list
  pub normal : (l : Lasso Letter) → Contains list l → IsNormal l
  pub named : (l : Lasso Letter) → Contains list l → (i name : ℕ) →
      contains (letter_at l i) name ≡ true → has_name body name ≡ true

-- A list is found, or a log shows that there is none, or a log has as many new clauses as were
-- allowed.
abbrev pub Answers : Bound → List Quant → Tree → ℕ → BoundAnswer → Type 0
Answers bound prefix body conflicts (Found list) = IsFound bound prefix body list
Answers bound prefix body conflicts (NoneWithin log) =
    IsRefutation (variables_of bound prefix body) (clauses_of bound prefix body) log
    × ((list : List (Lasso Letter)) → ¬ IsWithin bound prefix body list)
Answers bound prefix body conflicts (Spent log) =
    IsOutcome (variables_of bound prefix body) (clauses_of bound prefix body) conflicts
    (outcomes.Spent log)
