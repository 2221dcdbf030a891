-- When duties of a residual leave nothing, after any letter, that others do not.
use Rattle.std.specs.Prelude.{◌≡◌, ℕ, ◌<◌, Bool, true, ◌||◌, List, [], ◌∷◌, ◌++◌, length, slice_index, Option, Some, None}
use Rattle.std.specs.FinSet.{contains}
use Rattle.ltl_closure.specs.Nodes.{Node}
use Rattle.fin_monitor.specs.Duties.{Duty, after, after_duty, after_each, residual_at, Covers, AreAlike}

-- What member f leaves has some duty within it that member k leaves.
abbrev pub Outdoes : List Node → ℕ → ℕ → Type 0
Outdoes nodes k f = (letter : ℕ → ℕ → Bool) → Covers (after nodes letter k) (after nodes letter f)

-- The member outdoes one of the duty.
abbrev pub OutdoesSome : List Node → ℕ → Duty → Type 0
OutdoesSome nodes k d =
    (f : ℕ) × (f < length nodes) × ((contains d.strong f || contains d.weak f) ≡ true) × Outdoes nodes k f

-- The same of all that duties leave.
abbrev pub OutdoesDuty : List Node → Duty → Duty → Type 0
OutdoesDuty nodes e d = (letter : ℕ → ℕ → Bool) → Covers (after_duty nodes letter e) (after_duty nodes letter d)

abbrev pub OutdoneBy : List Node → Duty → List Duty → Type 0
OutdoneBy nodes d list = (letter : ℕ → ℕ → Bool) → Covers (after_each nodes letter list) (after_duty nodes letter d)

-- Both residuals leave the same after each letter.
abbrev pub LeaveAlike : List Node → List Duty → List Duty → Type 0
LeaveAlike nodes r s = (letter : ℕ → ℕ → Bool) → AreAlike (after_each nodes letter r) (after_each nodes letter s)

-- The residual r has the row of the answer; where it is new it is put last, with this row.
abbrev pub IsFirstRow : List (List Duty) → List ℕ → List Duty → ℕ → List (List Duty) → List ℕ → Option ℕ → Type 0
IsFirstRow keys firsts r row new_keys new_firsts (Some first) =
    (new_keys ≡ keys) × (new_firsts ≡ firsts) × (i : ℕ) × (i < length keys) × (residual_at keys i ≡ r) × (slice_index firsts i ≡ first)
IsFirstRow keys firsts r row new_keys new_firsts None = (new_keys ≡ keys ++ r ∷ []) × (new_firsts ≡ firsts ++ row ∷ [])

-- The rows of the reduced residuals are those of residuals that leave the same.
pub record AreFirsts (nodes : List Node) (list reduced : List (List Duty)) (firsts : List ℕ) (rows : ℕ) : Type 0 where
  pub long : length firsts ≡ length reduced
  pub below : (i : ℕ) → i < length firsts → slice_index firsts i < rows
  pub alike : (i : ℕ) → i < length firsts → LeaveAlike nodes (residual_at reduced i) (residual_at list (slice_index firsts i))
