-- When a finite trace dominates another, and when the order of two traces does not matter.
use Rattle.std.specs.Prelude.{◌≡◌, ◌↔◌, ℕ, suc, ◌+◌, ◌<◌, List, [], ◌∷◌, ◌++◌, length, take, drop}
use Rattle.hy_formula.specs.Quantifiers.{Each}
use Rattle.hy_formula.specs.Trees.{Tree}
use Rattle.hy_finite.specs.declared.lengths.Lengths.{Lengths}
use Rattle.hy_finite.specs.Traces.{Trace, Meets}

-- A finite trace has a letter.
abbrev pub IsTrace : Trace → Type 0
IsTrace t = 0 < length t

-- At each place, and for all finite traces at the other places: if the tuple of n traces with u
-- there does not satisfy the body, then that with t there does not either.
abbrev pub Dominates : Lengths → ℕ → Tree → Trace → Trace → Type 0
Dominates rule n body t u =
    (before after : List Trace) → Each IsTrace before → Each IsTrace after
    → length before + suc (length after) ≡ n
    → ¬ Meets rule body (before ++ u ∷ after) → ¬ Meets rule body (before ++ t ∷ after)

-- The same at one place alone.
abbrev pub DominatesAt : Lengths → ℕ → Tree → ℕ → Trace → Trace → Type 0
DominatesAt rule n body place t u =
    (before after : List Trace) → Each IsTrace before → Each IsTrace after → length before ≡ place
    → length before + suc (length after) ≡ n
    → ¬ Meets rule body (before ++ u ∷ after) → ¬ Meets rule body (before ++ t ∷ after)

-- the tuple with a trace at a place, and the others at the other places, in order
abbrev pub with_at : ℕ → Trace → List Trace → List Trace
with_at place t others = take place others ++ t ∷ drop place others

-- The others show that t does not dominate u: with u at the place the tuple violates the body, and
-- with t it does not.
pub record Refutes (rule : Lengths) (n : ℕ) (body : Tree) (t u : Trace) (place : ℕ)
    (others : List Trace) : Type 0 where
  pub inside : place < n
  pub count : suc (length others) ≡ n
  pub words : Each IsTrace others
  pub violates : ¬ Meets rule body (with_at place u others)
  pub satisfies : Meets rule body (with_at place t others)

-- There are two variables, and exchanging two traces never changes the verdict.
pub record IsSymmetric (rule : Lengths) (n : ℕ) (body : Tree) : Type 0 where
  pub two : n ≡ 2
  pub same : (t u : Trace) → IsTrace t → IsTrace u
      → Meets rule body (t ∷ u ∷ []) ↔ Meets rule body (u ∷ t ∷ [])
