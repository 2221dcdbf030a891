-- Lists that go on for ever: a stem, and a cycle that is gone round.
use Rattle.std.specs.Prelude.{ℕ, ◌-◌, ◌%◌, nat_lt, cond, List, length, slice_index_or}

pub record Lasso (A : Type 0) : Type 0 where
  pub stem : List A
  pub cycle : List A

-- what is at place i; `none` where the cycle is empty
abbrev pub lasso_at : {A : Type 0} → A → Lasso A → ℕ → A
lasso_at none lasso i =
    cond (nat_lt i (length lasso.stem)) (slice_index_or lasso.stem i none)
    (slice_index_or lasso.cycle ((i - length lasso.stem) % length lasso.cycle) none)
