-- Walks: lassos of branches.
use Rattle.std.specs.Prelude.{◌≡◌, ℕ, ◌<◌, false, length, List}
use Rattle.std.specs.List.{Contains}
use Rattle.std.specs.FinSet.{empty}
use Rattle.hy_formula.specs.Lassos.{Lasso, lasso_at}
use Rattle.ltl_closure.specs.Nodes.{Node}
use Rattle.ltl_tableau.specs.Branches.{Members, Branch, postpones, IsRun}

abbrev pub no_branch : Branch
no_branch = record { now = empty; later = empty }

-- the branches of a walk, gone round for ever
abbrev pub gone : Lasso Branch → ℕ → Branch
gone walk i = lasso_at no_branch walk i

pub record IsWalk (nodes : List Node) (roots : Members) (walk : Lasso Branch) : Type 0 where
  pub some : 0 < length walk.cycle
  pub goes : IsRun nodes roots (gone walk)

-- Each until is somewhere in the cycle not postponed.
abbrev pub IsAccepting : List Node → Lasso Branch → Type 0
IsAccepting nodes walk = (k : ℕ) → (b : Branch) × Contains walk.cycle b × (postpones nodes b k ≡ false)
