-- Branches that are collected until there are too many.
use Rattle.std.specs.Prelude.{◌≡◌, ℕ, suc, ◌<◌, ◌≤◌, List, length}
use Rattle.std.specs.List.{Contains}
use Rattle.ltl_closure.specs.Nodes.{Node}
use Rattle.ltl_tableau.specs.declared.settle.Work.{Work}
use Rattle.ltl_tableau.specs.Branches.{Branch, with_all}
use Rattle.ltl_tableau.specs.Ways.{ways}

-- `new` has the branches of `old` and of the list, each once, or more than `most` and then these are more too.
pub record Collects (most : ℕ) (old list new : List Branch) : Type 0 where
  pub all : length new ≤ most → new ≡ with_all old list
  pub many : most < length new → most < length (with_all old list)

-- Unless there are too many, the branches of each choice that is done are there.
pub record HasDone {w : ℕ} (nodes : List Node) (most : ℕ) (branches : List Branch) (done : List (Work w)) : Type 0 where
  pub there : length branches ≤ most → (work : Work w) → Contains done work
      → (b : Branch) → Contains (ways nodes (suc work.below) work.held work.next) b → Contains branches b
