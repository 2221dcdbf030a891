-- The roots of tasks as a set.
use Rattle.std.specs.Prelude.{ℕ, List, [], ◌∷◌}
use Rattle.std.specs.FinSet.{empty, insert}
use Rattle.ltl_closure.specs.Jobs.{Task, task_roots}
use Rattle.ltl_tableau.specs.Branches.{Members}

-- the set of the numbers
abbrev pub set_of : List ℕ → Members
set_of [] = empty
set_of (k ∷ ks) = insert (set_of ks) k

abbrev pub root_set : List Task → Members
root_set tasks = set_of (task_roots tasks)
