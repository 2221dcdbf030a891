use Rattle.std.proofs.Common.{◌≡◌, ◌≤◌, length, drop}
use Rattle.ltl_tableau.specs.Tasks.{set_of}
use Rattle.ltl_tableau.proofs.tableau.root_set.Given as goal

-- the last roots are in the set
abbrev pub invariant-loop-i : goal.invariant-loop-i
invariant-loop-i g l = record { set : l.set ≡ set_of (drop l.i l.roots); within : l.i ≤ length l.roots }

abbrev pub decreases-loop-i : goal.decreases-loop-i
decreases-loop-i g l = l.i
