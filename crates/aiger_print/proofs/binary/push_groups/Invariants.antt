use Rattle.std.proofs.Common.{◌≡◌, ◌++◌, ◌<◌, ◌^◌, suc, ℕ}
use Rattle.aiger_print.specs.Printed.{groups_of}
use Rattle.aiger_print.proofs.binary.push_groups.Given as goal

-- what is left in groups
abbrev pub invariant-loop-left : goal.invariant-loop-left
invariant-loop-left l = (more : ℕ) × (l.left < 128 ^ suc more) × (l.text ++ groups_of more l.left ≡ l.fn.text ++ groups_of 9 l.n)

abbrev pub decreases-loop-left : goal.decreases-loop-left
decreases-loop-left l = l.left
