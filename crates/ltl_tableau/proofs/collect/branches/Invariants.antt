use Rattle.std.proofs.Common.{◌≡◌, take}
use Rattle.ltl_tableau.proofs.collect.branches.Given as goal

-- what is made is the front
abbrev pub invariant-loop-branch : goal.invariant-loop-branch
invariant-loop-branch g l = l.list ≡ take l.branch-index l.branch-items
