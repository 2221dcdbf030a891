use Rattle.std.proofs.Common.{◌≡◌, take}
use Rattle.chain_check.proofs.Opposing.{IsOpposed}
use Rattle.chain_check.proofs.following.oppose.Given as goal

abbrev pub invariant-loop-number : goal.invariant-loop-number
invariant-loop-number l = (l.partial.variables ≡ l.initial.partial.variables) ×
    IsOpposed l.partial.variables l.partial.literals (take l.number-index l.clause)
