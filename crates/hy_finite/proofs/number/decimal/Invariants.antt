use Rattle.std.proofs.Common.{◌≡◌, ◌<◌, ◌^◌, take}
use Rattle.hy_finite.specs.EventLines.{decimal}
use Rattle.hy_finite.proofs.number.decimal.Given as goal

-- the number that the digits so far are
abbrev pub invariant-loop-digit : goal.invariant-loop-digit
invariant-loop-digit l = (l.n ≡ decimal (take l.digit-index l.digits)) × (l.n < 10 ^ l.digit-index)
