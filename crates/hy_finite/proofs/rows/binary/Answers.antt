use Rattle.std.proofs.Common.{◌-◌, ◌*◌, length, arith}
use Rattle.hy_finite.proofs.RowSteps.{applied-taken}
use Rattle.hy_finite.proofs.rows.binary.Goals as goal

pub returns-clause-applied : goal.returns-clause-applied
returns-clause-applied c =
    applied-taken c.args.rule c.args.rows.now c.apply.new.rows _ _ _ c.truncate.new.self
    (length c.args.rows.now - 2 * c.args.width) c.args.width
    c.apply.ensures.applied (omega (arith, c.len.ensures)) (omega (arith, c.len.ensures)) (omega
    (arith, c.len.ensures)) (c.len.result - c.args.width) (omega
    (arith, c.len.ensures)) c.truncate.ensures
