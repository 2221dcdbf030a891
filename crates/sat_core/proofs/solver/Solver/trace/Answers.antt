use Rattle.std.proofs.Common.{arith}
use Rattle.sat_core.proofs.Forcing.{traced-first}
use Rattle.sat_core.proofs.solver.Solver.trace.Goals as goal

pub returns-clause-traced : goal.returns-clause-traced
returns-clause-traced c l traced =
    traced-first c.args.self.now c.loop-p.seen c.loop-p.p l c.requires.ready
    (λ i q below lt. c.first_limit-start.ensures i q (omega (arith, below, c.loop-p-test.false)) lt)
    (c.loop-p.invariant.traced l traced)
