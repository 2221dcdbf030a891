use Rattle.std.proofs.Common.{arith}
use Rattle.fin_monitor.proofs.Outdoing.{outdoes-itself, outdoes-until}
use Rattle.fin_monitor.proofs.reducing.outdoes.Goals as goal

pub loop-step-init : goal.loop-step-init
loop-step-init c = record { there = c.requires; outdoes = outdoes-itself c.args.closure.now.nodes c.args.k }

pub loop-step-preserved : goal.loop-step-preserved
loop-step-preserved c =
    let inv = c.loop-step.invariant in
    record {
      there = omega (arith, c.in-Until.ensures.operands.1, inv.there);
      outdoes = outdoes-until c.args.closure.now.nodes c.args.k c.loop-step.part _ c.in-Until.h inv.there c.in-Until.ensures.node (c.len-step-end.ensures.operands c.loop-step.part inv.there) inv.outdoes;
    }
