use Rattle.std.proofs.Common.{sym}
use Rattle.fin_monitor.proofs.Outdoing.{outdone-by}
use Rattle.fin_monitor.proofs.reducing.is_outdone.Goals as goal

pub returns-then-outdoes_duty : goal.returns-then-outdoes_duty
returns-then-outdoes_duty g c h =
    outdone-by c.args.closure.now.nodes c.args.list.now c.e-item.result c.args.d.now (c.loop-e.e-index, c.loop-e-test.true, sym c.e-item.is) (c.outdoes_duty.ensures c.if-outdoes_duty.true)
