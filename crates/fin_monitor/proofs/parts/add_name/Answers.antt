use Rattle.std.proofs.Common.{refl}
use Rattle.fin_monitor.proofs.Naming.{name-added}
use Rattle.fin_monitor.proofs.parts.add_name.Goals as goal

pub returns : goal.returns
returns c = name-added c.args.names.now c.push.new.self _ c.args.a c.args.var c.args.i c.in_ok-push.ensures.added refl refl c.if-a-var.false
