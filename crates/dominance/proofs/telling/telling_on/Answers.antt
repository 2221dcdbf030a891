use Rattle.fin_monitor.specs.Seen.{machine_of}
use Rattle.dominance.proofs.Apart.{told-tell}
use Rattle.dominance.proofs.telling.telling_on.Goals as goal

pub returns-then-branch : goal.returns-then-branch
returns-then-branch g c =
    told-tell (machine_of c.args.m.now) c.args.m.now.right c.loop-place.place c.in_ok-names.names
    c.in_ok-names.ensures (c.in_ok-is_rejectable.ensures c.if-branch.true)
