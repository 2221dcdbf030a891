use Rattle.fin_monitor.specs.Seen.{machine_of}
use Rattle.dominance.proofs.pairing.Pairing.lone_end.Goals as goal

pub returns-clause-ends : goal.returns-clause-ends
returns-clause-ends g c =
    c.keep.ensures (machine_of c.args.self.now.monitor.now) c.args.column.now c.requires.ends
    c.alone-end.ensures
