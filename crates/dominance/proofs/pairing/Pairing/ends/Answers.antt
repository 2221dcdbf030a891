use Rattle.std.proofs.Common.{refl}
use Rattle.fin_monitor.specs.Seen.{machine_of}
use Rattle.dominance.proofs.pairing.Pairing.ends.Goals as goal

pub returns : goal.returns
returns c =
    let m = machine_of c.args.self.now.monitor.now in
    record {
      upper = c.in_ok-upper.ensures m c.args.self.now.upper.now c.kept.ensures refl;
      lower = c.in_ok-lower.ensures m c.args.self.now.lower.now c.kept-2.ensures refl;
    }
