use Rattle.hy_finite.specs.Traces.{Trace}
use Rattle.fin_monitor.specs.Seen.{machine_of}
use Rattle.dominance.proofs.Meaning.{alone-over}
use Rattle.dominance.proofs.order.Compared.alone.Goals as goal

pub returns : goal.returns
returns g c = λ rule.
    let body = (machine_of c.args.self.now.monitor.now).body in
    let t : Trace = c.args.self.now.first.now in
    let u : Trace = c.args.self.now.second.now in
    record {
      over = alone-over rule body t u _ _ _ (c.satisfies-first.ensures rule) (c.satisfies-second.ensures rule)
          c.implies.ensures;
      under = alone-over rule body u t _ _ _ (c.satisfies-second.ensures rule) (c.satisfies-first.ensures rule)
          c.implies-2.ensures;
    }
