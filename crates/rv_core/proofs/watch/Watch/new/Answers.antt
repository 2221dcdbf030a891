use Rattle.fin_monitor.specs.Seen.{machine_of}
use Rattle.rv_core.proofs.Turning.{turns-of}
use Rattle.rv_core.proofs.watch.Watch.new.Goals as goal

pub invariant_of-result : goal.invariant_of-result
invariant_of-result c = record {
  some = c.requires.some;
  named = c.requires.named;
  tell = c.in_ok-telling.ensures;
  exact = λ rule same. (c.in_ok-symmetric.ensures rule).1 same;
  turns = λ is.
      turns-of (machine_of c.args.monitor) (λ rule. (c.in_ok-symmetric.ensures rule).0 is);
}
