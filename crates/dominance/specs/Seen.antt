-- A pairing, and what is kept of its runs that go on alone, as contracts see them.
use Rattle.fin_monitor.specs.Seen.{machine_of}
use Rattle.dominance.specs.declared.pairing.Pairing.{Pairing as Pair}
use Rattle.dominance.specs.declared.pairing.Ends.{Ends}
use Rattle.dominance.specs.LoneEnds.{AreLoneEnds}
use Rattle.dominance.specs.Runs.{Pairing}

abbrev pub pairing_of : Pair → Pairing
pairing_of p = record {
  machine = machine_of p.monitor.now;
  rule = p.lengths;
  upper = p.upper.now;
  lower = p.lower.now;
  upper_codes = p.upper_codes.now;
  lower_codes = p.lower_codes.now;
}

-- What is kept of each run that goes on alone is what it comes to.
pub record AreEndsOf (s : Pairing) (ends : Ends) : Type 0 where
  pub upper : AreLoneEnds s.machine s.upper ends.upper.ends
  pub lower : AreLoneEnds s.machine s.lower ends.lower.ends
