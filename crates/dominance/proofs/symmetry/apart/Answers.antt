use Rattle.std.proofs.lemmas.Nat.{pow_pos}
use Rattle.std.proofs.Common.{length}
use Rattle.fin_monitor.specs.Seen.{machine_of}
use Rattle.dominance.proofs.symmetry.apart.Goals as goal

pub search-requires : goal.search-requires
search-requires g c = record {
  upper = λ i. pow_pos (length (machine_of c.args.m.now).atoms);
  lower = λ i. pow_pos (length (machine_of c.args.m.now).atoms);
  upper_codes = c.requires.upper;
  lower_codes = c.requires.lower;
  same = c.requires.same;
}
