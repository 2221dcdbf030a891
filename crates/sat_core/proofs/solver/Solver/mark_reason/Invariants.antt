use Rattle.std.proofs.Common.{◌≡◌, length, take}
use Rattle.sat_core.specs.Analyses.{AreMarked, AreMore}
use Rattle.sat_core.proofs.solver.Solver.mark_reason.Given as goal

abbrev pub invariant-loop-l : goal.invariant-loop-l
invariant-loop-l l = record {
  long : length l.seen ≡ length l.initial.seen;
  more : AreMore l.initial.seen l.seen;
  marked : AreMarked l.self.partial.literals l.p l.seen (take l.l-index l.l-items);
}
