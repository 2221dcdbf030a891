use Rattle.cnf_frames.specs.Facts.{AllIn}
use Rattle.lab.proofs.facts.facts_of.Given as goal

abbrev pub invariant-loop-line : goal.invariant-loop-line
invariant-loop-line l = record {
  next : (goal.iterator-loop-line).can_next l.line-iterator;
  finite : (goal.iterator-loop-line).is_finite l.line-iterator;
  inside : AllIn l.latches l.facts;
}
