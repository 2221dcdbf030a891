use Rattle.std.proofs.Common.{◌≤◌, length}
use Rattle.cnf_frames.specs.Facts.{AllIn}
use Rattle.ic3_search.proofs.classes.Classes.facts.Given as goal

abbrev pub invariant-loop-latch : goal.invariant-loop-latch
invariant-loop-latch l = record {
  inside : AllIn l.latches l.facts;
  few : length l.facts ≤ l.latch;
}
