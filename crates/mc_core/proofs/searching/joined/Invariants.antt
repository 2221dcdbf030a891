use Rattle.cnf_frames.specs.Facts.{AllIn}
use Rattle.mc_core.proofs.searching.joined.Given as goal

abbrev pub invariant-loop-clause : goal.invariant-loop-clause
invariant-loop-clause l = AllIn l.latches l.candidates
