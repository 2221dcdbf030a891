use Rattle.std.proofs.Common.{length}
use Rattle.cnf_frames.specs.Facts.{AllIn}
use Rattle.invar_find.proofs.sifting.basis_of.Given as goal

abbrev pub invariant-loop-latch : goal.invariant-loop-latch
invariant-loop-latch l = AllIn (length l.seen.ones) l.basis

abbrev pub invariant-loop-k : goal.invariant-loop-k
invariant-loop-k l = AllIn (length l.seen.ones) l.basis
