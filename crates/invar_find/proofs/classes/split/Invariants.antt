use Rattle.std.proofs.Common.{◌≡◌, ℕ, ◌<◌, length}
use Rattle.std.specs.Prelude.{slice_index}
use Rattle.invar_find.proofs.Splitting.{IsSplitting, NONE}
use Rattle.invar_find.proofs.classes.split.Given as goal

abbrev pub invariant-loop-k : goal.invariant-loop-k
invariant-loop-k l = record {
  room : length l.firsts ≡ length l.fn.firsts;
  none : (q : ℕ) → q < l.k → slice_index l.firsts q ≡ NONE;
}

abbrev pub invariant-loop-j : goal.invariant-loop-j
invariant-loop-j l = IsSplitting l.fn.classes l.state l.j l.classes l.firsts
