use Rattle.std.proofs.Common.{◌≡◌, ℕ, ◌<◌, length}
use Rattle.std.specs.Prelude.{slice_index}
use Rattle.invar_find.specs.Classes.{AreBelow}
use Rattle.invar_find.proofs.seen.Seen.of_pairs.Given as goal

abbrev pub invariant-loop-j : goal.invariant-loop-j
invariant-loop-j l = record {
  many : length l.classes ≡ l.latches;
  below : AreBelow l.latches l.classes;
  same : (a : ℕ) → a < l.j → slice_index l.classes a ≡ 0;
}
