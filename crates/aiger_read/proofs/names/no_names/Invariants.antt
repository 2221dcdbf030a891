use Rattle.std.proofs.Common.{◌≡◌, ℕ, [], length}
use Rattle.std.specs.Prelude.{slice_index_or}
use Rattle.aiger_read.proofs.names.no_names.Given as goal

abbrev pub invariant-loop : goal.invariant-loop
invariant-loop l = record {
  long : length l.names ≡ l.counter;
  none : (n : ℕ) → slice_index_or l.names n [] ≡ [];
}
