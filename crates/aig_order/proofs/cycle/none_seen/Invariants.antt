use Rattle.std.proofs.Common.{◌≡◌, ℕ, length, false}
use Rattle.std.specs.Prelude.{slice_index_or}
use Rattle.aig_order.proofs.cycle.none_seen.Given as goal

abbrev pub invariant-loop : goal.invariant-loop
invariant-loop l = record {
  long : length l.marks ≡ l.index;
  none : (k : ℕ) → slice_index_or l.marks k false ≡ false;
}
