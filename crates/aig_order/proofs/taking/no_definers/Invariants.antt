use Rattle.std.proofs.Common.{◌≡◌, ℕ, length, None}
use Rattle.std.specs.Prelude.{slice_index_or}
use Rattle.aig_order.proofs.taking.no_definers.Given as goal

abbrev pub invariant-loop : goal.invariant-loop
invariant-loop l = record {
  long : length l.list ≡ l.counter;
  none : (v : ℕ) → slice_index_or l.list v None ≡ None;
}
