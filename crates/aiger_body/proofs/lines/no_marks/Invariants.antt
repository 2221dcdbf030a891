use Rattle.std.proofs.Common.{◌≡◌, ℕ, false, length}
use Rattle.std.specs.Prelude.{slice_index_or}
use Rattle.aiger_body.proofs.lines.no_marks.Given as goal

abbrev pub invariant-loop : goal.invariant-loop
invariant-loop l = record {
  long : length l.marks ≡ l.counter;
  none : (v : ℕ) → slice_index_or l.marks v false ≡ false;
}
