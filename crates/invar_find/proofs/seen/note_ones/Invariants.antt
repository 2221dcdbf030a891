use Rattle.std.proofs.Common.{◌≡◌, ℕ, ◌<◌, ◌≤◌, ◌↔◌, false, length}
use Rattle.hy_base.specs.Rows.{row}
use Rattle.invar_find.proofs.seen.note_ones.Given as goal

abbrev pub invariant-loop-j : goal.invariant-loop-j
invariant-loop-j l = record {
  many : length l.ones ≡ length l.state;
  done : (a : ℕ) → a < l.j → (row l.ones a ≡ false)
      ↔ ((row l.fn.ones a ≡ false) × (row l.state a ≡ false));
  rest : (a : ℕ) → l.j ≤ a → row l.ones a ≡ row l.fn.ones a;
}
