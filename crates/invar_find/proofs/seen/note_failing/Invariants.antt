use Rattle.std.proofs.Common.{◌≡◌, ℕ, ◌<◌, ◌≤◌, ◌↔◌, true, length}
use Rattle.hy_base.specs.Rows.{row}
use Rattle.cnf_frames.specs.Facts.{HoldsIn, fact_at}
use Rattle.invar_find.proofs.seen.note_failing.Given as goal

abbrev pub invariant-loop-k : goal.invariant-loop-k
invariant-loop-k l = record {
  many : length l.alive ≡ length l.facts;
  done : (a : ℕ) → a < l.k → (row l.alive a ≡ true)
      ↔ ((row l.fn.alive a ≡ true) × HoldsIn (row l.state) (fact_at l.facts a));
  rest : (a : ℕ) → l.k ≤ a → row l.alive a ≡ row l.fn.alive a;
}
