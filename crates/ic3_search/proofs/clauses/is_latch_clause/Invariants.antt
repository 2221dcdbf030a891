use Rattle.std.proofs.Common.{◌≡◌, ℕ, suc, ◌/◌, ◌%◌, ◌<◌, true, get_or}
use Rattle.ic3_search.proofs.clauses.is_latch_clause.Given as goal

abbrev pub invariant-loop-literal : goal.invariant-loop-literal
invariant-loop-literal l = record {
  inside : (k : ℕ) → k < l.literal-index → get_or l.clause k 0 / 2 < l.latches;
  below : (k : ℕ) → k < l.literal-index → get_or l.clause k 0 / 2 < l.least;
  ascending : (k : ℕ) → suc k < l.literal-index →
      get_or l.clause k 0 / 2 < get_or l.clause (suc k) 0 / 2;
  starts : l.starts ≡ true → (k : ℕ) × (k < l.literal-index) × (get_or l.clause k 0 % 2 ≡ 1);
}
