use Rattle.std.proofs.Common.{◌≡◌, ℕ, ◌<◌, true}
use Rattle.hy_base.specs.Rows.{row}
use Rattle.cnf_frames.specs.Facts.{HoldsIn, fact_at}
use Rattle.invar_find.proofs.seen.all_hold.Given as goal

abbrev pub invariant-loop-k : goal.invariant-loop-k
invariant-loop-k l = (a : ℕ) → a < l.k → row l.alive a ≡ true → HoldsIn (row l.state) (fact_at l.facts a)
