use Rattle.std.proofs.Common.{◌≡◌, ℕ, ◌<◌, false}
use Rattle.hy_base.specs.Rows.{row}
use Rattle.invar_find.proofs.seen.are_zeros.Given as goal

abbrev pub invariant-loop-j : goal.invariant-loop-j
invariant-loop-j l = (a : ℕ) → a < l.j → row l.ones a ≡ false → row l.state a ≡ false
