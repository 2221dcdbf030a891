use Rattle.std.proofs.Common.{◌≡◌, ℕ, ◌-◌, ◌%◌, ◌<◌, length}
use Rattle.hy_lasso.specs.Rounds.{letter_of}
use Rattle.hy_lasso.proofs.shorten.shared_end.Given as goal

abbrev pub invariant-loop-k : goal.invariant-loop-k
invariant-loop-k l = (j : ℕ) → j < l.k → letter_of l.stem (length l.stem - 1 - j) ≡ letter_of l.cycle (length l.cycle - 1 - j % length l.cycle)
