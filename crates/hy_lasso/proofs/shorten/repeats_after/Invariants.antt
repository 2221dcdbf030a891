use Rattle.std.proofs.Common.{◌≡◌, ℕ, ◌+◌, ◌<◌}
use Rattle.hy_lasso.specs.Rounds.{letter_of}
use Rattle.hy_lasso.proofs.shorten.repeats_after.Given as goal

abbrev pub invariant-loop-i : goal.invariant-loop-i
invariant-loop-i l = (k : ℕ) → k + l.d < l.i → letter_of l.letters (k + l.d) ≡ letter_of l.letters k
