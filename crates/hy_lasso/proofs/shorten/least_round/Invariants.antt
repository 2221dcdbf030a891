use Rattle.std.proofs.Common.{◌≡◌, ℕ, ◌%◌, ◌<◌, length}
use Rattle.hy_lasso.specs.Rounds.{RepeatsAfter}
use Rattle.hy_lasso.proofs.shorten.least_round.Given as goal

-- the letters are no repetition of fewer than d
abbrev pub invariant-loop-d : goal.invariant-loop-d
invariant-loop-d l = (e : ℕ) → 0 < e → e < l.d → length l.letters % e ≡ 0 → ¬ RepeatsAfter l.letters e
