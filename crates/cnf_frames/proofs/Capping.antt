-- Counts up to one past the limit of literals, one summand after the other.
use Rattle.std.proofs.Common.{◌≡◌, ℕ, suc, ◌+◌, ap, arith}
use Rattle.cnf_frames.specs.Counts.{capped, sum_for}

pub capped_more : (g : ℕ → ℕ) (i l x r : ℕ) → l ≡ capped (sum_for g i) → x ≡ g i →
    r ≡ capped (l + x) → r ≡ capped (sum_for g (i + 1))
capped_more g i l x r e f h =
    let up : suc i ≡ i + 1 = omega arith in omega (arith, e, f, h, ap (sum_for g) up)
