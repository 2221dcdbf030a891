-- How many numbers pass a test, and how many of those below one more.
use Rattle.std.proofs.Common.{◌≡◌, ℕ, zero, suc, ◌+◌, ◌≤◌, Bool, true, false, ◌||◌, cond, nat_lt, refl, sym, ap, ◌∙◌, arith, inl, inr}
use Rattle.std.proofs.lemmas.Bool.{cases_eq}
use Rattle.std.proofs.lemmas.Bool.Decides.{Decides-ltb}
use mir.Val.{bool_byte}
use Rattle.hy_base.proofs.Truths.{or-false, more-if}
use Rattle.live_safe.specs.Safe.{count_below}

pub count-upto : (test : ℕ → Bool) (n : ℕ) → count_below test n ≤ n
count-upto test zero = omega arith
count-upto test (suc n) = at (test n) (count-upto test n)
  where
    at : (b : Bool) → count_below test n ≤ n →
        cond b (suc (count_below test n)) (count_below test n) ≤ suc n
    at true le = omega arith
    at false le = omega arith

one-more : (test : ℕ → Bool) (k c : ℕ) (b : Bool) → b ≡ test k → c ≡ count_below test k →
    c + cond b 1 0 ≡ count_below test (k + 1)
one-more test k c b e h =
    let up : k + 1 ≡ suc k = omega arith in
    ap (λ c. c + cond b 1 0) h ∙ at b ∙ ap (λ b. cond b (suc (count_below test k))
    (count_below test k)) e
    ∙ ap (count_below test) (sym up)
  where
    at : (b : Bool) → count_below test k + cond b 1 0 ≡ cond b (suc (count_below test k))
        (count_below test k)
    at true = omega arith
    at false = omega arith

pub count_more : (test : ℕ → Bool) (k c d : ℕ) (b : Bool) → b ≡ test k → d ≡ bool_byte b →
    c ≡ count_below test k → c + d ≡ count_below test (k + 1)
count_more test k c d b e f h = ap (λ d. c + d) (f ∙ byte b) ∙ one-more test k c b e h
  where
    byte : (b : Bool) → bool_byte b ≡ cond b 1 0
    byte true = refl
    byte false = refl

pub some_more : (test : ℕ → Bool) (k : ℕ) (some b : Bool) → b ≡ test k →
    some ≡ nat_lt 0 (count_below test k) → (some || b) ≡ nat_lt 0 (count_below test (k + 1))
some_more test k some b e h =
    let up : k + 1 ≡ suc k = omega arith in
    ap (λ s. s || b) h ∙ at b (count_below test k)
    ∙ ap (λ b. nat_lt 0 (cond b (suc (count_below test k)) (count_below test k))) e
    ∙ ap (λ n. nat_lt 0 (count_below test n)) (sym up)
  where
    or-true : (b : Bool) → (b || true) ≡ true
    or-true true = refl
    or-true false = refl

    at : (b : Bool) (c : ℕ) → (nat_lt 0 c || b) ≡ nat_lt 0 (cond b (suc c) c)
    at true c = or-true (nat_lt 0 c) ∙ sym ((Decides-ltb 0 (suc c)).1 (omega arith))
    at false c = or-false (nat_lt 0 c)

pub count-within : (test : ℕ → Bool) (n k : ℕ) → k ≤ n → count_below test k ≤ count_below test n
count-within test zero k le =
    let e : k ≡ 0 = omega arith in
    let same = ap (count_below test) e in
    omega (arith, same)
count-within test (suc n) k le =
    elim (cases_eq k (suc n)) [
      | inl e ↦ let same = ap (count_below test) e in omega (arith, same)
      | inr apart ↦ omega (
        arith,
        count-within test n k (omega arith),
        more-if (test n)
            (count_below test n),
      )
    ]
