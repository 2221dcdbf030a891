use Rattle.std.proofs.Common.{◌≡◌, ℕ, suc, ◌<◌, ◌^◌, ◌&&◌, ◌||◌, Bool, true, refl, nat_eq, ap, sym, ◌∙◌, arith, bit_or}
use Rattle.std.proofs.lemmas.Nat.Bits.{bit_at_ones, bit_at-zero}
use Rattle.hy_bits.specs.Binary.{has_one}
use Rattle.hy_finite.specs.declared.rule.Rule.TheVariants.{Finally, Globally, Until, Release, Weak}
use Rattle.hy_finite.proofs.Carrying.{has_one-not, has_one-and, has_one-or, has_one-iff, has_one-next, byte-of, carry-like}
use Rattle.hy_finite.proofs.rule.Rule.word.Goals as goal

pub returns-in-Not : goal.returns-in-Not
returns-in-Not c k lt =
    let fits : c.args.left < 2 ^ 64 = omega arith in
    rw c.in-Not.is (has_one-not c.args.left k fits lt)

pub returns-in-Next : goal.returns-in-Next
returns-in-Next c k lt =
    rw (c.in-Next.is, byte-of) (has_one-next c.args.left (has_one c.args.right) c.args.carry k lt)

pub returns-in-And : goal.returns-in-And
returns-in-And c k lt = rw c.in-And.is (has_one-and c.args.left c.args.right k)

pub returns-in-Or : goal.returns-in-Or
returns-in-Or c k lt = rw c.in-Or.is (has_one-or c.args.left c.args.right k)

pub returns-in-Implies : goal.returns-in-Implies
returns-in-Implies c k lt =
    let fits : c.args.left < 2 ^ 64 = omega arith in
    rw c.in-Implies.is
    (has_one-or _ c.args.right k ∙ ap (λ x. x || has_one c.args.right k)
    (has_one-not c.args.left k fits lt))

pub returns-in-Iff : goal.returns-in-Iff
returns-in-Iff c k lt =
    let left : c.args.left < 2 ^ 64 = omega arith in
    let right : c.args.right < 2 ^ 64 = omega arith in
    rw c.in-Iff.is (has_one-iff c.args.left c.args.right k left right lt)

pub returns-in-Finally : goal.returns-in-Finally
returns-in-Finally c k lt =
    rw c.in-Finally.is
    (c.until_word.ensures k lt ∙ sym (carry-like (λ b. b) Finally Until (has_one c.args.left)
    (has_one c.args.right) (has_one 18446744073709551615)
    (has_one c.args.left) c.args.carry c.args.carry 64 refl each (suc k) (omega arith)))
  where
    all : (j : ℕ) → j < 64 → has_one 18446744073709551615 j ≡ true
    all j within = ap (λ b. nat_eq b 1) (bit_at_ones 64 j within)

    each : (j : ℕ) → j < 64 → (b : Bool)
        → (has_one c.args.left j || b) ≡ (has_one c.args.left j ||
        (has_one 18446744073709551615 j && b))
    each j within b = ap (λ x. has_one c.args.left j || (x && b)) (sym (all j within))

pub returns-in-Globally : goal.returns-in-Globally
returns-in-Globally c k lt =
    rw c.in-Globally.is
    (c.release_word.ensures k lt ∙ sym (carry-like (λ b. b) Globally Release (has_one c.args.left)
    (has_one c.args.right) (has_one 0) (has_one c.args.left) c.args.carry c.args.carry 64 refl
    each (suc k) (omega arith)))
  where
    each : (j : ℕ) → j < 64 → (b : Bool)
        → (has_one c.args.left j && b) ≡ (has_one c.args.left j && (has_one 0 j || b))
    each j within b =
        ap (λ x. has_one c.args.left j && (x || b)) (ap (λ n. nat_eq n 1) (sym (bit_at-zero j)))

pub returns-in-Weak : goal.returns-in-Weak
returns-in-Weak c k lt =
    rw c.in-Weak.is
    (c.release_word-in-Weak.ensures k lt
    ∙ sym (carry-like (λ b. b) Weak Release (has_one c.args.left) (has_one c.args.right)
    (has_one c.args.right) (has_one (bit_or c.args.left c.args.right)) c.args.carry c.args.carry
    64 refl each (suc k) (omega arith)))
  where
    each : (j : ℕ) → j < 64 → (b : Bool)
        → ((has_one c.args.left j || has_one c.args.right j) && (has_one c.args.right j || b)) ≡
        (has_one (bit_or c.args.left c.args.right) j && (has_one c.args.right j || b))
    each j within b =
        ap (λ x. x && (has_one c.args.right j || b)) (sym (has_one-or c.args.left c.args.right j))
