-- The steps of a lasso, and words that agree for so long.
use Rattle.std.proofs.Common.{◌≡◌, ℕ, zero, suc, ◌+◌, ◌-◌, ◌%◌, ◌<◌, ◌∷◌, inl, inr, refl, ap, ◌∙◌, arith}
use Rattle.std.proofs.Math.Nat.{mod-eq_of_lt}
use Rattle.std.proofs.lemmas.Bool.{cases_lt}
use Rattle.aig_net.specs.Executions.{Word, gone, lasso_of, part}
use Rattle.aig_net.proofs.Rounds.{before, round}

-- as far as it goes a lasso is its word
pub near : (word : Word) (s c i : ℕ) → i < s + c → gone (lasso_of word s c) i ≡ word i
near word s c i lt =
    elim (cases_lt i s) [
      | inl early ↦ before word s c i early
      | inr late ↦
          let whole : s + (i - s) ≡ i = omega arith in
          let once : (i - s) % c ≡ i - s = mod-eq_of_lt (omega arith) in
          round word s c i (omega arith) late ∙ ap (λ x. word (s + x)) once ∙ ap word whole
    ]

pub part-same : (word word' : Word) (s n : ℕ) →
    ((i : ℕ) → i < s + n → word i ≡ word' i) → part word s n ≡ part word' s n
part-same word word' s zero same = refl
part-same word word' s (suc n) same =
    ap (λ v. v ∷ part word (suc s) n) (same s (omega arith))
    ∙ ap (λ l. word' s ∷ l) (part-same word word' (suc s) n (λ i lt. same i (omega arith)))

pub lasso-same : (word word' : Word) (s c : ℕ) →
    ((i : ℕ) → i < s + c → word i ≡ word' i) → lasso_of word s c ≡ lasso_of word' s c
lasso-same word word' s c same =
    let L = λ (w : Word). lasso_of w s c in
    let one = part-same word word' 0 s (λ i lt. same i (omega arith)) in
    let two = part-same word word' s c same in
    λ j. record { stem = one j; cycle = two j }
