-- Words that repeat, from a later place on and after more steps, and several in one rhythm.
use Rattle.std.proofs.Common.{◌≡◌, ℕ, zero, suc, ◌+◌, ◌*◌, ◌<◌, ◌≤◌, inl, inr, refl, sym, ap, ◌∙◌, subst, arith}
use Rattle.std.proofs.Math.Nat.{mul-pos, mul_comm}
use Rattle.std.proofs.lemmas.Bool.{cases_eq}
use Rattle.aig_net.specs.Executions.{Word, Recurs}
use Rattle.aig_net.proofs.Rounds.{recurs-often}

-- What repeats repeats later, and after a multiple.
pub later : (word : Word) (s p t m c : ℕ) → Recurs word s p → s ≤ t → c ≡ m * p → 0 < c →
    Recurs word t c
later word s p t m c r le e some = record {
  some = some;
  same = λ i v from. ap (λ k. word (i + k) v) e
      ∙ recurs-often word s p r m i v (omega (arith, le, from));
}

abbrev pub Repeats : Word → Type 0
Repeats word = (s : ℕ) × (p : ℕ) × Recurs word s p

-- words that repeat do so from one place on after one number of steps
pub common : (n : ℕ) (words : ℕ → Word) → ((c : ℕ) → c < n → Repeats (words c)) →
    (s : ℕ) × (p : ℕ) × (0 < p) × ((c : ℕ) → c < n → Recurs (words c) s p)
common zero words recur = (0, 1, omega arith, λ c lt. absurd (omega arith))
common (suc n) words recur =
    let (s, p, some, all) = common n words (λ c lt. recur c (omega (arith, lt))) in
    let (t, q, r) = recur n (omega arith) in
    let many : 0 < p * q = mul-pos some r.some in
    let early : (c : ℕ) → c < n → Recurs (words c) (s + t) (p * q) =
    λ c lt. later (words c) s p (s + t) q (p * q) (all c lt) (omega arith)
    (mul_comm p q) many in
    let last : Recurs (words n) (s + t) (p * q) =
    later (words n) t q (s + t) p (p * q) r (omega arith) refl many in (
      s + t,
      p * q,
      many,
      λ c lt. elim (cases_eq c n) [
        | inl e ↦ let P : ℕ → Type 0 = λ x. Recurs (words x) (s + t) (p * q) in subst P (sym e) last
        | inr apart ↦ early c (omega (arith, lt, apart))
      ],
    )
