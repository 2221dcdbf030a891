-- Lasso executions are the executions that repeat.
use Rattle.std.proofs.Common.{◌≡◌, ℕ, zero, suc, ◌+◌, ◌-◌, ◌*◌, ◌/◌, ◌%◌, ◌<◌, ◌≤◌, Bool, true, false, cond, nat_lt, length, get_or, IsTrue, inl, inr, refl, sym, ap, ◌∙◌, subst, arith}
use Rattle.std.proofs.Math.Nat.{add-mul-mod_self_right, mod-eq_of_lt, mod-lt, le-mul_of_pos_right, mod-add-div'}
use Rattle.std.proofs.lemmas.Bool.{cases_lt}
use Rattle.std.proofs.lemmas.Bool.Decides.{Decides-ltb}
use Rattle.aig_net.specs.Nets.{Net, Valuation, literal_value, literal_at}
use Rattle.aig_net.specs.Executions.{Word, Lasso, IsFair, no_values, value_in, gone, IsLassoExecution, part, lasso_of, Recurs}

-- ---- a lasso as a word

-- in the stem, and past it
pub in-stem : (lasso : Lasso) (i : ℕ) → i < length lasso.stem → gone lasso i ≡ value_in lasso.stem i
in-stem lasso i lt = rw ((Decides-ltb i (length lasso.stem)).1 lt) refl

pub in-cycle : (lasso : Lasso) (i : ℕ) → length lasso.stem ≤ i →
    gone lasso i ≡ value_in lasso.cycle ((i - length lasso.stem) % length lasso.cycle)
in-cycle lasso i le = at (nat_lt i (length lasso.stem))
    (λ e. omega (arith, (Decides-ltb i (length lasso.stem)).0 e))
  where
    at : (b : Bool) → (b ≡ true → ⊥) →
        cond b (value_in lasso.stem i)
        (value_in lasso.cycle
        ((i - length lasso.stem) % length lasso.cycle)) ≡ value_in lasso.cycle
        ((i - length lasso.stem) % length lasso.cycle)
    at true none = absurd (none refl)
    at false none = refl

pub lasso-repeats : (lasso : Lasso) (m i : ℕ) → length lasso.stem ≤ i →
    gone lasso (i + m * length lasso.cycle) ≡ gone lasso i
lasso-repeats lasso m i le =
    let there = in-cycle lasso (i + m * length lasso.cycle) (omega arith) in
    let apart : i + m * length lasso.cycle - length lasso.stem ≡ i - length lasso.stem + m * length
    lasso.cycle = omega arith in
    let same : (i + m * length lasso.cycle - length lasso.stem) % length lasso.cycle ≡
    (i - length lasso.stem) % length lasso.cycle =
    ap (λ x. x % length lasso.cycle) apart
    ∙ add-mul-mod_self_right (i - length lasso.stem) m (length lasso.cycle) in
    there ∙ ap (value_in lasso.cycle) same ∙ sym (in-cycle lasso i le)

pub at-round : (lasso : Lasso) (k m : ℕ) → k < length lasso.cycle →
    gone lasso (length lasso.stem + (k + m * length lasso.cycle)) ≡ get_or lasso.cycle k no_values
at-round lasso k m lt =
    let far : k + m * length lasso.cycle ≡ length lasso.stem +
    (k + m * length lasso.cycle) - length lasso.stem = omega arith in
    let round : (length lasso.stem +
    (k + m * length lasso.cycle) - length lasso.stem) % length lasso.cycle ≡ k =
    ap (λ x. x % length lasso.cycle) (sym far) ∙ add-mul-mod_self_right k m (length lasso.cycle)
    ∙ mod-eq_of_lt lt in
    in-cycle lasso (length lasso.stem + (k + m * length lasso.cycle)) (omega arith)
    ∙ ap (λ x. get_or lasso.cycle x no_values) round

pub gone-fair : (net : Net) (lasso : Lasso) → IsLassoExecution net lasso → IsFair net (gone lasso)
gone-fair net lasso is j lt i =
    let (k, below, here) = is.fair j lt in
    let many : i ≤ i * length lasso.cycle = le-mul_of_pos_right i is.some in
    let P : Valuation → Type 0 = λ v. IsTrue (literal_value v (literal_at net.fairs j)) in (
      length lasso.stem + (k + i * length lasso.cycle),
      omega arith,
      subst P
          (sym (at-round lasso k i below)) here,
    )

pub gone-recurs : (lasso : Lasso) → 0 < length lasso.cycle →
    Recurs (gone lasso) (length lasso.stem) (length lasso.cycle)
gone-recurs lasso some = record {
  some = some;
  same = λ i v le.
      let once : i + 1 * length lasso.cycle ≡ i + length lasso.cycle = omega arith in
      ap (λ x. gone lasso x v) (sym once) ∙ ap (λ w. w v) (lasso-repeats lasso 1 i le);
}

-- ---- a word as a lasso

pub length-part : (word : Word) (s n : ℕ) → length (part word s n) ≡ n
length-part word s zero = refl
length-part word s (suc n) = ap suc (length-part word (suc s) n)

pub at-part : (word : Word) (s n k : ℕ) → k < n → get_or (part word s n) k no_values ≡ word (s + k)
at-part word s zero k lt = absurd (omega arith)
at-part word s (suc n) zero lt = let e : s ≡ s + 0 = omega arith in ap word e
at-part word s (suc n) (suc k) lt = let e : suc s + k ≡ s + suc k = omega arith in
    at-part word (suc s) n k (omega arith) ∙ ap word e

pub recurs-often : (word : Word) (s c : ℕ) → Recurs word s c → (m i v : ℕ) → s ≤ i →
    word (i + m * c) v ≡ word i v
recurs-often word s c r zero i v le = let e : i + 0 * c ≡ i = omega arith in ap (λ x. word x v) e
recurs-often word s c r (suc m) i v le =
    let e : i + suc m * c ≡ i + m * c + c = omega arith in
    ap (λ x. word x v) e ∙ r.same (i + m * c) v (omega arith) ∙ recurs-often word s c r m i v le

module _ (word : Word) (s c : ℕ) where
  pub before : (i : ℕ) → i < s → gone (lasso_of word s c) i ≡ word i
  before i lt =
      let len : length (part word 0 s) ≡ s = length-part word 0 s in
      let e : 0 + i ≡ i = omega arith in
      in-stem (lasso_of word s c) i (omega arith) ∙ at-part word 0 s i lt ∙ ap word e

  pub within : (k : ℕ) → k < c → get_or (part word s c) k no_values ≡ word (s + k)
  within k lt = at-part word s c k lt

  pub round : (i : ℕ) → 0 < c → s ≤ i → gone (lasso_of word s c) i ≡ word (s + (i - s) % c)
  round i some le =
      let len : length (part word 0 s) ≡ s = length-part word 0 s in
      let len' : length (part word s c) ≡ c = length-part word s c in
      let P : ℕ → ℕ → Type 0 = λ x y. gone (lasso_of word s c) i ≡ get_or (part word s c)
      ((i - x) % y) no_values in
      let start : P (length (part word 0 s)) (length (part word s c)) =
      in-cycle (lasso_of word s c) i (omega arith) in
      let Q : ℕ → Type 0 = λ y. P s y in
      let there : P s c = subst Q len'
      (subst (λ (x : ℕ). P x (length (part word s c))) len start) in
      there ∙ within ((i - s) % c) (mod-lt (i - s) some)

  pub recurring : Recurs word s c → (i v : ℕ) → gone (lasso_of word s c) i v ≡ word i v
  recurring r i v =
      elim (cases_lt i s) [
        | inl lt ↦ ap (λ w. w v) (before i lt)
        | inr le ↦
            let split : (i - s) % c + (i - s) / c * c ≡ i - s = mod-add-div' (i - s) c in
            let at : s + (i - s) % c + (i - s) / c * c ≡ i = omega arith in
            ap (λ w. w v) (round i r.some le)
            ∙ sym (recurs-often word s c r ((i - s) / c) (s + (i - s) % c) v (omega arith))
            ∙ ap (λ x. word x v) at
      ]
