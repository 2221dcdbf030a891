-- A word whose latches come round is a run.
use Rattle.std.proofs.Common.{◌≡◌, ℕ, suc, ◌+◌, ◌-◌, ◌*◌, ◌/◌, ◌%◌, ◌<◌, ◌≤◌, ◌⊎◌, length, inl, inr, sym, ap, ◌∙◌, subst, arith}
use Rattle.std.proofs.Math.Nat.{add-mul-mod_self_right, mod-eq_of_lt, mod-lt, mod-add-div'}
use Rattle.std.proofs.lemmas.Bool.{cases_eq, cases_lt}
use Rattle.aig_net.specs.Nets.{Net, Valuation, latch_variable, IsRight, IsStart, IsStep, AllTrue}
use Rattle.aig_net.specs.Executions.{Word, IsRun, gone, lasso_of}
use Rattle.aig_net.proofs.Rounds.{before, round}

mod-suc : (x c : ℕ) → 0 < c → ((suc (x % c) < c) × (suc x % c ≡ suc (x % c))) ⊎ ((suc (x % c) ≡ c)
    × (suc x % c ≡ 0))
mod-suc x c some =
    let small : x % c < c = mod-lt x some in
    let whole : x % c + x / c * c ≡ x = mod-add-div' x c in
    elim (cases_lt (suc (x % c)) c) [
      | inl lt ↦
          let e : suc x ≡ suc (x % c) + x / c * c = omega (arith, whole) in
          inl (
            lt,
            ap (λ y. y % c) e ∙ add-mul-mod_self_right (suc (x % c)) (x / c) c
                ∙ mod-eq_of_lt lt,
          )
      | inr le ↦
          let last : suc (x % c) ≡ c = omega arith in
          let e : suc x ≡ 0 + suc (x / c) * c = omega (arith, whole, last) in
          inr (
            last,
            ap (λ y. y % c) e ∙ add-mul-mod_self_right 0 (suc (x / c)) c
                ∙ mod-eq_of_lt some,
          )
    ]

module _ (net : Net) (w : Word) (t c : ℕ) (some : 0 < c) where
  abbrev Onward : ℕ → ℕ → Type 0
  Onward i p =
      ((suc p < t + c) × (gone (lasso_of w t c) (suc i) ≡ w (suc p))) ⊎ ((suc p ≡ t + c)
      × (gone (lasso_of w t c) (suc i) ≡ w t))

  at : (i : ℕ) → (p : ℕ) × (p < t + c) × (gone (lasso_of w t c) i ≡ w p) × Onward i p
  at i = elim (cases_lt i t) [
    | inl early ↦
        (i, omega arith, before w t c i early, first early)
    | inr late ↦ later late
  ]
    where
      first : i < t → Onward i i
      first early =
          elim (cases_eq (suc i) t) [
            | inl e ↦
                let none : suc i - t ≡ 0 = omega arith in
                let zero-mod : (suc i - t) % c ≡ 0 = ap (λ y. y % c) none ∙ mod-eq_of_lt some in
                let here : t + (suc i - t) % c ≡ suc i = omega (arith, zero-mod, e) in
                inl (omega arith, round w t c (suc i) some (omega arith) ∙ ap w here)
            | inr apart ↦ inl (omega arith, before w t c (suc i) (omega arith))
          ]

      later : t ≤ i → (p : ℕ) × (p < t + c) × (gone (lasso_of w t c) i ≡ w p) × Onward i p
      later late =
          let x : ℕ = i - t in
          let small : x % c < c = mod-lt x some in
          let up : suc i - t ≡ suc x = omega arith in
          let there : gone (lasso_of w t c) (suc i) ≡ w (t + suc x % c) =
          round w t c (suc i) some (omega arith) ∙ ap (λ y. w (t + y % c)) up in (
            t + x % c,
            omega arith,
            round w t c i some late,
            elim (mod-suc x c some) [
              | inl (lt, e) ↦ let f : t + suc x % c ≡ suc (t + x % c) = omega (arith, e) in
                  inl (omega arith, there ∙ ap w f)
              | inr (last, e) ↦ let f : t + suc x % c ≡ t = omega (arith, e) in
                  inr (omega arith, there ∙ ap w f)
            ],
          )

  pub loop-run : IsStart net (w 0) → ((i : ℕ) → i < t + c → IsRight net (w i)) →
      ((i : ℕ) → i < t + c → IsStep net (w i) (w (suc i))) →
      ((i : ℕ) → i < t + c → AllTrue net.constraints (w i)) →
      ((j : ℕ) → j < length net.latches →
      w (t + c) (latch_variable net j) ≡ w t (latch_variable net j)) →
      IsRun net (gone (lasso_of w t c))
  loop-run starts right goes kept back = record {
    starts = let S : Valuation → Type 0 = IsStart net in subst S (sym zero-at) starts;
    right = λ i. let (p, lt, e, _) = at i in let S : Valuation → Type 0 = IsRight net in
        subst S (sym e) (right p lt);
    kept = λ i. let (p, lt, e, _) = at i in let S : Valuation → Type 0 = AllTrue net.constraints in
        subst S (sym e) (kept p lt);
    goes = step;
  }
    where
      zero-at : gone (lasso_of w t c) 0 ≡ w 0
      zero-at =
          elim (cases_lt 0 t) [
            | inl early ↦ before w t c 0 early
            | inr late ↦
                let none : 0 - t ≡ 0 = omega arith in
                let zero-mod : (0 - t) % c ≡ 0 = ap (λ y. y % c) none ∙ mod-eq_of_lt some in
                let here : t + (0 - t) % c ≡ 0 = omega (arith, zero-mod, late) in
                round w t c 0 some late ∙ ap w here
          ]

      step : (i : ℕ) → IsStep net (gone (lasso_of w t c) i) (gone (lasso_of w t c) (suc i))
      step i =
          let (p, lt, e, next) = at i in
          let S : Valuation → Type 0 = λ v. IsStep net v (gone (lasso_of w t c) (suc i)) in
          subst S (sym e)
          (elim next [
            | inl (_, f) ↦ let Q : Valuation → Type 0 = IsStep net (w p) in
                subst Q (sym f) (goes p lt)
            | inr (last, f) ↦ λ j few. ap (λ v. v (latch_variable net j)) f ∙ sym (back j few)
                ∙ ap (λ x. w x (latch_variable net j)) (sym last) ∙ goes p lt j few
          ])
