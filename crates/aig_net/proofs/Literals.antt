-- Literals: their two kinds, their values and bounds, and those that stand under others.
use Rattle.std.proofs.Common.{◌+◌, ◌≡◌, ℕ, suc, ◌*◌, ◌/◌, ◌%◌, ◌<◌, ◌⊎◌, not, cond, inl, inr, refl, sym, ap, ◌∙◌, subst, arith}
use Rattle.std.proofs.lemmas.Bool.{cases_eq}
use Rattle.hy_base.proofs.Truths.{not-not}
use Rattle.aig_net.specs.Nets.{is_even, opposite, under, Valuation, literal_value, Below}

pub twice-half : (x : ℕ) → (2 * x) / 2 ≡ x
twice-half x = omega arith

pub even-rest : (x : ℕ) → (2 * x) % 2 ≡ 0
even-rest x = omega arith

pub odd-rest : (x : ℕ) → suc (2 * x) % 2 ≡ 1
odd-rest x = omega arith

pub odd-half : (x : ℕ) → suc (2 * x) / 2 ≡ x
odd-half x = omega arith

-- a literal says that a variable is true, or that it is false
pub parity : (l : ℕ) → ((x : ℕ) × (l ≡ 2 * x)) ⊎ ((x : ℕ) × (l ≡ suc (2 * x)))
parity l = elim (cases_eq (l % 2) 0) [
  | inl e ↦ inl (l / 2, omega arith)
  | inr odd ↦ inr
      (l / 2, omega arith)
]

pub value-even : (v : Valuation) (x : ℕ) → literal_value v (2 * x) ≡ v x
value-even v x = rw (even-rest x, twice-half x) refl

pub value-odd : (v : Valuation) (x : ℕ) → literal_value v (suc (2 * x)) ≡ not (v x)
value-odd v x = rw (odd-rest x, odd-half x) refl

pub opposite-even : (x : ℕ) → opposite (2 * x) ≡ suc (2 * x)
opposite-even x = rw (even-rest x) (omega arith)

pub opposite-odd : (x : ℕ) → opposite (suc (2 * x)) ≡ 2 * x
opposite-odd x = rw (odd-rest x) (omega arith)

pub under-even : (f : ℕ → ℕ) (x : ℕ) → under f (2 * x) ≡ f x
under-even f x = rw (even-rest x, twice-half x) refl

pub under-odd : (f : ℕ → ℕ) (x : ℕ) → under f (suc (2 * x)) ≡ opposite (f x)
under-odd f x = rw (odd-rest x, odd-half x) refl

pub value-opposite : (v : Valuation) (l : ℕ) →
    literal_value v (opposite l) ≡ not (literal_value v l)
value-opposite v l =
    let P : ℕ → Type 0 = λ l. literal_value v (opposite l) ≡ not (literal_value v l) in
    elim (parity l) [
      | inl (x, e) ↦ subst P (sym e) (ap (literal_value v) (opposite-even x) ∙ value-odd v x
          ∙ sym (ap not (value-even v x)))
      | inr (x, e) ↦ subst P (sym e) (ap (literal_value v) (opposite-odd x) ∙ value-even v x
          ∙ sym (not-not (v x)) ∙ sym (ap not (value-odd v x)))
    ]

pub value-under : (v : Valuation) (f : ℕ → ℕ) (l : ℕ) →
    literal_value v (under f l) ≡ literal_value (λ u. literal_value v (f u)) l
value-under v f l =
    let w : Valuation = λ u. literal_value v (f u) in
    let P : ℕ → Type 0 = λ l. literal_value v (under f l) ≡ literal_value w l in
    elim (parity l) [
      | inl (x, e) ↦ subst P (sym e) (ap (literal_value v) (under-even f x) ∙ sym (value-even w x))
      | inr (x, e) ↦ subst P (sym e) (ap (literal_value v) (under-odd f x) ∙ value-opposite v (f x)
          ∙ sym (value-odd w x))
    ]

-- The value looks at the variable alone.
pub value-same : (v w : Valuation) (l : ℕ) → v (l / 2) ≡ w (l / 2) →
    literal_value v l ≡ literal_value w l
value-same v w l e = ap (λ b. cond (is_even l) b (not b)) e

pub below-even : (n x : ℕ) → x < n → Below n (2 * x)
below-even n x lt = omega arith

pub below-odd : (n x : ℕ) → x < n → Below n (suc (2 * x))
below-odd n x lt = omega arith

pub below-opposite : (n l : ℕ) → Below n l → Below n (opposite l)
below-opposite n l lt = elim (parity l) [
  | inl (x, e) ↦ let same : opposite l ≡ suc (2 * x) = ap opposite e ∙ opposite-even x in
      let P : ℕ → Type 0 = Below n in subst P (sym same) (omega arith)
  | inr (x, e) ↦ let same : opposite l ≡ 2 * x = ap opposite e ∙ opposite-odd x in let P : ℕ →
      Type 0 = Below n in subst P (sym same) (omega arith)
]

pub below-under : (n m : ℕ) (f : ℕ → ℕ) (l : ℕ) → ((x : ℕ) → x < m → Below n (f x)) → Below m l →
    Below n (under f l)
below-under n m f l maps lt = elim (parity l) [
  | inl (x, e) ↦ let P : ℕ → Type 0 = Below n in
      subst P (sym (ap (under f) e ∙ under-even f x)) (maps x (omega arith))
  | inr (x, e) ↦ let P : ℕ → Type 0 = Below n in
      subst P (sym (ap (under f) e ∙ under-odd f x)) (below-opposite n (f x) (maps x (omega arith)))
]

-- Variables renumbered: the literal by its two parts.
pub renumbered : (p : ℕ → ℕ) (l : ℕ) → under (λ v. 2 * p v) l ≡ 2 * p (l / 2) + l % 2
renumbered p l =
    let P : ℕ → Type 0 = λ l. under (λ v. 2 * p v) l ≡ 2 * p (l / 2) + l % 2 in
    elim (parity l) [
      | inl (x, e) ↦ let h = twice-half x in let r = even-rest x in
          subst P (sym e) (under-even (λ v. 2 * p v) x ∙ rw (h, r) (omega arith))
      | inr (x, e) ↦ let h = odd-half x in let r = odd-rest x in
          subst P (sym e) (under-odd (λ v. 2 * p v) x ∙ opposite-even (p x)
          ∙ rw (h, r) (omega arith))
    ]
