-- Truth values: what two tests say of each other, and what a test chooses.
use Rattle.std.proofs.Common.{◌≡◌, ℕ, suc, ◌<◌, ◌≤◌, Bool, true, false, not, cond, ◌&&◌, ◌||◌, nat_eq, nat_lt, List, inl, inr, refl, sym, ◌∙◌, arith}
use Rattle.std.specs.Str.{bytes_eq}
use Rattle.std.specs.Bool.{beq, Decides}
use Rattle.std.proofs.lemmas.Bool.{cases_eq, eq-eqb, ne_eqb, lt-ltb, le-ltb, cond-true, cond-false}
use Rattle.std.proofs.lemmas.Bool.Decides.{not_from_Decides}
use Rattle.std.proofs.lemmas.Slice.Eq.{bytes_eq-Decides}

pub same-truth : (a b : Bool) → (a ≡ true → b ≡ true) → (b ≡ true → a ≡ true) → a ≡ b
same-truth true b f g = sym (f refl)
same-truth false true f g = g refl
same-truth false false f g = refl

pub and-true : (a : Bool) → (a && true) ≡ a
and-true true = refl
and-true false = refl

pub and-false : (a : Bool) → (a && false) ≡ false
and-false true = refl
and-false false = refl

pub or-false : (a : Bool) → (a || false) ≡ a
or-false true = refl
or-false false = refl

pub not-not : (a : Bool) → not (not a) ≡ a
not-not true = refl
not-not false = refl

pub not-of : (a : Bool) → ¬ (a ≡ true) → not a ≡ true
not-of true n = absurd (n refl)
not-of false n = refl

pub implied : (a b : Bool) → (a ≡ true → b ≡ true) → (not a || b) ≡ true
implied true b f = f refl
implied false b f = refl

pub turned-test : (m n : ℕ) → nat_eq m n ≡ nat_eq n m
turned-test m n =
    elim (cases_eq m n) [
      | inl e ↦ eq-eqb m n e ∙ sym (eq-eqb n m (sym e))
      | inr apart ↦ ne_eqb m n apart ∙ sym (ne_eqb n m (λ e. apart (sym e)))
    ]

module _ {A : Type 0} where
  pub cond-below : (m n : ℕ) (x y : A) → m < n → cond (nat_lt m n) x y ≡ x
  cond-below m n x y lt = cond-true (nat_lt m n) x y (lt-ltb m n lt)

  pub cond-above : (m n : ℕ) (x y : A) → n ≤ m → cond (nat_lt m n) x y ≡ y
  cond-above m n x y le = cond-false (nat_lt m n) x y (le-ltb m n le)

-- ---- tests that decide

pub decides-itself : (b : Bool) → Decides b (b ≡ true)
decides-itself b = (λ e. e, λ e. e)

pub decides-implies : {P Q : Type 0} (x y : Bool) → Decides x P → Decides y Q
    → Decides (not x || y) (P → Q)
decides-implies true y p q = (λ e _. q.0 e, λ f. q.1 (f (p.0 refl)))
decides-implies false y p q = (λ _ h. absurd (not_from_Decides false p refl h), λ _. refl)

pub decides-iff : {P Q : Type 0} (x y : Bool) → Decides x P → Decides y Q
    → Decides (beq x y) ((P → Q) × (Q → P))
decides-iff true true p q = (λ _. (λ _. q.0 refl, λ _. p.0 refl), λ _. refl)
decides-iff true false p q = (λ e. absurd (cc), λ h. q.1 (h.0 (p.0 refl)))
decides-iff false true p q = (λ e. absurd (cc), λ h. p.1 (h.1 (q.0 refl)))
decides-iff false false p q = (
  λ _. (λ h. absurd (not_from_Decides false p refl h), λ h. absurd (not_from_Decides false q refl h)),
  λ _. refl,
)

-- ---- equal bytes

pub same-bytes : (xs ys : List ℕ) → bytes_eq xs ys ≡ true → xs ≡ ys
same-bytes xs ys = (bytes_eq-Decides xs ys).0

pub bytes-themselves : (xs : List ℕ) → bytes_eq xs xs ≡ true
bytes-themselves xs = (bytes_eq-Decides xs xs).1 refl

-- ---- counts

pub more-if : (b : Bool) (n : ℕ) → n ≤ cond b (suc n) n
more-if true n = omega arith
more-if false n = omega arith

pub counted-if : (b : Bool) (n : ℕ) → b ≡ true → n < cond b (suc n) n
counted-if true n e = omega arith
counted-if false n e = absurd (cc)
