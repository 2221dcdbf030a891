-- What a class says of the quantifiers.
use Rattle.std.proofs.Common.{append-nil, ◌≡◌, ℕ, zero, suc, ◌<◌, Bool, true, false, if◌then◌else◌, List, [], ◌∷◌, ◌++◌, length, nat_eq, refl, sym, ap, ◌∙◌, arith}
use Rattle.std.proofs.lemmas.Bool.{eqb-true}
use Rattle.hy_formula.specs.declared.prefix.Quant.{Quant}
use Rattle.hy_formula.specs.declared.prefix.Quant.TheVariants as quant
use Rattle.hy_formula.specs.declared.classes.Class.TheVariants as class
use Rattle.hy_formula.specs.Quantifiers.{repeated}
use Rattle.hy_formula.specs.Classes.{is_same, behind, has_only, class_of}

same-quant : (x q : Quant) → is_same x q ≡ true → x ≡ q
same-quant quant.Exists quant.Exists e = refl
same-quant quant.Forall quant.Forall e = refl
same-quant quant.Exists quant.Forall e = cc
same-quant quant.Forall quant.Exists e = cc

-- The first quantifiers are of the kind, and then what is behind them follows.
split : (q : Quant) (prefix : List Quant) → (n : ℕ) × (prefix ≡ repeated q n ++ behind q prefix)
split q [] = (0, refl)
split q (x ∷ xs) = step (is_same x q) refl (split q xs)
  where
    step : (b : Bool) → is_same x q ≡ b → (n : ℕ) × (xs ≡ repeated q n ++ behind q xs)
        → (n : ℕ) × (x ∷ xs ≡ repeated q n ++ (if b then behind q xs else x ∷ xs))
    step true is (n, e) = (suc n, ap (λ y. y ∷ xs) (same-quant x q is) ∙ ap (λ ys. q ∷ ys) e)
    step false is _ = (0, refl)

differ : false ≡ true → ⊥
differ e = cc

nothing : {A : Type 0} (xs : List A) → nat_eq (length xs) 0 ≡ true → xs ≡ []
nothing [] e = refl
nothing (x ∷ xs) e = absurd (omega (arith, eqb-true (length (x ∷ xs)) 0 e))

only-repeated : (q : Quant) (n : ℕ) → has_only q (repeated q n) ≡ true
only-repeated q zero = refl
only-repeated quant.Exists (suc n) = only-repeated quant.Exists n
only-repeated quant.Forall (suc n) = only-repeated quant.Forall n

only : (q : Quant) (prefix : List Quant) → has_only q prefix ≡ true → (n : ℕ) × (prefix ≡ repeated q n)
only q prefix is =
    let (n, e) = split q prefix in
    (n, e ∙ ap (λ xs. repeated q n ++ xs) (nothing (behind q prefix) is) ∙ append-nil (repeated q n))

first : (a b c : Bool) → (if a then class.Exists else if b then class.Forall else if c then class.ExistsForall else class.Other) ≡ class.Exists → a ≡ true
first true b c e = refl
first false true c e = cc
first false false true e = cc
first false false false e = cc

second : (a b c : Bool) → (if a then class.Exists else if b then class.Forall else if c then class.ExistsForall else class.Other) ≡ class.Forall → b ≡ true
second true b c e = cc
second false true c e = refl
second false false true e = cc
second false false false e = cc

third : (a b c : Bool) → (if a then class.Exists else if b then class.Forall else if c then class.ExistsForall else class.Other) ≡ class.ExistsForall
    → (a ≡ false) × (b ≡ false) × (c ≡ true)
third true b c e = cc
third false true c e = cc
third false false true e = (refl, refl, refl)
third false false false e = cc

pub exists-shape : (prefix : List Quant) → class_of prefix ≡ class.Exists → (n : ℕ) × (prefix ≡ repeated quant.Exists n)
exists-shape prefix e = only quant.Exists prefix (first _ _ _ e)

pub forall-shape : (prefix : List Quant) → class_of prefix ≡ class.Forall → (n : ℕ) × (prefix ≡ repeated quant.Forall n)
forall-shape prefix e = only quant.Forall prefix (second _ _ _ e)

pub exists_forall-shape : (prefix : List Quant) → class_of prefix ≡ class.ExistsForall
    → (n k : ℕ) × (0 < n) × (0 < k) × (prefix ≡ repeated quant.Exists n ++ repeated quant.Forall k)
exists_forall-shape prefix e = shape (third _ _ _ e) (split quant.Exists prefix)
  where
    parts : (n k : ℕ) → prefix ≡ repeated quant.Exists n ++ repeated quant.Forall k → has_only quant.Exists prefix ≡ false → has_only quant.Forall prefix ≡ false
        → (n k : ℕ) × (0 < n) × (0 < k) × (prefix ≡ repeated quant.Exists n ++ repeated quant.Forall k)
    parts zero k is a b = absurd (differ (sym b ∙ ap (has_only quant.Forall) is ∙ only-repeated quant.Forall k))
    parts (suc n) zero is a b =
        absurd (differ (sym a ∙ ap (has_only quant.Exists) (is ∙ append-nil (repeated quant.Exists (suc n))) ∙ only-repeated quant.Exists (suc n)))
    parts (suc n) (suc k) is a b = (suc n, suc k, omega arith, omega arith, is)

    shape : (has_only quant.Exists prefix ≡ false) × (has_only quant.Forall prefix ≡ false) × (has_only quant.Forall (behind quant.Exists prefix) ≡ true)
        → (n : ℕ) × (prefix ≡ repeated quant.Exists n ++ behind quant.Exists prefix)
        → (n k : ℕ) × (0 < n) × (0 < k) × (prefix ≡ repeated quant.Exists n ++ repeated quant.Forall k)
    shape (a, b, c) (n, e) =
        let (k, is) = only quant.Forall (behind quant.Exists prefix) c in
        parts n k (e ∙ ap (λ xs. repeated quant.Exists n ++ xs) is) a b
