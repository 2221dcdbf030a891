-- Literals and their opposites.
use Rattle.std.proofs.Common.{◌≡◌, ◌≢◌, ℕ, zero, suc, ◌-◌, ◌<◌, Bool, true, false, ◌⊎◌, List, [], ◌∷◌, get_or, map, inl, inr, refl, sym, ap, ◌∙◌, arith}
use Rattle.std.specs.Prelude.{ℤ, pos, negsuc, neg_ℤ, unsigned_abs}
use Rattle.std.specs.List.{Contains}
use Rattle.std.proofs.lemmas.Bool.{cases_eq, cases_Bool}
use Rattle.std.proofs.lemmas.List.Elements.{Contains-append_right}
use Rattle.chain_check.specs.Clauses.{Clause, IsLiteral, IsMadeTrue}

-- a literal is this one or another
pub same-or-not : (l m : ℤ) → (l ≡ m) ⊎ (l ≢ m)
same-or-not (pos a) (pos b) = elim (cases_eq a b)
    [ inl e ↦ inl (ap pos e) | inr n ↦ inr (λ e. let same : a ≡ b = (cc) in n same) ]
same-or-not (pos a) (negsuc b) = inr (λ e. (cc))
same-or-not (negsuc a) (pos b) = inr (λ e. (cc))
same-or-not (negsuc a) (negsuc b) = elim (cases_eq a b)
    [ inl e ↦ inl (ap negsuc e) | inr n ↦ inr (λ e. let same : a ≡ b = (cc) in n same) ]

pub twice : (l : ℤ) → neg_ℤ (neg_ℤ l) ≡ l
twice (pos zero) = refl
twice (pos (suc n)) = refl
twice (negsuc n) = refl

pub same-variable : (l : ℤ) → unsigned_abs (neg_ℤ l) ≡ unsigned_abs l
same-variable (pos zero) = refl
same-variable (pos (suc n)) = refl
same-variable (negsuc n) = refl

-- two literals of one variable
pub of-one-variable : (l m : ℤ) → unsigned_abs l ≡ unsigned_abs m → (l ≡ m) ⊎ (l ≡ neg_ℤ m)
of-one-variable (pos a) (pos b) e = inl (ap pos e)
of-one-variable (pos a) (negsuc b) e = inr (ap pos e)
of-one-variable (negsuc a) (pos zero) e = absurd (omega arith)
of-one-variable (negsuc a) (pos (suc b)) e = let same : a ≡ b = omega arith in inr (ap negsuc same)
of-one-variable (negsuc a) (negsuc b) e = let same : a ≡ b = omega arith in inl (ap negsuc same)

pub not-own-opposite : (l : ℤ) → 0 < unsigned_abs l → l ≢ neg_ℤ l
not-own-opposite (pos zero) some e = absurd (omega arith)
not-own-opposite (pos (suc n)) some e = (cc)
not-own-opposite (negsuc n) some e = (cc)

-- an assignment makes a literal true or its opposite, and not both
pub not-both : (values : List Bool) (l : ℤ) → 0 < unsigned_abs l → IsMadeTrue values l →
    ¬ IsMadeTrue values (neg_ℤ l)
not-both values (pos zero) some h k = absurd (omega arith)
not-both values (pos (suc n)) some h k = let clash : true ≡ false = sym h ∙ k in (cc)
not-both values (negsuc n) some h k = let clash : false ≡ true = sym h ∙ k in (cc)

pub made-or-not : (values : List Bool) (l : ℤ) → 0 < unsigned_abs l → IsMadeTrue values l ⊎
    IsMadeTrue values (neg_ℤ l)
made-or-not values (pos zero) some = absurd (omega arith)
made-or-not values (pos (suc n)) some = cases_Bool _
made-or-not values (negsuc n) some = elim (cases_Bool (get_or values (suc n - 1) false))
    [ inl yes' ↦ inr yes' | inr no' ↦ inl no' ]

-- the members of a list of opposites
pub opposites : (c : Clause) (l : ℤ) → Contains (map neg_ℤ c) l → Contains c (neg_ℤ l)
opposites [] l (k, lt, e) = absurd (omega arith)
opposites (m ∷ c) l (zero, lt, e) = let same : m ≡ neg_ℤ l = sym (twice m) ∙ ap neg_ℤ e in
    (0, omega arith, same)
opposites (m ∷ c) l (suc k, lt, e) = Contains-append_right (m ∷ []) c (neg_ℤ l)
    (opposites c l (k, omega arith, e))

pub opposite-there : (c : Clause) (l : ℤ) → Contains c l → Contains (map neg_ℤ c) (neg_ℤ l)
opposite-there [] l (k, lt, e) = absurd (omega arith)
opposite-there (m ∷ c) l (zero, lt, e) = (0, omega arith, ap neg_ℤ e)
opposite-there (m ∷ c) l (suc k, lt, e) = Contains-append_right (neg_ℤ m ∷ []) (map neg_ℤ c)
    (neg_ℤ l) (opposite-there c l (k, omega arith, e))

pub opposite-literal : (n : ℕ) (l : ℤ) → IsLiteral n l → IsLiteral n (neg_ℤ l)
opposite-literal n l right = (
  omega (arith, same-variable l, right.0),
  omega (arith, same-variable l, right.1),
)
