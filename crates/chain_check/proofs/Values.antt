-- What the tests of literals and clauses say of assignments.
use Rattle.std.proofs.Common.{◌≡◌, ℕ, zero, suc, ◌+◌, ◌-◌, ◌<◌, ◌↔◌, Bool, true, false, not, ◌||◌, List, [], ◌∷◌, ◌++◌, inl, inr, refl, sym, ap, ◌∙◌, subst, arith}
use Rattle.std.specs.Prelude.{ℤ, pos, negsuc}
use Rattle.std.specs.List.{Contains}
use Rattle.std.proofs.lemmas.Bool.{cases_eq, or_cases, or_left, or_right, not-true, not_from_false}
use Rattle.std.proofs.lemmas.List.Elements.{Contains-append_left, Contains-append_right}
use Rattle.hy_base.specs.Rows.{row, listed}
use Rattle.hy_base.proofs.Listed.{at-listed}
use Rattle.chain_check.specs.Clauses.{Clause, IsLiteral, AreLiterals, AreClauses, IsMadeTrue, Satisfies, SatisfiesAll}
use Rattle.chain_check.specs.FewClauses.{for_each}
use Rattle.chain_check.specs.Values.{Assignment, number_value, clause_value, AllMet}

-- ---- tests and what they say

value-made : (values : List Bool) (l : ℤ) → number_value (row values) l ≡ true →
    IsMadeTrue values l
value-made values (pos zero) h = h
value-made values (pos (suc x)) h = let e : suc x - 1 ≡ x = omega arith in ap (row values) e ∙ h
value-made values (negsuc x) h = let e : suc x - 1 ≡ x = omega arith in
    ap (row values) e ∙ not-true _ h

made-value : (values : List Bool) (l : ℤ) → IsMadeTrue values l →
    number_value (row values) l ≡ true
made-value values (pos zero) h = h
made-value values (pos (suc x)) h = let e : x ≡ suc x - 1 = omega arith in ap (row values) e ∙ h
made-value values (negsuc x) h = let e : x ≡ suc x - 1 = omega arith in
    not_from_false _ (ap (row values) e ∙ h)

clause-satisfied : (values : List Bool) (c : Clause) → clause_value (row values) c ≡ true →
    Satisfies values c
clause-satisfied values [] h = absurd (cc)
clause-satisfied values (l ∷ ls) h = elim (or_cases _ _ h) [
  | inl here ↦ (l, (0, omega arith, refl), value-made values l here)
  | inr later ↦ let (m, there, made) = clause-satisfied values ls later in
      (m, Contains-append_right (l ∷ []) ls m there, made)
]

one-true : (a : Assignment) (c : Clause) (l : ℤ) → Contains c l → number_value a l ≡ true →
    clause_value a c ≡ true
one-true a [] l (k, lt, e) h = absurd (omega arith)
one-true a (m ∷ ms) l (zero, lt, e) h =
    or_left _ _ (let P : ℤ → Type 0 = λ l. number_value a l ≡ true in subst P (sym e) h)
one-true a (m ∷ ms) l (suc k, lt, e) h =
    or_right _ _ (one-true a ms l (k, omega arith, e) h)

pub met-satisfied : (values : List Bool) (cs : List Clause) → AllMet (row values) cs →
    SatisfiesAll values cs
met-satisfied values [] h c (k, lt, e) = absurd (omega arith)
met-satisfied values (d ∷ cs) (h, more) c (zero, lt, e) =
    let P : Clause → Type 0 = Satisfies values in subst P e (clause-satisfied values d h)
met-satisfied values (d ∷ cs) (h, more) c (suc k, lt, e) =
    met-satisfied values cs more c (k, omega arith, e)

pub satisfied-met : (values : List Bool) (cs : List Clause) → SatisfiesAll values cs →
    AllMet (row values) cs
satisfied-met values [] all = tt
satisfied-met values (c ∷ cs) all =
    let (l, there, made) = all c (0, omega arith, refl) in (
      one-true (row values) c l there (made-value values l made),
      satisfied-met values cs (λ d there. all d (Contains-append_right (c ∷ []) cs d there)),
    )

-- ---- assignments that agree on the variables

same-value : (n : ℕ) (a b : Assignment) → ((x : ℕ) → x < n → a x ≡ b x) → (l : ℤ) →
    IsLiteral n l → number_value a l ≡ number_value b l
same-value n a b same (pos zero) (some, few) = absurd (omega arith)
same-value n a b same (pos (suc x)) (some, few) = same x (omega arith)
same-value n a b same (negsuc x) (some, few) = ap not (same x (omega arith))

same-clause : (n : ℕ) (a b : Assignment) → ((x : ℕ) → x < n → a x ≡ b x) → (c : Clause) →
    AreLiterals n c → clause_value a c ≡ clause_value b c
same-clause n a b same [] right = refl
same-clause n a b same (l ∷ ls) right =
    ap (λ x. x || clause_value a ls) (same-value n a b same l (right l (0, omega arith, refl)))
    ∙ ap (λ x. number_value b l || x) (same-clause n a b same ls
    (λ m there. right m (Contains-append_right (l ∷ []) ls m there)))

same-met : (n : ℕ) (a b : Assignment) → ((x : ℕ) → x < n → a x ≡ b x) → (cs : List Clause) →
    AreClauses n cs → AllMet a cs → AllMet b cs
same-met n a b same [] right h = tt
same-met n a b same (c ∷ cs) right (h, more) = (
  sym (same-clause n a b same c (right c (0, omega arith, refl))) ∙ h,
  same-met n a b same cs (λ d there. right d (Contains-append_right (c ∷ []) cs d there)) more,
)

-- the values of an assignment as a list
pub listed-met : (n : ℕ) (a : Assignment) (cs : List Clause) → AreClauses n cs → AllMet a cs →
    SatisfiesAll (listed 0 n a) cs
listed-met n a cs right h =
    met-satisfied (listed 0 n a) cs (same-met n a (row (listed 0 n a)) same cs right h)
  where
    same : (x : ℕ) → x < n → a x ≡ row (listed 0 n a) x
    same x lt = let e : x ≡ 0 + x = omega arith in ap a e ∙ sym (at-listed 0 n a false x lt)

-- ---- lists of clauses

pub met-append : (a : Assignment) (xs ys : List Clause) →
    AllMet a (xs ++ ys) ↔ (AllMet a xs × AllMet a ys)
met-append a [] ys = (λ h. (tt, h), λ (_, h). h)
met-append a (x ∷ xs) ys =
    let rest = met-append a xs ys in (
      λ (h, more). let (p, q) = rest.0 more in ((h, p), q),
      λ ((h, p), q). (h, rest.1 (p, q)),
    )

pub met-each : (a : Assignment) (f : ℕ → List Clause) (n : ℕ) → AllMet a (for_each f n) →
    (k : ℕ) → k < n → AllMet a (f k)
met-each a f zero h k lt = absurd (omega arith)
met-each a f (suc n) h k lt =
    let (before, here) = (met-append a (for_each f n) (f n)).0 h in
    elim (cases_eq k n) [
      | inl e ↦ let P : ℕ → Type 0 = λ k. AllMet a (f k) in subst P (sym e) here
      | inr apart ↦ met-each a f n before k (omega arith)
    ]

pub each-met : (a : Assignment) (f : ℕ → List Clause) (n : ℕ) →
    ((k : ℕ) → k < n → AllMet a (f k)) → AllMet a (for_each f n)
each-met a f zero all = tt
each-met a f (suc n) all = (met-append a (for_each f n) (f n)).1
    (each-met a f n (λ k lt. all k (omega arith)), all n (omega arith))

or-assoc : (x y z : Bool) → (x || (y || z)) ≡ ((x || y) || z)
or-assoc true y z = refl
or-assoc false y z = refl

clause-append : (a : Assignment) (xs ys : Clause) →
    clause_value a (xs ++ ys) ≡ (clause_value a xs || clause_value a ys)
clause-append a [] ys = refl
clause-append a (x ∷ xs) ys = ap (λ b. number_value a x || b) (clause-append a xs ys)
    ∙ or-assoc (number_value a x) (clause_value a xs) (clause_value a ys)

-- one of the literals that are listed for the numbers below n
pub some-value : (a : Assignment) (f : ℕ → ℤ) (n : ℕ) →
    clause_value a (for_each (λ i. f i ∷ []) n) ≡ true →
    (i : ℕ) × (i < n) × (number_value a (f i) ≡ true)
some-value a f zero h = absurd (cc)
some-value a f (suc n) h =
    let e = clause-append a (for_each (λ i. f i ∷ []) n) (f n ∷ []) in
    elim (or_cases _ _ (sym e ∙ h)) [
      | inl before ↦ let (i, lt, is) = some-value a f n before in (i, omega arith, is)
      | inr here ↦ elim (or_cases _ _ here) [ inl is ↦ (n, omega arith, is) | inr no' ↦ absurd (cc) ]
    ]

pub value-some : (a : Assignment) (f : ℕ → ℤ) (n i : ℕ) → i < n → number_value a (f i) ≡ true →
    clause_value a (for_each (λ i. f i ∷ []) n) ≡ true
value-some a f n i lt h = one-true a (for_each (λ i. f i ∷ []) n) (f i) (there n lt) h
  where
    there : (n : ℕ) → i < n → Contains (for_each (λ i. f i ∷ []) n) (f i)
    there zero lt = absurd (omega arith)
    there (suc n) lt = elim (cases_eq i n) [
      | inl e ↦ Contains-append_right (for_each (λ i. f i ∷ []) n) (f n ∷ []) (f i)
          (0, omega arith, ap f (sym e))
      | inr apart ↦ Contains-append_left (for_each (λ i. f i ∷ []) n) (f n ∷ []) (f i)
          (there n (omega arith))
    ]
