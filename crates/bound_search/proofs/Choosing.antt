-- What is drawn for quantifiers says what they say, and takes so many gates.
use Rattle.std.proofs.Common.{◌≡◌, ℕ, zero, suc, ◌*◌, ◌<◌, ◌⊎◌, ◌↔◌, true, List, [], ◌∷◌, length, map, inl, inr, refl, sym, ap, ◌∙◌, subst, arith}
use Rattle.std.specs.Prelude.{ℤ}
use Rattle.std.proofs.lemmas.Bool.{cases_eq}
use Rattle.hy_formula.specs.declared.prefix.Quant.{Quant}
use Rattle.hy_formula.specs.declared.prefix.Quant.TheVariants.{Exists, Forall}
use Rattle.hy_formula.specs.Quantifiers.{Quantified, Each, AreMatched}
use Rattle.hy_formula.proofs.Matching.{matched}
use Rattle.chain_check.specs.Clauses.{IsLiteral}
use Rattle.chain_check.specs.Values.{Assignment}
use Rattle.bound_search.specs.Drawings.{Drawing, both, either, sure, never}
use Rattle.bound_search.specs.Choices.{joined, chosen, chosen_gates}
use Rattle.bound_search.proofs.RightGates.{Gives, gives-plain, gives-followed, gives-like}
use Rattle.bound_search.proofs.Saying.{Says, says-like, says-sure, says-never, says-both, says-either}
use Rattle.bound_search.proofs.Fitting.{Fits, fits-plain, fits-followed, fits-later, fits-counted, literal-more, fits-both, fits-either}

-- P holds of some number below n, and of each
abbrev pub SomeBelow : ℕ → (ℕ → Type 0) → Type 0
SomeBelow n P = (k : ℕ) × (k < n) × P k

abbrev pub EachBelow : ℕ → (ℕ → Type 0) → Type 0
EachBelow n P = (k : ℕ) → k < n → P k

some-more : (n : ℕ) (P : ℕ → Type 0) → SomeBelow (suc n) P ↔ (SomeBelow n P ⊎ P n)
some-more n P = (to, back)
  where
    to : SomeBelow (suc n) P → SomeBelow n P ⊎ P n
    to (k, lt, p) = elim (cases_eq k n) [
      | inl e ↦ inr (subst P e p)
      | inr apart ↦ inl (k, omega arith, p)
    ]

    back : SomeBelow n P ⊎ P n → SomeBelow (suc n) P
    back (inl (k, lt, p)) = (k, omega arith, p)
    back (inr p) = (n, omega arith, p)

each-more : (n : ℕ) (P : ℕ → Type 0) → EachBelow (suc n) P ↔ (EachBelow n P × P n)
each-more n P = (
  λ all. (λ k lt. all k (omega arith), all n (omega arith)),
  λ (all, p) k lt. elim (cases_eq k n) [
    | inl e ↦ subst P (sym e) p
    | inr apart ↦ all k (omega arith)
  ],
)

module _ {A : Type 0} (n : ℕ) (member : ℕ → A) where
  -- one of the n members
  abbrev pub IsMember : A → Type 0
  IsMember x = SomeBelow n (λ k. member k ≡ x)

  some-member : (P : A → Type 0) → SomeBelow n (λ k. P (member k)) ↔ ((x : A) × IsMember x × P x)
  some-member P = (
    λ (k, lt, p). (member k, (k, lt, refl), p),
    λ (x, (k, lt, e), p). (k, lt, subst P (sym e) p),
  )

  each-member : (P : A → Type 0) →
      EachBelow n (λ k. P (member k)) ↔ ((x : A) → IsMember x → P x)
  each-member P = (
    λ all x (k, lt, e). subst P e (all k lt),
    λ all k lt. all (member k) (k, lt, refl),
  )

-- Quantifiers over the same members say the same.
pub quantified-same : {A : Type 0} (M N : A → Type 0) → ((x : A) → M x ↔ N x) →
    (prefix : List Quant) (Body : List A → Type 0) → Quantified M Body prefix →
    Quantified N Body prefix
quantified-same {A} M N same prefix Body =
    (matched M N (λ x y. x ≡ y) (record {
      there = λ x m. (x, (same x).0 m, refl);
      back = λ x n. (x, (same x).1 n, refl);
    }) Body Body (λ xs ys match. (subst Body (equal xs ys match), subst Body (sym (equal xs ys match))))
    prefix).0
  where
    equal : (xs ys : List A) → AreMatched (λ x y. x ≡ y) xs ys → xs ≡ ys
    equal [] [] match = refl
    equal [] (y ∷ ys) match = absurd match
    equal (x ∷ xs) [] match = absurd match
    equal (x ∷ xs) (y ∷ ys) (e, match) =
        ap (λ z. z ∷ xs) e ∙ ap (λ l. y ∷ l) (equal xs ys match)

module _ (a : Assignment) (sure_is : a 0 ≡ true) where
  -- the drawing says what holds
  abbrev pub GivesLiteral : Drawing ℤ → Type 0 → Type 0
  GivesLiteral drawing P = Gives a drawing (λ l. Says a l P)

  literal-like : (drawing : Drawing ℤ) (P Q : Type 0) → P ↔ Q → GivesLiteral drawing P →
      GivesLiteral drawing Q
  literal-like drawing P Q same = gives-like a drawing _ _ (λ l. says-like a l P Q same.0 same.1)

  says-some : (each : ℕ → Drawing ℤ) (P : ℕ → Type 0) (n : ℕ) →
      ((k : ℕ) → k < n → GivesLiteral (each k) (P k)) →
      GivesLiteral (joined either never each n) (SomeBelow n P)
  says-some each P zero all = gives-plain a never _
      (says-like a never ⊥ _ (λ h. absurd h) (λ (k, lt, p). omega arith) (says-never a sure_is))
  says-some each P (suc n) all =
      let same = some-more n P in
      literal-like _ (SomeBelow n P ⊎ P n) _ (same.1, same.0)
      (gives-followed a _ _ _ _ (says-some each P n (λ k lt. all k (omega arith))) (λ before s.
      gives-followed a _ _ _ _ (all n (omega arith)) (λ here t.
      says-either a before here (SomeBelow n P) (P n) s t)))

  says-each : (each : ℕ → Drawing ℤ) (P : ℕ → Type 0) (n : ℕ) →
      ((k : ℕ) → k < n → GivesLiteral (each k) (P k)) →
      GivesLiteral (joined both sure each n) (EachBelow n P)
  says-each each P zero all = gives-plain a sure _
      (says-like a sure (Unit {0}) _ (λ _ k lt. absurd (omega arith)) (λ _. tt)
      (says-sure a sure_is))
  says-each each P (suc n) all =
      let same = each-more n P in
      literal-like _ (EachBelow n P × P n) _ (same.1, same.0)
      (gives-followed a _ _ _ _ (says-each each P n (λ k lt. all k (omega arith))) (λ before s.
      gives-followed a _ _ _ _ (all n (omega arith)) (λ here t.
      says-both a before here (EachBelow n P) (P n) s t)))

  module _ {A : Type 0} (n : ℕ) (member : ℕ → A) where
    pub says-chosen : (prefix : List Quant) (body : List ℕ → Drawing ℤ) (Body : List A → Type 0) →
        ((tuple : List ℕ) → length tuple ≡ length prefix → Each (λ k. k < n) tuple →
        GivesLiteral (body tuple) (Body (map member tuple))) →
        GivesLiteral (chosen n body prefix) (Quantified (IsMember n member) Body prefix)
    says-chosen [] body Body all = all [] refl tt
    says-chosen (Exists ∷ prefix) body Body all =
        literal-like _ _ _ (some-member n member (λ x. Quantified (IsMember n member)
        (λ tuple. Body (x ∷ tuple)) prefix))
        (says-some _ _ n (λ k lt. says-chosen prefix (λ tuple. body (k ∷ tuple))
        (λ tuple. Body (member k ∷ tuple)) (λ tuple long each.
        all (k ∷ tuple) (ap suc long) (lt, each))))
    says-chosen (Forall ∷ prefix) body Body all =
        literal-like _ _ _ (each-member n member (λ x. Quantified (IsMember n member)
        (λ tuple. Body (x ∷ tuple)) prefix))
        (says-each _ _ n (λ k lt. says-chosen prefix (λ tuple. body (k ∷ tuple))
        (λ tuple. Body (member k ∷ tuple)) (λ tuple long each.
        all (k ∷ tuple) (ap suc long) (lt, each))))

-- ---- which gates

fits-joined : (join : ℤ → ℤ → Drawing ℤ) (none : ℤ) (each : ℕ → Drawing ℤ) (n g : ℕ) →
    ((m : ℕ) (l r : ℤ) → IsLiteral m l → IsLiteral m r → Fits (join l r) m 1 IsLiteral) →
    IsLiteral n none → (t : ℕ) → ((k : ℕ) → k < t → Fits (each k) n g IsLiteral) →
    Fits (joined join none each t) n (t * suc g) IsLiteral
fits-joined join none each n g join_fits h zero all =
    fits-counted _ n 0 _ IsLiteral (omega arith)
    (fits-plain none n IsLiteral (λ m le. literal-more n m none le h))
fits-joined join none each n g join_fits h (suc t) all =
    fits-followed _ _ n (t * suc g) (suc g) (suc t * suc g) IsLiteral IsLiteral (omega arith)
    (fits-joined join none each n g join_fits h t (λ k lt. all k (omega arith)))
    (λ m before le b.
    fits-followed _ _ m g 1 (suc g) IsLiteral IsLiteral (omega arith)
    (fits-later _ n m g IsLiteral le (all t (omega arith)))
    (λ o here more i. join_fits o before here (literal-more m o before more b) i))

pub fits-chosen : (t n g : ℕ) → 0 < n → (prefix : List Quant) (body : List ℕ → Drawing ℤ) →
    ((tuple : List ℕ) → length tuple ≡ length prefix → Each (λ k. k < t) tuple →
    Fits (body tuple) n g IsLiteral) → Fits (chosen t body prefix) n (chosen_gates t g
    (length prefix)) IsLiteral
fits-chosen t n g some [] body all = all [] refl tt
fits-chosen t n g some (Exists ∷ prefix) body all =
    fits-joined either never _ n _ fits-either (omega arith, omega arith) t (λ k lt.
    fits-chosen t n g some prefix (λ tuple. body (k ∷ tuple)) (λ tuple long each.
    all (k ∷ tuple) (ap suc long) (lt, each)))
fits-chosen t n g some (Forall ∷ prefix) body all =
    fits-joined both sure _ n _ fits-both (omega arith, omega arith) t (λ k lt.
    fits-chosen t n g some prefix (λ tuple. body (k ∷ tuple)) (λ tuple long each.
    all (k ∷ tuple) (ap suc long) (lt, each)))
