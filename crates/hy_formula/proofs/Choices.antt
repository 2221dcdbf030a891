-- Quantifiers over members of which one with a property can be found where the property is decided.
use Rattle.std.proofs.Common.{ℕ, zero, suc, ◌<◌, ◌↔◌, List, [], ◌∷◌, map, inl, inr, subst, arith}
use Rattle.std.proofs.lemmas.Bool.{cases_eq}
use Rattle.hy_formula.specs.Trees.{Tree, not}
use Rattle.hy_formula.specs.Temporal.{Span, Words, SatisfiesAt, Decided, IsDecided}
use Rattle.hy_formula.specs.declared.prefix.Quant.{Quant}
use Rattle.hy_formula.specs.declared.prefix.Quant.TheVariants.{Exists, Forall}
use Rattle.hy_formula.specs.Quantifiers.{Quantified, turned, Each}
use Rattle.hy_formula.proofs.Deciding.{decided-not}

module _ {A : Type 0} (Member : A → Type 0) where
  -- whether some member has a property is known where it is known of each
  abbrev pub IsSearched : Type 1
  IsSearched = (P : A → Type 0) → ((x : A) → Member x → Decided (P x)) → Decided ((x : A) × Member x × P x)

  -- what is said is decided on the tuples of members
  abbrev pub KnownBody : (List A → Type 0) → Type 0
  KnownBody Body = (tuple : List A) → Each Member tuple → Decided (Body tuple)

  after-choice : (Body : List A → Type 0) → KnownBody Body → (x : A) → Member x → KnownBody (λ tuple. Body (x ∷ tuple))
  after-choice Body d x m tuple ms = d (x ∷ tuple) (m, ms)

  decided-all : IsSearched → (P : A → Type 0) → ((x : A) → Member x → Decided (P x)) → Decided ((x : A) → Member x → P x)
  decided-all find P d =
      elim (find (λ x. ¬ P x) (λ x m. decided-not (d x m))) [
        | inl (x, m, n) ↦ inr (λ all. n (all x m))
        | inr none ↦ inl (λ x m. elim (d x m) [ inl p ↦ p | inr n ↦ absurd (none (x, m, n)) ])
      ]

  pub decided-quantified : IsSearched → (Body : List A → Type 0) → KnownBody Body → (prefix : List Quant) → Decided (Quantified Member Body prefix)
  decided-quantified find Body d [] = d [] tt
  decided-quantified find Body d (Exists ∷ prefix) =
      find _ (λ x m. decided-quantified find (λ tuple. Body (x ∷ tuple)) (after-choice Body d x m) prefix)
  decided-quantified find Body d (Forall ∷ prefix) =
      decided-all find _ (λ x m. decided-quantified find (λ tuple. Body (x ∷ tuple)) (after-choice Body d x m) prefix)

  -- The prefix turned and the body negated are the negation.
  pub negated : IsSearched → (Body : List A → Type 0) → KnownBody Body → (prefix : List Quant)
      → Quantified Member (λ tuple. ¬ Body tuple) (map turned prefix) ↔ (¬ Quantified Member Body prefix)
  negated find Body d [] = (λ n. n, λ n. n)
  negated find Body d (Exists ∷ prefix) = (
    λ all (x, m, q). (negated find (λ tuple. Body (x ∷ tuple)) (after-choice Body d x m) prefix).0 (all x m) q,
    λ n x m. (negated find (λ tuple. Body (x ∷ tuple)) (after-choice Body d x m) prefix).1 (λ q. n (x, m, q)),
  )
  negated find Body d (Forall ∷ prefix) =
      let known : (x : A) → Member x → Decided (Quantified Member (λ tuple. Body (x ∷ tuple)) prefix) =
      λ x m. decided-quantified find (λ tuple. Body (x ∷ tuple)) (after-choice Body d x m) prefix in (
        λ (x, m, q) all. (negated find (λ tuple. Body (x ∷ tuple)) (after-choice Body d x m) prefix).0 q (all x m),
        λ n.
            elim (find (λ x. ¬ Quantified Member (λ tuple. Body (x ∷ tuple)) prefix) (λ x m. decided-not (known x m))) [
              | inl (x, m, no_q) ↦ (x, m, (negated find (λ tuple. Body (x ∷ tuple)) (after-choice Body d x m) prefix).1 no_q)
              | inr none ↦ absurd (n (λ x m. elim (known x m) [ inl q ↦ q | inr no_q ↦ absurd (none (x, m, no_q)) ]))
            ],
      )

-- Of the numbers below n one with a property is found.
searched-below : (n : ℕ) → IsSearched (λ k. k < n)
searched-below zero P d = inr (λ (k, lt, p). omega arith)
searched-below (suc n) P d = step (d n (omega arith)) (searched-below n P (λ k lt. d k (omega arith)))
  where
    step : Decided (P n) → Decided ((k : ℕ) × (k < n) × P k) → Decided ((k : ℕ) × (k < suc n) × P k)
    step (inl p) _ = inl (n, omega arith, p)
    step (inr not_p) (inl (k, lt, p)) = inl (k, omega arith, p)
    step (inr not_p) (inr none) =
        inr (λ (k, lt, p). elim (cases_eq k n) [ inl e ↦ not_p (subst P e p) | inr apart ↦ none (k, omega arith, p) ])

pub negated-below : (n : ℕ) (span : Span) (words : List ℕ → Words) → ((tuple : List ℕ) → IsDecided span (words tuple)) → (prefix : List Quant) (body : Tree)
    → Quantified (λ k. k < n) (λ tuple. SatisfiesAt span (words tuple) (not body) 0) (map turned prefix)
    ↔ (¬ Quantified (λ k. k < n) (λ tuple. SatisfiesAt span (words tuple) body 0) prefix)
negated-below n span words d prefix body =
    negated (λ k. k < n) (searched-below n) (λ tuple. SatisfiesAt span (words tuple) body 0) (λ tuple m. d tuple body 0) prefix
