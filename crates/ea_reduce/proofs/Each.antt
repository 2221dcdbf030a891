-- What holds of each element of a list, after maps and joins.
use Rattle.std.proofs.Common.{ℕ, zero, suc, ◌+◌, ◌<◌, ◌≤◌, List, [], ◌∷◌, subst, inl, inr, arith}
use Rattle.std.specs.List.{All, flat_map, range_with_len}
use Rattle.std.proofs.lemmas.List.Elements.{All-nil, All-cons}
use Rattle.std.proofs.lemmas.Bool.{cases_order}
use Rattle.hy_formula.specs.Quantifiers.{Each}
use Rattle.hy_formula.proofs.Each.{each-append, each-left, each-right}

module _ {A : Type 0} (P : A → Type 0) where
  -- of the lists for the numbers from a on
  pub each-range : (f : ℕ → List A) (a n : ℕ) → ((k : ℕ) → a ≤ k → k < a + n → Each P (f k)) → Each P (flat_map f (range_with_len a n))
  each-range f a zero h = tt
  each-range f a (suc n) h =
      each-append P (f a) (flat_map f (range_with_len (a + 1) n)) (h a (omega arith) (omega arith)) (each-range f (a + 1) n (λ k le lt. h k (omega arith) (omega arith)))

  pub each-in_range : (f : ℕ → List A) (a n : ℕ) → Each P (flat_map f (range_with_len a n)) → (k : ℕ) → a ≤ k → k < a + n → Each P (f k)
  each-in_range f a zero h k le lt = absurd (omega arith)
  each-in_range f a (suc n) h k le lt = elim (cases_order a k) [
    | inl e ↦ subst (λ j. Each P (f j)) e (each-left P (f a) (flat_map f (range_with_len (a + 1) n)) h)
    | inr (inr below) ↦ absurd (omega arith)
    | inr (inl past) ↦ each-in_range f (a + 1) n (each-right P (f a) (flat_map f (range_with_len (a + 1) n)) h) k (omega arith) (omega arith)
  ]

  pub each-all : (xs : List A) → Each P xs → All P xs
  each-all [] h = All-nil P
  each-all (x ∷ xs) (p, h) = All-cons P x xs p (each-all xs h)

pub each-both : {A : Type 0} (P Q R : A → Type 0) → ((x : A) → P x → Q x → R x) → (xs : List A) → Each P xs → Each Q xs → Each R xs
each-both P Q R f [] g h = tt
each-both P Q R f (x ∷ xs) (p, g) (q, h) = (f x p q, each-both P Q R f xs g h)
