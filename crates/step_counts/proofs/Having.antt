-- Tuples of words, and those that have a given word.
use Rattle.std.proofs.Common.{◌≡◌, ℕ, zero, suc, ◌*◌, ◌^◌, ◌⊎◌, List, [], ◌∷◌, ◌++◌, length, map, inl, inr, refl, sym, ap, ◌∙◌, subst, arith, length-append}
use Rattle.std.specs.List.{Contains}
use Rattle.std.proofs.Math.Nat.{pow-zero, pow-succ'}
use Rattle.std.proofs.lemmas.List.{length-map}
use Rattle.std.proofs.lemmas.List.Elements.{Contains-append_left, Contains-append_right}
use Rattle.hy_base.proofs.Members.{contains-here, contains-later, contains-cases, contains-none, map-of}
use Rattle.hy_formula.specs.Quantifiers.{Each}
use Rattle.step_counts.specs.Branches.{firsts_with, tuples_with}

module _ {A : Type 0} where
  -- each of the heads before each of the tails
  abbrev pub before : List A → List (List A) → List (List A)
  before [] tails = []
  before (x ∷ xs) tails = map (λ (r : List A). x ∷ r) tails ++ before xs tails

  abbrev pub tuples : List A → ℕ → List (List A)
  tuples xs zero = [] ∷ []
  tuples xs (suc n) = before xs (tuples xs n)

  -- the tuples of n of x and xs that have x first
  abbrev pub firsts : A → List A → ℕ → List (List A)
  firsts x xs zero = []
  firsts x xs (suc n) = map (λ (r : List A). x ∷ r) (tuples (x ∷ xs) n)

  -- those that have it somewhere
  abbrev pub having : A → List A → ℕ → List (List A)
  having x xs zero = []
  having x xs (suc n) = firsts x xs (suc n) ++ before xs (having x xs n)

  -- ---- how many

  long-before : (xs : List A) (tails : List (List A))
      → length (before xs tails) ≡ length xs * length tails
  long-before [] tails = omega arith
  long-before (x ∷ xs) tails =
      let heads = map (λ (r : List A). x ∷ r) tails in
      omega (
        arith,
        length-append heads (before xs tails),
        length-map tails (λ (r : List A). x ∷ r),
        long-before xs tails,
      )

  long-tuples : (xs : List A) (n : ℕ) → length (tuples xs n) ≡ length xs ^ n
  long-tuples xs zero = sym (pow-zero (length xs))
  long-tuples xs (suc n) =
      long-before xs (tuples xs n) ∙ ap (λ k. length xs * k) (long-tuples xs n)
      ∙ sym (pow-succ' (length xs) n)

  pub long-firsts : (x : A) (xs : List A) (n : ℕ)
      → length (firsts x xs n) ≡ firsts_with n (length xs)
  long-firsts x xs zero = refl
  long-firsts x xs (suc n) =
      length-map (tuples (x ∷ xs) n) (λ (r : List A). x ∷ r) ∙ long-tuples (x ∷ xs) n

  pub long-having : (x : A) (xs : List A) (n : ℕ)
      → length (having x xs n) ≡ tuples_with n (length xs)
  long-having x xs zero = refl
  long-having x xs (suc n) =
      let rest = long-before xs (having x xs n)
      ∙ ap (λ k. length xs * k) (long-having x xs n) in
      omega (
        arith,
        length-append (firsts x xs (suc n)) (before xs (having x xs n)),
        long-firsts x xs (suc n),
        rest,
      )

  -- ---- which

  in-before : (xs : List A) (tails : List (List A)) (x : A) (r : List A) → Contains xs x
      → Contains tails r → Contains (before xs tails) (x ∷ r)
  in-before [] tails x r c d = absurd (contains-none x c)
  in-before (y ∷ ys) tails x r c d =
      let heads = map (λ (s : List A). y ∷ s) tails in
      elim (contains-cases y x ys c) [
        | inl e ↦
            let P : A → Type 0 = λ z. Contains (before (y ∷ ys) tails) (z ∷ r) in
            subst P e
            (Contains-append_left heads (before ys tails) (y ∷ r)
            (map-of (λ (s : List A). y ∷ s) tails r d))
        | inr later ↦
            Contains-append_right heads (before ys tails) (x ∷ r)
            (in-before ys tails x r later d)
      ]

  in-tuples : (xs r : List A) → Each (Contains xs) r → Contains (tuples xs (length r)) r
  in-tuples xs [] each = contains-here [] []
  in-tuples xs (x ∷ r) each =
      in-before xs (tuples xs (length r)) x r each.0 (in-tuples xs r each.1)

  module _ (x : A) (xs : List A) where
    abbrev pub Is : A → Type 0
    Is w = (w ≡ x) ⊎ Contains xs w

    among : (r : List A) → Each Is r → Each (Contains (x ∷ xs)) r
    among [] each = tt
    among (w ∷ ws) each =
        let P : A → Type 0 = Contains (x ∷ xs) in (
          elim each.0 [
            | inl e ↦ subst P (sym e) (contains-here x xs)
            | inr c ↦ contains-later x w xs c
          ],
          among ws each.1,
        )

    pub in-firsts : (ws : List A) → Each Is ws → Contains (firsts x xs (suc (length ws))) (x ∷ ws)
    in-firsts ws each =
        map-of (λ (r : List A). x ∷ r) (tuples (x ∷ xs) (length ws)) ws
        (in-tuples (x ∷ xs) ws (among ws each))

    with-first : (w : A) (ws : List A) → w ≡ x → Each Is ws
        → Contains (having x xs (suc (length ws))) (w ∷ ws)
    with-first w ws e each =
        let P : A → Type 0 = λ z. Contains (having x xs (suc (length ws))) (z ∷ ws) in
        subst P (sym e)
        (Contains-append_left (firsts x xs (suc (length ws)))
        (before xs (having x xs (length ws))) (x ∷ ws) (in-firsts ws each))

    pub in-having : (r : List A) → Each Is r → Contains r x → Contains (having x xs (length r)) r
    in-having [] each c = absurd (contains-none x c)
    in-having (w ∷ ws) each c =
        elim (contains-cases w x ws c) [
          | inl e ↦ with-first w ws e each.1
          | inr later ↦ elim each.0 [
            | inl e ↦ with-first w ws e each.1
            | inr d ↦
                Contains-append_right (firsts x xs (suc (length ws)))
                (before xs (having x xs (length ws))) (w ∷ ws)
                (in-before xs (having x xs (length ws)) w ws d (in-having ws each.1 later))
          ]
        ]
