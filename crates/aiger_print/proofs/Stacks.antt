-- Rows of sections, one section after the other.
use Rattle.std.proofs.Common.{◌≡◌, ℕ, zero, suc, ◌+◌, ◌<◌, List, [], ◌∷◌, ◌++◌, map, length, get_or, take, refl, sym, ◌∙◌, ap, arith, length-append, append_assoc, append-nil}
use Rattle.std.specs.Prelude.{slice_index, slice_index_or, sum}
use Rattle.std.specs.List.{range_with_len}
use Rattle.std.proofs.lemmas.List.{get_or_append_left, get_or-append-add}
use Rattle.std.proofs.lemmas.List.Sums.{sum_by-cons}
use Rattle.std.proofs.lemmas.List.FromFn.{length-map-range_with_len, get_or-map-range_with_len, fill_by_all}

-- row j of section i, for each j below the count of the section
abbrev pub stacked : (ℕ → ℕ → List ℕ) → ℕ → List ℕ → List (List ℕ)
stacked row i [] = []
stacked row i (n ∷ counts) = map (row i) (range_with_len 0 n) ++ stacked row (suc i) counts

pub stacked_long : (row : ℕ → ℕ → List ℕ) (i : ℕ) (cs : List ℕ) → length (stacked row i cs) ≡ sum cs
stacked_long row i [] = refl
stacked_long row i (n ∷ cs) =
    omega (arith, length-append (map (row i) (range_with_len 0 n)) (stacked row (suc i) cs), length-map-range_with_len (row i) 0 n, stacked_long row (suc i) cs, sum_by-cons (λ x. x) n cs)

pub stacked_at : (row : ℕ → ℕ → List ℕ) (i : ℕ) (cs : List ℕ) (q j : ℕ) → q < length cs → j < slice_index cs q → get_or (stacked row i cs) (sum (take q cs) + j) [] ≡ row (i + q) j
stacked_at row i [] q j lt less = absurd (omega arith)
stacked_at row i (n ∷ cs) zero j lt less =
    let p : sum [] + j ≡ j = omega arith in
    let here : i ≡ i + 0 = omega arith in
    ap (λ m. get_or (map (row i) (range_with_len 0 n) ++ stacked row (suc i) cs) m []) p
    ∙ get_or_append_left (map (row i) (range_with_len 0 n)) (stacked row (suc i) cs) [] j (omega (arith, length-map-range_with_len (row i) 0 n, less))
    ∙ get_or-map-range_with_len (row i) 0 n j j [] less (omega arith)
    ∙ ap (λ m. row m j) here
stacked_at row i (n ∷ cs) (suc q) j lt less =
    let p : sum (n ∷ take q cs) + j ≡ length (map (row i) (range_with_len 0 n)) + (sum (take q cs) + j) = omega (arith, sum_by-cons (λ x. x) n (take q cs), length-map-range_with_len (row i) 0 n) in
    let next : suc i + q ≡ i + suc q = omega arith in
    ap (λ m. get_or (map (row i) (range_with_len 0 n) ++ stacked row (suc i) cs) m []) p
    ∙ get_or-append-add (map (row i) (range_with_len 0 n)) (stacked row (suc i) cs) (sum (take q cs) + j) []
    ∙ stacked_at row (suc i) cs q j (omega arith) less
    ∙ ap (λ m. row m j) next

-- a list by its places
pub by_place : (xs : List ℕ) → map (λ j. slice_index_or xs j 0) (range_with_len 0 (length xs)) ≡ xs
by_place xs = sym (fill_by_all (λ j. slice_index_or xs j 0) xs (length xs) 0 refl (λ k lt. refl))

-- the same values at the same places
pub same_range : {A : Type 0} (f g : ℕ → A) (b c n : ℕ) → ((j : ℕ) → j < n → f (b + j) ≡ g (c + j)) → map f (range_with_len b n) ≡ map g (range_with_len c n)
same_range f g b c zero each = refl
same_range f g b c (suc n) each =
    let p : b ≡ b + 0 = omega arith in
    let q : c + 0 ≡ c = omega arith in
    let next : (j : ℕ) → j < n → f (b + 1 + j) ≡ g (c + 1 + j) = λ j lt. (let r : b + 1 + j ≡ b + suc j = omega arith in let s : c + suc j ≡ c + 1 + j = omega arith in ap f r ∙ each (suc j) (omega arith) ∙ ap g s) in
    ap (λ y. y ∷ map f (range_with_len (b + 1) n)) (ap f p ∙ each 0 (omega arith) ∙ ap g q) ∙ ap (λ l. g c ∷ l) (same_range f g (b + 1) (c + 1) n next)

pub joined : (h i l o c f a n : List ℕ) → (((((h ++ i) ++ l) ++ ((o ++ c) ++ f)) ++ a) ++ n) ≡ h ++ ((i ++ (l ++ (o ++ (c ++ (f ++ (a ++ [])))))) ++ n)
joined h i l o c f a n = simp (append_assoc, append-nil) refl
