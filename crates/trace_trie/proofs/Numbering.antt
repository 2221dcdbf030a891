-- Looking a number up in two lists, and taking it from them; and what a walk along a list knows.
use Rattle.std.proofs.Common.{◌≡◌, ℕ, suc, ◌<◌, ◌≤◌, Bool, true, false, not, cond, List, [], ◌∷◌, ◌++◌, length, drop, Some, None, eqb, get_or, refl, sym, ap, ◌∙◌, arith, drop-cons}
use Rattle.std.proofs.lemmas.Bool.{ne_eqb, le-ltb}
use Rattle.std.proofs.lemmas.List.Elements.{filter-append}
use Rattle.std.specs.List.{filter}
use Rattle.hy_formula.specs.Quantifiers.{Each}
use Rattle.trace_trie.specs.Numbered.{Numbered, with_number, without_number, rest_from}

pub without-other : (n : ℕ) (xs : List Numbered) → Each (λ (p : Numbered). p.0 ≡ n → ⊥) xs → without_number n xs ≡ xs
without-other n [] h = refl
without-other n (x ∷ xs) h =
    let e : eqb x.0 n ≡ false = ne_eqb x.0 n h.0 in
    ap (λ b. cond (not b) (x ∷ without_number n xs) (without_number n xs)) e ∙ ap (λ l. x ∷ l) (without-other n xs h.1)

pub without-append : (n : ℕ) (xs ys : List Numbered) → without_number n (xs ++ ys) ≡ without_number n xs ++ without_number n ys
without-append n xs ys = filter-append (λ (p : Numbered). not (eqb p.0 n)) xs ys

pub with-second : (n : ℕ) (xs ys : List Numbered) → Each (λ (p : Numbered). p.0 ≡ n → ⊥) xs → with_number n (xs ++ ys) ≡ with_number n ys
with-second n [] ys h = refl
with-second n (x ∷ xs) ys h =
    ap (λ b. cond b (Some x.1) (with_number n (xs ++ ys))) (ne_eqb x.0 n h.0) ∙ with-second n xs ys h.1

pub with-none : (n : ℕ) (xs : List Numbered) → Each (λ (p : Numbered). p.0 ≡ n → ⊥) xs → with_number n xs ≡ None
with-none n [] h = refl
with-none n (x ∷ xs) h =
    ap (λ b. cond b (Some x.1) (with_number n xs)) (ne_eqb x.0 n h.0) ∙ with-none n xs h.1

pub with-first : (n : ℕ) (xs ys : List Numbered) → Each (λ (p : Numbered). p.0 ≡ n → ⊥) ys → with_number n (xs ++ ys) ≡ with_number n xs
with-first n [] ys h = with-none n ys h
with-first n (x ∷ xs) ys h = ap (λ l. cond (eqb x.0 n) (Some x.1) l) (with-first n xs ys h)

pub rest-at : (n : ℕ) (xs : List Numbered) (i : ℕ) (x : Numbered) → i < length xs → x ≡ get_or xs i x → n ≤ x.0
    → rest_from n (drop i xs) ≡ x ∷ drop (suc i) xs
rest-at n xs i x lt is le =
    ap (rest_from n) (drop-cons xs i x lt ∙ ap (λ h. h ∷ drop (suc i) xs) (sym is))
    ∙ ap (λ b. cond b (rest_from n (drop (suc i) xs)) (x ∷ drop (suc i) xs)) (le-ltb x.0 n le)

pub no_longer : {A : Type 0} (p : A → Bool) (xs : List A) → length (filter p xs) ≤ length xs
no_longer p [] = omega arith
no_longer {A} p (x ∷ xs) = step (p x) (no_longer p xs)
  where
    step : (b : Bool) → length (filter p xs) ≤ length xs
        → length (cond b (x ∷ filter p xs) (filter p xs)) ≤ suc (length xs)
    step true le = omega arith
    step false le = omega arith
