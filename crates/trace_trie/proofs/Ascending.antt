-- Lists whose numbers ascend.
use Rattle.std.proofs.Common.{◌≡◌, ℕ, ◌<◌, Bool, true, false, not, cond, eqb, List, [], ◌∷◌, ◌++◌, Some, None, refl, ap, arith}
use Rattle.std.proofs.lemmas.Bool.{eqb-true, eqb-false}
use Rattle.std.specs.List.{filter}
use Rattle.hy_bits.specs.Letter.{Letter}
use Rattle.hy_formula.specs.Quantifiers.{Each}
use Rattle.hy_formula.proofs.Each.{each-append, each-filter, each-like}
use Rattle.trace_trie.specs.Numbered.{Numbered, IsAscending, with_number, without_number}

pub ascending-push : (xs : List Numbered) (p : Numbered) → IsAscending xs → Each (λ (q : Numbered). q.0 < p.0) xs → IsAscending (xs ++ p ∷ [])
ascending-push [] p h k = (tt, tt)
ascending-push (x ∷ xs) p h k = (each-append (λ (q : Numbered). x.0 < q.0) xs (p ∷ []) h.0 (k.0, tt), ascending-push xs p h.1 k.1)

pub ascending-filter : (f : Numbered → Bool) (xs : List Numbered) → IsAscending xs → IsAscending (filter f xs)
ascending-filter f [] h = tt
ascending-filter f (x ∷ xs) h = step (f x) (ascending-filter f xs h.1)
  where
    step : (b : Bool) → IsAscending (filter f xs) → IsAscending (cond b (x ∷ filter f xs) (filter f xs))
    step true k = (each-filter (λ (q : Numbered). x.0 < q.0) f xs h.0, k)
    step false k = k

-- only one trace has a number
pub only-number : (n : ℕ) (t : List Letter) (xs : List Numbered) → IsAscending xs → with_number n xs ≡ Some t → Each (λ (p : Numbered). p.0 ≡ n → p.1 ≡ t) xs
only-number n t [] h e = tt
only-number n t (x ∷ xs) h e = step (eqb x.0 n) refl e (only-number n t xs h.1)
  where
    some-is : (u : List Letter) → Some u ≡ Some t → u ≡ t
    some-is u e = cc

    step : (b : Bool) → eqb x.0 n ≡ b → cond b (Some x.1) (with_number n xs) ≡ Some t → (with_number n xs ≡ Some t → Each (λ (p : Numbered). p.0 ≡ n → p.1 ≡ t) xs)
        → Each (λ (p : Numbered). p.0 ≡ n → p.1 ≡ t) (x ∷ xs)
    step true f g more =
        let here = eqb-true x.0 n f in
        (λ k. some-is x.1 g, each-like (λ (q : Numbered). x.0 < q.0) (λ (p : Numbered). p.0 ≡ n → p.1 ≡ t) (λ p lt k. absurd (omega arith)) xs h.0)
    step false f g more = (λ k. absurd (eqb-false x.0 n f k), more g)

pub without-none : (n : ℕ) (xs : List Numbered) → with_number n xs ≡ None → without_number n xs ≡ xs
without-none n [] e = refl
without-none n (x ∷ xs) e = step (eqb x.0 n) e (without-none n xs)
  where
    step : (b : Bool) → cond b (Some x.1) (with_number n xs) ≡ None → (with_number n xs ≡ None → without_number n xs ≡ xs)
        → cond (not b) (x ∷ without_number n xs) (without_number n xs) ≡ x ∷ xs
    step true f more = absurd (cc)
    step false f more = ap (λ l. x ∷ l) (more f)
