-- Lists whose last trace may wait.
use Rattle.std.proofs.Common.{◌≡◌, ℕ, ◌<◌, not, cond, eqb, true, false, Bool, List, [], ◌∷◌, ◌++◌, Option, Some, None, refl, sym, ap, ◌∙◌}
use Rattle.hy_bits.specs.Letter.{Letter}
use Rattle.hy_formula.proofs.Each.{each-right, each-filter}
use Rattle.trace_trie.specs.Numbered.{Numbered, IsAscending, rest_from, with_number, without_number}
use Rattle.trace_trie.specs.Newests.{waiting, IsLast}
use Rattle.trace_trie.specs.declared.newest.Newest.{Newest}
use Rattle.trace_trie.proofs.Following.{rest-none, rest-some}

pub with-some : (n : ℕ) (xs ys : List Numbered) (t : List Letter) → with_number n xs ≡ Some t
    → with_number n (xs ++ ys) ≡ Some t
with-some n [] ys t e = absurd (cc)
with-some n (x ∷ xs) ys t e = step (eqb x.0 n) e (with-some n xs ys t)
  where
    step : (b : Bool) → cond b (Some x.1) (with_number n xs) ≡ Some t
        → (with_number n xs ≡ Some t → with_number n (xs ++ ys) ≡ Some t)
        → cond b (Some x.1) (with_number n (xs ++ ys)) ≡ Some t
    step true e more = e
    step false e more = more e

pub with-rest : (n : ℕ) (xs ys : List Numbered) → with_number n xs ≡ None
    → with_number n (xs ++ ys) ≡ with_number n ys
with-rest n [] ys e = refl
with-rest n (x ∷ xs) ys e = step (eqb x.0 n) e (with-rest n xs ys)
  where
    step : (b : Bool) → cond b (Some x.1) (with_number n xs) ≡ None
        → (with_number n xs ≡ None → with_number n (xs ++ ys) ≡ with_number n ys)
        → cond b (Some x.1) (with_number n (xs ++ ys)) ≡ with_number n ys
    step true e more = absurd (cc)
    step false e more = more e

-- Numbers that ascend are below that of the trace that waits.
pub ascending-last : (newest : Option Newest) (xs : List Numbered)
    → IsAscending (xs ++ waiting newest) → IsLast newest xs
ascending-last None xs h = tt
ascending-last (Some p) [] h = tt
ascending-last (Some p) (x ∷ xs) h = (
  (each-right (λ (q : Numbered). x.0 < q.0) xs ((p.number, p.trace.value) ∷ []) h.0).0,
  ascending-last (Some p) xs h.1,
)

pub last-without : (n : ℕ) (newest : Option Newest) (xs : List Numbered) → IsLast newest xs
    → IsLast newest (without_number n xs)
last-without n None xs h = tt
last-without n (Some p) xs h =
    each-filter (λ (q : Numbered). q.0 < p.number) (λ (q : Numbered). not (eqb q.0 n)) xs h

-- ---- the traces of a list, and after them others

module _ (n : ℕ) (xs ys : List Numbered) {list : List Numbered} (view_is : xs ++ ys ≡ list) where
  pub with-list : (t : List Letter) → with_number n xs ≡ Some t → with_number n list ≡ Some t
  with-list t e = ap (with_number n) (sym view_is) ∙ with-some n xs ys t e

  pub with-others : with_number n xs ≡ None → with_number n list ≡ with_number n ys
  with-others e = ap (with_number n) (sym view_is) ∙ with-rest n xs ys e

  pub rest-list : (p : Numbered) (more : List Numbered) → rest_from n xs ≡ p ∷ more
      → rest_from n list ≡ p ∷ more ++ ys
  rest-list p more e = ap (rest_from n) (sym view_is) ∙ rest-some n xs ys p more e

  pub rest-others : rest_from n xs ≡ [] → rest_from n list ≡ rest_from n ys
  rest-others e = ap (rest_from n) (sym view_is) ∙ rest-none n xs ys e
