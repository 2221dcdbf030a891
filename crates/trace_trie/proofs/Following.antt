-- What is left of a list from a number on, where the list has two parts.
use Rattle.std.proofs.Common.{◌≡◌, ℕ, ◌<◌, ◌≤◌, Bool, true, false, nat_lt, cond, List, [], ◌∷◌, ◌++◌, refl, ap, ◌∙◌, arith}
use Rattle.std.proofs.lemmas.Bool.{lt-ltb}
use Rattle.hy_formula.specs.Quantifiers.{Each}
use Rattle.trace_trie.specs.Numbered.{Numbered, rest_from}
use Rattle.trace_trie.proofs.Parts.{AtTwo}

pub rest-none : (n : ℕ) (xs ys : List Numbered) → rest_from n xs ≡ []
    → rest_from n (xs ++ ys) ≡ rest_from n ys
rest-none n [] ys e = refl
rest-none n (x ∷ xs) ys e = by (nat_lt x.0 n) e (rest-none n xs ys)
  where
    by : (b : Bool) → cond b (rest_from n xs) (x ∷ xs) ≡ []
        → (rest_from n xs ≡ [] → rest_from n (xs ++ ys) ≡ rest_from n ys)
        → cond b (rest_from n (xs ++ ys)) (x ∷ xs ++ ys) ≡ rest_from n ys
    by true e go = go e
    by false e go = absurd (cc)

pub rest-some : (n : ℕ) (xs ys : List Numbered) (p : Numbered) (more : List Numbered)
    → rest_from n xs ≡ p ∷ more
    → rest_from n (xs ++ ys) ≡ p ∷ more ++ ys
rest-some n [] ys p more e = absurd (cc)
rest-some n (x ∷ xs) ys p more e = by (nat_lt x.0 n) e (rest-some n xs ys p more)
  where
    by : (b : Bool) → cond b (rest_from n xs) (x ∷ xs) ≡ p ∷ more
        → (rest_from n xs ≡ p ∷ more → rest_from n (xs ++ ys) ≡ p ∷ more ++ ys)
        → cond b (rest_from n (xs ++ ys)) (x ∷ xs ++ ys) ≡ p ∷ more ++ ys
    by true e go = go e
    by false e go = ap (λ q. q ++ ys) e

pub rest-below : (n split : ℕ) (xs : List Numbered) → split ≤ n
    → Each (λ (p : Numbered). p.0 < split) xs → rest_from n xs ≡ []
rest-below n split [] le h = refl
rest-below n split (x ∷ xs) le h =
    ap (λ b. cond b (rest_from n xs) (x ∷ xs)) (lt-ltb x.0 n (omega (arith, h.0, le)))
    ∙ rest-below n split xs le h.1

module _ {list l r : List Numbered} {split : ℕ} (n : ℕ) (at : AtTwo list split l r) where
  pub rest-second : split ≤ n → rest_from n list ≡ rest_from n r
  rest-second le =
      ap (rest_from n) at.is ∙ rest-none n l r (rest-below n split l le at.below)

  pub rest-first : (p : Numbered) (more : List Numbered) → rest_from n l ≡ p ∷ more
      → rest_from n list ≡ p ∷ more ++ r
  rest-first p more e = ap (rest_from n) at.is ∙ rest-some n l r p more e

  pub rest-later : rest_from n l ≡ [] → rest_from n list ≡ rest_from n r
  rest-later e = ap (rest_from n) at.is ∙ rest-none n l r e
