-- Elements of lists by their places.
use Rattle.std.proofs.Common.{◌≡◌, ℕ, zero, suc, ◌<◌, ◌⊎◌, Bool, true, false, not, List, [], ◌∷◌, ◌++◌, length, inl, inr, sym, ap, ◌∙◌, arith, get_or, length-append}
use Rattle.std.proofs.lemmas.Bool.{cases_lt}
use Rattle.std.proofs.lemmas.List.{get_or_append_left}
use Rattle.std.proofs.Math.Seq.{get_or-append_seam}
use Rattle.dominance.specs.Leaders.{IsAt}
use Rattle.hy_formula.specs.Quantifiers.{Each}

-- at a place there is one member
pub at-one : {A : Type 0} (list : List A) (k : ℕ) (x y : A) → IsAt list k x → IsAt list k y → x ≡ y
at-one [] k x y (lt, e) q = absurd (omega arith)
at-one (z ∷ zs) zero x y (lt, e) (lt', e') = sym e ∙ e'
at-one (z ∷ zs) (suc k) x y (lt, e) (lt', e') = at-one zs k x y (omega arith, e) (omega arith, e')

pub at-push_old : {A : Type 0} (list : List A) (t : A) (k : ℕ) (x : A) → IsAt list k x
    → IsAt (list ++ t ∷ []) k x
at-push_old list t k x (lt, e) = let l = length-append list (t ∷ []) in
    (omega (arith, l), get_or_append_left list (t ∷ []) x k lt ∙ e)

pub at-push_new : {A : Type 0} (list : List A) (t : A) → IsAt (list ++ t ∷ []) (length list) t
at-push_new list t = let l = length-append list (t ∷ []) in
    (omega (arith, l), get_or-append_seam list t [] t)

pub at-push_cases : {A : Type 0} (list : List A) (t : A) (k : ℕ) (x : A) → IsAt (list ++ t ∷ []) k x
    → IsAt list k x ⊎ ((k ≡ length list) × (t ≡ x))
at-push_cases list t k x (lt, e) =
    let l = length-append list (t ∷ []) in
    elim (cases_lt k (length list)) [
      | inl old ↦ inl (old, sym (get_or_append_left list (t ∷ []) x k old) ∙ e)
      | inr past ↦
          let same : k ≡ length list = omega (arith, l) in
          inr (
            same,
            sym (get_or-append_seam list t [] x)
                ∙ ap (λ q. get_or (list ++ t ∷ []) q x) (sym same) ∙ e,
          )
    ]

pub not-true : (b : Bool) → not b ≡ true → ¬ (b ≡ true)
not-true true e f = cc
not-true false e f = cc

-- what holds of each number of a list
pub each-below : (n : ℕ) (path : List ℕ) → Each (λ (k : ℕ). k < n) path → (i : ℕ) → i < length path
    → get_or path i 0 < n
each-below n [] h i lt = absurd (omega arith)
each-below n (k ∷ ks) (here, h) zero lt = here
each-below n (k ∷ ks) (here, h) (suc i) lt = each-below n ks h i (omega arith)
