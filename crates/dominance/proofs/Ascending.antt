-- The leaders of a list are one list.
use Rattle.std.proofs.Common.{◌≡◌, ◌<◌, ◌⊎◌, List, [], ◌∷◌, inl, inr, refl, sym, ap, ◌∙◌, arith}
use Rattle.std.specs.List.{Contains}
use Rattle.hy_base.proofs.Members.{contains-here, contains-later, contains-cases, contains-none}
use Rattle.hy_formula.specs.Quantifiers.{Each}
use Rattle.hy_formula.proofs.Each.{each-at}
use Rattle.dominance.specs.Leaders.{Numbered, IsAscending, AreLeaders}

not-below : {A : Type 0} (x : Numbered A) (xs : List (Numbered A))
    → Each (λ (y : Numbered A). x.number < y.number) xs → (y : Numbered A) → y.number ≡ x.number
    → ¬ Contains xs y
not-below {A} x xs below y e c = let lt : x.number < y.number =
    each-at (λ (y : Numbered A). x.number < y.number) xs y below c in omega arith

pub ascending-same : {A : Type 0} (xs ys : List (Numbered A)) → IsAscending xs → IsAscending ys
    → ((x : Numbered A) → Contains xs x → Contains ys x)
    → ((x : Numbered A) → Contains ys x → Contains xs x) → xs ≡ ys
ascending-same [] [] p q f g = refl
ascending-same [] (y ∷ ys) p q f g = absurd (contains-none y (g y (contains-here y ys)))
ascending-same (x ∷ xs) [] p q f g = absurd (contains-none x (f x (contains-here x xs)))
ascending-same {A} (x ∷ xs) (y ∷ ys) (bx, p) (by, q) f g =
    joined (contains-cases y x ys (f x (contains-here x xs)))
    (contains-cases x y xs (g y (contains-here y ys))) (λ h k. ascending-same xs ys p q h k)
  where
    joined : (y ≡ x) ⊎ Contains ys x → (x ≡ y) ⊎ Contains xs y
        → (((z : Numbered A) → Contains xs z → Contains ys z)
        → ((z : Numbered A) → Contains ys z → Contains xs z) → xs ≡ ys) → x ∷ xs ≡ y ∷ ys
    joined (inr later) (inl e) more =
        absurd (not-below y ys by x (ap (λ (z : Numbered A). z.number) e) later)
    joined (inr later) (inr later') more =
        let a : y.number < x.number =
        each-at (λ (z : Numbered A). y.number < z.number) ys x by later in
        let b : x.number < y.number =
        each-at (λ (z : Numbered A). x.number < z.number) xs y bx later' in
        absurd (omega arith)
    joined (inl e) there more =
        let rest : xs ≡ ys = more
        (λ z c. elim (contains-cases y z ys (f z (contains-later x z xs c))) [
          | inl s ↦
              absurd (not-below x xs bx z (ap (λ (w : Numbered A). w.number) (sym s ∙ e)) c)
          | inr d ↦ d
        ])
        (λ z c. elim (contains-cases x z xs (g z (contains-later y z ys c))) [
          | inl s ↦
              absurd (not-below y ys by z (ap (λ (w : Numbered A). w.number) (sym s ∙ sym e)) c)
          | inr d ↦ d
        ]) in
        ap (λ z. z ∷ xs) (sym e) ∙ ap (λ z. y ∷ z) rest

-- So the leaders of a list are one list.
pub leaders-one : {A : Type 0} (Over : A → A → Type 0) (list : List A) (xs ys : List (Numbered A))
    → AreLeaders Over list xs → AreLeaders Over list ys → xs ≡ ys
leaders-one Over list xs ys p q =
    ascending-same xs ys p.ascending q.ascending
    (λ x c. (q.exact x.number x.item).1 ((p.exact x.number x.item).0 c))
    (λ x c. (p.exact x.number x.item).1 ((q.exact x.number x.item).0 c))
