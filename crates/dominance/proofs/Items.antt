-- The items of a numbered list.
use Rattle.std.proofs.Common.{ℕ, List, [], ◌∷◌, inl, inr, subst}
use Rattle.std.specs.List.{Contains}
use Rattle.hy_base.proofs.Members.{contains-here, contains-later, contains-cases, contains-none}
use Rattle.dominance.specs.Leaders.{Numbered, numbered, items}

pub items-from : {A : Type 0} (kept : List (Numbered A)) (t : A) → Contains (items kept) t → (k : ℕ)
    × Contains kept (numbered k t)
items-from [] t c = absurd (contains-none t c)
items-from {A} (x ∷ xs) t c =
    elim (contains-cases x.item t (items xs) c) [
      | inl e ↦ let P : A → Type 0 = λ q. Contains (x ∷ xs) (numbered x.number q) in
          (x.number, subst P e (contains-here x xs))
      | inr later ↦ let (k, d) = items-from xs t later in (k, contains-later x (numbered k t) xs d)
    ]

pub items-of : {A : Type 0} (kept : List (Numbered A)) (x : Numbered A) → Contains kept x
    → Contains (items kept) x.item
items-of [] x c = absurd (contains-none x c)
items-of {A} (y ∷ ys) x c =
    elim (contains-cases y x ys c) [
      | inl e ↦ let P : Numbered A → Type 0 = λ q. Contains (items (y ∷ ys)) q.item in
          subst P e (contains-here y.item (items ys))
      | inr later ↦ contains-later y.item x.item (items ys) (items-of ys x later)
    ]
