-- Lists that are kept for several codes.
use Rattle.std.proofs.Common.{◌≡◌, ℕ, zero, suc, List, [], ◌∷◌, ◌++◌, set, Result, Ok, Err, IfOk, sym, ap, ◌∙◌, subst}
use Rattle.hy_formula.specs.Quantifiers.{Each}
use Rattle.hy_formula.proofs.Each.{each-append}

pub each-set : {A : Type 0} (P : A → Type 0) (xs : List A) (i : ℕ) (x : A) → Each P xs → P x → Each P (set xs i x)
each-set P [] i x is p = tt
each-set P (y ∷ ys) zero x (here, is) p = (p, is)
each-set P (y ∷ ys) (suc i) x (here, is) p = (here, each-set P ys i x is p)

pub each-push : {A : Type 0} (P : A → Type 0) (xs ys : List A) (x : A) → ys ≡ xs ++ x ∷ [] → Each P xs → P x → Each P ys
each-push {A} P xs ys x e is p = let Q : List A → Type 0 = λ l. Each P l in subst Q (sym e) (each-append P xs (x ∷ []) is (p, tt))

pub each-first : {A : Type 0} (P : A → Type 0) (xs ys : List A) (x : A) → xs ≡ [] → ys ≡ xs ++ x ∷ [] → P x → Each P ys
each-first {A} P xs ys x none e p = let Q : List A → Type 0 = λ l. Each P l in subst Q (sym (e ∙ ap (λ l. l ++ x ∷ []) none)) (p, tt)

pub ok-two : {T E : Type 0} (P Q R : T → Type 0) (r : Result T E) → ((x : T) → P x → Q x → R x) → IfOk r P → IfOk r Q → IfOk r R
ok-two P Q R (Ok x) f p q = f x p q
ok-two P Q R (Err e) f p q = tt
