-- The variables of parts: each once, and each that stands in an atom.
use Rattle.std.proofs.Common.{◌≡◌, ℕ, ◌<◌, ◌≤◌, Bool, true, false, cond, nat_eq, List, [], ◌∷◌, ◌++◌, length, inl, inr, refl, sym, subst, eqb}
use Rattle.std.specs.List.{Contains, IsDistinct, list_any}
use Rattle.std.proofs.lemmas.Cmp.{nat_eq_equiv}
use Rattle.std.proofs.lemmas.Bool.Decides.{Decides-eqb}
use Rattle.std.proofs.lemmas.Map.Keys.{IsDistinct-push}
use Rattle.std.proofs.lemmas.Map.Steps.{length-le_from_distinct_below}
use Rattle.hy_base.proofs.Members.{contains-here, contains-cases, contains-none, any-from}
use Rattle.hy_formula.specs.Quantifiers.{Each}
use Rattle.hy_formula.proofs.Each.{each-append, each-at}
use Rattle.bound_search.specs.Names.{with_name}
use Rattle.bound_search.specs.Shapes.{Shape, constant, atom, one, two}
use Rattle.bound_search.specs.Sheets.{with_all, variables_in}
use Rattle.bound_search.proofs.Atoms.{EachAtom, atoms-like}
use Rattle.bound_search.proofs.Naming.{with-itself, with-others}

-- ---- the numbers of two lists

all-left : (left right : List ℕ) (x : ℕ) → Contains left x → Contains (with_all left right) x
all-left left [] x h = h
all-left left (v ∷ right) x h = all-left (with_name v left) right x (with-others v left x h)

all-right : (left right : List ℕ) (x : ℕ) → Contains right x → Contains (with_all left right) x
all-right left [] x h = absurd (contains-none x h)
all-right left (v ∷ right) x h =
    elim (contains-cases v x right h) [
      | inl e ↦
          let P : ℕ → Type 0 = Contains (with_name v left) in
          all-left (with_name v left) right x (subst P e (with-itself v left))
      | inr later ↦ all-right (with_name v left) right x later
    ]

-- what a list with one number more has
name-has : (P : List ℕ → Type 0) (v : ℕ) (names : List ℕ) → P names →
    (list_any (nat_eq v) names ≡ false → P (names ++ v ∷ [])) → P (with_name v names)
name-has P v names old new = of (list_any (nat_eq v) names) refl
  where
    of : (b : Bool) → list_any (nat_eq v) names ≡ b → P (cond b names (names ++ v ∷ []))
    of true e = old
    of false e = new e

all-each : (P : ℕ → Type 0) (left right : List ℕ) → Each P left → Each P right →
    Each P (with_all left right)
all-each P left [] l r = l
all-each P left (v ∷ right) l (h, r) =
    all-each P (with_name v left) right
    (name-has (Each P) v left l (λ _. each-append P left (v ∷ []) l (h, tt))) r

all-distinct : (left right : List ℕ) → IsDistinct eqb left → IsDistinct eqb (with_all left right)
all-distinct left [] l = l
all-distinct left (v ∷ right) l =
    all-distinct (with_name v left) right
    (name-has (IsDistinct eqb) v left l (IsDistinct-push nat_eq_equiv left v l))

-- ---- variables

-- The variable is one of these.
abbrev IsOneOf : List ℕ → ℕ → ℕ → Type 0
IsOneOf variables name v = Contains variables v

pub own-variables : (f : Shape) → EachAtom (IsOneOf (variables_in f)) f
own-variables (constant value) = tt
own-variables (atom name v) = contains-here v []
own-variables (one op f) = own-variables f
own-variables (two op f g) =
    let left : List ℕ = variables_in f in
    let right : List ℕ = variables_in g in (
      atoms-like _ _ (λ name v h. all-left left right v h) f (own-variables f),
      atoms-like _ _ (λ name v h. all-right left right v h) g (own-variables g),
    )

-- What is said of the variable of each atom is said of each variable.
pub each-variable : (P : ℕ → Type 0) (f : Shape) → EachAtom (λ name v. P v) f →
    Each P (variables_in f)
each-variable P (constant value) h = tt
each-variable P (atom name v) h = (h, tt)
each-variable P (one op f) h = each-variable P f h
each-variable P (two op f g) h =
    all-each P _ _ (each-variable P f h.0) (each-variable P g h.1)

distinct-none : IsDistinct eqb []
unfolding IsDistinct
distinct-none = tt

distinct-variables : (f : Shape) → IsDistinct eqb (variables_in f)
distinct-variables (constant value) = distinct-none
distinct-variables (atom name v) = IsDistinct-push nat_eq_equiv [] v distinct-none refl
distinct-variables (one op f) = distinct-variables f
distinct-variables (two op f g) = all-distinct _ (variables_in g) (distinct-variables f)

-- Of variables below n there are at most n.
pub few-variables : (n : ℕ) (f : Shape) → EachAtom (λ name v. v < n) f →
    length (variables_in f) ≤ n
few-variables n f h =
    length-le_from_distinct_below (variables_in f) n (distinct-variables f) (λ q e.
    let (x, there, same) = any-from (eqb q) (variables_in f) e in
    let P : ℕ → Type 0 = λ v. v < n in
    subst P (sym ((Decides-eqb q x).0 same))
    (each-at P (variables_in f) x (each-variable P f h) there))
