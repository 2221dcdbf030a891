-- A closure is numbered, each form after its parts.
use Rattle.std.proofs.Common.{◌≡◌, ℕ, zero, suc, ◌+◌, ◌<◌, ◌≤◌, Bool, true, false, ◌&&◌, ◌||◌, cond, nat_eq, List, [], ◌∷◌, ◌++◌, length, inl, inr, refl, sym, ap, ◌∙◌, subst, arith, length-append}
use Rattle.std.specs.Bool.{beq}
use Rattle.std.specs.List.{list_any}
use Rattle.std.proofs.lemmas.Bool.{cases_lt, eqb-true, eq-eqb, and_parts, and_from}
use Rattle.std.proofs.lemmas.List.{get_or-map, length-map, get_or_append_left}
use Rattle.hy_formula.specs.Normals.{Normal, always, never, literal, and, or, next, weak_next, until, release}
use Rattle.ltl_closure.specs.Nodes as node
use Rattle.ltl_closure.specs.Nodes.{Node, node_at, form_of, PartsBelow, Numbers}
use Rattle.ltl_closure.specs.Closures.{same_form, with_new, with_form, with_forms, closure, number_in, form_in, node_of, nodes_of}
use Rattle.ltl_closure.specs.Numbered.{Below, PartsIn, Closed}

pub same-bool : (b c : Bool) → beq b c ≡ true → b ≡ c
same-bool true true e = refl
same-bool true false e = absurd (cc)
same-bool false true e = absurd (cc)
same-bool false false e = refl

pub equal-form : (f g : Normal) → same_form f g ≡ true → f ≡ g
equal-form always always e = refl
equal-form never never e = refl
equal-form (literal b n v) (literal c m u) e =
    let (p, q) = and_parts (beq b c) (nat_eq n m && nat_eq v u) e in
    let (r, s) = and_parts (nat_eq n m) (nat_eq v u) q in
    let x : b ≡ c = same-bool b c p in
    let y : n ≡ m = eqb-true n m r in
    let z : v ≡ u = eqb-true v u s in
    cc
equal-form (and f g) (and h k) e = let (p, q) = and_parts (same_form f h) (same_form g k) e in let x : f ≡ h = equal-form f h p in let y : g ≡ k = equal-form g k q in cc
equal-form (or f g) (or h k) e = let (p, q) = and_parts (same_form f h) (same_form g k) e in let x : f ≡ h = equal-form f h p in let y : g ≡ k = equal-form g k q in cc
equal-form (next f) (next h) e = let x : f ≡ h = equal-form f h e in cc
equal-form (weak_next f) (weak_next h) e = let x : f ≡ h = equal-form f h e in cc
equal-form (until f g) (until h k) e = let (p, q) = and_parts (same_form f h) (same_form g k) e in let x : f ≡ h = equal-form f h p in let y : g ≡ k = equal-form g k q in cc
equal-form (release f g) (release h k) e = let (p, q) = and_parts (same_form f h) (same_form g k) e in let x : f ≡ h = equal-form f h p in let y : g ≡ k = equal-form g k q in cc
equal-form _ _ e = absurd (cc)

pub form-itself : (f : Normal) → same_form f f ≡ true
form-itself always = refl
form-itself never = refl
form-itself (literal true n v) = and_from _ _ (eq-eqb n n refl) (eq-eqb v v refl)
form-itself (literal false n v) = and_from _ _ (eq-eqb n n refl) (eq-eqb v v refl)
form-itself (and f g) = and_from _ _ (form-itself f) (form-itself g)
form-itself (or f g) = and_from _ _ (form-itself f) (form-itself g)
form-itself (next f) = form-itself f
form-itself (weak_next f) = form-itself f
form-itself (until f g) = and_from _ _ (form-itself f) (form-itself g)
form-itself (release f g) = and_from _ _ (form-itself f) (form-itself g)

-- `new` goes on with `old`, is closed where `old` is, and has the form.
pub record Grown (old new : List Normal) (f : Normal) : Type 0 where
  pub longer : length old ≤ length new
  pub stays : (k : ℕ) → k < length old → form_in new k ≡ form_in old k
  pub closed : Closed new
  pub there : Below new (length new) f

pub below-on : (old new : List Normal) → length old ≤ length new → ((k : ℕ) → k < length old → form_in new k ≡ form_in old k) → (k : ℕ) (f : Normal) → Below old k f → Below new k f
below-on old new long stays k f (p, lt, inside, e) = (p, lt, omega arith, stays p inside ∙ e)

pub parts-on : (old new : List Normal) → length old ≤ length new → ((k : ℕ) → k < length old → form_in new k ≡ form_in old k) → (k : ℕ) (f : Normal) → PartsIn old k f → PartsIn new k f
parts-on old new long stays k always h = tt
parts-on old new long stays k never h = tt
parts-on old new long stays k (literal b n v) h = tt
parts-on old new long stays k (and f g) (x, y) = (below-on old new long stays k f x, below-on old new long stays k g y)
parts-on old new long stays k (or f g) (x, y) = (below-on old new long stays k f x, below-on old new long stays k g y)
parts-on old new long stays k (next f) x = below-on old new long stays k f x
parts-on old new long stays k (weak_next f) x = below-on old new long stays k f x
parts-on old new long stays k (until f g) (x, y) = (below-on old new long stays k f x, below-on old new long stays k g y)
parts-on old new long stays k (release f g) (x, y) = (below-on old new long stays k f x, below-on old new long stays k g y)

pub form-found : (members : List Normal) (f : Normal) → list_any (same_form f) members ≡ true → (p : ℕ) × (p < length members) × (form_in members p ≡ f)
form-found [] f e = absurd (cc)
form-found (x ∷ xs) f e = step (same_form f x) refl e (form-found xs f)
  where
    step : (b : Bool) → same_form f x ≡ b → (b || list_any (same_form f) xs) ≡ true → (list_any (same_form f) xs ≡ true → (p : ℕ) × (p < length xs) × (form_in xs p ≡ f)) → (p : ℕ) × (p < length (x ∷ xs)) × (form_in (x ∷ xs) p ≡ f)
    step true is e' ih = (0, omega arith, sym (equal-form f x is))
    step false is e' ih = let (p, lt, at) = ih e' in (suc p, omega arith, at)

-- a form that stands is found
pub form-there : (members : List Normal) (f : Normal) (p : ℕ) → p < length members → form_in members p ≡ f → list_any (same_form f) members ≡ true
form-there [] f p lt e = absurd (omega arith)
form-there (x ∷ xs) f zero lt e = let same : x ≡ f = e in let P : Normal → Type 0 = λ y. (same_form f y || list_any (same_form f) xs) ≡ true in subst P (sym same) (let here = form-itself f in ap (λ b. b || list_any (same_form f) xs) here)
form-there (x ∷ xs) f (suc p) lt e = later (same_form f x) (form-there xs f p (omega arith) e)
  where
    later : (b : Bool) → list_any (same_form f) xs ≡ true → (b || list_any (same_form f) xs) ≡ true
    later true t = refl
    later false t = t

pub last-form : (members : List Normal) (f : Normal) → form_in (members ++ f ∷ []) (length members) ≡ f
last-form [] f = refl
last-form (x ∷ xs) f = last-form xs f

pub grown-new : (members : List Normal) (f : Normal) → Closed members → PartsIn members (length members) f → Grown members (with_new f members) f
grown-new members f closed parts = step (list_any (same_form f) members) refl
  where
    l : length (members ++ f ∷ []) ≡ length members + 1
    l = length-append members (f ∷ [])

    same : (k : ℕ) → k < length members → form_in (members ++ f ∷ []) k ≡ form_in members k
    same k lt = get_or_append_left members (f ∷ []) always k lt

    all : (k : ℕ) → k < length (members ++ f ∷ []) → PartsIn (members ++ f ∷ []) k (form_in (members ++ f ∷ []) k)
    all k lt =
        elim (cases_lt k (length members)) [
          | inl old ↦
              let P : Normal → Type 0 = PartsIn (members ++ f ∷ []) k in
              subst P (sym (same k old)) (parts-on members (members ++ f ∷ []) (omega (arith, l)) same k (form_in members k) (closed k old))
          | inr past ↦
              let e : length members ≡ k = omega (arith, l) in
              let P : ℕ → Type 0 = λ q. PartsIn (members ++ f ∷ []) q (form_in (members ++ f ∷ []) q) in
              let Q : Normal → Type 0 = PartsIn (members ++ f ∷ []) (length members) in
              subst P e (subst Q (sym (last-form members f)) (parts-on members (members ++ f ∷ []) (omega (arith, l)) same (length members) f parts))
        ]

    step : (b : Bool) → list_any (same_form f) members ≡ b → Grown members (cond b members (members ++ f ∷ [])) f
    step true e = let (p, lt, at) = form-found members f e in record { longer = omega arith; stays = λ k lt. refl; closed = closed; there = (p, lt, lt, at) }
    step false e = record { longer = omega (arith, l); stays = same; closed = all; there = (length members, omega (arith, l), omega (arith, l), last-form members f) }

-- after the parts, the form itself
grown-on : (a b c : List Normal) (f g : Normal) → Grown a b f → Grown b c g → Grown a c g
grown-on a b c f g x y =
    record { longer = omega (arith, x.longer, y.longer); stays = λ k lt. y.stays k (omega (arith, x.longer)) ∙ x.stays k lt; closed = y.closed; there = y.there }

has-still : (b c : List Normal) (f g : Normal) → Below b (length b) f → Grown b c g → Below c (length c) f
has-still b c f g (p, lt, _, e) y = (p, omega (arith, y.longer), omega (arith, y.longer), y.stays p lt ∙ e)

grown-two : (members b c : List Normal) (f g h : Normal) → Grown members b f → Grown b c g → (Below c (length c) f → Below c (length c) g → PartsIn c (length c) h) → Grown members (with_new h c) h
grown-two members b c f g h x y parts = grown-on members c (with_new h c) g h (grown-on members b c f g x y) (grown-new c h y.closed (parts (has-still b c f g x.there y) y.there))

grown-one : (members b : List Normal) (f h : Normal) → Grown members b f → (Below b (length b) f → PartsIn b (length b) h) → Grown members (with_new h b) h
grown-one members b f h x parts = grown-on members b (with_new h b) f h x (grown-new b h x.closed (parts x.there))

pub grown-form : (f : Normal) (members : List Normal) → Closed members → Grown members (with_form f members) f
grown-form always members closed = grown-new members always closed tt
grown-form never members closed = grown-new members never closed tt
grown-form (literal b n v) members closed = grown-new members (literal b n v) closed tt
grown-form (and f g) members closed =
    let x = grown-form f members closed in
    grown-two members (with_form f members) _ f g (and f g) x (grown-form g (with_form f members) x.closed) (λ p q. (p, q))
grown-form (or f g) members closed =
    let x = grown-form f members closed in
    grown-two members (with_form f members) _ f g (or f g) x (grown-form g (with_form f members) x.closed) (λ p q. (p, q))
grown-form (next f) members closed = grown-one members _ f (next f) (grown-form f members closed) (λ p. p)
grown-form (weak_next f) members closed = grown-one members _ f (weak_next f) (grown-form f members closed) (λ p. p)
grown-form (until f g) members closed =
    let x = grown-form f members closed in
    grown-two members (with_form f members) _ f g (until f g) x (grown-form g (with_form f members) x.closed) (λ p q. (p, q))
grown-form (release f g) members closed =
    let x = grown-form f members closed in
    grown-two members (with_form f members) _ f g (release f g) x (grown-form g (with_form f members) x.closed) (λ p q. (p, q))

pub closed-forms : (forms members : List Normal) → Closed members → Closed (with_forms forms members)
closed-forms [] members closed = closed
closed-forms (f ∷ fs) members closed = closed-forms fs (with_form f members) (grown-form f members closed).closed

-- ---- the numbers

-- a form that stands at p is numbered, at p or before
pub number-found : (members : List Normal) (f : Normal) (p : ℕ) → p < length members → form_in members p ≡ f → (number_in members f ≤ p) × (form_in members (number_in members f) ≡ f)
number-found [] f p lt e = absurd (omega arith)
number-found (x ∷ xs) f p lt e = step (same_form f x) refl p lt e (number-found xs f)
  where
    step : (b : Bool) → same_form f x ≡ b → (p : ℕ) → p < length (x ∷ xs) → form_in (x ∷ xs) p ≡ f → ((q : ℕ) → q < length xs → form_in xs q ≡ f → (number_in xs f ≤ q) × (form_in xs (number_in xs f) ≡ f)) → (cond b 0 (suc (number_in xs f)) ≤ p) × (form_in (x ∷ xs) (cond b 0 (suc (number_in xs f))) ≡ f)
    step true is p lt e ih = (omega arith, sym (equal-form f x is))
    step false is zero lt e ih =
        let P : Normal → Type 0 = λ y. same_form f y ≡ true in
        absurd (let clash : same_form f x ≡ true = subst P (sym e) (form-itself f) in cc)
    step false is (suc q) lt e ih = let (le, at) = ih q (omega arith) e in (omega arith, at)

module _ (members : List Normal) (closed : Closed members) where
  l : length (nodes_of members) ≡ length members
  l = length-map members (node_of members)

  node-is : (k : ℕ) → k < length members → node_at (nodes_of members) k ≡ node_of members (form_in members k)
  node-is k lt = get_or-map (node_of members) members k always node.always lt

  below-number : (k : ℕ) (f : Normal) → Below members k f → number_in members f < k
  below-number k f (p, lt, inside, e) = omega (arith, (number-found members f p inside e).0)

  form-number : (k : ℕ) (f : Normal) → Below members k f → form_in members (number_in members f) ≡ f
  form-number k f (p, lt, inside, e) = (number-found members f p inside e).1

  parts-below : (k : ℕ) (f : Normal) → PartsIn members k f → PartsBelow k (node_of members f)
  parts-below k always h = tt
  parts-below k never h = tt
  parts-below k (literal b n v) h = tt
  parts-below k (and f g) (x, y) = (below-number k f x, below-number k g y)
  parts-below k (or f g) (x, y) = (below-number k f x, below-number k g y)
  parts-below k (next f) x = below-number k f x
  parts-below k (weak_next f) x = below-number k f x
  parts-below k (until f g) (x, y) = (below-number k f x, below-number k g y)
  parts-below k (release f g) (x, y) = (below-number k f x, below-number k g y)

  form-back : (k : ℕ) (f : Normal) → PartsIn members k f → f ≡ form_of (form_in members) (node_of members f)
  form-back k always h = refl
  form-back k never h = refl
  form-back k (literal b n v) h = refl
  form-back k (and f g) (x, y) = let p = form-number k f x in let q = form-number k g y in cc
  form-back k (or f g) (x, y) = let p = form-number k f x in let q = form-number k g y in cc
  form-back k (next f) x = let p = form-number k f x in cc
  form-back k (weak_next f) x = let p = form-number k f x in cc
  form-back k (until f g) (x, y) = let p = form-number k f x in let q = form-number k g y in cc
  form-back k (release f g) (x, y) = let p = form-number k f x in let q = form-number k g y in cc

  numbers-of : Numbers (nodes_of members) (form_in members)
  numbers-of =
      record {
        parts = λ k lt.
            let inside : k < length members = omega (arith, l) in
            let P : Node → Type 0 = PartsBelow k in
            subst P (sym (node-is k inside)) (parts-below k (form_in members k) (closed k inside));
        forms = λ k lt.
            let inside : k < length members = omega (arith, l) in
            form-back k (form_in members k) (closed k inside) ∙ ap (form_of (form_in members)) (sym (node-is k inside));
      }

pub closure-numbers : (forms : List Normal) → Numbers (nodes_of (closure forms)) (form_in (closure forms))
closure-numbers forms = numbers-of (closure forms) (closed-forms forms [] (λ k lt. absurd (omega arith)))
