-- Each atom's name is in the table that its tokens make.
use Rattle.std.proofs.Common.{◌≡◌, ℕ, suc, ◌≤◌, arith, length, length-append, List, [], ◌∷◌, ◌++◌, Option, Some, None, Bool, true, false, if◌then◌else◌, refl, ap, sym, subst, ◌∙◌, append_assoc, append-nil}
use Rattle.std.specs.Option.{option_map}
use Rattle.std.specs.Str.{bytes_eq}
use Rattle.std.proofs.lemmas.Slice.Eq.{bytes_eq-Decides}
use Rattle.hy_formula.specs.Names.{place_of, with_name, added_unless}
use Rattle.hy_read.specs.Tokens.{Token, symbol, variable, atom, nothing}
use Rattle.hy_read.specs.Results.{names_of}

abbrev pub Placed : List ℕ → List (List ℕ) → Type 0
Placed name names = (k : ℕ) × (place_of name names ≡ Some k)

-- Each atom's name has a place.
abbrev pub Named : List (List ℕ) → List Token → Type 0
Named names [] = Unit {0}
Named names (symbol s ∷ ts) = Named names ts
Named names (variable v ∷ ts) = Named names ts
Named names (atom n v ∷ ts) = Placed n names × Named names ts
Named names (nothing ∷ ts) = Named names ts

placed-front : (name : List ℕ) (names more : List (List ℕ)) → Placed name names → Placed name (names ++ more)
placed-front name [] more (k, e) = absurd cc
placed-front name (x ∷ xs) more (k, e) = through (bytes_eq x name) (placed-front name xs more) e
  where
    shift : (o : Option ℕ) (k : ℕ) → option_map suc o ≡ Some k → (j : ℕ) × (o ≡ Some j)
    shift None k e = absurd cc
    shift (Some j) k e = (j, refl)

    deeper : Placed name (xs ++ more) → (j : ℕ) × (option_map suc (place_of name (xs ++ more)) ≡ Some j)
    deeper (j, e) = (suc j, ap (option_map suc) e)

    through : (b : Bool) → (Placed name xs → Placed name (xs ++ more)) → (if b then Some 0 else option_map suc (place_of name xs)) ≡ Some k → (j : ℕ) × ((if b then Some 0 else option_map suc (place_of name (xs ++ more))) ≡ Some j)
    through true f e = (0, refl)
    through false f e = deeper (f (shift (place_of name xs) k e))

placed-last : (name : List ℕ) (names : List (List ℕ)) → Placed name (names ++ name ∷ [])
placed-last name [] = (0, ap (λ b. if b then Some 0 else None) ((bytes_eq-Decides name name).1 refl))
placed-last name (x ∷ xs) = through (bytes_eq x name) (placed-last name xs)
  where
    through : (b : Bool) → Placed name (xs ++ name ∷ []) → (j : ℕ) × ((if b then Some 0 else option_map suc (place_of name (xs ++ name ∷ []))) ≡ Some j)
    through true p = (0, refl)
    through false (j, e) = (suc j, ap (option_map suc) e)

placed-new : (name : List ℕ) (names : List (List ℕ)) → Placed name (with_name name names)
placed-new name names = through (place_of name names) refl
  where
    through : (o : Option ℕ) → place_of name names ≡ o → Placed name (added_unless o name names)
    through None e = placed-last name names
    through (Some k) e = (k, e)

kept_unless : (o : Option ℕ) (name : List ℕ) (names : List (List ℕ)) → (more : List (List ℕ)) × (added_unless o name names ≡ names ++ more)
kept_unless (Some k) name names = ([], sym (append-nil names))
kept_unless None name names = (name ∷ [], refl)

-- the table is the front of what it becomes
pub names_kept : (tokens : List Token) (names : List (List ℕ)) → (more : List (List ℕ)) × (names_of names tokens ≡ names ++ more)
names_kept [] names = ([], sym (append-nil names))
names_kept (symbol s ∷ tokens) names = names_kept tokens names
names_kept (variable v ∷ tokens) names = names_kept tokens names
names_kept (nothing ∷ tokens) names = names_kept tokens names
names_kept (atom name bound ∷ tokens) names =
    let (more, is) = names_kept tokens (with_name name names) in
    let (first, added) = kept_unless (place_of name names) name names in
    (first ++ more, is ∙ ap (λ x. x ++ more) added ∙ append_assoc names first more)

pub named-all : (tokens : List Token) (names : List (List ℕ)) → Named (names_of names tokens) tokens
named-all [] names = tt
named-all (symbol s ∷ ts) names = named-all ts names
named-all (variable v ∷ ts) names = named-all ts names
named-all (nothing ∷ ts) names = named-all ts names
named-all (atom n v ∷ ts) names =
    let (more, e) = names_kept ts (with_name n names) in
    (subst (Placed n) (sym e) (placed-front n (with_name n names) more (placed-new n names)), named-all ts (with_name n names))

-- The names of the first token come first.
pub names_first : (t : Token) (names : List (List ℕ)) (more : List Token) → names_of names (t ∷ more) ≡ names_of (names_of names (t ∷ [])) more
names_first (symbol s) names more = refl
names_first (variable v) names more = refl
names_first (atom n v) names more = refl
names_first nothing names more = refl

pub names_grow : (tokens : List Token) (names : List (List ℕ)) → length names ≤ length (names_of names tokens)
names_grow tokens names =
    let (more, is) = names_kept tokens names in
    let e = ap length is in
    omega (arith, e, length-append names more)
