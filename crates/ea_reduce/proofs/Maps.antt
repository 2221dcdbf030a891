-- The maps of a prefix: how many there are, how long they are, and which variables they have.
use Rattle.std.proofs.Common.{◌≡◌, ℕ, zero, suc, ◌+◌, ◌*◌, ◌<◌, ◌≤◌, List, [], ◌∷◌, length, map, refl, ap, sym, subst, ◌∙◌, arith, length-append, IsTrue, true, false, Option, Some, None, MatchOption, is_some}
use Rattle.std.specs.List.{All, flat_map, range_with_len}
use Rattle.std.proofs.lemmas.Bool.{false≢true}
use Rattle.std.proofs.lemmas.List.{length-map}
use Rattle.hy_formula.specs.Trees.{Tree, vars_below}
use Rattle.hy_formula.specs.declared.prefix.Quant.{Quant}
use Rattle.hy_formula.specs.declared.prefix.Quant.TheVariants.{Exists, Forall}
use Rattle.hy_formula.specs.Quantifiers.{Each}
use Rattle.hy_formula.proofs.Each.{each-map, each-like}
use Rattle.ltl_closure.specs.Jobs.{variable_in}
use Rattle.ea_reduce.specs.Plans.{existentials, maps_of, instances}
use Rattle.ea_reduce.specs.Refused.{most_maps}
use Rattle.ea_reduce.proofs.Each.{each-range, each-all}

-- as many lists of one length
length-range : {A : Type 0} (f : ℕ → List A) (c : ℕ) → ((k : ℕ) → length (f k) ≡ c) → (a n : ℕ) → length (flat_map f (range_with_len a n)) ≡ n * c
length-range f c l a zero = omega arith
length-range f c l a (suc n) = omega (arith, length-append (f a) (flat_map f (range_with_len (a + 1) n)), l a, length-range f c l (a + 1) n)

pub length-maps_of : (vars next : ℕ) (prefix : List Quant) → length (maps_of vars next prefix) ≡ instances vars prefix
length-maps_of vars next [] = refl
length-maps_of vars next (Exists ∷ prefix) = length-map (maps_of vars (suc next) prefix) (λ m. next ∷ m) ∙ length-maps_of vars (suc next) prefix
length-maps_of vars next (Forall ∷ prefix) =
    length-range (λ k. map (λ m. k ∷ m) (maps_of vars next prefix)) (instances vars prefix)
    (λ k. length-map (maps_of vars next prefix) (λ m. k ∷ m) ∙ length-maps_of vars next prefix) 0 vars

-- Each map has a variable for each quantifier.
abbrev pub IsAsLong : List Quant → List ℕ → Type 0
IsAsLong prefix m = length m ≡ length prefix

pub are-as_long : (vars next : ℕ) (prefix : List Quant) → Each (IsAsLong prefix) (maps_of vars next prefix)
are-as_long vars next [] = (refl, tt)
are-as_long vars next (Exists ∷ prefix) =
    each-map (IsAsLong (Exists ∷ prefix)) (λ m. next ∷ m) (maps_of vars (suc next) prefix)
    (each-like (IsAsLong prefix) (λ m. IsAsLong (Exists ∷ prefix) (next ∷ m)) (λ m e. ap suc e) _ (are-as_long vars (suc next) prefix))
are-as_long vars next (Forall ∷ prefix) =
    each-range (IsAsLong (Forall ∷ prefix)) (λ k. map (λ m. k ∷ m) (maps_of vars next prefix)) 0 vars
    (λ k _ lt. each-map (IsAsLong (Forall ∷ prefix)) (λ m. k ∷ m) (maps_of vars next prefix)
    (each-like (IsAsLong prefix) (λ m. IsAsLong (Forall ∷ prefix) (k ∷ m)) (λ m e. ap suc e) _ (are-as_long vars next prefix)))

-- Each variable of a map is one of the first ones.
abbrev pub IsBelow : ℕ → List ℕ → Type 0
IsBelow vars m = (v : ℕ) → variable_in m v < vars

one-more : (vars k : ℕ) (m : List ℕ) → k < vars → IsBelow vars m → IsBelow vars (k ∷ m)
one-more vars k m lt below zero = lt
one-more vars k m lt below (suc v) = below v

pub are-below : (vars next : ℕ) (prefix : List Quant) → 0 < vars → next + existentials prefix ≤ vars → Each (IsBelow vars) (maps_of vars next prefix)
are-below vars next [] some le = (λ v. some, tt)
are-below vars next (Exists ∷ prefix) some le =
    each-map (IsBelow vars) (λ m. next ∷ m) (maps_of vars (suc next) prefix)
    (each-like (IsBelow vars) (λ m. IsBelow vars (next ∷ m)) (λ m h. one-more vars next m (omega arith) h) _ (are-below vars (suc next) prefix some (omega arith)))
are-below vars next (Forall ∷ prefix) some le =
    each-range (IsBelow vars) (λ k. map (λ m. k ∷ m) (maps_of vars next prefix)) 0 vars
    (λ k _ lt. each-map (IsBelow vars) (λ m. k ∷ m) (maps_of vars next prefix)
    (each-like (IsBelow vars) (λ m. IsBelow vars (k ∷ m)) (λ m h. one-more vars k m (omega arith) h) _ (are-below vars next prefix some le)))

-- Each variable of a body has a place in each of its maps.
pub maps-mapped : (vars next : ℕ) (prefix : List Quant) (body tree : Tree) (maps : List (List ℕ)) → IsTrue (vars_below (length prefix) body)
    → maps ≡ maps_of vars next prefix → tree ≡ body → All (λ m. IsTrue (vars_below (length m) tree)) maps
maps-mapped vars next prefix body tree maps bound same is =
    let P : ℕ → Type 0 = λ n. IsTrue (vars_below n body) in
    let Q : Tree → Type 0 = λ t. All (λ m. IsTrue (vars_below (length m) t)) maps in
    let R : List (List ℕ) → Type 0 = All (λ m. IsTrue (vars_below (length m) body)) in
    subst Q (sym is) (subst R (sym same) (each-all (λ m. IsTrue (vars_below (length m) body)) (maps_of vars next prefix)
    (each-like (IsAsLong prefix) (λ m. IsTrue (vars_below (length m) body)) (λ m e. subst P (sym e) bound) _ (are-as_long vars next prefix))))

-- whether there are few
pub few-maps : (vars next : ℕ) (prefix : List Quant) (o : Option ℕ) → MatchOption o (most_maps < instances vars prefix) (λ n. (n ≡ instances vars prefix) × (n ≤ most_maps))
    → is_some o ≡ true → length (maps_of vars next prefix) ≤ most_maps
few-maps vars next prefix (Some n) (e, le) is = omega (arith, length-maps_of vars next prefix)
few-maps vars next prefix None h is = absurd (false≢true is)

pub many-maps : (vars next : ℕ) (prefix : List Quant) (o : Option ℕ) → MatchOption o (most_maps < instances vars prefix) (λ n. (n ≡ instances vars prefix) × (n ≤ most_maps))
    → is_some o ≡ false → most_maps < length (maps_of vars next prefix)
many-maps vars next prefix (Some n) h is = absurd (false≢true (sym is))
many-maps vars next prefix None h is = omega (arith, length-maps_of vars next prefix)
