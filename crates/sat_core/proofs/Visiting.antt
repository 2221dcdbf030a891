-- A visit to a clause.
use Rattle.std.proofs.Common.{◌≡◌, ℕ, ◌+◌, ◌-◌, ◌*◌, ◌<◌, ◌≤◌, List, [], ◌∷◌, ◌++◌, Some, length, get_or, set, inl, inr, refl, sym, ap, ◌∙◌, subst, arith, get_or-set_same}
use Rattle.std.specs.Prelude.{ℤ, slice_get, unsigned_abs}
use Rattle.std.specs.List.{Contains}
use Rattle.std.proofs.lemmas.List.{length_push, get_or_default}
use Rattle.std.proofs.lemmas.List.Elements.{Contains-get_or}
use Rattle.std.proofs.lemmas.Option.{get_or_from_slice_get, slice_get-get_or, slice_get_within}
use Rattle.chain_check.specs.Clauses.{Clause, IsLiteral, AreLiterals}
use Rattle.sat_core.specs.declared.solver.Solver.{Solver}
use Rattle.sat_core.specs.declared.watches.Pair.{Pair}
use Rattle.sat_core.specs.declared.watches.Watches.{Watches}
use Rattle.sat_core.specs.declared.watching.Visit.TheVariants.{Kept, Moved, Conflict}
use Rattle.chain_check.specs.Chains.{AllFalseIn}
use Rattle.sat_core.specs.Solvers.{IsReady, GoesOn, IsConflict}
use Rattle.sat_core.specs.Lists.{place_of}
use Rattle.sat_core.specs.Watches.{IsHeld, IsWatching, IsOther, IsReplacement, AreAdded, no_pair}
use Rattle.sat_core.specs.Visits.{IsMoved, IsVisit}
use Rattle.sat_core.proofs.Propagating.{the-clause}
use Rattle.sat_core.proofs.Rounds.{IsPassing, passing-kept, passing-moved, removed}
use Rattle.sat_core.proofs.Holding.{watching-on, place-inside}
use Rattle.sat_core.proofs.Adding.{watching-added, held-first, held-fixed, added-long, added-old, added-cases, added-first, added-second}

pub other-there : (c : Clause) (pair : Pair) (l o : ℤ) → Contains c pair.first →
    Contains c pair.second → IsOther pair l o → Contains c o
other-there c pair l o one two is =
    let P : ℤ → Type 0 = Contains c in
    elim is.one [ inl e ↦ subst P (sym e) one | inr e ↦ subst P (sym e) two ]

pub literal-there : (s : Solver) → IsReady s → (k : ℕ) → k < length s.clauses → (x : ℤ) →
    Contains (get_or s.clauses k []) x → IsLiteral s.partial.variables x
literal-there s ready k lt x there = ready.right (get_or s.clauses k [])
    (Contains-get_or s.clauses k [] lt) x there

-- a clause as it is read
pub clause-is : (clauses : List Clause) (k : ℕ) (c : Clause) → slice_get clauses k ≡ Some c →
    get_or clauses k [] ≡ c
clause-is clauses k c at = get_or_from_slice_get clauses k c [] at

pub literals-read : (s : Solver) → IsReady s → (k : ℕ) → k < length s.clauses → (c : Clause) →
    slice_get s.clauses k ≡ Some c → AreLiterals s.partial.variables c
literals-read s ready k lt c at = let P : Clause → Type 0 = AreLiterals s.partial.variables in
    subst P (clause-is s.clauses k c at) (literal-there s ready k lt)

-- a literal of the clause with a number, as both are read
pub literal-read : (s : Solver) → IsReady s → (number : ℕ) → 0 < number →
    number ≤ length s.clauses → (c : Clause) → slice_get s.clauses (number - 1) ≡ Some c → (i : ℕ) →
    i < length c → (l : ℤ) → l ≡ get_or c i l → IsLiteral s.partial.variables l
literal-read s ready number counted within c at i lt l is =
    literals-read s ready (number - 1) (omega (arith, counted, within)) c at l (i, lt, sym is)

-- the place of its variable, as it is read
pub place-read : (s : Solver) → IsReady s → (l : ℤ) → IsLiteral s.partial.variables l →
    (v place : ℕ) → v ≡ unsigned_abs l → place ≡ get_or s.places.items v place →
    place ≡ get_or s.places.items (unsigned_abs l) 0
place-read s ready l right v place is at = at ∙ get_or_default s.places.items v place 0
    (omega (arith, right.1, is, ready.sized)) ∙ ap (λ u. get_or s.places.items u 0) is

-- the conflict at the clause of a place
pub conflict-at : (t : Solver) (place : ℕ) → place < length t.clauses →
    AllFalseIn t.partial.literals (get_or t.clauses place []) → IsConflict t (place + 1)
conflict-at t place inside all = (
  get_or t.clauses place [],
  the-clause t.clauses place (get_or t.clauses place [])
      (slice_get-get_or t.clauses place [] inside),
  all,
)

module _ (s : Solver) (done : ℕ) (w : Watches) (l : ℤ) (list : List ℕ) (i place : ℕ)
    (is : IsPassing s done w.pairs.items w.lists l list i) (inside : i < length list)
    (at : slice_get list i ≡ Some place) where
  visited : get_or list i 0 ≡ place
  visited = get_or_from_slice_get list i place 0 at

  pub visited-pair : place < length w.pairs.items
  visited-pair =
      let P : List ℕ → Type 0 = λ xs. Contains xs place in
      is.watching.inside (place_of l) place (subst P
      (sym (get_or-set_same w.lists (place_of l) list [] is.place))
      (i, inside, get_or_from_slice_get list i place place at))

  pub visited-clause : place < length s.clauses
  visited-clause = omega (arith, visited-pair, is.watching.within)

  held : IsHeld s.partial.literals s.limits.items done (set w.lists (place_of l) list)
      (get_or s.clauses place []) place (get_or w.pairs.items place no_pair)
  held = is.watching.held place visited-pair

  pub visited-first : Contains (get_or s.clauses place [])
      (get_or w.pairs.items place no_pair).first
  visited-first = held.first

  pub visited-second : Contains (get_or s.clauses place [])
      (get_or w.pairs.items place no_pair).second
  visited-second = held.second

  pub visited-kept : (t : Solver) (w' : Watches) → GoesOn s t → IsVisit s t w w' place l Kept →
      IsPassing t done w'.pairs.items w'.lists l list (i + 1)
  visited-kept t w' on (same, (b, of, true')) =
      let P : ℕ → Type 0 = λ k. Contains (get_or t.clauses k []) b in
      let Q : List Pair → Type 0 = λ ps. IsPassing t done ps w'.lists l list (i + 1) in
      let R : List (List ℕ) → Type 0 = λ ls. IsPassing t done w.pairs.items ls l list (i + 1) in
      subst Q (sym same.0) (subst R (sym same.1)
      (passing-kept s t done w.pairs.items w.lists l list i b is on inside
      (subst P (sym visited) of) true'))

  pub visited-conflict : (t : Solver) (w' : Watches) → GoesOn s t →
      IsVisit s t w w' place l Conflict → IsConflict t (place + 1) ×
      IsWatching t done w'.pairs.items (set w'.lists (place_of l) list)
  visited-conflict t w' on (same, all) =
      let P : List Pair → Type 0 = λ ps. IsWatching t done ps (set w'.lists (place_of l) list) in
      let Q : List (List ℕ) → Type 0 = λ ls. IsWatching t done w.pairs.items
      (set ls (place_of l) list) in (
        conflict-at t place (omega (arith, visited-clause, ap length on.clauses)) all,
        subst P (sym same.0) (subst Q (sym same.1)
            (watching-on s t done w.pairs.items (set w.lists (place_of l) list) on is.watching)),
      )

  pub visited-moved : (t : Solver) (w' : Watches) (list' : List ℕ) (other m : ℤ) →
      place_of m < length w.lists → list' ≡ removed list i → IsMoved s t w w' place l other m →
      IsPassing t done w'.pairs.items w'.lists l list' i
  visited-moved t w' list' other m right e moved =
      let A : Solver → Type 0 = λ u. IsPassing u done w'.pairs.items w'.lists l list' i in
      let B : List Pair → Type 0 = λ ps. IsPassing s done ps w'.lists l list' i in
      let C : List (List ℕ) → Type 0 = λ ls. IsPassing s done
      (set w.pairs.items place (record { first = other; second = m })) ls l list' i in
      let D : List ℕ → Type 0 = λ xs. IsPassing s done
      (set w.pairs.items place (record { first = other; second = m }))
      (set w.lists (place_of m) (get_or w.lists (place_of m) [] ++ place ∷ [])) l xs i in
      let E : ℕ → Type 0 = λ k. IsPassing s done
      (set w.pairs.items k (record { first = other; second = m }))
      (set w.lists (place_of m) (get_or w.lists (place_of m) [] ++ k ∷ [])) l
      (removed list i) i in
      let F : ℕ → Type 0 = λ k. IsOther (get_or w.pairs.items k no_pair) l other in
      let G : ℕ → Type 0 = λ k. IsReplacement s.partial.literals (get_or s.clauses k []) other m in
      let H : Solver → Type 0 = λ u. IsReplacement u.partial.literals
      (get_or u.clauses place []) other m in
      subst A (sym moved.same) (subst B (sym moved.pairs)
      (subst C (sym moved.lists) (subst D (sym e) (subst E visited
      (passing-moved s done w.pairs.items w.lists l list i other m is inside
      (subst F (sym visited) moved.is_other)
      (subst G (sym visited) (subst H moved.same moved.found)) right)))))

pub the-moved : (s t : Solver) (w w' : Watches) (place : ℕ) (l : ℤ) →
    IsVisit s t w w' place l Moved → (other : ℤ) × (m : ℤ) × IsMoved s t w w' place l other m
the-moved s t w w' place l is = is

pub moved-inside : (s t : Solver) (w w' : Watches) (place : ℕ) (l other m : ℤ) → IsReady s →
    place < length s.clauses → 2 * s.partial.variables + 1 < length w.lists →
    IsMoved s t w w' place l other m → place_of m < length w.lists
moved-inside s t w w' place l other m ready inside sized moved =
    let P : Solver → Type 0 = λ u. Contains (get_or u.clauses place []) m in
    place-inside s.partial.variables m w.lists
    (literal-there s ready place inside m (subst P moved.same moved.found.there)) sized

pub first-there : (c : Clause) (x : ℤ) → slice_get c 0 ≡ Some x → Contains c x
first-there c x e = (0, slice_get_within c 0 x e, get_or_from_slice_get c 0 x x e)

-- a clause is watched for the first time
module _ (s : Solver) (w : Watches) (place : ℕ) (ready : IsReady s)
    (inside : place < length s.clauses) (watching : IsWatching s 0 w.pairs.items w.lists)
    (next : length w.pairs.items ≡ place) (c : Clause) (at : slice_get s.clauses place ≡ Some c)
    (first : ℤ) (there : Contains c first) where
  here : get_or s.clauses (length w.pairs.items) [] ≡ c
  here = ap (λ k. get_or s.clauses k []) next ∙ clause-is s.clauses place c at

  long-more : (pairs : List Pair) (pair : Pair) → pairs ≡ w.pairs.items ++ pair ∷ [] →
      length pairs ≡ place + 1
  long-more pairs pair e = omega (arith, ap length e, length_push w.pairs.items pair, next)

  pub watched-two : (w' : Watches) (m : ℤ) → IsReplacement s.partial.literals c first m →
      w'.pairs.items ≡ w.pairs.items ++ (record { first = first; second = m }) ∷ [] →
      AreAdded (length w.pairs.items) first m w.lists w'.lists →
      IsWatching s 0 w'.pairs.items w'.lists × (length w'.pairs.items ≡ place + 1)
  watched-two w' m found e added =
      let pair : Pair = record { first = first; second = m } in
      let k : ℕ = length w.pairs.items in
      let one : place_of first < length w.lists =
      place-inside s.partial.variables first w.lists
      (literals-read s ready place inside c at first there) watching.sized in
      let two : place_of m < length w.lists =
      place-inside s.partial.variables m w.lists
      (literals-read s ready place inside c at m found.there) watching.sized in
      let P : List Pair → Type 0 = λ ps. IsWatching s 0 ps w'.lists in
      let Q : Clause → Type 0 = λ d. IsHeld s.partial.literals s.limits.items 0 w'.lists d k pair in (
        subst P (sym e) (watching-added s 0 w.pairs.items w.lists w'.lists pair watching
            (added-long k first m w.lists w'.lists one two added) (omega (arith, next, inside))
            (added-old k first m w.lists w'.lists one two added)
            (added-cases k first m w.lists w'.lists one two added)
            (subst Q (sym here) (held-first s k c first m w'.lists there found.there
            (λ e. found.differ (sym e)) (added-first k first m w.lists w'.lists one two added)
            (added-second k first m w.lists w'.lists one two added)))),
        long-more w'.pairs.items pair e,
      )

  pub watched-one : (t : Solver) (w' : Watches) → GoesOn s t → Contains t.partial.literals first →
      s.limits.items ≡ [] → w'.pairs.items ≡ w.pairs.items ++
      (record { first = first; second = first }) ∷ [] → w'.lists ≡ w.lists →
      IsWatching t 0 w'.pairs.items w'.lists × (length w'.pairs.items ≡ place + 1)
  watched-one t w' on true' none e same =
      let pair : Pair = record { first = first; second = first } in
      let k : ℕ = length w.pairs.items in
      let P : List Pair → Type 0 = λ ps. IsWatching t 0 ps w'.lists in
      let R : List (List ℕ) → Type 0 = λ ls. IsWatching t 0 (w.pairs.items ++ pair ∷ []) ls in
      let Q : Clause → Type 0 = λ d. IsHeld t.partial.literals t.limits.items 0 w.lists d k pair in
      let its : get_or t.clauses k [] ≡ c = ap (λ cs. get_or cs k []) on.clauses ∙ here in (
        subst P (sym e) (subst R (sym same) (watching-added t 0 w.pairs.items w.lists w.lists pair
            (watching-on s t 0 w.pairs.items w.lists on watching) refl
            (omega (arith, next, inside, ap length on.clauses)) (λ q j h. h) (λ q j h. inl h)
            (subst Q (sym its) (held-fixed t k 0 c first w.lists there true' (on.limits ∙ none))))),
        long-more w'.pairs.items pair e,
      )
