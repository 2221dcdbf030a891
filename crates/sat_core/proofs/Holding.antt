-- The state of all watches, as the solver goes on, decides and goes back.
use Rattle.std.proofs.Common.{◌≡◌, ℕ, ◌+◌, ◌-◌, ◌*◌, ◌<◌, ◌≤◌, List, [], ◌∷◌, ◌++◌, length, get_or, take, replicate, inl, inr, sym, ap, ◌∙◌, subst, arith}
use Rattle.std.specs.Prelude.{ℤ, pos, negsuc, Option}
use Rattle.std.specs.List.{Contains}
use Rattle.std.proofs.lemmas.Bool.{cases_lt}
use Rattle.std.proofs.lemmas.List.{length_push, length-append, length-take-le, length-replicate, get_or-replicate, get_or_past, get_or_append_left, get_or_push, get_or_default, get_or-take}
use Rattle.chain_check.specs.Clauses.{Clause, IsLiteral}
use Rattle.sat_core.specs.declared.solver.Solver.{Solver}
use Rattle.sat_core.specs.declared.watches.Pair.{Pair}
use Rattle.sat_core.specs.Trails.{AreSettled, IsSettled}
use Rattle.sat_core.specs.Solvers.{IsReady, GoesOn}
use Rattle.sat_core.specs.Lists.{place_of}
use Rattle.sat_core.specs.Watches.{IsFixed, IsWatched, IsHeld, IsWatching, no_pair}
use Rattle.sat_core.specs.Lessons.{IsTaught}
use Rattle.sat_core.proofs.Covering.{watched-settled, fixed-settled, watched-implied, fixed-implied, watched-decided, fixed-decided, watched-back, fixed-back}

-- different literals have different places
pub same-place : (l m : ℤ) → place_of l ≡ place_of m → l ≡ m
same-place (pos a) (pos b) e = let same : a ≡ b = omega arith in ap pos same
same-place (pos a) (negsuc b) e = absurd (omega arith)
same-place (negsuc a) (pos b) e = absurd (omega arith)
same-place (negsuc a) (negsuc b) e = let same : a ≡ b = omega arith in ap negsuc same

pub place-inside : (n : ℕ) (l : ℤ) (lists : List (List ℕ)) → IsLiteral n l →
    2 * n + 1 < length lists → place_of l < length lists
place-inside n (pos a) lists right sized = omega (arith, right.1, sized)
place-inside n (negsuc a) lists right sized = omega (arith, right.1, sized)

-- where all places are dealt with, all clauses are settled
pub watching-settled : (s : Solver) (done : ℕ) (pairs : List Pair) (lists : List (List ℕ)) →
    IsWatching s done pairs lists → length pairs ≡ length s.clauses →
    done ≡ length s.partial.literals → AreSettled s.clauses s.partial.literals
watching-settled s done pairs lists is long all c (k, lt, e) =
    let there : get_or s.clauses k [] ≡ c = get_or_default s.clauses k [] c lt ∙ e in
    let P : Clause → Type 0 = IsSettled s.partial.literals in
    let held : IsHeld s.partial.literals s.limits.items done lists (get_or s.clauses k []) k
    (get_or pairs k no_pair) = is.held k (omega (arith, long, lt)) in
    let Q : ℕ → Type 0 = λ n. IsWatched s.partial.literals s.limits.items n (get_or s.clauses k [])
    (get_or pairs k no_pair).first (get_or pairs k no_pair).second in
    subst P there (elim held.guarded [
      | inl fixed ↦ fixed-settled s.partial.literals s.limits.items (get_or s.clauses k []) fixed
      | inr both ↦ watched-settled s.partial.literals s.limits.items
          (get_or s.clauses k []) _ _ held.first held.second (subst Q all both.0)
    ])

-- a state given by its parts
pub watching-from : (t : Solver) (n : ℕ) (clauses : List Clause) (trail : List ℤ) (limits : List ℕ)
    (done : ℕ) (pairs : List Pair) (lists : List (List ℕ)) → t.partial.variables ≡ n →
    t.clauses ≡ clauses → t.partial.literals ≡ trail → t.limits.items ≡ limits →
    done ≤ length trail → ((q : ℕ) → q < length limits → get_or limits q 0 ≤ done) →
    2 * n + 1 < length lists → length pairs ≤ length clauses →
    ((i k : ℕ) → Contains (get_or lists i []) k → k < length pairs) →
    ((k : ℕ) → k < length pairs → IsHeld trail limits done lists (get_or clauses k []) k
    (get_or pairs k no_pair)) → IsWatching t done pairs lists
watching-from t n clauses trail limits done pairs lists e f g h reached after sized within inside
    held =
    let A : List ℕ → Type 0 = λ ls. (q : ℕ) → q < length ls → get_or ls q 0 ≤ done in
    let B : List Clause → Type 0 = λ cs. (k : ℕ) → k < length pairs →
    IsHeld t.partial.literals t.limits.items done lists (get_or cs k []) k
    (get_or pairs k no_pair) in
    let C : List ℤ → Type 0 = λ tr. (k : ℕ) → k < length pairs →
    IsHeld tr t.limits.items done lists (get_or clauses k []) k (get_or pairs k no_pair) in
    let D : List ℕ → Type 0 = λ ls. (k : ℕ) → k < length pairs →
    IsHeld trail ls done lists (get_or clauses k []) k (get_or pairs k no_pair) in
    record {
      reached = omega (arith, reached, ap length g);
      after = subst A (sym h) after;
      sized = omega (arith, sized, e);
      within = omega (arith, within, ap length f);
      inside = inside;
      held = subst B (sym f) (subst C (sym g) (subst D (sym h) held));
    }

-- one clause is held on
pub held-on : (trail trail' : List ℤ) (limits limits' : List ℕ) (done done' : ℕ)
    (lists lists' : List (List ℕ)) (c : Clause) (k : ℕ) (pair : Pair) →
    (IsFixed trail limits c → IsFixed trail' limits' c) →
    ((l m : ℤ) → IsWatched trail limits done c l m → IsWatched trail' limits' done' c l m) →
    ((l : ℤ) → Contains (get_or lists (place_of l) []) k →
    Contains (get_or lists' (place_of l) []) k) → IsHeld trail limits done lists c k pair →
    IsHeld trail' limits' done' lists' c k pair
held-on trail trail' limits limits' done done' lists lists' c k pair fixed watched listed held =
    record {
      first = held.first;
      second = held.second;
      guarded = elim held.guarded [
        | inl h ↦ inl (fixed h)
        | inr both ↦ inr (
          watched pair.first pair.second both.0,
          listed pair.first both.1,
          listed pair.second both.2,
        )
      ];
    }

-- the solver goes on
pub watching-on : (s t : Solver) (done : ℕ) (pairs : List Pair) (lists : List (List ℕ)) →
    GoesOn s t → IsWatching s done pairs lists → IsWatching t done pairs lists
watching-on s t done pairs lists on is =
    let (more, e) = on.longer in
    watching-from t s.partial.variables s.clauses
    (s.partial.literals ++ more) s.limits.items done pairs lists on.variables on.clauses e
    on.limits (omega (arith, is.reached, length-append s.partial.literals more)) is.after
    is.sized is.within is.inside
    (λ k lt. held-on s.partial.literals (s.partial.literals ++ more) s.limits.items s.limits.items
    done done lists lists (get_or s.clauses k []) k (get_or pairs k no_pair)
    (fixed-implied s.partial.literals more s.limits.items (get_or s.clauses k []))
    (λ l m. watched-implied s.partial.literals more s.limits.items done
    (get_or s.clauses k []) l m is.reached) (λ l h. h) (is.held k lt))

-- other lists with the same members
pub watching-lists : (s : Solver) (done : ℕ) (pairs : List Pair) (lists lists' : List (List ℕ)) →
    length lists' ≡ length lists → ((i : ℕ) → get_or lists' i [] ≡ get_or lists i []) →
    IsWatching s done pairs lists → IsWatching s done pairs lists'
watching-lists s done pairs lists lists' long same is = record {
  reached = is.reached;
  after = is.after;
  sized = omega (arith, is.sized, long);
  within = is.within;
  inside = λ i k h. let P : List ℕ → Type 0 = λ xs. Contains xs k in
      is.inside i k (subst P (same i) h);
  held = λ k lt. held-on s.partial.literals s.partial.literals s.limits.items s.limits.items done
      done lists lists' (get_or s.clauses k []) k (get_or pairs k no_pair) (λ h. h) (λ l m h. h)
      (λ l h. let P : List ℕ → Type 0 = λ xs. Contains xs k in subst P (sym (same (place_of l))) h)
      (is.held k lt);
}

-- a literal more, by a decision
pub watching-decided : (s t : Solver) (done : ℕ) (pairs : List Pair) (lists : List (List ℕ))
    (l : ℤ) → IsWatching s done pairs lists → done ≡ length s.partial.literals →
    t.clauses ≡ s.clauses → t.limits.items ≡ s.limits.items ++ length s.partial.literals ∷ [] →
    t.partial ≡ record s.partial { literals = s.partial.literals ++ l ∷ [] } →
    IsWatching t done pairs lists
watching-decided s t done pairs lists l is all clauses limits pushed =
    watching-from t s.partial.variables s.clauses (s.partial.literals ++ l ∷ [])
    (s.limits.items ++ length s.partial.literals ∷ []) done pairs lists
    (ap (λ q. q.variables) pushed) clauses (ap (λ q. q.literals) pushed) limits
    (omega (arith, is.reached, length_push s.partial.literals l)) after is.sized is.within
    is.inside
    (λ k lt. held-on s.partial.literals (s.partial.literals ++ l ∷ []) s.limits.items
    (s.limits.items ++ length s.partial.literals ∷ []) done done lists lists
    (get_or s.clauses k []) k (get_or pairs k no_pair)
    (fixed-decided s.partial.literals (l ∷ []) s.limits.items (get_or s.clauses k []))
    (λ x y. watched-decided s.partial.literals (l ∷ []) s.limits.items done
    (get_or s.clauses k []) x y is.reached) (λ x h. h) (is.held k lt))
  where
    after : (q : ℕ) → q < length (s.limits.items ++ length s.partial.literals ∷ []) →
        get_or (s.limits.items ++ length s.partial.literals ∷ []) q 0 ≤ done
    after q lt = elim (cases_lt q (length s.limits.items)) [
      | inl old ↦ omega (
        arith,
        get_or_append_left s.limits.items
            (length s.partial.literals ∷ []) 0 q old,
        is.after q old,
      )
      | inr past ↦ omega (
        arith,
        all,
        get_or_push s.limits.items (length s.partial.literals) 0 q
            (omega (arith, lt, past, length_push s.limits.items (length s.partial.literals))),
      )
    ]

-- the solver goes back and learns a clause, which is not watched yet
pub watching-taught : (s t : Solver) (done : ℕ) (pairs : List Pair) (lists : List (List ℕ))
    (c : Clause) (top : ℤ) (second : Option ℤ) (level : ℕ) → IsReady s →
    IsWatching s done pairs lists → IsTaught s t c top second level →
    t.clauses ≡ s.clauses ++ c ∷ [] → t.partial.variables ≡ s.partial.variables →
    IsWatching t (length t.partial.literals - 1) pairs lists
watching-taught s t done pairs lists c top second level ready is taught clauses variables =
    let P : ℕ → Type 0 = λ n. IsWatching t n pairs lists in
    subst P its-length (watching-from t s.partial.variables (s.clauses ++ c ∷ [])
    (take to s.partial.literals ++ top ∷ [])
    (take level s.limits.items) to pairs lists variables clauses taught.trail taught.limits
    (omega (arith, front, length_push (take to s.partial.literals) top)) after is.sized
    (omega (arith, is.within, length_push s.clauses c)) is.inside held)
  where
    to : ℕ
    to = get_or s.limits.items level 0

    fits : to ≤ length s.partial.literals
    fits = omega (arith, ready.trail.within level taught.inside)

    front : length (take to s.partial.literals) ≡ to
    front = length-take-le to s.partial.literals fits

    its-length : to ≡ length t.partial.literals - 1
    its-length = omega (
      arith,
      ap length taught.trail,
      length_push (take to s.partial.literals) top,
      front,
    )

    few : length (take level s.limits.items) ≡ level
    few = length-take-le level s.limits.items (omega (arith, taught.inside))

    after : (q : ℕ) → q < length (take level s.limits.items) →
        get_or (take level s.limits.items) q 0 ≤ to
    after q lt = omega (
      arith,
      get_or-take level s.limits.items q 0 (omega (arith, lt, few)),
      ready.trail.rising q level (omega (arith, lt, few)) taught.inside,
    )

    held : (k : ℕ) → k < length pairs → IsHeld (take to s.partial.literals ++ top ∷ [])
        (take level s.limits.items) to lists (get_or (s.clauses ++ c ∷ []) k []) k
        (get_or pairs k no_pair)
    held k lt =
        let d : Clause = get_or s.clauses k [] in
        let P : Clause → Type 0 = λ e. IsHeld (take to s.partial.literals ++ top ∷ [])
        (take level s.limits.items) to lists e k (get_or pairs k no_pair) in
        subst P (sym (get_or_append_left s.clauses (c ∷ []) [] k (omega (arith, lt, is.within))))
        (held-on s.partial.literals (take to s.partial.literals ++ top ∷ []) s.limits.items
        (take level s.limits.items) done to lists lists d k (get_or pairs k no_pair)
        (λ h. fixed-implied (take to s.partial.literals) (top ∷ []) (take level s.limits.items) d
        (fixed-back s.partial.literals s.limits.items level d taught.inside fits h))
        (λ x y h. watched-implied (take to s.partial.literals) (top ∷ [])
        (take level s.limits.items) to d x y (omega (arith, front))
        (watched-back s.partial.literals s.limits.items done level d x y taught.inside
        (is.after level taught.inside) fits h))
        (λ x h. h) (is.held k lt))

-- nothing is watched yet
pub watching-none : (s : Solver) (n done : ℕ) (pairs : List Pair) (lists : List (List ℕ)) →
    s.partial ≡ record { variables = n; literals = [] } → s.limits.items ≡ [] → pairs ≡ [] →
    lists ≡ replicate (2 * n + 2) [] → done ≡ 0 → IsWatching s done pairs lists
watching-none s n done pairs lists partial limits none blank start = record {
  reached = omega (arith, start);
  after = λ q lt. absurd (omega (arith, lt, ap length limits));
  sized = let e : length lists ≡ 2 * n + 2 = ap length blank ∙ length-replicate (2 * n + 2) [] in
      omega (arith, e, ap (λ t. t.variables) partial);
  within = omega (arith, ap length none);
  inside = inside;
  held = λ k lt. absurd (omega (arith, lt, ap length none));
}
  where
    empty : (i : ℕ) → get_or (replicate {A = List ℕ} (2 * n + 2) []) i [] ≡ []
    empty i = elim (cases_lt i (2 * n + 2)) [
      | inl lt ↦ get_or-replicate (2 * n + 2) i [] [] lt
      | inr past ↦ get_or_past (replicate {A = List ℕ} (2 * n + 2) []) i []
          (omega (arith, past, length-replicate {A = List ℕ} (2 * n + 2) []))
    ]

    inside : (i k : ℕ) → Contains (get_or lists i []) k → k < length pairs
    inside i k there =
        let P : List (List ℕ) → Type 0 = λ xs. Contains (get_or xs i []) k in
        let Q : List ℕ → Type 0 = λ xs. Contains xs k in
        let (j, lt, e) = subst Q (empty i) (subst P blank there) in
        absurd (omega arith)
