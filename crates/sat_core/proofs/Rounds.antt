-- A round of visits to the clauses that watch a literal.
use Rattle.std.proofs.Common.{◌≡◌, ◌≢◌, ℕ, suc, ◌+◌, ◌-◌, ◌<◌, ◌≤◌, ◌⊎◌, List, [], ◌∷◌, ◌++◌, length, get_or, set, take, inl, inr, refl, sym, ap, ◌∙◌, subst, arith, get_or-set_same, get_or-set_other}
use Rattle.std.specs.Prelude.{ℤ, neg_ℤ}
use Rattle.std.specs.List.{Contains}
use Rattle.std.proofs.lemmas.Bool.{cases_eq}
use Rattle.std.proofs.lemmas.List.{length-set, length-take-le, get_or_default, get_or-take}
use Rattle.std.proofs.lemmas.List.Elements.{Contains-append_left, Contains-push, Contains-push_cases}
use Rattle.chain_check.specs.Clauses.{Clause, IsLiteral}
use Rattle.sat_core.specs.declared.solver.Solver.{Solver}
use Rattle.sat_core.specs.declared.watches.Pair.{Pair}
use Rattle.sat_core.specs.Solvers.{GoesOn}
use Rattle.sat_core.specs.Lists.{place_of}
use Rattle.sat_core.specs.Watches.{StandsAt, IsCovered, IsFixed, IsWatched, IsHeld, IsWatching, no_pair, IsReplacement, IsOther}
use Rattle.chain_check.proofs.Literals.{same-or-not, twice}
use Rattle.sat_core.proofs.Covering.{there-at, stands-more, watched-implied, fixed-implied, watched-next, covered-open}
use Rattle.sat_core.proofs.Holding.{same-place, place-inside, held-on, watching-on, watching-lists}

-- the clause is watched one place further
abbrev pub IsNext : Solver → ℕ → List Pair → ℕ → Type 0
IsNext s done pairs k = IsFixed s.partial.literals s.limits.items (get_or s.clauses k []) ⊎
    IsWatched s.partial.literals s.limits.items (suc done) (get_or s.clauses k [])
    (get_or pairs k no_pair).first (get_or pairs k no_pair).second

-- the number is met from place i on
abbrev pub IsWaiting : List ℕ → ℕ → ℕ → Type 0
IsWaiting list i k = (j : ℕ) × (i ≤ j) × (j < length list) × (get_or list j 0 ≡ k)

waiting-there : (list : List ℕ) (k : ℕ) → Contains list k → IsWaiting list 0 k
waiting-there list k (j, lt, e) = (j, omega arith, lt, get_or_default list j 0 k lt ∙ e)

there-waiting : (list : List ℕ) (i k : ℕ) → IsWaiting list i k → Contains list k
there-waiting list i k (j, le, lt, e) = (j, lt, get_or_default list j k 0 lt ∙ e)

-- how far the visits to the clauses that watch l have come
pub record IsPassing (s : Solver) (done : ℕ) (pairs : List Pair) (lists : List (List ℕ)) (l : ℤ)
    (list : List ℕ) (i : ℕ) : Type 0 where
  pub watching : IsWatching s done pairs (set lists (place_of l) list)
  pub coming : (k : ℕ) → k < length pairs → IsWaiting list i k ⊎ IsNext s done pairs k
  pub at : StandsAt s.partial.literals (neg_ℤ l) done
  pub place : place_of l < length lists

-- the next place does not make this literal false
unharmed : (trail : List ℤ) (c : Clause) (l m : ℤ) (done : ℕ) → StandsAt trail (neg_ℤ l) done →
    m ≢ l → StandsAt trail (neg_ℤ m) done → (b : ℤ) × Contains c b × Contains trail b
unharmed trail c l m done at apart at' = absurd
    (apart (sym (twice m) ∙ ap neg_ℤ (sym at'.1 ∙ at.1) ∙ twice l))

pub passing-starts : (s : Solver) (done : ℕ) (pairs : List Pair) (lists : List (List ℕ)) (l : ℤ) →
    IsLiteral s.partial.variables l → StandsAt s.partial.literals (neg_ℤ l) done →
    IsWatching s done pairs lists → IsPassing s done pairs (set lists (place_of l) []) l
    (get_or lists (place_of l) []) 0
passing-starts s done pairs lists l right at is = record {
  watching = watching-lists s done pairs lists
      (set (set lists (place_of l) []) (place_of l) (get_or lists (place_of l) [])) long same is;
  coming = coming;
  at = at;
  place = omega (arith, inside, length-set lists (place_of l) []);
}
  where
    inside : place_of l < length lists
    inside = place-inside s.partial.variables l lists right is.sized

    long : length (set (set lists (place_of l) []) (place_of l) (get_or lists (place_of l) [])) ≡
        length lists
    long = length-set (set lists (place_of l) []) (place_of l) (get_or lists (place_of l) []) ∙
        length-set lists (place_of l) []

    same : (i : ℕ) → get_or (set (set lists (place_of l) []) (place_of l)
        (get_or lists (place_of l) [])) i [] ≡ get_or lists i []
    same i = elim (cases_eq i (place_of l)) [
      | inl here ↦ let P : ℕ → Type 0 = λ q. get_or
          (set (set lists (place_of l) []) (place_of l) (get_or lists (place_of l) [])) q [] ≡
          get_or lists q [] in
          subst P (sym here) (get_or-set_same (set lists (place_of l) []) (place_of l)
          (get_or lists (place_of l) []) []
          (omega (arith, inside, length-set lists (place_of l) [])))
      | inr apart ↦ get_or-set_other (set lists (place_of l) []) (place_of l) i
          (get_or lists (place_of l) []) [] apart ∙
          get_or-set_other lists (place_of l) i [] [] apart
    ]

    coming : (k : ℕ) → k < length pairs → IsWaiting (get_or lists (place_of l) []) 0 k ⊎
        IsNext s done pairs k
    coming k lt =
        let c : Clause = get_or s.clauses k [] in
        let pair : Pair = get_or pairs k no_pair in
        let P : ℤ → Type 0 = λ z. Contains (get_or lists (place_of z) []) k in
        elim (is.held k lt).guarded [
          | inl fixed ↦ inr (inl fixed)
          | inr both ↦ elim (same-or-not pair.first l) [
            | inl e ↦ inl (waiting-there _ k (subst P e both.1))
            | inr one ↦ elim (same-or-not pair.second l) [
              | inl e ↦ inl (waiting-there _ k (subst P e both.2))
              | inr two ↦ inr (inr (watched-next s.partial.literals s.limits.items done c pair.first
                  pair.second is.after (unharmed s.partial.literals c l pair.first done at one)
                  (unharmed s.partial.literals c l pair.second done at two) both.0))
            ]
          ]
        ]

next-on : (s t : Solver) (done : ℕ) (pairs : List Pair) (k : ℕ) →
    suc done ≤ length s.partial.literals → GoesOn s t → IsNext s done pairs k →
    IsNext t done pairs k
next-on s t done pairs k le on next =
    let (more, e) = on.longer in
    let c : Clause = get_or s.clauses k [] in
    let pair : Pair = get_or pairs k no_pair in
    let A : List ℤ → Type 0 = λ tr. IsFixed tr t.limits.items (get_or t.clauses k []) ⊎
    IsWatched tr t.limits.items (suc done) (get_or t.clauses k []) pair.first pair.second in
    let B : List ℕ → Type 0 = λ ls. IsFixed (s.partial.literals ++ more) ls
    (get_or t.clauses k []) ⊎ IsWatched (s.partial.literals ++ more) ls (suc done)
    (get_or t.clauses k []) pair.first pair.second in
    let C : List Clause → Type 0 = λ cs. IsFixed (s.partial.literals ++ more) s.limits.items
    (get_or cs k []) ⊎ IsWatched (s.partial.literals ++ more) s.limits.items (suc done)
    (get_or cs k []) pair.first pair.second in
    subst A (sym e) (subst B (sym on.limits) (subst C (sym on.clauses) (elim next [
      | inl fixed ↦ inl (fixed-implied s.partial.literals more s.limits.items c fixed)
      | inr watched ↦ inr (watched-implied s.partial.literals more s.limits.items
          (suc done) c pair.first pair.second le watched)
    ])))

stands-on : (s t : Solver) (l : ℤ) (i : ℕ) → GoesOn s t → StandsAt s.partial.literals l i →
    StandsAt t.partial.literals l i
stands-on s t l i on at =
    let (more, e) = on.longer in
    let P : List ℤ → Type 0 = λ tr. StandsAt tr l i in
    subst P (sym e) (stands-more s.partial.literals more l i at)

-- the clause at place i is true
pub passing-kept : (s t : Solver) (done : ℕ) (pairs : List Pair) (lists : List (List ℕ)) (l : ℤ)
    (list : List ℕ) (i : ℕ) (b : ℤ) → IsPassing s done pairs lists l list i → GoesOn s t →
    i < length list → Contains (get_or t.clauses (get_or list i 0) []) b →
    Contains t.partial.literals b → IsPassing t done pairs lists l list (i + 1)
passing-kept s t done pairs lists l list i b is on inside of true' = record {
  watching = watching;
  coming = coming;
  at = stands-on s t (neg_ℤ l) done on is.at;
  place = is.place;
}
  where
    watching : IsWatching t done pairs (set lists (place_of l) list)
    watching = watching-on s t done pairs (set lists (place_of l) list) on is.watching

    here : (k : ℕ) → k < length pairs → get_or list i 0 ≡ k → IsNext t done pairs k
    here k lt e =
        let c : Clause = get_or t.clauses k [] in
        let pair : Pair = get_or pairs k no_pair in
        let P : ℕ → Type 0 = λ q. Contains (get_or t.clauses q []) b in
        elim (watching.held k lt).guarded [
          | inl fixed ↦ inl fixed
          | inr both ↦ inr (watched-next t.partial.literals t.limits.items done c pair.first
              pair.second watching.after (λ h. (b, subst P e of, true'))
              (λ h. (b, subst P e of, true')) both.0)
        ]

    coming : (k : ℕ) → k < length pairs → IsWaiting list (i + 1) k ⊎ IsNext t done pairs k
    coming k lt = elim (is.coming k lt) [
      | inr next ↦ inr (next-on s t done pairs k (omega (arith, is.at.0)) on next)
      | inl (j, le, less, e) ↦ elim (cases_eq j i) [
        | inr apart ↦ inl (j, omega arith, less, e)
        | inl same ↦ inr (here k lt (ap (λ q. get_or list q 0) (sym same) ∙ e))
      ]
    ]

-- a list of which one place was let go
abbrev pub removed : List ℕ → ℕ → List ℕ
removed list i = take (length list - 1) (set list i (get_or list (length list - 1) 0))

removed-long : (list : List ℕ) (i : ℕ) → length (removed list i) ≡ length list - 1
removed-long list i = length-take-le (length list - 1)
    (set list i (get_or list (length list - 1) 0))
    (omega (arith, length-set list i (get_or list (length list - 1) 0)))

removed-at : (list : List ℕ) (i j : ℕ) → j < length list - 1 → j ≢ i →
    get_or (removed list i) j 0 ≡ get_or list j 0
removed-at list i j lt apart = get_or-take (length list - 1)
    (set list i (get_or list (length list - 1) 0)) j 0 lt ∙
    get_or-set_other list i j (get_or list (length list - 1) 0) 0 apart

removed-here : (list : List ℕ) (i : ℕ) → i < length list - 1 →
    get_or (removed list i) i 0 ≡ get_or list (length list - 1) 0
removed-here list i lt = get_or-take (length list - 1)
    (set list i (get_or list (length list - 1) 0)) i 0 lt ∙
    get_or-set_same list i (get_or list (length list - 1) 0) 0 (omega arith)

pub removed-waits : (list : List ℕ) (i from k : ℕ) → from ≤ i → i < length list →
    k ≢ get_or list i 0 → IsWaiting list from k → IsWaiting (removed list i) from k
removed-waits list i from k low inside apart (j, le, lt, e) =
    let other : j ≢ i = λ same. apart (sym e ∙ ap (λ q. get_or list q 0) same) in
    elim (cases_eq j (length list - 1)) [
      | inr early ↦ (
        j,
        le,
        omega (arith, lt, early, removed-long list i),
        removed-at list i j (omega (arith, lt, early)) other ∙ e,
      )
      | inl last ↦
          let less : i < length list - 1 = omega (arith, last, other, inside) in (
            i,
            low,
            omega (arith, less, removed-long list i),
            removed-here list i less ∙
                ap (λ q. get_or list q 0) (sym last) ∙ e,
          )
    ]

pub removed-less : (list : List ℕ) (i k : ℕ) → i < length list → Contains (removed list i) k →
    Contains list k
removed-less list i k inside there =
    let (j, le, lt, e) = waiting-there (removed list i) k there in
    let early : j < length list - 1 = omega (arith, lt, removed-long list i) in
    elim (cases_eq j i) [
      | inr apart ↦ there-waiting list 0 k (
        j,
        omega arith,
        omega arith,
        sym (removed-at list i j early apart) ∙ e,
      )
      | inl same ↦
          let P : ℕ → Type 0 = λ q. get_or (removed list i) q 0 ≡ k in
          let less : i < length list - 1 = omega (arith, early, same) in
          there-waiting list 0 k (
            length list - 1,
            omega arith,
            omega arith,
            sym (removed-here list i less) ∙ subst P same e,
          )
    ]

pub removed-more : (list : List ℕ) (i k : ℕ) → i < length list → k ≢ get_or list i 0 →
    Contains list k → Contains (removed list i) k
removed-more list i k inside apart there = there-waiting (removed list i) 0 k
    (removed-waits list i 0 k (omega arith) inside apart (waiting-there list k there))

module _ (s : Solver) (done : ℕ) (pairs : List Pair) (lists : List (List ℕ)) (l : ℤ) (list : List ℕ)
    (i : ℕ) (other m : ℤ) (is : IsPassing s done pairs lists l list i) (inside : i < length list)
    (is-other : IsOther (get_or pairs (get_or list i 0) no_pair) l other)
    (found : IsReplacement s.partial.literals (get_or s.clauses (get_or list i 0) []) other m)
    (right : place_of m < length lists) where
  abbrev k₀ : ℕ
  k₀ = get_or list i 0

  -- the lists as if the one of l were in its place
  abbrev whole : List (List ℕ)
  whole = set lists (place_of l) list

  abbrev lists' : List (List ℕ)
  lists' = set lists (place_of m) (get_or lists (place_of m) [] ++ k₀ ∷ [])

  abbrev whole' : List (List ℕ)
  whole' = set lists' (place_of l) (removed list i)

  abbrev pair' : Pair
  pair' = record { first = other; second = m }

  abbrev pairs' : List Pair
  pairs' = set pairs k₀ pair'

  listed : Contains list k₀
  listed = there-waiting list 0 k₀ (i, omega arith, inside, refl)

  at-list : get_or whole (place_of l) [] ≡ list
  at-list = get_or-set_same lists (place_of l) list [] is.place

  few : k₀ < length pairs
  few = let P : List ℕ → Type 0 = λ xs. Contains xs k₀ in
      is.watching.inside (place_of l) k₀ (subst P (sym at-list) listed)

  held : IsHeld s.partial.literals s.limits.items done whole (get_or s.clauses k₀ []) k₀
      (get_or pairs k₀ no_pair)
  held = is.watching.held k₀ few

  long : length pairs' ≡ length pairs
  long = length-set pairs k₀ pair'

  -- the literal that is watched anew is not l
  apart : m ≢ l
  apart e = let P : ℤ → Type 0 = λ z. StandsAt s.partial.literals (neg_ℤ z) done in
      found.open_yet (there-at s.partial.literals (neg_ℤ m) done (subst P (sym e) is.at))

  places-apart : place_of m ≢ place_of l
  places-apart e = apart (same-place m l e)

  at-l : get_or whole' (place_of l) [] ≡ removed list i
  at-l = get_or-set_same lists' (place_of l) (removed list i) []
      (omega (
        arith,
        is.place,
        length-set lists (place_of m)
            (get_or lists (place_of m) [] ++ k₀ ∷ []),
      ))

  at-m : get_or whole' (place_of m) [] ≡ get_or lists (place_of m) [] ++ k₀ ∷ []
  at-m = get_or-set_other lists' (place_of l) (place_of m) (removed list i) [] places-apart ∙
      get_or-set_same lists (place_of m) (get_or lists (place_of m) [] ++ k₀ ∷ []) [] right

  at-other : (q : ℕ) → q ≢ place_of l → q ≢ place_of m → get_or whole' q [] ≡ get_or lists q []
  at-other q one two = get_or-set_other lists' (place_of l) q (removed list i) [] one ∙
      get_or-set_other lists (place_of m) q (get_or lists (place_of m) [] ++ k₀ ∷ []) [] two

  whole-at : (q : ℕ) → q ≢ place_of l → get_or whole q [] ≡ get_or lists q []
  whole-at q one = get_or-set_other lists (place_of l) q list [] one

  -- what is listed elsewhere than under l stays listed
  elsewhere : (q k : ℕ) → q ≢ place_of l → Contains (get_or whole q []) k →
      Contains (get_or whole' q []) k
  elsewhere q k one there =
      let P : List ℕ → Type 0 = λ xs. Contains xs k in
      elim (cases_eq q (place_of m)) [
        | inr two ↦ subst P (sym (at-other q one two)) (subst P (whole-at q one) there)
        | inl here ↦
            let R : ℕ → Type 0 = λ z. Contains (get_or whole' z []) k in
            let S : ℕ → Type 0 = λ z. Contains (get_or lists z []) k in
            subst R (sym here) (subst P (sym at-m)
            (Contains-append_left (get_or lists (place_of m) []) (k₀ ∷ []) k
            (subst S here (subst P (whole-at q one) there))))
      ]

  kept-lists : (x : ℤ) (k : ℕ) → k ≢ k₀ → Contains (get_or whole (place_of x) []) k →
      Contains (get_or whole' (place_of x) []) k
  kept-lists x k other' there =
      elim (cases_eq (place_of x) (place_of l)) [
        | inr one ↦ elsewhere (place_of x) k one there
        | inl here ↦
            let P : List ℕ → Type 0 = λ xs. Contains xs k in
            let R : ℕ → Type 0 = λ z. Contains (get_or whole' z []) k in
            let S : ℕ → Type 0 = λ z. Contains (get_or whole z []) k in
            subst R (sym here) (subst P (sym at-l)
            (removed-more list i k inside other' (subst P at-list (subst S here there))))
      ]

  inside' : (q k : ℕ) → Contains (get_or whole' q []) k → k < length pairs'
  inside' q k there =
      let P : List ℕ → Type 0 = λ xs. Contains xs k in
      let R : ℕ → Type 0 = λ z. Contains (get_or whole' z []) k in
      elim (cases_eq q (place_of l)) [
        | inl here ↦ omega (
          arith,
          long,
          is.watching.inside (place_of l) k
              (subst P (sym at-list) (removed-less list i k inside
              (subst P at-l (subst R here there)))),
        )
        | inr one ↦ elim (cases_eq q (place_of m)) [
          | inr two ↦ omega (
            arith,
            long,
            is.watching.inside q k
                (subst P (sym (whole-at q one)) (subst P (at-other q one two) there)),
          )
          | inl here ↦ elim (Contains-push_cases (get_or lists (place_of m) []) k₀ k
              (subst P at-m (subst R here there))) [
                | inl old ↦ omega (
                  arith,
                  long,
                  is.watching.inside (place_of m) k
                      (subst P (sym (whole-at (place_of m) places-apart)) old),
                )
                | inr same ↦ omega (arith, long, few, same)
              ]
        ]
      ]

  other-there' : Contains (get_or s.clauses k₀ []) other
  other-there' = let P : ℤ → Type 0 = Contains (get_or s.clauses k₀ []) in
      elim is-other.one [ inl e ↦ subst P (sym e) held.first | inr e ↦ subst P (sym e) held.second ]

  -- its new pair
  moved : IsFixed s.partial.literals s.limits.items (get_or s.clauses k₀ []) ⊎
      (IsWatched s.partial.literals s.limits.items done (get_or s.clauses k₀ []) other m ×
      Contains (get_or whole' (place_of other) []) k₀ ×
      Contains (get_or whole' (place_of m) []) k₀ × (other ≢ l))
  moved = elim held.guarded [
    | inl fixed ↦ inl fixed
    | inr both ↦
        let two : other ≢ l = is-other.apart both.0.differ in
        let away : place_of other ≢ place_of l = λ e. two (same-place other l e) in
        let P : ℤ → Type 0 = IsCovered s.partial.literals s.limits.items done
        (get_or s.clauses k₀ []) in
        let Q : ℤ → Type 0 = λ z. Contains (get_or whole (place_of z) []) k₀ in
        let R : List ℕ → Type 0 = λ xs. Contains xs k₀ in
        let covered : P other = elim is-other.one
        [ inl e ↦ subst P (sym e) both.0.left | inr e ↦ subst P (sym e) both.0.right ] in
        let under : Q other = elim is-other.one
        [ inl e ↦ subst Q (sym e) both.1 | inr e ↦ subst Q (sym e) both.2 ] in
        inr (
          record {
            differ = λ e. found.differ (sym e);
            left = covered;
            right =
                covered-open s.partial.literals s.limits.items done
                (get_or s.clauses k₀ []) m found.open_yet;
          },
          elsewhere (place_of other) k₀ away under,
          subst R (sym at-m) (Contains-push (get_or lists (place_of m) []) k₀),
          two,
        )
  ]

  held' : (k : ℕ) → k < length pairs' → IsHeld s.partial.literals s.limits.items done whole'
      (get_or s.clauses k []) k (get_or pairs' k no_pair)
  held' k lt = elim (cases_eq k k₀) [
    | inr other' ↦
        let P : Pair → Type 0 = IsHeld s.partial.literals s.limits.items done whole'
        (get_or s.clauses k []) k in
        subst P (sym (get_or-set_other pairs k₀ k pair' no_pair other'))
        (held-on s.partial.literals s.partial.literals s.limits.items s.limits.items done done
        whole whole' (get_or s.clauses k []) k (get_or pairs k no_pair) (λ h. h) (λ x y h. h)
        (λ x h. kept-lists x k other' h) (is.watching.held k (omega (arith, long))))
    | inl here ↦
        let P : Pair → Type 0 = IsHeld s.partial.literals s.limits.items done whole'
        (get_or s.clauses k₀ []) k₀ in
        let Q : ℕ → Type 0 = λ q. IsHeld s.partial.literals s.limits.items done whole'
        (get_or s.clauses q []) q (get_or pairs' q no_pair) in
        subst Q (sym here) (subst P (sym (get_or-set_same pairs k₀ pair' no_pair few)) (record {
          first = other-there';
          second = found.there;
          guarded = elim moved [ inl fixed ↦ inl fixed | inr all ↦ inr (all.0, all.1, all.2) ];
        }))
  ]

  next' : (k : ℕ) → k ≡ k₀ → IsNext s done pairs' k
  next' k here =
      let Q : ℕ → Type 0 = IsNext s done pairs' in
      let c : Clause = get_or s.clauses k₀ [] in
      let P : Pair → Type 0 = λ p. IsFixed s.partial.literals s.limits.items c ⊎
      IsWatched s.partial.literals s.limits.items (suc done) c p.first p.second in
      subst Q (sym here) (subst P (sym (get_or-set_same pairs k₀ pair' no_pair few)) (elim moved [
        | inl fixed ↦ inl fixed
        | inr all ↦ inr (watched-next s.partial.literals s.limits.items done c other m
            is.watching.after (unharmed s.partial.literals c l other done is.at all.3)
            (unharmed s.partial.literals c l m done is.at apart) all.0)
      ]))

  -- the clause at place i has another pair, without l
  pub passing-moved : IsPassing s done pairs' lists' l (removed list i) i
  passing-moved = record {
    watching = record {
      reached = is.watching.reached;
      after = is.watching.after;
      sized = omega (
        arith,
        is.watching.sized,
        length-set lists (place_of l) list,
        length-set lists' (place_of l) (removed list i),
        length-set lists (place_of m) (get_or lists (place_of m) [] ++ k₀ ∷ []),
      );
      within = omega (arith, is.watching.within, long);
      inside = inside';
      held = held';
    };
    coming = coming;
    at = is.at;
    place = omega (
      arith,
      is.place,
      length-set lists (place_of m)
          (get_or lists (place_of m) [] ++ k₀ ∷ []),
    );
  }
    where
      coming : (k : ℕ) → k < length pairs' → IsWaiting (removed list i) i k ⊎ IsNext s done pairs' k
      coming k lt = elim (cases_eq k k₀) [
        | inl here ↦ inr (next' k here)
        | inr other' ↦ elim (is.coming k (omega (arith, long))) [
          | inl waits ↦ inl (removed-waits list i i k (omega arith) inside other' waits)
          | inr next ↦
              let c : Clause = get_or s.clauses k [] in
              let P : Pair → Type 0 = λ p. IsFixed s.partial.literals s.limits.items c ⊎
              IsWatched s.partial.literals s.limits.items (suc done) c p.first p.second in
              inr (subst P (sym (get_or-set_other pairs k₀ k pair' no_pair other')) next)
        ]
      ]

-- all clauses that watch l were visited
pub passing-ends : (s : Solver) (done : ℕ) (pairs : List Pair) (lists : List (List ℕ)) (l : ℤ)
    (list : List ℕ) (i : ℕ) → IsPassing s done pairs lists l list i → length list ≤ i →
    IsWatching s (suc done) pairs (set lists (place_of l) list)
passing-ends s done pairs lists l list i is past = record {
  reached = omega (arith, is.at.0);
  after = λ q lt. omega (arith, is.watching.after q lt);
  sized = is.watching.sized;
  within = is.watching.within;
  inside = is.watching.inside;
  held = held;
}
  where
    held : (k : ℕ) → k < length pairs → IsHeld s.partial.literals s.limits.items (suc done)
        (set lists (place_of l) list) (get_or s.clauses k []) k (get_or pairs k no_pair)
    held k lt =
        let old : IsHeld s.partial.literals s.limits.items done (set lists (place_of l) list)
        (get_or s.clauses k []) k (get_or pairs k no_pair) = is.watching.held k lt in
        record {
          first = old.first;
          second = old.second;
          guarded = elim old.guarded [
            | inl fixed ↦ inl fixed
            | inr both ↦ elim (is.coming k lt) [
              | inl (j, le, less, e) ↦ absurd (omega arith)
              | inr (inl fixed) ↦ inl fixed
              | inr (inr watched) ↦ inr (watched, both.1, both.2)
            ]
          ];
        }
