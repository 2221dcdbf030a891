-- One more clause is watched.
use Rattle.std.proofs.Common.{◌≡◌, ◌≢◌, ℕ, ◌-◌, ◌<◌, ◌⊎◌, List, [], ◌∷◌, ◌++◌, length, get_or, set, take, inl, inr, refl, sym, ap, ◌∙◌, subst, arith, get_or-set_same, get_or-set_other}
use Rattle.std.specs.Prelude.{ℤ, Option}
use Rattle.std.specs.List.{Contains}
use Rattle.std.proofs.lemmas.Bool.{cases_eq, cases_lt}
use Rattle.std.proofs.lemmas.List.{length-set, length_push, get_or_append_left, get_or_push}
use Rattle.std.proofs.lemmas.List.Elements.{Contains-append_left, Contains-push, Contains-push_cases}
use Rattle.chain_check.specs.Clauses.{Clause, IsLiteral}
use Rattle.sat_core.specs.declared.solver.Solver.{Solver}
use Rattle.sat_core.specs.declared.watches.Pair.{Pair}
use Rattle.sat_core.specs.declared.watches.Watches.{Watches}
use Rattle.sat_core.specs.Solvers.{IsReady}
use Rattle.sat_core.specs.Lists.{place_of}
use Rattle.sat_core.specs.Watches.{IsHeld, IsWatching, no_pair, AreAdded}
use Rattle.sat_core.specs.Lessons.{IsSecond, IsTaught}
use Rattle.sat_core.proofs.Resolving.{consistent-trail}
use Rattle.sat_core.proofs.Covering.{place-of, covered-open, covered-none, covered-late}
use Rattle.sat_core.proofs.Holding.{place-inside, held-on, watching-taught}

-- a number that is added to the lists of two literals
module _ (k : ℕ) (l m : ℤ) (lists lists' : List (List ℕ)) (l-inside : place_of l < length lists)
    (m-inside : place_of m < length lists) (added : AreAdded k l m lists lists') where
  abbrev mid : List (List ℕ)
  mid = set lists (place_of l) (get_or lists (place_of l) [] ++ k ∷ [])

  abbrev both : List (List ℕ)
  both = set mid (place_of m) (get_or mid (place_of m) [] ++ k ∷ [])

  pub added-long : length lists' ≡ length lists
  added-long = ap length added ∙ length-set mid (place_of m)
      (get_or mid (place_of m) [] ++ k ∷ []) ∙
      length-set lists (place_of l) (get_or lists (place_of l) [] ++ k ∷ [])

  -- a list with one push, or as it was
  pushed-old : (xs : List (List ℕ)) (p q j : ℕ) → p < length xs → Contains (get_or xs q []) j →
      Contains (get_or (set xs p (get_or xs p [] ++ k ∷ [])) q []) j
  pushed-old xs p q j lt there =
      let P : List ℕ → Type 0 = λ ys. Contains ys j in
      elim (cases_eq q p) [
        | inr apart ↦ subst P (sym (get_or-set_other xs p q (get_or xs p [] ++ k ∷ []) [] apart))
            there
        | inl here ↦
            let Q : ℕ → Type 0 = λ z. Contains
            (get_or (set xs p (get_or xs p [] ++ k ∷ [])) z []) j in
            let R : ℕ → Type 0 = λ z. Contains (get_or xs z []) j in
            subst Q (sym here) (subst P (sym (get_or-set_same xs p
            (get_or xs p [] ++ k ∷ []) [] lt))
            (Contains-append_left (get_or xs p []) (k ∷ []) j (subst R here there)))
      ]

  pushed-new : (xs : List (List ℕ)) (p : ℕ) → p < length xs →
      Contains (get_or (set xs p (get_or xs p [] ++ k ∷ [])) p []) k
  pushed-new xs p lt = let P : List ℕ → Type 0 = λ ys. Contains ys k in
      subst P (sym (get_or-set_same xs p (get_or xs p [] ++ k ∷ []) [] lt))
      (Contains-push (get_or xs p []) k)

  pushed-cases : (xs : List (List ℕ)) (p q j : ℕ) → p < length xs →
      Contains (get_or (set xs p (get_or xs p [] ++ k ∷ [])) q []) j → Contains (get_or xs q []) j ⊎
      (k ≡ j)
  pushed-cases xs p q j lt there =
      let P : List ℕ → Type 0 = λ ys. Contains ys j in
      elim (cases_eq q p) [
        | inr apart ↦ inl (subst P (get_or-set_other xs p q (get_or xs p [] ++ k ∷ []) [] apart)
            there)
        | inl here ↦
            let Q : ℕ → Type 0 = λ z. Contains
            (get_or (set xs p (get_or xs p [] ++ k ∷ [])) z []) j in
            let R : ℕ → Type 0 = λ z. Contains (get_or xs z []) j in
            elim (Contains-push_cases (get_or xs p []) k j
            (subst P (get_or-set_same xs p (get_or xs p [] ++ k ∷ []) [] lt)
            (subst Q here there))) [
              | inl old ↦ inl (subst R (sym here) old)
              | inr same ↦ inr same
            ]
      ]

  mid-long : place_of m < length mid
  mid-long = omega (
    arith,
    m-inside,
    length-set lists (place_of l)
        (get_or lists (place_of l) [] ++ k ∷ []),
  )

  pub added-old : (q j : ℕ) → Contains (get_or lists q []) j → Contains (get_or lists' q []) j
  added-old q j there =
      let P : List (List ℕ) → Type 0 = λ xs. Contains (get_or xs q []) j in
      subst P (sym added) (pushed-old mid (place_of m) q j mid-long
      (pushed-old lists (place_of l) q j l-inside there))

  pub added-first : Contains (get_or lists' (place_of l) []) k
  added-first =
      let P : List (List ℕ) → Type 0 = λ xs. Contains (get_or xs (place_of l) []) k in
      subst P (sym added) (pushed-old mid (place_of m) (place_of l) k mid-long
      (pushed-new lists (place_of l) l-inside))

  pub added-second : Contains (get_or lists' (place_of m) []) k
  added-second =
      let P : List (List ℕ) → Type 0 = λ xs. Contains (get_or xs (place_of m) []) k in
      subst P (sym added) (pushed-new mid (place_of m) mid-long)

  pub added-cases : (q j : ℕ) → Contains (get_or lists' q []) j → Contains (get_or lists q []) j ⊎
      (k ≡ j)
  added-cases q j there =
      let P : List (List ℕ) → Type 0 = λ xs. Contains (get_or xs q []) j in
      elim (pushed-cases mid (place_of m) q j mid-long (subst P added there)) [
        | inr same ↦ inr same
        | inl mid-there ↦ pushed-cases lists (place_of l) q j l-inside mid-there
      ]

-- one more clause with a pair
pub watching-added : (s : Solver) (done : ℕ) (pairs : List Pair) (lists lists' : List (List ℕ))
    (pair : Pair) → IsWatching s done pairs lists → length lists' ≡ length lists →
    length pairs < length s.clauses → ((q j : ℕ) → Contains (get_or lists q []) j →
    Contains (get_or lists' q []) j) → ((q j : ℕ) → Contains (get_or lists' q []) j →
    Contains (get_or lists q []) j ⊎ (length pairs ≡ j)) →
    IsHeld s.partial.literals s.limits.items done lists' (get_or s.clauses (length pairs) [])
    (length pairs) pair → IsWatching s done (pairs ++ pair ∷ []) lists'
watching-added s done pairs lists lists' pair is long room old cases new = record {
  reached = is.reached;
  after = is.after;
  sized = omega (arith, is.sized, long);
  within = omega (arith, room, length_push pairs pair);
  inside = λ q j there. elim (cases q j there) [
    | inl h ↦ omega (arith, is.inside q j h, length_push pairs pair)
    | inr same ↦ omega (arith, same, length_push pairs pair)
  ];
  held = held;
}
  where
    held : (k : ℕ) → k < length (pairs ++ pair ∷ []) →
        IsHeld s.partial.literals s.limits.items done lists' (get_or s.clauses k []) k
        (get_or (pairs ++ pair ∷ []) k no_pair)
    held k lt = elim (cases_lt k (length pairs)) [
      | inl early ↦
          let P : Pair → Type 0 = IsHeld s.partial.literals s.limits.items done lists'
          (get_or s.clauses k []) k in
          subst P (sym (get_or_append_left pairs (pair ∷ []) no_pair k early))
          (held-on s.partial.literals s.partial.literals s.limits.items s.limits.items done done
          lists lists' (get_or s.clauses k []) k (get_or pairs k no_pair) (λ h. h) (λ x y h. h)
          (λ x h. old (place_of x) k h) (is.held k early))
      | inr past ↦
          let here : length pairs ≡ k = omega (arith, lt, length_push pairs pair) in
          let P : Pair → Type 0 = IsHeld s.partial.literals s.limits.items done lists'
          (get_or s.clauses k []) k in
          let Q : ℕ → Type 0 = λ q. IsHeld s.partial.literals s.limits.items done lists'
          (get_or s.clauses q []) q pair in
          subst P (sym (get_or_push pairs pair no_pair k here)) (subst Q here new)
    ]

-- the first pair for a clause before any decision
pub held-first : (s : Solver) (k : ℕ) (c : Clause) (l m : ℤ) (lists : List (List ℕ)) →
    Contains c l → Contains c m → l ≢ m → Contains (get_or lists (place_of l) []) k →
    Contains (get_or lists (place_of m) []) k →
    IsHeld s.partial.literals s.limits.items 0 lists c k (record { first = l; second = m })
held-first s k c l m lists of of' apart there there' = record {
  first = of;
  second = of';
  guarded = inr (
    record {
      differ = apart;
      left = covered-none s.partial.literals s.limits.items c l;
      right = covered-none s.partial.literals s.limits.items c m;
    },
    there,
    there',
  );
}

-- a clause that is true before any decision
pub held-fixed : (s : Solver) (k done : ℕ) (c : Clause) (l : ℤ) (lists : List (List ℕ)) →
    Contains c l → Contains s.partial.literals l → s.limits.items ≡ [] →
    IsHeld s.partial.literals s.limits.items done lists c k (record { first = l; second = l })
held-fixed s k done c l lists of true' none =
    let (j, at) = place-of s.partial.literals l true' in
    record {
      first = of;
      second = of;
      guarded =
          inl (l, j, (of, at, λ q lt. absurd (omega (arith, lt, ap length none))));
    }

-- the learned clause
pub held-learned : (s : Solver) (k done : ℕ) (c : Clause) (l m : ℤ) (lists : List (List ℕ)) →
    IsReady s → Contains c l → Contains s.partial.literals l → IsSecond s c l m →
    Contains (get_or lists (place_of l) []) k → Contains (get_or lists (place_of m) []) k →
    IsHeld s.partial.literals s.limits.items done lists c k (record { first = l; second = m })
held-learned s k done c l m lists ready of true' second there there' = record {
  first = of;
  second = second.there;
  guarded = inr (
    record {
      differ = second.differ;
      left = covered-open s.partial.literals s.limits.items done c l
          (consistent-trail s ready l true');
      right = covered-late s.partial.literals s.limits.items done c l m of true' second.late;
    },
    there,
    there',
  );
}

-- the learned clause is watched, too
module _ (s t : Solver) (w : Watches) (c : Clause) (top : ℤ) (second : Option ℤ) (level : ℕ)
    (ready : IsReady s) (is : IsWatching s w.done w.pairs.items w.lists)
    (long : length w.pairs.items ≡ length s.clauses) (ready' : IsReady t)
    (taught : IsTaught s t c top second level) (clauses : t.clauses ≡ s.clauses ++ c ∷ [])
    (variables : t.partial.variables ≡ s.partial.variables) where
  went-on : IsWatching t (length t.partial.literals - 1) w.pairs.items w.lists
  went-on = watching-taught s t w.done w.pairs.items w.lists c top second level ready is taught
      clauses variables

  the-clause' : get_or t.clauses (length w.pairs.items) [] ≡ c
  the-clause' = ap (λ cs. get_or cs (length w.pairs.items) []) clauses ∙
      get_or_push s.clauses c [] (length w.pairs.items) (sym long)

  room : length w.pairs.items < length t.clauses
  room = omega (arith, long, ap length clauses, length_push s.clauses c)

  true-top : Contains t.partial.literals top
  true-top = let P : List ℤ → Type 0 = λ xs. Contains xs top in
      subst P (sym taught.trail) (Contains-push
      (take (get_or s.limits.items level 0) s.partial.literals) top)

  its-literal : (x : ℤ) → Contains c x → IsLiteral t.partial.variables x
  its-literal x there =
      let P : List Clause → Type 0 = λ cs. Contains cs c in
      ready'.right c (subst P (sym clauses) (Contains-push s.clauses c)) x there

  pub taught-inside : (x : ℤ) → Contains c x → place_of x < length w.lists
  taught-inside x there = place-inside t.partial.variables x w.lists (its-literal x there)
      (omega (arith, is.sized, variables))

  longer : (pairs : List Pair) (pair : Pair) → pairs ≡ w.pairs.items ++ pair ∷ [] →
      length pairs ≡ length t.clauses
  longer pairs pair e = omega (
    arith,
    ap length e,
    length_push w.pairs.items pair,
    long,
    ap length clauses,
    length_push s.clauses c,
  )

  pub taught-two : (w' : Watches) (m : ℤ) → IsSecond t c top m →
      w'.done ≡ length t.partial.literals - 1 →
      w'.pairs.items ≡ w.pairs.items ++ (record { first = top; second = m }) ∷ [] →
      AreAdded (length w.pairs.items) top m w.lists w'.lists →
      IsWatching t w'.done w'.pairs.items w'.lists × (length w'.pairs.items ≡ length t.clauses)
  taught-two w' m its done e added =
      let pair : Pair = record { first = top; second = m } in
      let k : ℕ = length w.pairs.items in
      let one : place_of top < length w.lists = taught-inside top taught.has_top in
      let two : place_of m < length w.lists = taught-inside m its.there in
      let D : ℕ → Type 0 = λ n. IsWatching t n w'.pairs.items w'.lists in
      let P : List Pair → Type 0 = λ ps. IsWatching t (length t.partial.literals - 1) ps w'.lists in
      let Q : Clause → Type 0 = λ d. IsHeld t.partial.literals t.limits.items
      (length t.partial.literals - 1) w'.lists d k pair in (
        subst D (sym done) (subst P (sym e) (watching-added t
            (length t.partial.literals - 1) w.pairs.items w.lists w'.lists pair went-on
            (added-long k top m w.lists w'.lists one two added) room
            (added-old k top m w.lists w'.lists one two added)
            (added-cases k top m w.lists w'.lists one two added)
            (subst Q (sym the-clause') (held-learned t k
            (length t.partial.literals - 1) c top m w'.lists ready' taught.has_top true-top its
            (added-first k top m w.lists w'.lists one two added)
            (added-second k top m w.lists w'.lists one two added))))),
        longer w'.pairs.items pair e,
      )

  pub taught-one : (w' : Watches) → t.limits.items ≡ [] → w'.done ≡ length t.partial.literals - 1 →
      w'.pairs.items ≡ w.pairs.items ++ (record { first = top; second = top }) ∷ [] →
      w'.lists ≡ w.lists → IsWatching t w'.done w'.pairs.items w'.lists ×
      (length w'.pairs.items ≡ length t.clauses)
  taught-one w' none done e same =
      let pair : Pair = record { first = top; second = top } in
      let k : ℕ = length w.pairs.items in
      let D : ℕ → Type 0 = λ n. IsWatching t n w'.pairs.items w'.lists in
      let P : List Pair → Type 0 = λ ps. IsWatching t (length t.partial.literals - 1) ps w'.lists in
      let R : List (List ℕ) → Type 0 = IsWatching t (length t.partial.literals - 1)
      (w.pairs.items ++ pair ∷ []) in
      let Q : Clause → Type 0 = λ d. IsHeld t.partial.literals t.limits.items
      (length t.partial.literals - 1) w.lists d k pair in (
        subst D (sym done) (subst P (sym e) (subst R (sym same)
            (watching-added t (length t.partial.literals - 1) w.pairs.items w.lists w.lists pair
            went-on refl room (λ q j h. h) (λ q j h. inl h)
            (subst Q (sym the-clause') (held-fixed t k
            (length t.partial.literals - 1) c top w.lists taught.has_top true-top none))))),
        longer w'.pairs.items pair e,
      )
