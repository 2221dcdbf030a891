-- What a step takes at a place, where the given trace may come at it or at another.
use Rattle.std.proofs.Common.{◌≡◌, ◌⊎◌, ℕ, zero, suc, ◌<◌, ◌≤◌, true, List, [], ◌∷◌, length, map, take, drop, set, slice_get, get_or, Option, Some, None, inl, inr, sym, ap, ◌∙◌, subst, arith}
use Rattle.std.specs.List.{Contains}
use Rattle.std.proofs.lemmas.Bool.{cases_eq}
use Rattle.std.proofs.lemmas.List.{length-map, length-take-le}
use Rattle.std.proofs.lemmas.Option.{slice_get_within, get_or_from_slice_get}
use Rattle.hy_base.proofs.Members.{map-from}
use Rattle.hy_formula.specs.Quantifiers.{Each}
use Rattle.hy_formula.proofs.Each.{each-at}
use Rattle.hy_finite.specs.declared.lengths.Lengths.{Lengths}
use Rattle.hy_finite.specs.declared.lengths.Lengths.TheVariants.{Min}
use Rattle.hy_finite.specs.Traces.{Trace, judged}
use Rattle.fin_monitor.specs.Machines.{Machine}
use Rattle.trace_trie.specs.Numbered.{Numbered, led_by}
use Rattle.tuple_walk.specs.declared.place.Taken.{Taken}
use Rattle.tuple_walk.specs.declared.place.Taken.TheVariants.{Nothing, Letter, Gap}
use Rattle.tuple_walk.specs.declared.place.Place.{Place}
use Rattle.tuple_walk.specs.Finds.{traces_of}
use Rattle.tuple_walk.specs.JointPrefixes.{entry}
use Rattle.tuple_walk.specs.Places.{whole_behind, whole_of, IsOpen, IsMoved, IsMovedTo, IsWay}
use Rattle.tuple_walk.specs.Searches.{Sought, IsTupleIn, AreAccepted, IsSearch}
use Rattle.tuple_walk.specs.Serving.{Agrees, MayServe, AreServing, MayElsewhere}
use Rattle.tuple_walk.proofs.Choosing.{length-tuple, tuple-at, ended-least}
use Rattle.tuple_walk.proofs.Lists.{each-of, get-of, set-cases, set-other, set-here}
use Rattle.tuple_walk.proofs.Nexts.{at-some, next-rejected, next-accepted}
use Rattle.tuple_walk.proofs.Placing.{take-set}
use Rattle.tuple_walk.proofs.Stepping.{left_at}

-- ---- one place further

module _ (s : Sought) (n i : ℕ) (ps next : List Place) (x : Place) (is : next ≡ set ps i x) where
  one : take n next ≡ set (take n ps) i x
  one = ap (take n) is ∙ take-set n ps i x

  pub serving-next : AreServing s (take n ps)
      → (slice_get s.marks i ≡ Some true → Agrees x.taken s.given.1 → Contains (whole_of x) s.given)
      → AreServing s (take n next)
  serving-next serving here = λ j may.
      elim (set-cases (take n ps) i j x may.place
      (sym (ap (λ (l : List Place). slice_get l j) one) ∙ may.at)) [
        | inl (same, e) ↦
            let P : ℕ → Type 0 = λ k. slice_get s.marks k ≡ Some true in
            let Q : Place → Type 0 = λ p. Agrees p.taken s.given.1 in
            let R : Place → Type 0 = λ p. Contains (whole_of p) s.given in
            subst R e (here (subst P same may.marked) (subst Q (sym e) may.agrees))
        | inr at ↦ serving j (record {
          marked = may.marked;
          place = may.place;
          at = at;
          agrees = may.agrees;
        })
      ]

  pub other-next : MayElsewhere s (take n ps) i → (j : ℕ) × MayServe s (take n next) j
  other-next (j, other, may) = (
    j,
    record {
      marked = may.marked;
      place = may.place;
      at = ap (λ (l : List Place). slice_get l j) one
          ∙ set-other (take n ps) i j x may.place other may.at;
      agrees = may.agrees;
    },
  )

  pub here-next : i < n → n ≤ length ps → slice_get s.marks i ≡ Some true → Agrees x.taken s.given.1
      → (j : ℕ) × MayServe s (take n next) j
  here-next lt le marked agrees = (
    i,
    record {
      marked = marked;
      place = x;
      at = ap (λ (l : List Place). slice_get l i) one
          ∙ set-here (take n ps) i x (omega (arith, lt, length-take-le n ps le));
      agrees = agrees;
    },
  )

-- ---- where the given trace comes in a tuple

agrees-from : (lengths : Lengths) (k : Taken) (rests : List Numbered) (t : Trace)
    → (IsMovedTo lengths k rests) ⊎ (k ≡ Nothing) → Contains (traces_of (whole_behind k rests)) t
    → Agrees k t
agrees-from lengths Nothing rests t h c = tt
agrees-from lengths (Letter a) rests t h c =
    let (x, d, e) = map-from (λ (p : Numbered). p.1) (led_by a rests) t c in
    let (y, f, g) = map-from (λ (q : Numbered). (q.0, a ∷ q.1)) rests x d in
    ap entry (sym e) ∙ ap (λ (q : Numbered). entry q.1) (sym g)
agrees-from lengths Gap rests t (inl h) c =
    let (x, d, e) = map-from (λ (p : Numbered). p.1) rests t c in
    sym e ∙ each-at (λ (p : Numbered). p.1 ≡ []) rests x h.1 d
agrees-from lengths Gap rests t (inr e) c = absurd (cc)

moved-or-open : {A : Type 0} (M O : A → Type 0) (n i : ℕ) (xs : List A) → Each M (take i xs)
    → Each O (drop i (take n xs)) → (j : ℕ) (x : A) → slice_get (take n xs) j ≡ Some x
    → M x ⊎ O x
moved-or-open M O n zero xs moved opens j x at = inr (each-of O (take n xs) j x opens at)
moved-or-open M O zero (suc i) xs moved opens j x at = absurd (cc)
moved-or-open M O (suc n) (suc i) [] moved opens j x at = absurd (cc)
moved-or-open M O (suc n) (suc i) (y ∷ ys) moved opens zero x at =
    let same : y ≡ x = cc in inl (subst M same moved.0)
moved-or-open M O (suc n) (suc i) (y ∷ ys) moved opens (suc j) x at =
    moved-or-open M O n i ys moved.1 opens j x at

module _ (s : Sought) (lengths : Lengths) (n i : ℕ) (ps : List Place)
    (moved : Each (IsMoved lengths) (take i ps)) (opens : Each IsOpen (drop i (take n ps)))
    (ts : List Trace) (h : IsTupleIn s (map whole_of (take n ps)) ts) where
  comes : (j : ℕ) × (slice_get ts j ≡ Some s.given.1) × MayServe s (take n ps) j
  comes =
      let (j, marked, at) = h.1 in
      let lists = map whole_of (take n ps) in
      let lt = slice_get_within ts j s.given.1 at in
      let long = length-tuple lists ts h.0 in
      let (p, place) = at-some (take n ps) j
      (omega (arith, lt, long, length-map (take n ps) whole_of)) in
      let P : List Numbered → Type 0 = λ l. Contains (traces_of l) s.given.1 in
      let Q : Trace → Type 0 = Contains (traces_of (get_or lists j [])) in
      let among = subst Q (get_or_from_slice_get ts j s.given.1 [] at)
      (tuple-at lists j ts (omega (arith, lt, long)) h.0) in
      let here = get_or_from_slice_get lists j (whole_of p) [] (get-of whole_of (take n ps) j p place) in (
        j,
        at,
        record {
          marked = marked;
          place = p;
          at = place;
          agrees = agrees-from lengths p.taken (left_at p) s.given.1
              (moved-or-open (IsMoved lengths) IsOpen n i ps moved opens j p place)
              (subst P here among);
        },
      )

  -- it comes at the only place where it may
  pub last-comes : ¬ MayElsewhere s (take n ps) i → slice_get ts i ≡ Some s.given.1
  last-comes last =
      let (j, at, may) = comes in
      let P : ℕ → Type 0 = λ k. slice_get ts k ≡ Some s.given.1 in
      elim (cases_eq j i) [
        | inl same ↦ subst P same at
        | inr other ↦ absurd (last (j, other, may))
      ]

  pub last-entry : ¬ MayElsewhere s (take n ps) i → entry (get_or ts i []) ≡ entry s.given.1
  last-entry last = ap entry (get_or_from_slice_get ts i s.given.1 [] (last-comes last))

  pub last-over : ¬ MayElsewhere s (take n ps) i → s.given.1 ≡ [] → judged Min ts ≡ 0
  last-over last over =
      let at = last-comes last in
      ended-least ts i (slice_get_within ts i s.given.1 at)
      (get_or_from_slice_get ts i s.given.1 [] at ∙ over)

module _ (s : Sought) (m : Machine) (lengths : Lengths) (q n i : ℕ) (ps : List Place)
    (moved : Each (IsMoved lengths) (take i ps)) (opens : Each IsOpen (drop i (take n ps)))
    (last : ¬ MayElsewhere s (take n ps) i) where
  pub over-search : (lengths ≡ Min) × (s.given.1 ≡ [])
      → AreAccepted s m lengths q 1 (map whole_of (take n ps))
  over-search (least, over) = λ ts h some.
      let none = last-over s lengths n i ps moved opens ts h last over in
      absurd (omega (arith, some, ap (λ (l : Lengths). judged l ts) least, none))

  pub last-search : (next : List Place) (p x : Place) (lt : i < n) (le : n ≤ length ps)
      → slice_get ps i ≡ Some p → next ≡ set ps i x
      → IsWay (left_at p) (entry s.given.1) (whole_of x) → (r : Option (List ℕ))
      → IsSearch s m lengths q 1 (map whole_of (take n next)) r
      → IsSearch s m lengths q 1 (map whole_of (take n ps)) r
  last-search next p x lt le at is way (Some numbers) found =
      next-rejected n i ps next p x lt le at opens is (entry s.given.1) way s m lengths q numbers found
  last-search next p x lt le at is way None none = λ ts h some.
      next-accepted n i ps next p x lt le at opens is (entry s.given.1) way s m lengths q none ts h some
      (last-entry s lengths n i ps moved opens ts h last)
