-- What is left of the given trace behind a step, and where a step begins.
use Rattle.std.proofs.Common.{◌≡◌, ℕ, zero, suc, ◌+◌, ◌<◌, ◌≤◌, Bool, true, false, ◌||◌, List, [], ◌∷◌, length, map, take, drop, set, slice_get, get_or, bit_or, Option, Some, inl, inr, sym, ap, ◌∙◌, subst, arith}
use Rattle.std.specs.List.{Contains, list_any}
use Rattle.std.proofs.lemmas.Bool.{cases_eq}
use Rattle.std.proofs.lemmas.List.{length-map}
use Rattle.std.proofs.lemmas.Option.{slice_get_within, get_or_from_slice_get}
use Rattle.hy_bits.specs.Letter.{Letter}
use Rattle.hy_formula.specs.Quantifiers.{Each}
use Rattle.hy_finite.specs.declared.lengths.Lengths.{Lengths}
use Rattle.hy_finite.specs.Traces.{Trace, judged}
use Rattle.fin_monitor.specs.Codes.{code_of, part_of, joint_letter}
use Rattle.fin_monitor.specs.Machines.{Machine, IsMonitor, next_state, is_accepting, settled_state}
use Rattle.trace_trie.specs.Numbered.{Numbered, tail}
use Rattle.tuple_walk.specs.declared.place.Taken.{Taken}
use Rattle.tuple_walk.specs.declared.place.Place.{Place}
use Rattle.tuple_walk.specs.declared.places.Places.{Places}
use Rattle.tuple_walk.specs.declared.choice.Choice.{Choice}
use Rattle.tuple_walk.specs.declared.given.Given.{Given}
use Rattle.tuple_walk.specs.declared.walk.Walk.{Walk}
use Rattle.tuple_walk.specs.Four.{four, placed}
use Rattle.tuple_walk.specs.Places.{whole_behind, whole_of, taken_of, letter_or, is_letter, letter_taken, has_taken, IsOpen, IsMoved, IsWay, AreSome}
use Rattle.tuple_walk.specs.Searches.{Sought, IsTupleIn, AreAccepted, IsSearch, AreReady, AreSteps}
use Rattle.tuple_walk.specs.Serving.{sought_of, Agrees, MayServe, AreServing, MayElsewhere, IsBehind}
use Rattle.tuple_walk.specs.Walks.{AreChosen, IsChoice, machine_in, places_in, rests_in, wholes_at}
use Rattle.tuple_walk.proofs.Coming.{take-get}
use Rattle.tuple_walk.proofs.Ending.{settled-over}
use Rattle.tuple_walk.proofs.Last.{serving-next}
use Rattle.tuple_walk.proofs.Lists.{each-of, get-of, set-here}
use Rattle.tuple_walk.proofs.Longest.{longest, longest-step}
use Rattle.tuple_walk.proofs.Nexts.{at-some, next-some, no-letter, step-search}
use Rattle.tuple_walk.proofs.Placing.{at-place, moved-more, open-less, take-before}
use Rattle.tuple_walk.proofs.Scanning.{any-with, code-with}
use Rattle.tuple_walk.proofs.Stepping.{left_at, forward, some-left, tuple-with, at-state, one-step, step-steps, taken-code}

lists-at : (f : Place → List Numbered) (places : List Place) (i : ℕ) (p : Place)
    → slice_get places i ≡ Some p → get_or (map f places) i [] ≡ f p
lists-at f places i p at = get_or_from_slice_get (map f places) i (f p) [] (get-of f places i p at)

open-agrees : (p : Place) (t : Trace) → IsOpen p → Agrees p.taken t
open-agrees p t opens =
    let P : Taken → Type 0 = λ k. Agrees k t in subst P (sym opens) tt

module _ (s : Sought) (places : List Place) (members : AreSome (map whole_of places))
    (serving : AreServing s places) (may : (j : ℕ) × MayServe s places j) where
  -- a tuple with the given trace
  pub some-tuple : (ts : List Trace) × IsTupleIn s (map whole_of places) ts
  some-tuple =
      let (j, is) = may in
      let P : List Numbered → Type 0 = λ l. Contains l s.given in
      let lt = slice_get_within places j is.place is.at in
      tuple-with s (map whole_of places) j members is.marked
      (omega (arith, lt, length-map places whole_of))
      (subst P (sym (lists-at whole_of places j is.place is.at)) (serving j is))

  pub ready-behind : (lengths : Lengths) → Each (IsMoved lengths) places → (u : Sought)
      → IsBehind s u places → AreReady u (map left_at places)
  ready-behind lengths moved u is = record {
    some = some-left places members;
    there = λ i marked lt.
        let (p, at) = at-some places i (omega (arith, lt, length-map places left_at)) in
        let (before, agrees) = is.only i p marked at in
        let (first, c) = forward lengths p.taken (left_at p) s.given
        (each-of (IsMoved lengths) places i p moved at)
        (serving i (record { marked = before; place = p; at = at; agrees = agrees })) in
        let P : List Numbered → Type 0 = λ l. Contains l u.given in
        let Q : Numbered → Type 0 = Contains (left_at p) in
        subst P (sym (lists-at left_at places i p at))
        (subst Q (λ j. (sym is.number j, sym is.rest j)) c);
    place =
        let (i, comes) = may in
        let lt = slice_get_within places i comes.place comes.at in
        (i, is.kept i comes, omega (arith, lt, length-map places left_at));
  }

  -- a step to the state from which nothing is rejected
  module _ (m : Machine) (is : IsMonitor m) (lengths : Lengths) (q code next : ℕ)
      (moved : Each (IsMoved lengths) places)
      (letter : list_any is_letter (map taken_of places) ≡ true)
      (steps : next ≡ next_state m q code)
      (right : code ≡ code_of (joint_letter (map letter_or (map taken_of places))) m.atoms) where
    pub settled-step : next ≡ settled_state m → AreAccepted s m lengths q 1 (map whole_of places)
    settled-step e = λ ts h some.
        ap (is_accepting m) (at-state m lengths q code next places moved letter steps
        (λ us f. right ∙ taken-code m (map letter_or (map taken_of places)) us (ap (map letter_or) f))
        ts h.0
        ∙ settled-over m is (judged lengths (map tail ts)) next (map tail ts) e)
        ∙ is.settled

    pub settled-counted : AreSteps s lengths (map whole_of places) 1
    settled-counted =
        one-step m lengths q code next places moved letter steps
        (λ us f. right ∙ taken-code m (map letter_or (map taken_of places)) us (ap (map letter_or) f))
        s some-tuple.0 some-tuple.1

-- ---- before a step

pub elsewhere : (s : Sought) (places : List Place) (i : ℕ) → ((j : ℕ) × MayServe s places j)
    → (slice_get s.marks i ≡ Some true → MayElsewhere s places i) → MayElsewhere s places i
elsewhere s places i (j, may) here =
    let P : ℕ → Type 0 = λ k. slice_get s.marks k ≡ Some true in
    elim (cases_eq j i) [
      | inl same ↦ here (subst P same may.marked)
      | inr other ↦ (j, other, may)
    ]

open-at : {A : Type 0} (O : A → Type 0) (n i : ℕ) (xs : List A) (x : A) → i < n
    → slice_get xs i ≡ Some x → Each O (drop i (take n xs)) → O x
open-at O zero i xs x lt e h = absurd (omega arith)
open-at O (suc n) zero [] x lt e h = absurd (cc)
open-at O (suc n) (suc i) [] x lt e h = absurd (cc)
open-at O (suc n) zero (y ∷ ys) x lt e h = let is : y ≡ x = cc in subst O is h.0
open-at O (suc n) (suc i) (y ∷ ys) x lt e h = open-at O n i ys x (omega arith) e h

-- the given trace is among what is left at a marked place that is open
pub open-serving : (s : Sought) (n i : ℕ) (ps : List Place) (p : Place) → i < n
    → slice_get ps i ≡ Some p → Each IsOpen (drop i (take n ps)) → AreServing s (take n ps)
    → slice_get s.marks i ≡ Some true → Contains (left_at p) s.given
open-serving s n i ps p lt at opens serving marked =
    let there = take-get n ps i p lt at in
    let P : List Numbered → Type 0 = λ l. Contains l s.given in
    let is : whole_of p ≡ left_at p =
    sym (lists-at whole_of (take n ps) i p there) ∙ at-place n i ps p lt at opens in
    subst P is (serving i (record {
      marked = marked;
      place = p;
      at = there;
      agrees = open-agrees p s.given.1 (open-at IsOpen n i ps p lt at opens);
    }))

module _ (s : Sought) (places : List Place) (opens : Each IsOpen places)
    (ready : AreReady s (map left_at places)) where
  pub start-serving : AreServing s places
  start-serving = λ j may.
      let lt = slice_get_within places j may.place may.at in
      let P : List Numbered → Type 0 = λ l. Contains l s.given in
      let here = lists-at left_at places j may.place may.at in
      let whole : left_at may.place ≡ whole_of may.place =
      ap (λ k. whole_behind k (left_at may.place))
      (sym (each-of IsOpen places j may.place opens may.at)) in
      subst P (here ∙ whole) (ready.there j may.marked (omega (arith, lt, length-map places left_at)))

  pub start-may : (j : ℕ) × MayServe s places j
  start-may =
      let (j, marked, lt) = ready.place in
      let (p, at) = at-some places j (omega (arith, lt, length-map places left_at)) in (
        j,
        record {
          marked = marked;
          place = p;
          at = at;
          agrees = open-agrees p s.given.1 (each-of IsOpen places j p opens at);
        },
      )

-- ---- a step chosen at one place more

-- the place alone is put anew
pub choice-next : {L : Type 0} (w : Walk L) (ps next : List Place) (choice : Choice) (place : Place)
    → next ≡ set ps choice.count place → IsChoice w ps choice → IsChoice w next choice
choice-next w ps next choice place is h =
    let same : take choice.count ps ≡ take choice.count next =
    sym (ap (take choice.count) is ∙ take-before choice.count ps place) in
    record {
      state = h.state;
      code = h.code
          ∙ ap (λ (qs : List Place). code_of (joint_letter (map letter_or (map taken_of qs))) (machine_in w).atoms) same;
      letter = h.letter ∙ ap (λ (qs : List Place). list_any is_letter (map taken_of qs)) same;
    }

pub chosen-next : {L : Type 0} (w : Walk L) (ps next : List Place) (given : Given) (i : ℕ)
    (here place : Place) → i < (machine_in w).variables → (machine_in w).variables ≤ length ps
    → slice_get ps i ≡ Some here → next ≡ set ps i place → (e : Option Letter)
    → IsWay (left_at here) e (whole_of place) → IsMoved w.lengths place
    → (slice_get (sought_of given).marks i ≡ Some true → Agrees place.taken (sought_of given).given.1
    → Contains (whole_of place) (sought_of given).given)
    → ((j : ℕ) × MayServe (sought_of given) (take (machine_in w).variables next) j)
    → AreChosen w ps given i → AreChosen w next given (i + 1)
chosen-next w ps next given i here place lt le at is e way moved serves may chosen =
    let n = (machine_in w).variables in
    record {
      within = omega (arith, lt);
      moved = moved-more (IsMoved w.lengths) i ps place next (omega (arith, lt, le)) is chosen.moved moved;
      opens = open-less IsOpen i n ps place next is chosen.opens;
      members = next-some n i ps next here place lt le at chosen.opens is e way chosen.members;
      serving = serving-next (sought_of given) n i ps next place is chosen.serving serves;
      may = may;
    }

-- with what is taken at the place
module _ {L : Type 0} (w : Walk L) (places : Places) (given : Given) (choice : Choice) (place : Place)
    (chosen : AreChosen w (placed places choice.count place) given (choice.count + 1))
    (is : IsChoice w (placed places choice.count place) choice)
    (a : Letter) (taken : a ≡ letter_taken place)
    (part : ℕ) (new : part ≡ part_of (machine_in w).atoms choice.count a)
    (some : Bool) (has : some ≡ has_taken place) where
  abbrev m : Machine
  m = machine_in w

  abbrev s : Sought
  s = sought_of given

  abbrev ps : List Place
  ps = placed places choice.count place

  place-there : slice_get ps choice.count ≡ Some place
  place-there = set-here (four places) choice.count place
      (omega (arith, chosen.within, w.monitor.monitor.now.right.few))

  pub with-code : bit_or choice.code part
      ≡ code_of (joint_letter (map letter_or (map taken_of (take (choice.count + 1) ps)))) m.atoms
  with-code =
      ap (bit_or choice.code) (new ∙ ap (part_of m.atoms choice.count) taken)
      ∙ code-with ps choice.count place m.atoms choice.code place-there is.code

  pub with-letter : (choice.some_letter || some)
      ≡ list_any is_letter (map taken_of (take (choice.count + 1) ps))
  with-letter =
      ap (λ b. choice.some_letter || b) has
      ∙ any-with ps choice.count place choice.some_letter place-there is.letter

  -- that was the last place
  module _ (all : choice.count + 1 ≡ m.variables) where
    moved-all : Each (IsMoved w.lengths) (take m.variables ps)
    moved-all =
        let P : ℕ → Type 0 = λ k. Each (IsMoved w.lengths) (take k ps) in subst P all chosen.moved

    letter-all : (choice.some_letter || some) ≡ list_any is_letter (map taken_of (take m.variables ps))
    letter-all = with-letter ∙ ap (λ k. list_any is_letter (map taken_of (take k ps))) all

    code-all : bit_or choice.code part
        ≡ code_of (joint_letter (map letter_or (map taken_of (take m.variables ps)))) m.atoms
    code-all =
        with-code
        ∙ ap (λ k. code_of (joint_letter (map letter_or (map taken_of (take k ps)))) m.atoms) all

    pub no-step : (choice.some_letter || some) ≡ false
        → AreAccepted s m w.lengths choice.q 1 (wholes_at w ps)
    no-step none =
        no-letter s m w.lengths choice.q (take m.variables ps) moved-all (sym letter-all ∙ none)

    module _ (one : (choice.some_letter || some) ≡ true) (next : ℕ)
        (step : next ≡ next_state m choice.q (bit_or choice.code part)) where
      pub settled-chosen : next ≡ settled_state m
          → AreAccepted s m w.lengths choice.q 1 (wholes_at w ps)
      settled-chosen =
          settled-step s (take m.variables ps) chosen.members chosen.serving chosen.may m
          w.monitor.monitor.now.right w.lengths choice.q (bit_or choice.code part) next moved-all
          (sym letter-all ∙ one) step code-all

      pub one-chosen : AreSteps s w.lengths (wholes_at w ps) 1
      one-chosen =
          settled-counted s (take m.variables ps) chosen.members chosen.serving chosen.may m
          w.monitor.monitor.now.right w.lengths choice.q (bit_or choice.code part) next moved-all
          (sym letter-all ∙ one) step code-all

      -- the place is put
      module _ (put : Places) (same : four put ≡ ps) (u : Sought)
          (behind : IsBehind s u (places_in w put)) where
        left : map left_at (take m.variables ps) ≡ rests_in w put
        left = ap (λ (qs : List Place). map left_at (take m.variables qs)) (sym same)

        behind-all : IsBehind s u (take m.variables ps)
        behind-all =
            let P : List Place → Type 0 = λ qs. IsBehind s u (take m.variables qs) in
            subst P same behind

        pub ready-left : AreReady u (rests_in w put)
        ready-left =
            subst (AreReady u) left (ready-behind s (take m.variables ps) chosen.members
            chosen.serving chosen.may w.lengths moved-all u behind-all)

        pub shorter-left : longest (rests_in w put) + 1 ≤ longest (wholes_at w ps)
        shorter-left =
            omega (
              arith,
              longest-step w.lengths (take m.variables ps) moved-all chosen.members
                  (sym letter-all ∙ one),
              ap longest left,
            )

        pub search-chosen : (r : Option (List ℕ))
            → IsSearch u m w.lengths next 0 (rests_in w put) r
            → IsSearch s m w.lengths choice.q 1 (wholes_at w ps) r
        search-chosen =
            step-search m w.lengths choice.q (bit_or choice.code part) next (take m.variables ps)
            moved-all (sym letter-all ∙ one) step code-all s u behind-all (rests_in w put) (sym left)

        pub steps-chosen : (made : ℕ) → AreSteps u w.lengths (rests_in w put) made
            → AreSteps s w.lengths (wholes_at w ps) (made + 1)
        steps-chosen made counted =
            let P : List (List Numbered) → Type 0 = λ ls. AreSteps u w.lengths ls made in
            let (ts, tuple) = some-tuple s (take m.variables ps) chosen.members chosen.serving chosen.may in
            step-steps m w.lengths choice.q (bit_or choice.code part) next (take m.variables ps)
            moved-all (sym letter-all ∙ one) step
            (λ us f. code-all ∙ taken-code m (map letter_or (map taken_of (take m.variables ps))) us
            (ap (map letter_or) f)) s u behind-all made ts tuple (subst P (sym left) counted)
