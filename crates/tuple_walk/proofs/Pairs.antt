-- Pairs of traces, one of which is given: before and behind one step.
use Rattle.std.proofs.Common.{◌≡◌, ℕ, zero, suc, ◌+◌, ◌<◌, ◌≤◌, Bool, true, false, cond, List, [], ◌∷◌, length, map, take, set, slice_get, get_or, bit_or, nat_eq, Option, Some, None, refl, sym, ap, ◌∙◌, subst, arith}
use denote.Ref.{Bor}
use Rattle.std.specs.List.{list_any}
use Rattle.std.specs.FinSet.{empty}
use Rattle.std.proofs.lemmas.Nat.{or_comm}
use Rattle.hy_base.proofs.Members.{contains-here}
use Rattle.hy_bits.specs.Letter.{Letter as NameSet}
use Rattle.hy_formula.specs.Quantifiers.{Each}
use Rattle.hy_formula.proofs.Each.{each-at}
use Rattle.hy_finite.specs.declared.lengths.Lengths.{Lengths}
use Rattle.hy_finite.specs.declared.lengths.Lengths.TheVariants.{Min, Pad}
use Rattle.hy_finite.specs.Traces.{Trace, judged}
use Rattle.fin_monitor.specs.Codes.{code_of, part_of, joint_letter}
use Rattle.fin_monitor.specs.Machines.{Machine, next_state, codes}
use Rattle.fin_monitor.proofs.CodeBits.{code-lt}
use Rattle.trace_trie.specs.Cursors.{AreLetters, rests_at}
use Rattle.trace_trie.specs.Numbered.{Numbered, tail, under, led_by}
use Rattle.trace_trie.specs.declared.cursor.Cursor.{Cursor}
use Rattle.tuple_walk.specs.declared.spot.Spot.TheVariants.{Alone, Node}
use Rattle.tuple_walk.specs.declared.place.Taken.{Taken}
use Rattle.tuple_walk.specs.declared.place.Taken.TheVariants.{Letter, Gap}
use Rattle.tuple_walk.specs.declared.place.Place.{Place}
use Rattle.tuple_walk.specs.declared.places.Places.{Places}
use Rattle.tuple_walk.specs.Finds.{traces_of}
use Rattle.tuple_walk.specs.Four.{four, rests as rests_in_places}
use Rattle.tuple_walk.specs.Pairs.{pair_of, beside, sought_beside, MayGoOn}
use Rattle.tuple_walk.specs.Places.{whole_of, taken_of, letter_or, is_letter, taken_entry, IsMoved, IsWay}
use Rattle.tuple_walk.specs.Searches.{HasAt, Sought, IsTupleIn, AreReady, IsOnly, IsRejected, IsAccepted, AreRejected, AreAccepted, AreAcceptedBy, IsSearch, AreSteps, AreStepsBy}
use Rattle.tuple_walk.specs.Serving.{Agrees, IsBehind}
use Rattle.tuple_walk.proofs.Choosing.{rejected-part, accepted-more, steps-more}
use Rattle.tuple_walk.proofs.Following.{two-letters, ones-accepted, ones-steps}
use Rattle.tuple_walk.proofs.Lists.{get-contains, some-same}
use Rattle.tuple_walk.proofs.Longest.{longest_in, in-most, in-least}
use Rattle.tuple_walk.proofs.Narrowing.{ready-within, ready-there, alone-search, alone-steps}
use Rattle.tuple_walk.proofs.Nexts.{long-places, step-search}
use Rattle.tuple_walk.proofs.Stepping.{left_at, step-steps, taken-code}
use Rattle.tuple_walk.proofs.Ways.{long-led, letter-way}

-- ---- two of a kind

map-pair : {A B : Type 0} (f : A → B) (first : Bool) (x y : A)
    → map f (pair_of first x y) ≡ pair_of first (f x) (f y)
map-pair f true x y = refl
map-pair f false x y = refl

pub each-pair : {A : Type 0} (P : A → Type 0) (first : Bool) (x y : A) → P x → P y
    → Each P (pair_of first x y)
each-pair P true x y p q = (p, (q, tt))
each-pair P false x y p q = (q, (p, tt))

-- where the other one stands
abbrev pub other_place : Bool → ℕ
other_place first = cond first 1 0

pub other-here : (first : Bool) (x : Numbered) (rests : List Numbered)
    → get_or (beside first x rests) (other_place first) [] ≡ rests
other-here true x rests = refl
other-here false x rests = refl

pub other-set : (first : Bool) (x : Numbered) (rests way : List Numbered)
    → set (beside first x rests) (other_place first) way ≡ beside first x way
other-set true x rests way = refl
other-set false x rests way = refl

pub other-within : (first : Bool) (x : Numbered) (rests : List Numbered)
    → other_place first < length (beside first x rests)
other-within true x rests = omega arith
other-within false x rests = omega arith

pub given-here : (first : Bool) (x : Numbered) (rests : List Numbered)
    → get_or (beside first x rests) (cond first 0 1) [] ≡ x ∷ []
given-here true x rests = refl
given-here false x rests = refl

pub given-within : (first : Bool) (x : Numbered) (rests : List Numbered)
    → cond first 0 1 < length (beside first x rests)
given-within true x rests = omega arith
given-within false x rests = omega arith

-- the given one is where it is sought
pub beside-has : {A : Type 0} (first : Bool) (x y : A)
    → HasAt (pair_of first true false) x (pair_of first x y)
beside-has true x y = (0, refl, refl)
beside-has false x y = (1, refl, refl)

some-tuple : (first : Bool) (number : ℕ) (t : Trace) (rests : List Numbered) → 0 < length rests
    → (ts : List Trace)
    × IsTupleIn (sought_beside first (number, t)) (beside first (number, t) rests) ts
some-tuple first number t [] some = absurd (omega arith)
some-tuple true number t ((n, u) ∷ rests) some = (
  t ∷ u ∷ [],
  ((contains-here t [], (contains-here u (traces_of rests), tt)), beside-has true t u),
)
some-tuple false number t ((n, u) ∷ rests) some = (
  u ∷ t ∷ [],
  ((contains-here u (traces_of rests), (contains-here t [], tt)), beside-has false t u),
)

beside-only : (place : ℕ) → place < 2 → IsOnly (pair_of (nat_eq place 0) true false) place
beside-only zero lt = (refl, first)
  where
    first : (j : ℕ) → slice_get (true ∷ false ∷ []) j ≡ Some true → j ≡ 0
    first zero e = refl
    first (suc zero) e = absurd (cc)
    first (suc (suc j)) e = absurd (cc)
beside-only (suc zero) lt = (refl, second)
  where
    second : (j : ℕ) → slice_get (false ∷ true ∷ []) j ≡ Some true → j ≡ 1
    second zero e = absurd (cc)
    second (suc zero) e = refl
    second (suc (suc j)) e = absurd (cc)
beside-only (suc (suc place)) lt = absurd (omega arith)

-- two places, with the given trace alone at one
two-lists : (ps : Places) (n place : ℕ) (p : Place) (x : Numbered) → n ≡ 2 → place < 2
    → slice_get (four ps) (other_place (nat_eq place 0)) ≡ Some p
    → set (rests_in_places n ps) place (x ∷ []) ≡ beside (nat_eq place 0) x (left_at p)
two-lists ps n place p x two lt there =
    ap (λ k. set (rests_in_places k ps) place (x ∷ [])) two ∙ at place lt there
  where
    at : (place : ℕ) → place < 2 → slice_get (four ps) (other_place (nat_eq place 0)) ≡ Some p
        → set (rests_in_places 2 ps) place (x ∷ []) ≡ beside (nat_eq place 0) x (left_at p)
    at zero lt e =
        let is : ps.second ≡ p = cc in
        ap (λ (o : Place). (x ∷ []) ∷ left_at o ∷ []) is
    at (suc zero) lt e =
        let is : ps.first ≡ p = cc in
        ap (λ (o : Place). left_at o ∷ (x ∷ []) ∷ []) is
    at (suc (suc place)) lt e = absurd (omega arith)

module _ (s : Sought) (ps : Places) (n place : ℕ) (two : n ≡ 2) (only : IsOnly s.marks place)
    (ready : AreReady s (rests_in_places n ps)) (other : ℕ) (p : Place)
    (at_other : other ≡ other_place (nat_eq place 0)) (there : slice_get (four ps) other ≡ Some p)
    (left : List Numbered) (is : left ≡ left_at p) where
  abbrev old : List (List Numbered)
  old = rests_in_places n ps

  abbrev searched : List (List Numbered)
  searched = beside (nat_eq place 0) s.given left

  within : place < 2
  within =
      omega (
        arith,
        ready-within s old ready place only,
        long-places n left_at (four ps) (omega (arith, two)),
        two,
      )

  lists : searched ≡ set old place (s.given ∷ [])
  lists =
      ap (beside (nat_eq place 0) s.given) is
      ∙ sym (two-lists ps n place p s.given two within
      (ap (slice_get (four ps)) (sym at_other) ∙ there))

  pub beside-search : (m : Machine) (lengths : Lengths) (q : ℕ) (r : Option (List ℕ))
      → IsSearch (sought_beside (nat_eq place 0) s.given) m lengths q 0 searched r
      → IsSearch s m lengths q 0 old r
  beside-search m lengths q r h =
      let marks = pair_of (nat_eq place 0) true false in
      let P : List (List Numbered) → Type 0 = λ ls.
      IsSearch (sought_beside (nat_eq place 0) s.given) m lengths q 0 ls r in
      alone-search s marks place only (beside-only place within) old
      (ready-there s old ready place only) m lengths q 0 r (subst P lists h)

  pub beside-steps : (lengths : Lengths) (made : ℕ)
      → AreSteps (sought_beside (nat_eq place 0) s.given) lengths searched made
      → AreSteps s lengths old made
  beside-steps lengths made h =
      let marks = pair_of (nat_eq place 0) true false in
      let P : List (List Numbered) → Type 0 = λ ls.
      AreSteps (sought_beside (nat_eq place 0) s.given) lengths ls made in
      alone-steps s marks place only (beside-only place within) old
      (ready-there s old ready place only) lengths made (subst P lists h)

-- ---- the two places behind a step

abbrev taken_first : Trace → Taken
taken_first [] = Gap
taken_first (a ∷ t) = Letter a

abbrev given_at : ℕ → Trace → Bor Trace → Place
given_at number t left = record { taken = taken_first t; spot = Alone number left }

abbrev other_at : NameSet → Cursor → Place
other_at a child = record { taken = Letter a; spot = Node child }

given-moved : (lengths : Lengths) (number : ℕ) (t : Trace) (left : Bor Trace)
    → left.now ≡ tail t → MayGoOn lengths t → IsMoved lengths (given_at number t left)
given-moved Min number [] left is goes = absurd (omega (arith, goes))
given-moved Pad number [] left is goes = (refl, (is, tt))
given-moved lengths number (a ∷ t) left is goes = tt

given-whole : (number : ℕ) (t : Trace) (left : Bor Trace) → left.now ≡ tail t
    → whole_of (given_at number t left) ≡ (number, t) ∷ []
given-whole number [] left is = ap (λ (u : Trace). (number, u) ∷ []) is
given-whole number (a ∷ t) left is = ap (λ (u : Trace). (number, a ∷ u) ∷ []) is

-- the place that is marked is that of the given one
marked-given : {A : Type 0} (first : Bool) (x y : A) (i : ℕ) (p : A)
    → slice_get (pair_of first true false) i ≡ Some true → slice_get (pair_of first x y) i ≡ Some p
    → x ≡ p
marked-given true x y zero p marked at = some-same at
marked-given true x y (suc zero) p marked at = absurd (cc)
marked-given true x y (suc (suc i)) p marked at = absurd (cc)
marked-given false x y zero p marked at = absurd (cc)
marked-given false x y (suc zero) p marked at = some-same at
marked-given false x y (suc (suc i)) p marked at = absurd (cc)

given-agrees : (t : Trace) → Agrees (taken_first t) t
given-agrees [] = refl
given-agrees (a ∷ t) = refl

given-behind : (first : Bool) (number : ℕ) (t : Trace) (left : Bor Trace) (other : Place)
    → left.now ≡ tail t
    → IsBehind (sought_beside first (number, t)) (sought_beside first (number, left.now))
    (pair_of first (given_at number t left) other)
given-behind first number t left other is = record {
  number = refl;
  rest = is;
  kept = λ i may. may.marked;
  only = λ i p marked at.
      let P : Place → Type 0 = λ o. Agrees o.taken t in (
        marked,
        subst P (marked-given first (given_at number t left) other i p marked at)
            (given-agrees t),
      );
}

given-letter : (t : Trace) → letter_or (taken_entry (taken_first t)) ≡ get_or t 0 empty
given-letter [] = refl
given-letter (a ∷ t) = refl

some-letter : (first : Bool) (number : ℕ) (t : Trace) (left : Bor Trace) (a : NameSet)
    (child : Cursor)
    → list_any is_letter (map taken_of (pair_of first (given_at number t left) (other_at a child)))
    ≡ true
some-letter true number [] left a child = refl
some-letter true number (b ∷ t) left a child = refl
some-letter false number t left a child = refl

pair-code : (m : Machine) (first : Bool) (number : ℕ) (t : Trace) (left : Bor Trace) (a : NameSet)
    (child : Cursor)
    → bit_or (part_of m.atoms (cond first 0 1) (get_or t 0 empty))
    (part_of m.atoms (other_place first) a)
    ≡ code_of (joint_letter (map letter_or (map taken_of
    (pair_of first (given_at number t left) (other_at a child))))) m.atoms
pair-code m true number t left a child =
    two-letters m (get_or t 0 empty) a
    ∙ ap (λ (b : NameSet). code_of (joint_letter (b ∷ a ∷ [])) m.atoms) (sym (given-letter t))
pair-code m false number t left a child =
    or_comm (part_of m.atoms 1 (get_or t 0 empty)) (part_of m.atoms 0 a)
    ∙ two-letters m a (get_or t 0 empty)
    ∙ ap (λ (b : NameSet). code_of (joint_letter (a ∷ b ∷ [])) m.atoms) (sym (given-letter t))

-- ---- one letter of the other trace

pub next-pair : (m : Machine) (q next : ℕ) (first : Bool) (t : Trace) (a l : NameSet)
    (own other part more : ℕ) → own ≡ cond first 0 1 → other ≡ other_place first
    → l ≡ get_or t 0 empty → part ≡ part_of m.atoms own l → more ≡ part_of m.atoms other a
    → next ≡ next_state m q (bit_or part more)
    → next ≡ next_state m q (bit_or (part_of m.atoms (cond first 0 1) (get_or t 0 empty))
    (part_of m.atoms (other_place first) a))
next-pair m q next first t a l own other part more e f g h k is =
    is
    ∙ (λ j. next_state m q (bit_or (h j) (k j)))
    ∙ (λ j. next_state m q (bit_or (part_of m.atoms (e j) (g j)) (part_of m.atoms (f j) a)))

pub some-under : (rests : List Numbered) (letters : List NameSet) → AreLetters letters rests
    → (k : ℕ) (a : NameSet) → slice_get letters k ≡ Some a → 0 < length (under a rests)
some-under rests letters are k a there =
    each-at (λ (b : NameSet). 0 < length (under b rests)) letters a are.some
    (get-contains letters k a there)

module _ (m : Machine) (lengths : Lengths) (q next : ℕ) (first : Bool) (number : ℕ) (t : Trace)
    (left : Bor Trace) (is : left.now ≡ tail t) (goes : MayGoOn lengths t)
    (rests : List Numbered) (letters : List NameSet) (are : AreLetters letters rests) (k : ℕ)
    (a : NameSet) (there : slice_get letters k ≡ Some a) (child : Cursor)
    (below : rests_at child ≡ under a rests)
    (steps : next ≡ next_state m q (bit_or (part_of m.atoms (cond first 0 1) (get_or t 0 empty))
    (part_of m.atoms (other_place first) a))) where
  abbrev all : List (List Numbered)
  all = beside first (number, t) rests

  abbrev behind : List (List Numbered)
  behind = beside first (number, left.now) (rests_at child)

  abbrev places : List Place
  places = pair_of first (given_at number t left) (other_at a child)

  abbrev sought : Sought
  sought = sought_beside first (number, t)

  abbrev sought_left : Sought
  sought_left = sought_beside first (number, left.now)

  abbrev way : List Numbered
  way = led_by a (under a rests)

  some : 0 < length (under a rests)
  some = some-under rests letters are k a there

  is-way : IsWay (get_or all (other_place first) []) (Some a) way
  is-way =
      let P : List Numbered → Type 0 = λ l. IsWay l (Some a) way in
      subst P (sym (other-here first (number, t) rests)) (letter-way a rests some)

  moved : Each (IsMoved lengths) places
  moved = each-pair (IsMoved lengths) first (given_at number t left) (other_at a child)
      (given-moved lengths number t left is goes) tt

  letter : list_any is_letter (map taken_of places) ≡ true
  letter = some-letter first number t left a child

  wholes : map whole_of places ≡ set all (other_place first) way
  wholes =
      map-pair whole_of first (given_at number t left) (other_at a child)
      ∙ (λ i. pair_of first (given-whole number t left is i) (led_by a (below i)))
      ∙ sym (other-set first (number, t) rests way)

  after : IsBehind sought sought_left places
  after = given-behind first number t left (other_at a child) is

  stepped : (r : Option (List ℕ)) → IsSearch sought_left m lengths next 0 behind r
      → IsSearch sought m lengths q 1 (set all (other_place first) way) r
  stepped r s =
      let P : List (List Numbered) → Type 0 = λ ls. IsSearch sought m lengths q 1 ls r in
      subst P wholes (step-search m lengths q _ next places moved letter steps
      (pair-code m first number t left a child) sought sought_left after behind
      (sym (map-pair left_at first (given_at number t left) (other_at a child))) r s)

  pub letter-rejected : (numbers : List ℕ) → AreRejected sought_left m lengths next behind numbers
      → AreRejected sought m lengths q all numbers
  letter-rejected numbers r =
      rejected-part sought m lengths q all (other_place first) (Some a) way numbers is-way
      (stepped (Some numbers) r)

  pub letter-accepted : AreAcceptedBy sought m lengths q (other_place first) (take k letters) all
      → AreAccepted sought_left m lengths next 0 behind
      → AreAcceptedBy sought m lengths q (other_place first) (take (k + 1) letters) all
  letter-accepted before accepted =
      let P : ℕ → Type 0 = λ j. AreAcceptedBy sought m lengths q (other_place first) (take j letters) all in
      let one : suc k ≡ k + 1 = omega arith in
      subst P one (accepted-more sought m lengths q all (other_place first) letters k a way
      (other-within first (number, t) rests) there is-way before (stepped None accepted))

  pub letter-steps : (before more made : ℕ) → before + (more + 1) ≡ made
      → AreStepsBy sought lengths (other_place first) (take k letters) all before
      → AreSteps sought_left lengths behind more
      → AreStepsBy sought lengths (other_place first) (take (k + 1) letters) all made
  letter-steps before more made sum s u =
      let P : ℕ → Type 0 = λ j. AreStepsBy sought lengths (other_place first) (take j letters) all made in
      let Q : ℕ → Type 0 = AreStepsBy sought lengths (other_place first) (take (suc k) letters) all in
      let R : List (List Numbered) → Type 0 = λ ls. AreSteps sought_left lengths ls more in
      let S : List (List Numbered) → Type 0 = λ ls. AreSteps sought lengths ls (more + 1) in
      let one : suc k ≡ k + 1 = omega arith in
      let long : 0 < length way = omega (arith, some, long-led a (under a rests)) in
      let T : List Trace → List (List Numbered) → Type 0 = λ ts ls. IsTupleIn sought ls ts in
      let (ts, tuple) = some-tuple first number t way long in
      subst P one (subst Q sum (steps-more sought lengths all (other_place first) letters k a way
      (other-within first (number, t) rests) are.distinct there is-way before (more + 1) s
      (subst S wholes (step-steps m lengths q _ next places moved letter steps
      (λ us f. pair-code m first number t left a child
      ∙ taken-code m (map letter_or (map taken_of places)) us (ap (map letter_or) f))
      sought sought_left after more ts
      (subst (T ts) (sym (wholes ∙ other-set first (number, t) rests way)) tuple)
      (subst R (sym (map-pair left_at first (given_at number t left) (other_at a child))) u)))))

-- ---- fewer letters are left

led-longer : (a : NameSet) (ps : List Numbered) → 0 < length ps
    → longest_in ps + 1 ≤ longest_in (led_by a ps)
led-longer a [] some = absurd (omega arith)
led-longer a (p ∷ []) some = omega arith
led-longer a (p ∷ q ∷ ps) some = omega (arith, led-longer a (q ∷ ps) (omega arith))

pub longest-under : (rests : List Numbered) (letters : List NameSet) → AreLetters letters rests
    → (k : ℕ) (a : NameSet) → slice_get letters k ≡ Some a
    → longest_in (under a rests) + 1 ≤ longest_in rests
longest-under rests letters are k a there =
    let some = some-under rests letters are k a there in
    let way = letter-way a rests some in
    omega (
      arith,
      led-longer a (under a rests) some,
      in-least (led_by a (under a rests)) (longest_in rests)
          (λ p c. in-most rests p (way.part p c)),
    )

-- ---- one trace alone beside the given

module _ (m : Machine) (lengths : Lengths) (q : ℕ) (number : ℕ) (t : Trace) (other : ℕ)
    (u : Trace) where
  pub pair-rejected : (first : Bool) → IsRejected m lengths q (pair_of first t u)
      → AreRejected (sought_beside first (number, t)) m lengths q
      (beside first (number, t) ((other, u) ∷ [])) (pair_of first number other)
  pair-rejected true r = record {
    pairs = (number, t) ∷ (other, u) ∷ [];
    members = (contains-here (number, t) [], (contains-here (other, u) [], tt));
    has = beside-has true (number, t) (other, u);
    same = refl;
    rejected = r;
  }
  pair-rejected false r = record {
    pairs = (other, u) ∷ (number, t) ∷ [];
    members = (contains-here (other, u) [], (contains-here (number, t) [], tt));
    has = beside-has false (number, t) (other, u);
    same = refl;
    rejected = r;
  }

  pub pair-accepted : (first : Bool) → IsAccepted m lengths q (pair_of first t u)
      → AreAccepted (sought_beside first (number, t)) m lengths q 0
      (beside first (number, t) ((other, u) ∷ []))
  pair-accepted true e =
      ones-accepted (sought_beside true (number, t)) m lengths q ((number, t) ∷ (other, u) ∷ [])
      (((number, t) ∷ []) ∷ ((other, u) ∷ []) ∷ []) refl e
  pair-accepted false e =
      ones-accepted (sought_beside false (number, t)) m lengths q ((other, u) ∷ (number, t) ∷ [])
      (((other, u) ∷ []) ∷ ((number, t) ∷ []) ∷ []) refl e

  pub pair-steps : (first : Bool) (made : ℕ) → made ≤ judged lengths (pair_of first t u)
      → AreSteps (sought_beside first (number, t)) lengths
      (beside first (number, t) ((other, u) ∷ [])) made
  pair-steps true made le =
      ones-steps (sought_beside true (number, t)) lengths ((number, t) ∷ (other, u) ∷ [])
      (((number, t) ∷ []) ∷ ((other, u) ∷ []) ∷ []) refl
      (beside-has true (number, t) (other, u)) made le
  pair-steps false made le =
      ones-steps (sought_beside false (number, t)) lengths ((other, u) ∷ (number, t) ∷ [])
      (((other, u) ∷ []) ∷ ((number, t) ∷ []) ∷ []) refl
      (beside-has false (number, t) (other, u)) made le

pub pair-within : (m : Machine) (first : Bool) (t : Trace) (a : NameSet)
    → bit_or (part_of m.atoms (cond first 0 1) (get_or t 0 empty))
    (part_of m.atoms (other_place first) a) < codes m
pair-within m true t a =
    omega (
      arith,
      two-letters m (get_or t 0 empty) a,
      code-lt (joint_letter (get_or t 0 empty ∷ a ∷ [])) m.atoms,
    )
pair-within m false t a =
    omega (
      arith,
      or_comm (part_of m.atoms 1 (get_or t 0 empty)) (part_of m.atoms 0 a),
      two-letters m a (get_or t 0 empty),
      code-lt (joint_letter (a ∷ get_or t 0 empty ∷ [])) m.atoms,
    )
