-- What is known of tuples where one place of them is known further.
use Rattle.std.proofs.Common.{◌≡◌, ◌⊎◌, ℕ, zero, suc, ◌+◌, ◌<◌, ◌≤◌, List, [], ◌∷◌, ◌++◌, length, map, take, set, get_or, slice_get, Option, Some, None, inl, inr, refl, sym, ap, ◌∙◌, subst, arith, length-append}
use Rattle.std.specs.List.{Contains}
use Rattle.std.proofs.lemmas.List.{length-set}
use Rattle.hy_base.proofs.Members.{contains-here, contains-later, contains-cases, contains-none, from-take, map-of, map-from}
use Rattle.hy_bits.specs.Letter.{Letter}
use Rattle.hy_formula.proofs.Each.{each-at, each-append, each-like}
use Rattle.hy_finite.specs.declared.lengths.Lengths.{Lengths}
use Rattle.hy_finite.specs.declared.lengths.Lengths.TheVariants.{Min, Pad}
use Rattle.hy_finite.specs.Traces.{Trace, judged}
use Rattle.fin_monitor.specs.Machines.{Machine}
use Rattle.trace_trie.specs.Numbered.{Numbered}
use Rattle.trace_trie.specs.Cursors.{AreDistinct, GoesOn, AreLetters}
use Rattle.tuple_walk.specs.Finds.{traces_of}
use Rattle.tuple_walk.specs.JointPrefixes.{Row, entry, rows_of}
use Rattle.tuple_walk.specs.Places.{IsWay, HasNoGap}
use Rattle.tuple_walk.specs.Searches.{AreFrom, IsTupleOf, Sought, IsTupleIn, AreRejected, AreAccepted, AreAcceptedBy, IsAccepted, IsPrefixIn, AreSteps, entry_in, BeginsBy, AreStepsBy}
use Rattle.tuple_walk.proofs.Lists.{apart-append}
use Rattle.tuple_walk.proofs.Ways.{no-entry}

-- ---- one list changed

pub from-set : {A : Type 0} (ls : List (List A)) (i : ℕ) (w xs : List A)
    → ((x : A) → Contains w x → Contains (get_or ls i []) x) → AreFrom (set ls i w) xs
    → AreFrom ls xs
from-set [] i w xs part h = h
from-set (l ∷ ls) zero w [] part h = absurd h
from-set (l ∷ ls) zero w (x ∷ xs) part h = (part x h.0, h.1)
from-set (l ∷ ls) (suc i) w [] part h = absurd h
from-set (l ∷ ls) (suc i) w (x ∷ xs) part h = (h.0, from-set ls i w xs part h.1)

pub tuple-set : (ls : List (List Numbered)) (i : ℕ) (w : List Numbered) (ts : List Trace)
    → i < length ls → IsTupleOf ls ts → Contains (traces_of w) (get_or ts i [])
    → IsTupleOf (set ls i w) ts
tuple-set [] i w ts lt h c = absurd (omega arith)
tuple-set (l ∷ ls) zero w [] lt h c = absurd h
tuple-set (l ∷ ls) zero w (t ∷ ts) lt h c = (c, h.1)
tuple-set (l ∷ ls) (suc i) w [] lt h c = absurd h
tuple-set (l ∷ ls) (suc i) w (t ∷ ts) lt h c = (h.0, tuple-set ls i w ts (omega arith) h.1 c)

pub part-traces : (w rests : List Numbered) → ((p : Numbered) → Contains w p → Contains rests p)
    → (t : Trace) → Contains (traces_of w) t → Contains (traces_of rests) t
part-traces w rests part t c =
    let (p, d, e) = map-from (λ (p : Numbered). p.1) w t c in
    let P : Trace → Type 0 = Contains (traces_of rests) in
    subst P e (map-of (λ (p : Numbered). p.1) rests p (part p d))

tuple-unset : (ls : List (List Numbered)) (i : ℕ) (w : List Numbered) (ts : List Trace)
    → ((p : Numbered) → Contains w p → Contains (get_or ls i []) p) → IsTupleOf (set ls i w) ts
    → IsTupleOf ls ts
tuple-unset [] i w ts part h = h
tuple-unset (l ∷ ls) zero w [] part h = absurd h
tuple-unset (l ∷ ls) zero w (t ∷ ts) part h = (part-traces w l part t h.0, h.1)
tuple-unset (l ∷ ls) (suc i) w [] part h = absurd h
tuple-unset (l ∷ ls) (suc i) w (t ∷ ts) part h = (h.0, tuple-unset ls i w ts part h.1)

pub tuple-at : (ls : List (List Numbered)) (i : ℕ) (ts : List Trace) → i < length ls
    → IsTupleOf ls ts → Contains (traces_of (get_or ls i [])) (get_or ts i [])
tuple-at [] i ts lt h = absurd (omega arith)
tuple-at (l ∷ ls) i [] lt h = absurd h
tuple-at (l ∷ ls) zero (t ∷ ts) lt h = h.0
tuple-at (l ∷ ls) (suc i) (t ∷ ts) lt h = tuple-at ls i ts (omega arith) h.1

tuple-set_at : (ls : List (List Numbered)) (i : ℕ) (w : List Numbered) (ts : List Trace)
    → i < length ls → IsTupleOf (set ls i w) ts → Contains (traces_of w) (get_or ts i [])
tuple-set_at [] i w ts lt h = absurd (omega arith)
tuple-set_at (l ∷ ls) zero w [] lt h = absurd h
tuple-set_at (l ∷ ls) (suc i) w [] lt h = absurd h
tuple-set_at (l ∷ ls) zero w (t ∷ ts) lt h = h.0
tuple-set_at (l ∷ ls) (suc i) w (t ∷ ts) lt h = tuple-set_at ls i w ts (omega arith) h.1

pub length-tuple : (ls : List (List Numbered)) (ts : List Trace) → IsTupleOf ls ts
    → length ts ≡ length ls
length-tuple [] [] h = refl
length-tuple [] (t ∷ ts) h = absurd h
length-tuple (l ∷ ls) [] h = absurd h
length-tuple (l ∷ ls) (t ∷ ts) h = ap suc (length-tuple ls ts h.1)

-- ---- letters in their order

take-cases : {A : Type 0} (xs : List A) (k : ℕ) (a b : A) → slice_get xs k ≡ Some a
    → Contains (take (suc k) xs) b → Contains (take k xs) b ⊎ (a ≡ b)
take-cases [] k a b e c = absurd (contains-none b c)
take-cases (x ∷ xs) zero a b e c = elim (contains-cases x b [] c) [
  | inl is ↦ let same : x ≡ a = cc in inr (sym same ∙ is)
  | inr later ↦ absurd (contains-none b later)
]
take-cases (x ∷ xs) (suc k) a b e c = elim (contains-cases x b (take (suc k) xs) c) [
  | inl is ↦ let P = Contains (x ∷ take k xs) in inl (subst P is (contains-here x (take k xs)))
  | inr later ↦ elim (take-cases xs k a b e later) [
    | inl before ↦ inl (contains-later x b (take k xs) before)
    | inr same ↦ inr same
  ]
]

take-longer : {A : Type 0} (xs : List A) (k : ℕ) (b : A) → Contains (take k xs) b
    → Contains (take (suc k) xs) b
take-longer [] k b c = absurd (contains-none b (none k c))
  where
    none : (k : ℕ) → Contains (take k []) b → Contains [] b
    none zero c = c
    none (suc k) c = c
take-longer (x ∷ xs) zero b c = absurd (contains-none b c)
take-longer (x ∷ xs) (suc k) b c = elim (contains-cases x b (take k xs) c) [
  | inl is ↦
      let P = Contains (x ∷ take (suc k) xs) in
      subst P is (contains-here x (take (suc k) xs))
  | inr later ↦ contains-later x b (take (suc k) xs) (take-longer xs k b later)
]

take-last : {A : Type 0} (xs : List A) (k : ℕ) (a : A) → slice_get xs k ≡ Some a
    → Contains (take (suc k) xs) a
take-last [] k a e = absurd (cc)
take-last (x ∷ xs) zero a e =
    let same : x ≡ a = cc in
    let P = Contains (x ∷ []) in
    subst P same (contains-here x [])
take-last (x ∷ xs) (suc k) a e = contains-later x a (take (suc k) xs) (take-last xs k a e)

-- a letter is not among those before it
distinct-take : (letters : List Letter) (k : ℕ) (a : Letter) → AreDistinct letters
    → slice_get letters k ≡ Some a → ¬ Contains (take k letters) a
distinct-take [] k a d e c = absurd (cc)
distinct-take (b ∷ letters) zero a d e c = contains-none a c
distinct-take (b ∷ letters) (suc k) a d e c = elim (contains-cases b a (take k letters) c) [
  | inl is ↦ each-at (λ (x : Letter). x ≡ b → ⊥) letters a d.0
      (from-take letters (suc k) a (take-last letters k a e)) (sym is)
  | inr later ↦ distinct-take letters k a d.1 e later
]

-- ---- what is accepted and rejected

module _ (s : Sought) (m : Machine) (lengths : Lengths) (q : ℕ) (ls : List (List Numbered))
    (i : ℕ) where
  pub rejected-part : (e : Option Letter) (w : List Numbered) (numbers : List ℕ)
      → IsWay (get_or ls i []) e w → AreRejected s m lengths q (set ls i w) numbers
      → AreRejected s m lengths q ls numbers
  rejected-part e w numbers way r = record {
    pairs = r.pairs;
    members = from-set ls i w r.pairs way.part r.members;
    has = r.has;
    same = r.same;
    rejected = r.rejected;
  }

  -- the tuples that begin so are accepted, where they are behind the way
  pub accepted-way : (e : Option Letter) (w : List Numbered) → i < length ls
      → IsWay (get_or ls i []) e w → AreAccepted s m lengths q 1 (set ls i w)
      → (tuple : List Trace) → IsTupleIn s ls tuple → 1 ≤ judged lengths tuple
      → entry (get_or tuple i []) ≡ e → IsAccepted m lengths q tuple
  accepted-way e w lt way accepted tuple h some begins =
      accepted tuple (
        tuple-set ls i w tuple lt h.0
            (way.whole (get_or tuple i []) (tuple-at ls i tuple lt h.0) begins),
        h.1,
      )
      some

  pub accepted-more : (letters : List Letter) (k : ℕ) (a : Letter) (w : List Numbered)
      → i < length ls → slice_get letters k ≡ Some a → IsWay (get_or ls i []) (Some a) w
      → AreAcceptedBy s m lengths q i (take k letters) ls
      → AreAccepted s m lengths q 1 (set ls i w)
      → AreAcceptedBy s m lengths q i (take (suc k) letters) ls
  accepted-more letters k a w lt e way before accepted = λ tuple h some b c begins.
      elim (take-cases letters k a b e c) [
        | inl earlier ↦ before tuple h some b earlier begins
        | inr same ↦ accepted-way (Some a) w lt way accepted tuple h some
            (begins ∙ ap (λ (x : Letter). Some x) (sym same))
      ]

  -- each tuple begins with one of the letters, or with none
  pub accepted-all : (letters : List Letter) → i < length ls → AreLetters letters (get_or ls i [])
      → AreAcceptedBy s m lengths q i letters ls
      → ((tuple : List Trace) → IsTupleIn s ls tuple → 1 ≤ judged lengths tuple
      → entry (get_or tuple i []) ≡ None → IsAccepted m lengths q tuple)
      → AreAccepted s m lengths q 1 ls
  accepted-all letters lt are by_letter by_gap = λ tuple h some.
      at tuple h some (get_or tuple i []) refl (tuple-at ls i tuple lt h.0)
    where
      goes : (a : Letter) (t : Trace) → Contains (traces_of (get_or ls i [])) (a ∷ t)
          → Contains letters a
      goes a t c =
          let (p, d, e) = map-from (λ (p : Numbered). p.1) (get_or ls i []) (a ∷ t) c in
          let P : Trace → Type 0 = GoesOn letters in
          subst P e (each-at (λ (p : Numbered). GoesOn letters p.1) (get_or ls i []) p are.whole d)

      at : (tuple : List Trace) → IsTupleIn s ls tuple → 1 ≤ judged lengths tuple → (t : Trace)
          → get_or tuple i [] ≡ t → Contains (traces_of (get_or ls i [])) (get_or tuple i [])
          → IsAccepted m lengths q tuple
      at tuple h some [] e c = by_gap tuple h some (ap entry e)
      at tuple h some (a ∷ t) e c =
          let P : Trace → Type 0 = Contains (traces_of (get_or ls i [])) in
          by_letter tuple h some a (goes a t (subst P e c)) (ap entry e)

-- a tuple with a trace that has ended has no position under the least length
pub ended-least : (tuple : List Trace) (i : ℕ) → i < length tuple → get_or tuple i [] ≡ []
    → judged Min tuple ≡ 0
ended-least [] i lt e = absurd (omega arith)
ended-least (t ∷ []) zero lt e = ap length e
ended-least (t ∷ []) (suc i) lt e = absurd (omega arith)
ended-least (t ∷ u ∷ ts) zero lt e = omega (arith, ap length e)
ended-least (t ∷ u ∷ ts) (suc i) lt e = omega (arith, ended-least (u ∷ ts) i (omega arith) e)

-- no tuple with a position is past the end of a trace, where no way leads there
pub none-gaps : (lengths : Lengths) (ls : List (List Numbered)) (i : ℕ) → i < length ls
    → HasNoGap lengths (get_or ls i []) → (tuple : List Trace) → IsTupleOf ls tuple
    → 1 ≤ judged lengths tuple → ¬ (entry (get_or tuple i []) ≡ None)
none-gaps Min ls i lt none tuple h some e =
    omega (
      arith,
      ended-least tuple i (omega (arith, length-tuple ls tuple h))
          (no-entry (get_or tuple i []) e),
    )
none-gaps Pad ls i lt none tuple h some e =
    let P : Trace → Type 0 = Contains (traces_of (get_or ls i [])) in
    let ((n, t), c, is) = map-from (λ (p : Numbered). p.1) (get_or ls i []) []
    (subst P (no-entry (get_or tuple i []) e) (tuple-at ls i tuple lt h)) in
    let Q : Trace → Type 0 = λ u. Contains (get_or ls i []) (n, u) in
    none (n, subst Q is c)

-- ---- steps

pub prefix-unset : (s : Sought) (lengths : Lengths) (ls : List (List Numbered)) (i : ℕ) (w : List Numbered)
    → ((p : Numbered) → Contains w p → Contains (get_or ls i []) p) → (rows : List Row)
    → IsPrefixIn s lengths (set ls i w) rows → IsPrefixIn s lengths ls rows
prefix-unset s lengths ls i w part rows (tuple, h, pre) =
    (tuple, (tuple-unset ls i w tuple part h.0, h.1), pre)

entry-at : (ts : List Trace) (i : ℕ) → i < length ts
    → get_or (map entry ts) i None ≡ entry (get_or ts i [])
entry-at [] i lt = absurd (omega arith)
entry-at (t ∷ ts) zero lt = refl
entry-at (t ∷ ts) (suc i) lt = entry-at ts i (omega arith)

entry-first : (ts : List Trace) (i k : ℕ) → i < length ts → 0 < k
    → entry_in i (rows_of ts k) ≡ entry (get_or ts i [])
entry-first ts i zero lt some = absurd (omega arith)
entry-first ts i (suc k) lt some = entry-at ts i lt

entry-set : (s : Sought) (lengths : Lengths) (ls : List (List Numbered)) (i : ℕ) (e : Option Letter)
    (w : List Numbered) → i < length ls → ((p : Numbered) → Contains w p → entry p.1 ≡ e)
    → (rows : List Row) → IsPrefixIn s lengths (set ls i w) rows → entry_in i rows ≡ e
entry-set s lengths ls i e w lt first rows (tuple, h, pre) =
    let long : i < length tuple =
    omega (arith, length-tuple (set ls i w) tuple h.0, length-set ls i w) in
    let (p, c, is) = map-from (λ (p : Numbered). p.1) w (get_or tuple i [])
    (tuple-set_at ls i w tuple lt h.0) in
    ap (entry_in i) pre.same
    ∙ entry-first tuple i pre.count long pre.some
    ∙ ap entry (sym is)
    ∙ first p c

module _ (s : Sought) (lengths : Lengths) (ls : List (List Numbered)) (i : ℕ) where
  pub no-steps_by : (letters : List Letter) → AreStepsBy s lengths i letters ls 0
  no-steps_by letters =
      record { visited = []; apart = tt; inside = tt; begin = tt; many = omega arith }

  pub steps-more : (letters : List Letter) (k : ℕ) (a : Letter) (w : List Numbered)
      → i < length ls → AreDistinct letters → slice_get letters k ≡ Some a
      → IsWay (get_or ls i []) (Some a) w → (before more : ℕ)
      → AreStepsBy s lengths i (take k letters) ls before
      → AreSteps s lengths (set ls i w) more
      → AreStepsBy s lengths i (take (suc k) letters) ls (before + more)
  steps-more letters k a w lt distinct e way before more b t =
      let begins : (rows : List Row) → IsPrefixIn s lengths (set ls i w) rows
      → entry_in i rows ≡ Some a =
      entry-set s lengths ls i (Some a) w lt way.first in
      record {
        visited = b.visited ++ t.visited;
        apart = apart-append b.visited t.visited b.apart t.apart
            (λ rows d f.
            let (c, among, is) = each-at (BeginsBy i (take k letters)) b.visited rows b.begin d in
            let also : entry_in i rows ≡ Some a =
            begins rows (each-at (IsPrefixIn s lengths (set ls i w)) t.visited rows t.inside f) in
            let same : c ≡ a = cc in
            let P : Letter → Type 0 = Contains (take k letters) in
            distinct-take letters k a distinct e (subst P same among));
        inside = each-append (IsPrefixIn s lengths ls) b.visited t.visited b.inside
            (each-like (IsPrefixIn s lengths (set ls i w)) (IsPrefixIn s lengths ls)
            (prefix-unset s lengths ls i w way.part) t.visited t.inside);
        begin = each-append (BeginsBy i (take (suc k) letters)) b.visited t.visited
            (each-like (BeginsBy i (take k letters)) (BeginsBy i (take (suc k) letters))
            (λ rows (c, among, is). (c, take-longer letters k c among, is)) b.visited b.begin)
            (each-like (IsPrefixIn s lengths (set ls i w)) (BeginsBy i (take (suc k) letters))
            (λ rows h. (a, take-last letters k a e, begins rows h)) t.visited t.inside);
        many = omega (arith, b.many, t.many, length-append b.visited t.visited);
      }

  pub steps-letters : (letters : List Letter) (k made : ℕ)
      → AreStepsBy s lengths i (take k letters) ls made → AreStepsBy s lengths i letters ls made
  steps-letters letters k made b = record {
    visited = b.visited;
    apart = b.apart;
    inside = b.inside;
    begin = each-like (BeginsBy i (take k letters)) (BeginsBy i letters)
        (λ rows (c, among, is). (c, from-take letters k c among, is)) b.visited b.begin;
    many = b.many;
  }

  pub steps-gap : (letters : List Letter) (w : List Numbered) → i < length ls
      → IsWay (get_or ls i []) None w → (before more : ℕ)
      → AreStepsBy s lengths i letters ls before → AreSteps s lengths (set ls i w) more
      → AreSteps s lengths ls (before + more)
  steps-gap letters w lt way before more b t = record {
    visited = b.visited ++ t.visited;
    apart = apart-append b.visited t.visited b.apart t.apart
        (λ rows d f.
        let (c, among, is) = each-at (BeginsBy i letters) b.visited rows b.begin d in
        let also : entry_in i rows ≡ None =
        entry-set s lengths ls i None w lt way.first rows
        (each-at (IsPrefixIn s lengths (set ls i w)) t.visited rows t.inside f) in
        absurd (cc));
    inside = each-append (IsPrefixIn s lengths ls) b.visited t.visited b.inside
        (each-like (IsPrefixIn s lengths (set ls i w)) (IsPrefixIn s lengths ls)
        (prefix-unset s lengths ls i w way.part) t.visited t.inside);
    many = omega (arith, b.many, t.many, length-append b.visited t.visited);
  }

  -- where all begin by one way
  pub steps-way : (e : Option Letter) (w : List Numbered) → IsWay (get_or ls i []) e w → (made : ℕ)
      → AreSteps s lengths (set ls i w) made → AreSteps s lengths ls made
  steps-way e w way made t = record {
    visited = t.visited;
    apart = t.apart;
    inside = each-like (IsPrefixIn s lengths (set ls i w)) (IsPrefixIn s lengths ls)
        (prefix-unset s lengths ls i w way.part) t.visited t.inside;
    many = t.many;
  }
