-- One tuple alone, position by position.
use Rattle.std.proofs.Common.{◌≡◌, ◌⊎◌, ℕ, zero, suc, ◌<◌, ◌≤◌, ◌&&◌, nat_eq, List, [], ◌∷◌, ◌++◌, length, map, take, slice_get, get_or, bit_or, Option, option_map, Some, None, IfSome, IfNone, inl, inr, refl, sym, ap, ◌∙◌, subst, arith}
use Rattle.std.specs.List.{Contains}
use Rattle.std.proofs.lemmas.Bool.{cases_eq}
use Rattle.std.specs.Borrow.{Bor}
use Rattle.std.specs.FinSet.{empty, contains}
use Rattle.std.specs.Int.Bits.{or_zero_l}
use Rattle.std.proofs.lemmas.List.{length-map, take_all}
use Rattle.std.proofs.lemmas.Option.{slice_get-map, slice_get_read}
use Rattle.hy_base.proofs.Members.{contains-here, contains-cases, contains-none, contains-one}
use Rattle.hy_bits.specs.Letter.{Letter}
use Rattle.hy_formula.specs.Quantifiers.{Each}
use Rattle.hy_finite.specs.declared.lengths.Lengths.{Lengths}
use Rattle.hy_finite.specs.Traces.{Trace, of_two, judged, trace_words}
use Rattle.hy_finite.proofs.JudgedLength.{of_two-assoc}
use Rattle.fin_monitor.specs.Codes.{code_of, part_of, joint_letter}
use Rattle.fin_monitor.specs.Machines.{Machine, IsMonitor, next_state, settled_state, code_at}
use Rattle.fin_monitor.specs.Parts.{AreParts}
use Rattle.fin_monitor.proofs.CodeBits.{code-lt, small-code}
use Rattle.trace_trie.specs.Numbered.{Numbered, tail}
use Rattle.tuple_walk.specs.Alone.{left_of}
use Rattle.tuple_walk.specs.Finds.{numbers_of, traces_of}
use Rattle.tuple_walk.specs.JointPrefixes.{Row, rows_of}
use Rattle.tuple_walk.specs.Places.{AreSome}
use Rattle.tuple_walk.specs.Searches.{state_over, AreFrom, IsTupleOf, HasAt, Sought, IsTupleIn, IsAccepted, IsRejected, AreAccepted, IsSearch, AreReady, AreEnded, AreApart, IsPrefixIn, AreSteps}
use Rattle.tuple_walk.specs.TraceParts.{part_at, traces_in, parts_in}
use Rattle.tuple_walk.specs.declared.place.Place.{Place}
use Rattle.tuple_walk.specs.declared.trace_parts.TraceParts.{TraceParts}
use Rattle.tuple_walk.proofs.Ending.{ended-from}
use Rattle.tuple_walk.proofs.Lists.{get-of}
use Rattle.tuple_walk.proofs.Nexts.{long-places}
use Rattle.tuple_walk.proofs.Scanning.{code-more, code-none}
use Rattle.tuple_walk.proofs.Starting.{over-next}
use Rattle.tuple_walk.proofs.Stepping.{left_at, pairs-tuple, tuple-pairs}

-- ---- lists of one member each

abbrev pub ones : List Numbered → List (List Numbered)
ones [] = []
ones (p ∷ ps) = (p ∷ []) ∷ ones ps

from-ones : (ps : List Numbered) → AreFrom (ones ps) ps
from-ones [] = tt
from-ones (p ∷ ps) = (contains-here p [], from-ones ps)

only-pairs : (ps qs : List Numbered) → AreFrom (ones ps) qs → qs ≡ ps
only-pairs [] [] h = refl
only-pairs [] (q ∷ qs) h = absurd h
only-pairs (p ∷ ps) [] h = absurd h
only-pairs (p ∷ ps) (q ∷ qs) h =
    let e = sym (contains-one p q h.0) in
    let es = only-pairs ps qs h.1 in
    λ i. e i ∷ es i

only-tuple : (ps : List Numbered) (ts : List Trace) → IsTupleOf (ones ps) ts → ts ≡ traces_of ps
only-tuple ps ts h =
    let (qs, c, e) = tuple-pairs (ones ps) ts h in
    sym e ∙ ap traces_of (only-pairs ps qs c)

pub ones-more : (ps : List Numbered) (p : Numbered) → ones (ps ++ p ∷ []) ≡ ones ps ++ (p ∷ []) ∷ []
ones-more [] p = refl
ones-more (q ∷ ps) p = ap (λ ls. (q ∷ []) ∷ ls) (ones-more ps p)

ones-there : (ps : List Numbered) (i : ℕ) (x : Numbered) → i < length (ones ps)
    → Contains (get_or (ones ps) i []) x → slice_get ps i ≡ Some x
ones-there [] i x lt c = absurd (omega arith)
ones-there (p ∷ ps) zero x lt c = ap (λ (q : Numbered). Some q) (contains-one p x c)
ones-there (p ∷ ps) (suc i) x lt c = ones-there ps i x (omega arith) c

-- the given trace is the one at a marked place
ones-has : (s : Sought) (ls : List (List Numbered)) (ps : List Numbered) → ls ≡ ones ps
    → AreReady s ls → HasAt s.marks s.given ps
ones-has s ls ps is ready =
    let here = subst (AreReady s) is ready in
    let (i, marked, lt) = here.place in
    (i, marked, ones-there ps i s.given lt (here.there i marked lt))

-- where all lists have been looked at
all-ones : (ls : List (List Numbered)) (rests : List (Bor Trace)) (ps : List Numbered)
    (i k : ℕ) → length ls ≤ i → k ≡ i → take i ls ≡ ones ps → traces_of ps ≡ left_of (take i rests)
    → (ls ≡ ones ps) × (left_of (take k rests) ≡ traces_of ps)
all-ones ls rests ps i k le same is traces = (
  sym (take_all i ls le) ∙ is,
  ap (λ j. left_of (take j rests)) same ∙ sym traces,
)

-- ---- where the tuple is judged

module _ (s : Sought) (m : Machine) (lengths : Lengths) (q : ℕ) (ps : List Numbered)
    (ls : List (List Numbered)) (is : ls ≡ ones ps) where
  pub ones-accepted : IsAccepted m lengths q (traces_of ps) → AreAccepted s m lengths q 0 ls
  ones-accepted e = λ ts h le.
      let P : List (List Numbered) → Type 0 = λ l. IsTupleOf l ts in
      let Q : List Trace → Type 0 = IsAccepted m lengths q in
      subst Q (sym (only-tuple ps ts (subst P is h.0))) e

  pub ones-rejected : IsRejected m lengths q (traces_of ps) → (r : Option (List ℕ))
      → IfSome r (λ numbers. (qs : List Numbered) × AreEnded ls qs × (numbers_of qs ≡ numbers))
      → IfNone r (¬ AreSome ls) → AreReady s ls → IsSearch s m lengths q 0 ls r
  ones-rejected e None some none ready = absurd (none ready.some)
  ones-rejected e (Some numbers) (qs, ended, same) none ready =
      let from = ended-from ls qs ended in
      let P : List (List Numbered) → Type 0 = λ l. AreFrom l qs in
      let Q : List Numbered → Type 0 = λ l. IsRejected m lengths q (traces_of l) in
      let only = only-pairs ps qs (subst P is from) in
      record {
        pairs = qs;
        members = from;
        has = subst (HasAt s.marks s.given) (sym only) (ones-has s ls ps is ready);
        same = same;
        rejected = subst Q (sym only) e;
      }

-- ---- steps

-- the prefixes of up to k rows
abbrev prefixes : List Trace → ℕ → List (List Row)
prefixes ts zero = []
prefixes ts (suc k) = rows_of ts (suc k) ∷ prefixes ts k

many-prefixes : (ts : List Trace) (k : ℕ) → length (prefixes ts k) ≡ k
many-prefixes ts zero = refl
many-prefixes ts (suc k) = ap suc (many-prefixes ts k)

many-rows : (ts : List Trace) (k : ℕ) → length (rows_of ts k) ≡ k
many-rows ts zero = refl
many-rows ts (suc k) = ap suc (many-rows (map tail ts) k)

short-prefixes : (ts : List Trace) (k : ℕ) (rows : List Row) → Contains (prefixes ts k) rows
    → length rows ≤ k
short-prefixes ts zero rows c = absurd (contains-none rows c)
short-prefixes ts (suc k) rows c =
    elim (contains-cases (rows_of ts (suc k)) rows (prefixes ts k) c) [
      | inl e ↦ omega (arith, ap (λ (l : List Row). length l) e, many-rows ts (suc k))
      | inr later ↦ omega (arith, short-prefixes ts k rows later)
    ]

apart-prefixes : (ts : List Trace) (k : ℕ) → AreApart (prefixes ts k)
apart-prefixes ts zero = tt
apart-prefixes ts (suc k) = (
  λ c. omega (arith, short-prefixes ts k (rows_of ts (suc k)) c, many-rows ts (suc k)),
  apart-prefixes ts k,
)

module _ (s : Sought) (lengths : Lengths) (ps : List Numbered) (ls : List (List Numbered))
    (is : ls ≡ ones ps) (has : HasAt s.marks s.given ps) where
  among : IsTupleIn s ls (traces_of ps)
  among =
      let P : List (List Numbered) → Type 0 = λ l. IsTupleOf l (traces_of ps) in
      let (i, marked, at) = has in (
        subst P (sym is) (pairs-tuple (ones ps) ps (from-ones ps)),
        (i, marked, get-of (λ (p : Numbered). p.1) ps i s.given at),
      )

  each-prefix : (k : ℕ) → k ≤ judged lengths (traces_of ps)
      → Each (IsPrefixIn s lengths ls) (prefixes (traces_of ps) k)
  each-prefix zero le = tt
  each-prefix (suc k) le = (
    (
      traces_of ps,
      among,
      record { count = suc k; some = omega arith; inside = le; same = refl },
    ),
    each-prefix k (omega arith),
  )

  -- a step for each of the first positions
  pub ones-steps : (made : ℕ) → made ≤ judged lengths (traces_of ps) → AreSteps s lengths ls made
  ones-steps made le = record {
    visited = prefixes (traces_of ps) made;
    apart = apart-prefixes (traces_of ps) made;
    inside = each-prefix made le;
    many = omega (arith, many-prefixes (traces_of ps) made);
  }

-- what is known of places where all have been looked at
module _ (n : ℕ) (places : List Place) (few : n ≤ length places) (rests : List (Bor Trace))
    (i k : ℕ) (done : n ≤ i) (same : k ≡ i)
    (looked : (ps : List Numbered) × (take i (map left_at (take n places)) ≡ ones ps)
    × (traces_of ps ≡ left_of (take i rests))) (s : Sought)
    (ready : AreReady s (map left_at (take n places))) where
  abbrev lists : List (List Numbered)
  lists = map left_at (take n places)

  are-ones : (lists ≡ ones looked.0) × (left_of (take k rests) ≡ traces_of looked.0)
  are-ones =
      all-ones lists rests looked.0 i k (omega (arith, done, long-places n left_at places few))
      same looked.1 looked.2

  pub left-counted : (lengths : Lengths) (made : ℕ)
      → made ≤ judged lengths (left_of (take k rests)) → AreSteps s lengths lists made
  left-counted lengths made le =
      ones-steps s lengths looked.0 lists are-ones.0 (ones-has s lists looked.0 are-ones.0 ready)
      made (omega (arith, le, ap (judged lengths) are-ones.1))

  module _ (m : Machine) (lengths : Lengths) (q : ℕ) where
    pub left-accepted : IsAccepted m lengths q (left_of (take k rests))
        → AreAccepted s m lengths q 0 lists
    left-accepted e =
        ones-accepted s m lengths q looked.0 lists are-ones.0
        (subst (IsAccepted m lengths q) are-ones.1 e)

    pub left-rejected : IsRejected m lengths q (left_of (take k rests)) → (r : Option (List ℕ))
        → IfSome r (λ numbers. (qs : List Numbered) × AreEnded lists qs
        × (numbers_of qs ≡ numbers))
        → IfNone r (¬ AreSome lists) → IsSearch s m lengths q 0 lists r
    left-rejected e r some none =
        ones-rejected s m lengths q looked.0 lists are-ones.0
        (subst (IsRejected m lengths q) are-ones.1 e) r some none ready

-- ---- the length on which a tuple is judged

pub judged-more : (lengths : Lengths) (ts : List Trace) (i : ℕ) (t : Trace) → 0 < i
    → slice_get ts i ≡ Some t
    → judged lengths (take (suc i) ts) ≡ of_two lengths (judged lengths (take i ts)) (length t)
judged-more lengths ts zero t lt e = absurd (omega arith)
judged-more lengths [] (suc i) t lt e = absurd (cc)
judged-more lengths (u ∷ []) (suc i) t lt e = absurd (cc)
judged-more lengths (u ∷ v ∷ ts) (suc zero) t lt e =
    let is : v ≡ t = cc in
    ap (λ (x : Trace). of_two lengths (length u) (length x)) is
judged-more lengths (u ∷ v ∷ ts) (suc (suc i)) t lt e =
    ap (of_two lengths (length u)) (judged-more lengths (v ∷ ts) (suc i) t (omega arith) e)
    ∙ of_two-assoc lengths (length u) (judged lengths (take (suc i) (v ∷ ts))) (length t)

-- ---- what is left of traces

pub left-there : (rests : List (Bor Trace)) (i : ℕ) (r : Bor Trace) → i < length rests
    → r ≡ get_or rests i r → slice_get (left_of rests) i ≡ Some r.now
left-there rests i r lt is =
    at rests i lt ∙ ap (λ (q : Bor Trace). Some q.now) (sym is)
  where
    at : (rests : List (Bor Trace)) (i : ℕ) → i < length rests
        → slice_get (left_of rests) i ≡ Some (get_or rests i r).now
    at [] i lt = absurd (omega arith)
    at (q ∷ rests) zero lt = refl
    at (q ∷ rests) (suc i) lt = at rests i (omega arith)

pub judged-first : (lengths : Lengths) (rests : List (Bor Trace)) (d : Bor Trace)
    → 0 < length rests → length (get_or rests 0 d).now ≡ judged lengths (take 1 (left_of rests))
judged-first lengths [] d lt = absurd (omega arith)
judged-first lengths (r ∷ rests) d lt = refl

-- ---- states

-- from the settled state on it stays
pub settled-later : (m : Machine) → IsMonitor m → (q i : ℕ) (ts : List Trace)
    → state_over m q ts i ≡ settled_state m → (j : ℕ) → i ≤ j
    → state_over m q ts j ≡ settled_state m
settled-later m is q i ts e zero le =
    let same : 0 ≡ i = omega arith in
    ap (state_over m q ts) same ∙ e
settled-later m is q i ts e (suc j) le = at (before i j le) (settled-later m is q i ts e j)
  where
    before : (i j : ℕ) → i ≤ suc j → (i ≤ j) ⊎ (suc j ≡ i)
    before i j le = elim (cases_eq (suc j) i) [
      | inl same ↦ inr same
      | inr other ↦ inl (omega (arith, other))
    ]

    at : (i ≤ j) ⊎ (suc j ≡ i) → (i ≤ j → state_over m q ts j ≡ settled_state m)
        → state_over m q ts (suc j) ≡ settled_state m
    at (inr same) earlier = ap (state_over m q ts) same ∙ e
    at (inl less) earlier =
        let code = code_at m (trace_words ts) j in
        over-next m q j ts
        ∙ ap (λ x. next_state m x code) (earlier less)
        ∙ is.stays code (code-lt (λ name variable. trace_words ts name variable j) m.atoms)

-- ---- letters

-- the letters at a position
abbrev pub letters_at_position : ℕ → List Trace → List Letter
letters_at_position i ts = map (λ (t : Trace). get_or t i empty) ts

pub letter-there : (position : ℕ) (ts : List Trace) (i : ℕ) (t : Trace)
    → slice_get ts i ≡ Some t
    → slice_get (letters_at_position position ts) i ≡ Some (get_or t position empty)
letter-there position [] i t e = absurd (cc)
letter-there position (u ∷ ts) zero t e =
    let same : u ≡ t = cc in
    ap (λ (x : Trace). Some (get_or x position empty)) same
letter-there position (u ∷ ts) (suc i) t e = letter-there position ts i t e

position-word : (i : ℕ) (ts : List Trace) (v : ℕ)
    → get_or (letters_at_position i ts) v empty ≡ get_or (get_or ts v []) i empty
position-word i [] v = refl
position-word i (t ∷ ts) zero = refl
position-word i (t ∷ ts) (suc v) = position-word i ts v

pub position-code : (m : Machine) (i : ℕ) (ts : List Trace)
    → code_of (joint_letter (letters_at_position i ts)) m.atoms ≡ code_at m (trace_words ts) i
position-code m i ts = λ j. code_of (λ name v. contains (position-word i ts v j) name) m.atoms

-- the parts of two letters
pub two-letters : (m : Machine) (a b : Letter)
    → bit_or (part_of m.atoms 0 a) (part_of m.atoms 1 b)
    ≡ code_of (joint_letter (a ∷ b ∷ [])) m.atoms
two-letters m a b =
    let letters = a ∷ b ∷ [] in
    ap (λ k. bit_or k (part_of m.atoms 1 b))
    (sym (or_zero_l (part_of m.atoms 0 a))
    ∙ ap (λ k. bit_or k (part_of m.atoms 0 a)) (sym (code-none m.atoms))
    ∙ code-more letters 0 a m.atoms refl)
    ∙ code-more letters 1 b m.atoms refl

-- ---- a trace among others, each beside the parts of its letters

module _ (m : Machine) (all : List TraceParts) (are : AreParts (parts_in all) m.atoms (length all))
    (v : ℕ) (t : TraceParts) (lt : v < length all) (is : t ≡ get_or all v t) where
  there : {A : Type 0} (f : TraceParts → A) → slice_get (map f all) v ≡ Some (f t)
  there f = slice_get-map f all v ∙ ap (option_map f) (slice_get_read all (length all) v t refl lt is)

  pub part-right : (i : ℕ) → part_at t i ≡ part_of m.atoms v (get_or t.trace.now i empty)
  part-right i =
      are.each v t.parts.now (there (λ (u : TraceParts). u.parts.now)) (get_or t.trace.now i empty)

  pub part-small : IsMonitor m → (i : ℕ) → part_at t i < 65536
  part-small right i =
      let a = get_or t.trace.now i empty in
      omega (
        arith,
        part-right i,
        small-code (λ name u. nat_eq u v && contains a name) m.atoms 0 right.few_atoms,
      )

  -- the part of one trace more
  pub trace-more : (i code : ℕ)
      → code ≡ code_of (joint_letter (take v (letters_at_position i (traces_in all)))) m.atoms
      → bit_or code (part_at t i)
      ≡ code_of (joint_letter (take (suc v) (letters_at_position i (traces_in all)))) m.atoms
  trace-more i code e =
      let a = get_or t.trace.now i empty in
      (λ j. bit_or (e j) (part-right i j))
      ∙ code-more (letters_at_position i (traces_in all)) v a m.atoms
      (letter-there i (traces_in all) v t.trace.now (there (λ (u : TraceParts). u.trace.now)))

-- the code of all of them
pub traces-code : (m : Machine) (all : List TraceParts) (i k : ℕ) → length all ≤ k
    → code_of (joint_letter (take k (letters_at_position i (traces_in all)))) m.atoms
    ≡ code_at m (trace_words (traces_in all)) i
traces-code m all i k le =
    ap (λ l. code_of (joint_letter l) m.atoms) (take_all k (letters_at_position i (traces_in all))
    (omega (
      arith,
      length-map (traces_in all) (λ (t : Trace). get_or t i empty),
      length-map all (λ (t : TraceParts). t.trace.now),
    )))
    ∙ position-code m i (traces_in all)
