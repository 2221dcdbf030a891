-- The tuples of a list with a given trace at a marked place, before any letter.
use Rattle.std.proofs.Common.{◌≡◌, ℕ, zero, suc, ◌<◌, ◌≤◌, true, false, ◌↔◌, List, [], ◌∷◌, length, map, take, replicate, slice_get, get_or, Option, Some, None, IfSome, IfNone, refl, sym, ap, ◌∙◌, subst, arith}
use Rattle.std.specs.List.{Contains}
use Rattle.std.specs.FinSet.{empty, contains}
use Rattle.std.proofs.lemmas.List.{take-replicate, length-replicate, get_or-replicate}
use Rattle.std.proofs.lemmas.Option.{slice_get-get_or}
use Rattle.hy_base.proofs.Members.{map-from}
use Rattle.hy_formula.specs.Quantifiers.{Each, IsTuple}
use Rattle.hy_formula.proofs.Each.{each-at}
use Rattle.hy_finite.specs.declared.lengths.Lengths.{Lengths}
use Rattle.hy_finite.specs.Traces.{Trace, judged, trace_words, Meets}
use Rattle.fin_monitor.specs.Codes.{code_of}
use Rattle.fin_monitor.specs.Machines.{Machine, IsMonitor, next_state, is_accepting, code_at, state_after}
use Rattle.fin_monitor.proofs.Running.{accepts-meets}
use Rattle.trace_trie.specs.Numbered.{Numbered, AreTraces, tail}
use Rattle.tuple_walk.specs.declared.place.Place.{Place}
use Rattle.tuple_walk.specs.Alone.{sought_alone}
use Rattle.tuple_walk.specs.Finds.{traces_of, AreViolating, IsFirst, AllMeet, FirstMeet}
use Rattle.tuple_walk.specs.JointPrefixes.{Row, IsPrefixOf, IsJointPrefix, IsFirstPrefix}
use Rattle.tuple_walk.specs.Searches.{state_over, IsAccepted, AreFrom, IsTupleOf, HasAt, Sought, AreRejected, IsSearch, AreReady, IsPrefixIn, AreSteps}
use Rattle.tuple_walk.proofs.Lists.{apart-most, get-contains, get-of, some-in, some-same}
use Rattle.tuple_walk.proofs.Stepping.{left_at, all-judged, pairs-tuple}

-- ---- as many copies of a list as there are places

map-copies : {A B : Type 0} (f : A → B) (n : ℕ) (x : A) → map f (replicate n x) ≡ replicate n (f x)
map-copies f zero x = refl
map-copies f (suc n) x = ap (λ ys. f x ∷ ys) (map-copies f n x)

each-copies : {A : Type 0} (P : A → Type 0) (n : ℕ) (x : A) → P x → Each P (replicate n x)
each-copies P zero x p = tt
each-copies P (suc n) x p = (p, each-copies P n x p)

from-copies : {A : Type 0} (list : List A) (n : ℕ) (xs : List A) → AreFrom (replicate n list) xs
    → IsTuple (Contains list) n xs
from-copies list zero [] h = record { count = refl; members = tt }
from-copies list zero (x ∷ xs) h = absurd h
from-copies list (suc n) [] h = absurd h
from-copies list (suc n) (x ∷ xs) h =
    let t = from-copies list n xs h.1 in
    record { count = ap suc t.count; members = (h.0, t.members) }

to-copies : {A : Type 0} (list : List A) (n : ℕ) (xs : List A) → IsTuple (Contains list) n xs
    → AreFrom (replicate n list) xs
to-copies list zero [] t = tt
to-copies list zero (x ∷ xs) t = absurd (omega (arith, t.count))
to-copies list (suc n) [] t = absurd (omega (arith, t.count))
to-copies list (suc n) (x ∷ xs) t = (
  t.members.0,
  to-copies list n xs (record { count = omega (arith, t.count); members = t.members.1 }),
)

-- the given trace is in each of them
pub copies-ready : (s : Sought) (list : List Numbered) (x : Numbered) (n : ℕ) → s.given ≡ x
    → Contains list x → 0 < n → slice_get s.marks 0 ≡ Some true → AreReady s (replicate n list)
copies-ready s list x n given member some first =
    let long = length-replicate n list in
    let P : Numbered → Type 0 = Contains list in
    let Q : List Numbered → Type 0 = λ l. Contains l s.given in
    record {
      some = each-copies (λ (l : List Numbered). 0 < length l) n list (some-in list x member);
      there = λ i marked lt.
          subst Q (sym (get_or-replicate n i list [] (omega (arith, lt, long))))
          (subst P (sym given) member);
      place = (0, first, omega (arith, some, long));
    }

-- the same place four times
pub all-left : (n : ℕ) (ps : List Place) (p : Place) (list : List Numbered) → n ≤ 4
    → ps ≡ replicate 4 p → left_at p ≡ list → map left_at (take n ps) ≡ replicate n list
all-left n ps p list le e is =
    ap (λ qs. map left_at (take n qs)) e
    ∙ ap (map left_at) (take-replicate n 4 p le)
    ∙ map-copies left_at n p
    ∙ ap (replicate n) is

-- ---- states of whole tuples

tail-later : (t : Trace) (i : ℕ) → get_or (tail t) i empty ≡ get_or t (suc i) empty
tail-later [] i = refl
tail-later (a ∷ t) i = refl

words-later : (ts : List Trace) (v i : ℕ)
    → get_or (get_or (map tail ts) v []) i empty ≡ get_or (get_or ts v []) (suc i) empty
words-later [] v i = refl
words-later (t ∷ ts) zero i = tail-later t i
words-later (t ∷ ts) (suc v) i = words-later ts v i

pub over-next : (m : Machine) (q i : ℕ) (ts : List Trace)
    → state_over m q ts (suc i) ≡ next_state m (state_over m q ts i) (code_at m (trace_words ts) i)
over-next m q zero ts = refl
over-next m q (suc i) ts =
    let next = next_state m q (code_at m (trace_words ts) 0) in
    over-next m next i (map tail ts)
    ∙ (λ j. next_state m (state_over m next (map tail ts) i)
    (code_of (λ name v. contains (words-later ts v i j) name) m.atoms))

over-after : (m : Machine) (ts : List Trace) (k : ℕ)
    → state_over m 0 ts k ≡ state_after m (trace_words ts) k
over-after m ts zero = refl
over-after m ts (suc k) =
    over-next m 0 k ts
    ∙ ap (λ q. next_state m q (code_at m (trace_words ts) k)) (over-after m ts k)

-- ---- what is found among the copies

at-first : {A : Type 0} (xs : List A) (i : ℕ) (x : A) → i < 1 → slice_get xs i ≡ Some x
    → (others : List A) × (xs ≡ x ∷ others)
at-first [] i x lt e = absurd (cc)
at-first (y ∷ ys) zero x lt e = (ys, ap (λ z. z ∷ ys) (some-same e))
at-first (y ∷ ys) (suc i) x lt e = absurd (omega (arith, lt))

module _ (m : Machine) (is : IsMonitor m) (some : 0 < m.variables) (lengths : Lengths)
    (list : List Numbered) (short : AreTraces list) where
  abbrev copies : List (List Numbered)
  copies = replicate m.variables list

  long-traces : (ts : List Trace) → Each (Contains (traces_of list)) ts
      → Each (λ (t : Trace). 0 < length t) ts
  long-traces [] h = tt
  long-traces (t ∷ ts) h =
      let (q, c, e) = map-from (λ (q : Numbered). q.1) list t h.0 in
      let P : Trace → Type 0 = λ u. 0 < length u in
      let some = (each-at (λ (q : Numbered). (1 ≤ length q.1) × (length q.1 ≤ 1024)) list q short
      c).0 in
      (subst P e (omega arith), long-traces ts h.1)

  accepted-meets : (ts : List Trace) → IsTuple (Contains (traces_of list)) m.variables ts
      → IsAccepted m lengths 0 ts ↔ Meets lengths m.body ts
  accepted-meets ts t =
      let k = judged lengths ts in
      accepts-meets m is lengths ts
      (all-judged lengths ts (omega (arith, some, t.count)) (long-traces ts t.members))
      (state_over m 0 ts k) (is_accepting m (state_over m 0 ts k)) refl (over-after m ts k)

  tuple-in : (ts : List Trace) → IsTupleOf copies ts
      → IsTuple (Contains (traces_of list)) m.variables ts
  tuple-in ts h =
      let P : List (List Trace) → Type 0 = λ lists. AreFrom lists ts in
      from-copies (traces_of list) m.variables ts (subst P (map-copies traces_of m.variables list) h)

  tuple-of : (ts : List Trace) → IsTuple (Contains (traces_of list)) m.variables ts
      → IsTupleOf copies ts
  tuple-of ts t =
      let P : List (List Trace) → Type 0 = λ lists. AreFrom lists ts in
      subst P (sym (map-copies traces_of m.variables list)) (to-copies (traces_of list) m.variables ts t)

  module _ (s : Sought) (x : Numbered) (given : s.given ≡ x) where
    pub found-violating : (r : Option (List ℕ)) → IsSearch s m lengths 0 0 copies r
        → IfSome r (AreViolating m lengths list)
    found-violating None accepted = tt
    found-violating (Some numbers) r = record {
      pairs = r.pairs;
      members = from-copies list m.variables r.pairs r.members;
      same = r.same;
      violates = λ meets.
          let ts = traces_of r.pairs in
          let accepts : is_accepting m (state_over m 0 ts (judged lengths ts)) ≡ true =
          (accepted-meets ts (tuple-in ts (pairs-tuple copies r.pairs r.members))).1 meets in
          let rejects : is_accepting m (state_over m 0 ts (judged lengths ts)) ≡ false =
          r.rejected in
          absurd (cc);
    }

    number-at : (numbers : List ℕ) → AreRejected s m lengths 0 copies numbers
        → HasAt s.marks x.0 numbers
    number-at numbers r =
        let (i, marked, at) = r.has in (
          i,
          marked,
          sym (ap (λ l. slice_get l i) r.same)
              ∙ get-of (λ (p : Numbered). p.0) r.pairs i s.given at
              ∙ ap (λ (p : Numbered). Some p.0) given,
        )

    pub found-given : (r : Option (List ℕ)) → IsSearch s m lengths 0 0 copies r
        → IfSome r (λ numbers. Contains numbers x.0)
    found-given None accepted = tt
    found-given (Some numbers) r =
        let (i, marked, at) = number-at numbers r in get-contains numbers i x.0 at

    at-mark : (ts : List Trace) (i : ℕ) → slice_get s.marks i ≡ Some true
        → slice_get ts i ≡ Some x.1 → HasAt s.marks s.given.1 ts
    at-mark ts i marked at = (i, marked, at ∙ ap (λ (p : Numbered). Some p.1) (sym given))

    -- each place is marked
    pub none-meets : ((i : ℕ) → i < m.variables → slice_get s.marks i ≡ Some true)
        → (r : Option (List ℕ)) → IsSearch s m lengths 0 0 copies r
        → IfNone r (AllMeet m lengths (traces_of list) x.1)
    none-meets all (Some numbers) r = tt
    none-meets all None accepted = λ ts t (k, lt, at).
        (accepted-meets ts t).0 (accepted ts (
          tuple-of ts t,
          at-mark ts k (all k (omega (arith, lt, t.count)))
              (slice_get-get_or ts k x.1 lt ∙ ap (λ (u : Trace). Some u) at),
        ) (omega arith))

    pub joint-most : (made : ℕ) → AreSteps s lengths copies made
        → (prefixes : List (List Row))
        → ((rows : List Row) → IsJointPrefix lengths (traces_of list) x.1 m.variables rows
        → Contains prefixes rows) → made ≤ length prefixes
    joint-most made b prefixes all =
        let most = apart-most b.visited prefixes b.apart (λ rows c.
        let (ts, (of, (i, marked, at)), pre) =
        each-at (IsPrefixIn s lengths copies) b.visited rows b.inside c in
        all rows (record {
          tuple = ts;
          members = tuple-in ts of;
          one = get-contains ts i x.1 (at ∙ ap (λ (p : Numbered). Some p.1) given);
          prefix = pre;
        })) in
        omega (arith, b.many, most)

    -- the first place alone is marked
    module _ (within : (i : ℕ) → slice_get s.marks i ≡ Some true → i < 1) where
      pub found-first : (r : Option (List ℕ)) → IsSearch s m lengths 0 0 copies r
          → IfSome r (IsFirst x.0)
      found-first None accepted = tt
      found-first (Some numbers) r =
          let (i, marked, at) = number-at numbers r in at-first numbers i x.0 (within i marked) at

      pub first-most : (made : ℕ) → AreSteps s lengths copies made
          → (prefixes : List (List Row))
          → ((rows : List Row) → IsFirstPrefix lengths (traces_of list) x.1 m.variables rows
          → Contains prefixes rows) → made ≤ length prefixes
      first-most made b prefixes all =
          let most = apart-most b.visited prefixes b.apart (λ rows c.
          let (ts, (of, (i, marked, at)), pre) =
          each-at (IsPrefixIn s lengths copies) b.visited rows b.inside c in
          let (others, e) = at-first ts i x.1 (within i marked)
          (at ∙ ap (λ (p : Numbered). Some p.1) given) in
          let P : List Trace → Type 0 = IsTuple (Contains (traces_of list)) m.variables in
          let Q : List Trace → Type 0 = λ us. IsPrefixOf lengths us rows in
          all rows (record {
            others = others;
            members = subst P e (tuple-in ts of);
            prefix = subst Q e pre;
          })) in
          omega (arith, b.many, most)

    pub first-meets : slice_get s.marks 0 ≡ Some true
        → (r : Option (List ℕ)) → IsSearch s m lengths 0 0 copies r
        → IfNone r (FirstMeet m lengths (traces_of list) x.1)
    first-meets marked (Some numbers) r = tt
    first-meets marked None accepted = λ others t.
        (accepted-meets (x.1 ∷ others) t).0 (accepted (x.1 ∷ others) (
          tuple-of (x.1 ∷ others) t,
          at-mark (x.1 ∷ others) 0 marked refl,
        ) (omega arith))

-- one variable: the trace alone
module _ (m : Machine) (is : IsMonitor m) (lengths : Lengths) (x : Numbered)
    (long : 1 ≤ length x.1) (short : length x.1 ≤ 1024) (one : m.variables ≡ 1) where
  lone-traces : AreTraces (x ∷ [])
  lone-traces = ((long, short), tt)

  lone-some : 0 < m.variables
  lone-some = omega (arith, one)

  lone-copies : (x ∷ []) ∷ [] ≡ replicate m.variables (x ∷ [])
  lone-copies = sym (ap (λ n. replicate n (x ∷ [])) one)

  lone-marked : (i : ℕ) → i < m.variables → slice_get (sought_alone x).marks i ≡ Some true
  lone-marked zero lt = refl
  lone-marked (suc i) lt = absurd (omega (arith, lt, one))

  pub lone-search : (r : Option (List ℕ))
      → IsSearch (sought_alone x) m lengths 0 0 ((x ∷ []) ∷ []) r
      → IfSome r (AreViolating m lengths (x ∷ [])) × IfSome r (λ numbers. Contains numbers x.0)
      × IfNone r (AllMeet m lengths (x.1 ∷ []) x.1)
  lone-search r searched =
      let P : List (List Numbered) → Type 0 = λ lists. IsSearch (sought_alone x) m lengths 0 0 lists r in
      let so = subst P lone-copies searched in (
        found-violating m is lone-some lengths (x ∷ []) lone-traces (sought_alone x) x refl r so,
        found-given m is lone-some lengths (x ∷ []) lone-traces (sought_alone x) x refl r so,
        none-meets m is lone-some lengths (x ∷ []) lone-traces (sought_alone x) x refl lone-marked r so,
      )

  pub lone-most : (made : ℕ) → AreSteps (sought_alone x) lengths ((x ∷ []) ∷ []) made
      → (prefixes : List (List Row))
      → ((rows : List Row) → IsJointPrefix lengths (x.1 ∷ []) x.1 m.variables rows
      → Contains prefixes rows) → made ≤ length prefixes
  lone-most made b =
      let P : List (List Numbered) → Type 0 = λ lists. AreSteps (sought_alone x) lengths lists made in
      joint-most m is lone-some lengths (x ∷ []) lone-traces (sought_alone x) x refl made
      (subst P lone-copies b)
