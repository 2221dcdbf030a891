-- Tuples before and behind one step.
use Rattle.std.proofs.Common.{◌≡◌, ℕ, zero, suc, ◌+◌, ◌-◌, ◌<◌, true, false, List, [], ◌∷◌, length, map, get_or, slice_get, Some, refl, sym, ap, ◌∙◌, subst, arith}
use Rattle.std.specs.List.{Contains, list_any}
use Rattle.std.specs.FinSet.{empty, contains}
use Rattle.std.proofs.lemmas.List.{length-map}
use Rattle.hy_base.proofs.Members.{contains-here, contains-none, map-of, map-from}
use Rattle.hy_bits.specs.Letter.{Letter as NameSet}
use Rattle.hy_formula.specs.Quantifiers.{Each}
use Rattle.hy_formula.proofs.Each.{each-at, each-map, each-like}
use Rattle.hy_finite.specs.declared.lengths.Lengths.{Lengths}
use Rattle.hy_finite.specs.declared.lengths.Lengths.TheVariants.{Min, Pad}
use Rattle.hy_finite.specs.Traces.{Trace, of_two, judged, trace_words}
use Rattle.hy_finite.proofs.JudgedLength.{of_two-some}
use Rattle.fin_monitor.specs.Codes.{code_of, joint_letter}
use Rattle.fin_monitor.specs.Machines.{Machine, next_state, is_accepting, code_at}
use Rattle.trace_trie.specs.Numbered.{Numbered, tail}
use Rattle.tuple_walk.specs.declared.place.Taken.{Taken}
use Rattle.tuple_walk.specs.declared.place.Taken.TheVariants.{Nothing, Letter, Gap}
use Rattle.tuple_walk.specs.declared.place.Place.{Place}
use Rattle.tuple_walk.specs.Finds.{numbers_of, traces_of}
use Rattle.tuple_walk.specs.JointPrefixes.{Row, entry, rows_of}
use Rattle.tuple_walk.specs.Places.{rests_of, whole_behind, whole_of, IsMovedTo, IsMoved, AreSome, taken_entry, taken_of, letter_or, is_letter}
use Rattle.tuple_walk.specs.Searches.{state_over, AreFrom, IsTupleOf, HasAt, Sought, IsTupleIn, AreRejected, AreAccepted, IsPrefixIn, AreSteps}
use Rattle.tuple_walk.specs.Serving.{Agrees, IsBehind}
use Rattle.tuple_walk.proofs.Ways.{long-led, no-entry, same-trace}
use Rattle.tuple_walk.proofs.Lists.{apart-map, each-of, get-of, get-unmap, get-same, some-same}

abbrev pub left_at : Place → List Numbered
left_at p = rests_of p.spot

-- ---- at one place

pub forward : (lengths : Lengths) (t : Taken) (rests : List Numbered) (x : Numbered)
    → IsMovedTo lengths t rests → Contains (whole_behind t rests) x
    → (entry x.1 ≡ taken_entry t) × Contains rests (x.0, tail x.1)
forward lengths Nothing rests x h c = absurd h
forward lengths (Letter a) rests x h c =
    let ((n, u), d, e) = map-from (λ (q : Numbered). (q.0, a ∷ q.1)) rests x c in
    let P : Numbered → Type 0 = λ y. Contains rests (y.0, tail y.1) in
    (ap (λ (y : Numbered). entry y.1) (sym e), subst P e d)
forward lengths Gap rests x h c =
    let is : x.1 ≡ [] = each-at (λ (p : Numbered). p.1 ≡ []) rests x h.1 c in
    let P : Trace → Type 0 = λ u. Contains rests (x.0, u) in
    (ap entry is, subst P (is ∙ ap tail (sym is)) c)

pub back : (lengths : Lengths) (t : Taken) (rests : List Numbered) (y : Numbered)
    → IsMovedTo lengths t rests → Contains rests y
    → (x : Numbered) × Contains (whole_behind t rests) x × (x.0 ≡ y.0) × (tail x.1 ≡ y.1)
back lengths Nothing rests y h c = absurd h
back lengths (Letter a) rests y h c =
    ((y.0, a ∷ y.1), map-of (λ (q : Numbered). (q.0, a ∷ q.1)) rests y c, refl, refl)
back lengths Gap rests y h c =
    let is : y.1 ≡ [] = each-at (λ (p : Numbered). p.1 ≡ []) rests y h.1 c in
    (y, c, refl, ap tail is ∙ sym is)

long-least : (t : Taken) (rests : List Numbered) (x : Numbered)
    → IsMovedTo Min t rests → Contains (whole_behind t rests) x → 0 < length x.1
long-least Nothing rests x h c = absurd h
long-least (Letter a) rests x h c = begun x.1 (forward Min (Letter a) rests x h c).0
  where
    begun : (t : Trace) → entry t ≡ Some a → 0 < length t
    begun [] e = absurd (cc)
    begun (b ∷ t) e = omega arith
long-least Gap rests x h c = let e : Min ≡ Pad = h.0 in absurd (cc)

some-whole : (t : Taken) (rests : List Numbered) → 0 < length (whole_behind t rests)
    → 0 < length rests
some-whole Nothing rests lt = lt
some-whole (Letter a) rests lt =
    omega (arith, long-led a rests)
some-whole Gap rests lt = lt

pub some-left : (places : List Place) → AreSome (map whole_of places) → AreSome (map left_at places)
some-left [] h = tt
some-left (p ∷ places) h = (some-whole p.taken (left_at p) h.0, some-left places h.1)

-- ---- tuples and their members

pub pairs-tuple : (ls : List (List Numbered)) (ps : List Numbered) → AreFrom ls ps
    → IsTupleOf ls (traces_of ps)
pairs-tuple [] [] h = tt
pairs-tuple [] (p ∷ ps) h = absurd h
pairs-tuple (l ∷ ls) [] h = absurd h
pairs-tuple (l ∷ ls) (p ∷ ps) h = (map-of (λ (q : Numbered). q.1) l p h.0, pairs-tuple ls ps h.1)

pub tuple-pairs : (ls : List (List Numbered)) (ts : List Trace) → IsTupleOf ls ts
    → (ps : List Numbered) × AreFrom ls ps × (traces_of ps ≡ ts)
tuple-pairs [] [] h = ([], tt, refl)
tuple-pairs [] (t ∷ ts) h = absurd h
tuple-pairs (l ∷ ls) [] h = absurd h
tuple-pairs (l ∷ ls) (t ∷ ts) h =
    let (p, c, e) = map-from (λ (q : Numbered). q.1) l t h.0 in
    let (ps, d, f) = tuple-pairs ls ts h.1 in
    (p ∷ ps, (c, d), λ i. e i ∷ f i)

pub first-member : (l : List Numbered) → 0 < length l → (p : Numbered) × Contains l p
first-member [] lt = absurd (omega arith)
first-member (p ∷ l) lt = (p, contains-here p l)

some-pairs : (ls : List (List Numbered)) → AreSome ls → (ps : List Numbered) × AreFrom ls ps
some-pairs [] h = ([], tt)
some-pairs (l ∷ ls) h =
    let (p, c) = first-member l h.0 in
    let (ps, d) = some-pairs ls h.1 in
    (p ∷ ps, (c, d))

-- members of which one is chosen
pub pairs-with : (ls : List (List Numbered)) (i : ℕ) (x : Numbered) → AreSome ls → i < length ls
    → Contains (get_or ls i []) x → (ps : List Numbered) × AreFrom ls ps × (slice_get ps i ≡ Some x)
pairs-with [] i x h lt c = absurd (omega arith)
pairs-with (l ∷ ls) zero x h lt c =
    let (ps, d) = some-pairs ls h.1 in
    (x ∷ ps, (c, d), refl)
pairs-with (l ∷ ls) (suc i) x h lt c =
    let (p, d) = first-member l h.0 in
    let (ps, e, at) = pairs-with ls i x h.1 (omega arith) c in
    (p ∷ ps, (d, e), at)

pub tuple-with : (s : Sought) (ls : List (List Numbered)) (i : ℕ) → AreSome ls
    → slice_get s.marks i ≡ Some true → i < length ls → Contains (get_or ls i []) s.given
    → (ts : List Trace) × IsTupleIn s ls ts
tuple-with s ls i h marked lt c =
    let (ps, d, at) = pairs-with ls i s.given h lt c in
    (traces_of ps, (pairs-tuple ls ps d, (i, marked, get-of (λ (p : Numbered). p.1) ps i s.given at)))

-- ---- at all places

pairs-forward : (lengths : Lengths) (places : List Place) → Each (IsMoved lengths) places
    → (xs : List Numbered) → AreFrom (map whole_of places) xs
    → (map entry (traces_of xs) ≡ map taken_of places)
    × IsTupleOf (map left_at places) (map tail (traces_of xs))
pairs-forward lengths [] m [] h = (refl, tt)
pairs-forward lengths [] m (x ∷ xs) h = absurd h
pairs-forward lengths (p ∷ places) m [] h = absurd h
pairs-forward lengths (p ∷ places) m (x ∷ xs) h =
    let (e, c) = forward lengths p.taken (left_at p) x m.0 h.0 in
    let (es, cs) = pairs-forward lengths places m.1 xs h.1 in (
      λ i. e i ∷ es i,
      (map-of (λ (q : Numbered). q.1) (left_at p) (x.0, tail x.1) c, cs),
    )

pub tuple-forward : (lengths : Lengths) (places : List Place) → Each (IsMoved lengths) places
    → (ts : List Trace) → IsTupleOf (map whole_of places) ts
    → (map entry ts ≡ map taken_of places) × IsTupleOf (map left_at places) (map tail ts)
tuple-forward lengths places m ts h =
    let (xs, c, e) = tuple-pairs (map whole_of places) ts h in
    let P : List Trace → Type 0 = λ us. (map entry us ≡ map taken_of places)
    × IsTupleOf (map left_at places) (map tail us) in
    subst P e (pairs-forward lengths places m xs c)

pub pairs-back : (lengths : Lengths) (places : List Place) → Each (IsMoved lengths) places
    → (ys : List Numbered) → AreFrom (map left_at places) ys
    → (xs : List Numbered) × AreFrom (map whole_of places) xs
    × (numbers_of xs ≡ numbers_of ys) × (map tail (traces_of xs) ≡ traces_of ys)
pairs-back lengths [] m [] h = ([], tt, refl, refl)
pairs-back lengths [] m (y ∷ ys) h = absurd h
pairs-back lengths (p ∷ places) m [] h = absurd h
pairs-back lengths (p ∷ places) m (y ∷ ys) h =
    let (x, c, n, t) = back lengths p.taken (left_at p) y m.0 h.0 in
    let (xs, cs, ns, us) = pairs-back lengths places m.1 ys h.1 in
    (x ∷ xs, (c, cs), λ i. n i ∷ ns i, λ i. t i ∷ us i)

tuple-back : (lengths : Lengths) (places : List Place) → Each (IsMoved lengths) places
    → (us : List Trace) → IsTupleOf (map left_at places) us
    → (ts : List Trace) × IsTupleOf (map whole_of places) ts × (map tail ts ≡ us)
tuple-back lengths places m us h =
    let (ys, c, e) = tuple-pairs (map left_at places) us h in
    let (xs, d, n, f) = pairs-back lengths places m ys c in
    (traces_of xs, pairs-tuple (map whole_of places) xs d, f ∙ e)

-- ---- lengths

pub length-tail : (t : Trace) → length (tail t) ≡ length t - 1
length-tail [] = refl
length-tail (a ∷ t) = omega arith

less-of_two : (lengths : Lengths) (a b : ℕ)
    → of_two lengths (a - 1) (b - 1) ≡ of_two lengths a b - 1
less-of_two Min a b = omega arith
less-of_two Pad a b = omega arith

pub judged-tail : (lengths : Lengths) (ts : List Trace)
    → judged lengths (map tail ts) ≡ judged lengths ts - 1
judged-tail lengths [] = refl
judged-tail lengths (t ∷ []) = length-tail t
judged-tail lengths (t ∷ u ∷ ts) =
    (λ i. of_two lengths (length-tail t i) (judged-tail lengths (u ∷ ts) i))
    ∙ less-of_two lengths (length t) (judged lengths (u ∷ ts))

pub all-judged : (lengths : Lengths) (ts : List Trace) → 0 < length ts
    → Each (λ (t : Trace). 0 < length t) ts → 0 < judged lengths ts
all-judged lengths [] some h = absurd (omega arith)
all-judged lengths (t ∷ []) some h = h.0
all-judged lengths (t ∷ u ∷ ts) some h =
    of_two-some lengths (length t) (judged lengths (u ∷ ts)) h.0
    (all-judged lengths (u ∷ ts) (omega arith) h.1)

any-judged : (ts : List Trace) → list_any is_letter (map entry ts) ≡ true → 0 < judged Pad ts
any-judged [] e = absurd (cc)
any-judged ([] ∷ []) e = absurd (cc)
any-judged ((a ∷ t) ∷ []) e = omega arith
any-judged ([] ∷ u ∷ ts) e = omega (arith, any-judged (u ∷ ts) e)
any-judged ((a ∷ t) ∷ u ∷ ts) e = omega arith

none-of_two : (lengths : Lengths) (a b : ℕ) → a ≡ 0 → b ≡ 0 → of_two lengths a b ≡ 0
none-of_two Min a b h k = omega arith
none-of_two Pad a b h k = omega arith

pub none-judged : (lengths : Lengths) (ts : List Trace) → list_any is_letter (map entry ts) ≡ false
    → judged lengths ts ≡ 0
none-judged lengths [] e = refl
none-judged lengths ([] ∷ []) e = refl
none-judged lengths ((a ∷ t) ∷ []) e = absurd (cc)
none-judged lengths ([] ∷ u ∷ ts) e =
    none-of_two lengths 0 (judged lengths (u ∷ ts)) refl (none-judged lengths (u ∷ ts) e)
none-judged lengths ((a ∷ t) ∷ u ∷ ts) e = absurd (cc)

each-least : (places : List Place) → Each (IsMoved Min) places → (xs : List Numbered)
    → AreFrom (map whole_of places) xs → Each (λ (t : Trace). 0 < length t) (traces_of xs)
each-least [] m [] h = tt
each-least [] m (x ∷ xs) h = absurd h
each-least (p ∷ places) m [] h = absurd h
each-least (p ∷ places) m (x ∷ xs) h =
    (long-least p.taken (left_at p) x m.0 h.0, each-least places m.1 xs h.1)

some-any : (ts : List Trace) → list_any is_letter (map entry ts) ≡ true → 0 < length ts
some-any [] e = absurd (cc)
some-any (t ∷ ts) e = omega arith

-- with a letter somewhere there is a position
pub moved-judged : (lengths : Lengths) (places : List Place) → Each (IsMoved lengths) places
    → list_any is_letter (map taken_of places) ≡ true → (ts : List Trace)
    → IsTupleOf (map whole_of places) ts → 0 < judged lengths ts
moved-judged lengths places m letter ts h =
    at lengths m (ap (list_any is_letter) (tuple-forward lengths places m ts h).0 ∙ letter)
  where
    at : (lengths : Lengths) → Each (IsMoved lengths) places
        → list_any is_letter (map entry ts) ≡ true → 0 < judged lengths ts
    at Min m e =
        let (xs, c, is) = tuple-pairs (map whole_of places) ts h in
        let P : List Trace → Type 0 = Each (λ (t : Trace). 0 < length t) in
        all-judged Min ts (some-any ts e) (subst P is (each-least places m xs c))
    at Pad m e = any-judged ts e

-- ---- codes and states

letter-first : (t : Trace) → letter_or (entry t) ≡ get_or t 0 empty
letter-first [] = refl
letter-first (a ∷ t) = refl

letter-at : (ts : List Trace) (v : ℕ)
    → get_or (map letter_or (map entry ts)) v empty ≡ get_or (get_or ts v []) 0 empty
letter-at [] v = refl
letter-at (t ∷ ts) zero = letter-first t
letter-at (t ∷ ts) (suc v) = letter-at ts v

-- the code of the letters that are taken is that of each tuple
pub taken-code : (m : Machine) (letters : List NameSet) (ts : List Trace)
    → map letter_or (map entry ts) ≡ letters
    → code_of (joint_letter letters) m.atoms ≡ code_at m (trace_words ts) 0
taken-code m letters ts e =
    ap (λ (l : List NameSet). code_of (joint_letter l) m.atoms) (sym e)
    ∙ (λ i. code_of (λ name v. contains (letter-at ts v i) name) m.atoms)

-- ---- the given trace before and behind the step

-- what is taken is what a trace has first, or may be
agrees-first : (lengths : Lengths) (p : Place) (t : Trace) → IsMoved lengths p
    → taken_of p ≡ entry t → Agrees p.taken t
agrees-first lengths p t moved e = at p.taken moved e
  where
    at : (k : Taken) → IsMovedTo lengths k (left_at p) → taken_entry k ≡ entry t → Agrees k t
    at Nothing h e = absurd h
    at (Letter a) h e = sym e
    at Gap h e = no-entry t (sym e)

first-agrees : (lengths : Lengths) (p : Place) (t : Trace) → IsMoved lengths p
    → Agrees p.taken t → taken_of p ≡ entry t
first-agrees lengths p t moved e = at p.taken moved e
  where
    at : (k : Taken) → IsMovedTo lengths k (left_at p) → Agrees k t → taken_entry k ≡ entry t
    at Nothing h e = absurd h
    at (Letter a) h e = sym e
    at Gap h e = sym (ap entry e)

module _ (lengths : Lengths) (places : List Place) (moved : Each (IsMoved lengths) places)
    (s u : Sought) (is : IsBehind s u places) where
  has-behind : (ts : List Trace) → IsTupleOf (map whole_of places) ts
      → HasAt s.marks s.given.1 ts → HasAt u.marks u.given.1 (map tail ts)
  has-behind ts h (i, marked, at) =
      let (p, place, same) = get-same entry taken_of ts places i s.given.1
      (tuple-forward lengths places moved ts h).0 at in
      let agrees = agrees-first lengths p s.given.1 (each-of (IsMoved lengths) places i p moved place)
      same in (
        i,
        is.kept i (record { marked = marked; place = p; at = place; agrees = agrees }),
        get-of tail ts i s.given.1 at ∙ ap (λ (t : Trace). Some t) (sym is.rest),
      )

  at-before : (ts : List Trace) → map entry ts ≡ map taken_of places → (i : ℕ)
      → slice_get u.marks i ≡ Some true → slice_get (map tail ts) i ≡ Some u.given.1
      → (slice_get s.marks i ≡ Some true) × (slice_get ts i ≡ Some s.given.1)
  at-before ts same i marked at =
      let (t, there, left) = get-unmap tail ts i u.given.1 at in
      let (p, place, first) = get-same entry taken_of ts places i t same there in
      let (before, agrees) = is.only i p marked place in
      let first_given = first-agrees lengths p s.given.1
      (each-of (IsMoved lengths) places i p moved place) agrees in (
        before,
        there ∙ ap (λ (v : Trace). Some v)
            (same-trace t s.given.1 (sym first ∙ first_given) (left ∙ is.rest)),
      )

  has-before : (ts : List Trace) → map entry ts ≡ map taken_of places
      → HasAt u.marks u.given.1 (map tail ts) → HasAt s.marks s.given.1 ts
  has-before ts same (i, marked, at) =
      let (before, there) = at-before ts same i marked at in
      (i, before, there)

  pairs-before : (xs ys : List Numbered) → map entry (traces_of xs) ≡ map taken_of places
      → numbers_of xs ≡ numbers_of ys → map tail (traces_of xs) ≡ traces_of ys
      → HasAt u.marks u.given ys → HasAt s.marks s.given xs
  pairs-before xs ys same numbers tails (i, marked, at) =
      let P : List Trace → Type 0 = λ us. slice_get us i ≡ Some u.given.1 in
      let (before, there) = at-before (traces_of xs) same i marked
      (subst P (sym tails) (get-of (λ (p : Numbered). p.1) ys i u.given at)) in
      let (x, place, trace) = get-unmap (λ (p : Numbered). p.1) xs i s.given.1 there in
      let (y, other, number) = get-same (λ (p : Numbered). p.0) (λ (p : Numbered). p.0) ys xs i
      u.given (sym numbers) at in
      let one : y ≡ x = some-same (sym other ∙ place) in
      let first : x.0 ≡ s.given.0 = sym (ap (λ (p : Numbered). p.0) one) ∙ number ∙ is.number in
      (i, before, place ∙ (λ j. Some (first j, trace j)))

module _ (m : Machine) (lengths : Lengths) (q code next : ℕ) (places : List Place)
    (moved : Each (IsMoved lengths) places)
    (letter : list_any is_letter (map taken_of places) ≡ true)
    (steps : next ≡ next_state m q code)
    (right : (ts : List Trace) → map entry ts ≡ map taken_of places
    → code ≡ code_at m (trace_words ts) 0) where
  pub at-state : (ts : List Trace) → IsTupleOf (map whole_of places) ts
      → state_over m q ts (judged lengths ts)
      ≡ state_over m next (map tail ts) (judged lengths (map tail ts))
  at-state ts h =
      let some = moved-judged lengths places moved letter ts h in
      let long : judged lengths ts ≡ suc (judged lengths (map tail ts)) =
      omega (arith, judged-tail lengths ts) in
      ap (state_over m q ts) long
      ∙ ap (λ x. state_over m x (map tail ts) (judged lengths (map tail ts)))
      (ap (next_state m q) (sym (right ts (tuple-forward lengths places moved ts h).0))
      ∙ sym steps)

  abbrev behind_row : List Row → List Row
  behind_row rows = map taken_of places ∷ rows

  first-row : (s : Sought) (ts : List Trace) → IsTupleIn s (map whole_of places) ts
      → IsPrefixIn s lengths (map whole_of places) (behind_row [])
  first-row s ts h =
      let first = (tuple-forward lengths places moved ts h.0).0 in (
        ts,
        h,
        record {
          count = 1;
          some = omega arith;
          inside = moved-judged lengths places moved letter ts h.0;
          same = λ i. sym first i ∷ [];
        },
      )

  pub one-step : (s : Sought) (ts : List Trace) → IsTupleIn s (map whole_of places) ts
      → AreSteps s lengths (map whole_of places) 1
  one-step s ts h = record {
    visited = behind_row [] ∷ [];
    apart = (λ c. contains-none (behind_row []) c, tt);
    inside = (first-row s ts h, tt);
    many = omega arith;
  }

  module _ (s u : Sought) (is : IsBehind s u places) where
    pub step-accepted : AreAccepted u m lengths next 0 (map left_at places)
        → AreAccepted s m lengths q 1 (map whole_of places)
    step-accepted accepted = λ ts h some.
        ap (is_accepting m) (at-state ts h.0)
        ∙ accepted (map tail ts) (
          (tuple-forward lengths places moved ts h.0).1,
          has-behind lengths places moved s u is ts h.0 h.1,
        ) (omega arith)

    pub step-rejected : (numbers : List ℕ)
        → AreRejected u m lengths next (map left_at places) numbers
        → AreRejected s m lengths q (map whole_of places) numbers
    step-rejected numbers r =
        let (xs, c, n, t) = pairs-back lengths places moved r.pairs r.members in
        record {
          pairs = xs;
          members = c;
          has = pairs-before lengths places moved s u is xs r.pairs
              (pairs-forward lengths places moved xs c).0 n t r.has;
          same = n ∙ r.same;
          rejected = ap (is_accepting m) (at-state (traces_of xs)
              (pairs-tuple (map whole_of places) xs c)
              ∙ (λ i. state_over m next (t i) (judged lengths (t i))))
              ∙ r.rejected;
        }

    not-empty : (ls : List (List Numbered)) (rows : List Row) → IsPrefixIn u lengths ls rows
        → ¬ (rows ≡ [])
    not-empty ls rows (ts, h, pre) e = none pre.count pre.some (sym pre.same ∙ e)
      where
        none : (k : ℕ) → 0 < k → ¬ (rows_of ts k ≡ [])
        none zero lt e = omega arith
        none (suc k) lt e = cc

    prefix-behind : (rows : List Row) → IsPrefixIn u lengths (map left_at places) rows
        → IsPrefixIn s lengths (map whole_of places) (behind_row rows)
    prefix-behind rows (us, h, pre) =
        let (ts, c, e) = tuple-back lengths places moved us h.0 in
        let first = (tuple-forward lengths places moved ts c).0 in
        let some = moved-judged lengths places moved letter ts c in
        let P : List Trace → Type 0 = HasAt u.marks u.given.1 in
        let long : judged lengths us ≡ judged lengths ts - 1 =
        ap (judged lengths) (sym e) ∙ judged-tail lengths ts in (
          ts,
          (c, has-before lengths places moved s u is ts first (subst P (sym e) h.1)),
          record {
            count = suc pre.count;
            some = omega arith;
            inside = omega (arith, pre.inside);
            same = λ i. sym first i ∷ (pre.same ∙ ap (λ vs. rows_of vs pre.count) (sym e)) i;
          },
        )

    pub step-steps : (made : ℕ) → (ts : List Trace) → IsTupleIn s (map whole_of places) ts
        → AreSteps u lengths (map left_at places) made
        → AreSteps s lengths (map whole_of places) (made + 1)
    step-steps made ts some b = record {
      visited = behind_row [] ∷ map behind_row b.visited;
      apart = (
        λ c.
            let (rows, d, e) = map-from behind_row b.visited (behind_row []) c in
            let none : rows ≡ [] = cc in
            not-empty (map left_at places) rows
            (each-at (IsPrefixIn u lengths (map left_at places)) b.visited rows b.inside d) none,
        apart-map behind_row (λ x y e. let same : x ≡ y = cc in same) b.visited b.apart,
      );
      inside = (
        first-row s ts some,
        each-map (IsPrefixIn s lengths (map whole_of places)) behind_row b.visited
            (each-like (IsPrefixIn u lengths (map left_at places))
            (λ rows. IsPrefixIn s lengths (map whole_of places) (behind_row rows)) prefix-behind
            b.visited b.inside),
      );
      many = omega (arith, b.many, length-map b.visited behind_row);
    }
