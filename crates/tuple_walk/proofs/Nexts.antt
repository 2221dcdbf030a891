-- One place further on a walk, and the next step.
use Rattle.std.proofs.Common.{◌≡◌, ℕ, zero, suc, ◌+◌, ◌<◌, ◌≤◌, true, false, List, [], ◌∷◌, length, map, take, drop, set, slice_get, get_or, Option, Some, None, refl, sym, ap, ◌∙◌, subst, arith}
use Rattle.std.specs.List.{list_any}
use Rattle.std.proofs.lemmas.List.{length-map, length-take-le}
use Rattle.hy_bits.specs.Letter.{Letter}
use Rattle.hy_formula.specs.Quantifiers.{Each}
use Rattle.hy_finite.specs.declared.lengths.Lengths.{Lengths}
use Rattle.hy_finite.specs.Traces.{Trace, judged}
use Rattle.fin_monitor.specs.Codes.{code_of, joint_letter}
use Rattle.fin_monitor.specs.Machines.{Machine, next_state, is_accepting}
use Rattle.trace_trie.specs.Numbered.{Numbered}
use Rattle.trace_trie.specs.Cursors.{AreLetters, AreDistinct}
use Rattle.tuple_walk.specs.declared.place.Place.{Place}
use Rattle.tuple_walk.specs.Finds.{traces_of}
use Rattle.tuple_walk.specs.JointPrefixes.{entry}
use Rattle.tuple_walk.specs.Places.{whole_of, IsOpen, IsMoved, IsWay, AreSome, HasNoGap, taken_of, letter_or, is_letter}
use Rattle.tuple_walk.specs.Searches.{state_over, Sought, IsTupleIn, AreRejected, AreAccepted, AreAcceptedBy, IsAccepted, IsSearch, AreStopped, AreSteps, AreStepsBy}
use Rattle.tuple_walk.specs.Serving.{IsBehind}
use Rattle.tuple_walk.proofs.Choosing.{rejected-part, accepted-way, accepted-more, accepted-all, none-gaps, steps-more, steps-gap, steps-way}
use Rattle.tuple_walk.proofs.Ending.{from-none}
use Rattle.tuple_walk.proofs.Longest.{longest, longest-set}
use Rattle.tuple_walk.proofs.Placing.{lists-set, some-set, at-place}
use Rattle.tuple_walk.proofs.Stepping.{left_at, tuple-forward, none-judged, taken-code, step-accepted, step-rejected}

pub long-places : (n : ℕ) (f : Place → List Numbered) (ps : List Place) → n ≤ length ps
    → length (map f (take n ps)) ≡ n
long-places n f ps le = length-map (take n ps) f ∙ length-take-le n ps le

module _ (n i : ℕ) (ps next : List Place) (p x : Place) (lt : i < n) (le : n ≤ length ps)
    (at : slice_get ps i ≡ Some p) (opens : Each IsOpen (drop i (take n ps)))
    (is : next ≡ set ps i x) (e : Option Letter) (way : IsWay (left_at p) e (whole_of x)) where
  abbrev old_wholes : List (List Numbered)
  old_wholes = map whole_of (take n ps)

  abbrev new_wholes : List (List Numbered)
  new_wholes = map whole_of (take n next)

  same : new_wholes ≡ set old_wholes i (whole_of x)
  same = lists-set whole_of n ps i x next is

  way-here : IsWay (get_or old_wholes i []) e (whole_of x)
  way-here =
      let P : List Numbered → Type 0 = λ l. IsWay l e (whole_of x) in
      subst P (sym (at-place n i ps p lt at opens)) way

  within : i < length old_wholes
  within = omega (arith, long-places n whole_of ps le)

  pub next-longest : longest new_wholes ≤ longest old_wholes
  next-longest =
      let P : List (List Numbered) → Type 0 = λ ls. longest ls ≤ longest old_wholes in
      subst P (sym same) (longest-set old_wholes i (whole_of x) way-here.part)

  pub next-some : AreSome old_wholes → AreSome new_wholes
  next-some h = subst AreSome (sym same) (some-set old_wholes i (whole_of x) h way-here.some)

  module _ (s : Sought) (m : Machine) (lengths : Lengths) (q : ℕ) where
    pub next-rejected : (numbers : List ℕ) → AreRejected s m lengths q new_wholes numbers
        → AreRejected s m lengths q old_wholes numbers
    next-rejected numbers r =
        let P : List (List Numbered) → Type 0 = λ ls. AreRejected s m lengths q ls numbers in
        rejected-part s m lengths q old_wholes i e (whole_of x) numbers way-here (subst P same r)

    set-accepted : AreAccepted s m lengths q 1 new_wholes
        → AreAccepted s m lengths q 1 (set old_wholes i (whole_of x))
    set-accepted accepted =
        let P : List (List Numbered) → Type 0 = AreAccepted s m lengths q 1 in
        subst P same accepted

    pub next-accepted : AreAccepted s m lengths q 1 new_wholes → (tuple : List Trace)
        → IsTupleIn s old_wholes tuple → 1 ≤ judged lengths tuple → entry (get_or tuple i []) ≡ e
        → IsAccepted m lengths q tuple
    next-accepted accepted =
        accepted-way s m lengths q old_wholes i e (whole_of x) within way-here (set-accepted accepted)

    pub next-more : (letters : List Letter) (k : ℕ) (a : Letter) → e ≡ Some a
        → slice_get letters k ≡ Some a
        → AreAcceptedBy s m lengths q i (take k letters) old_wholes
        → AreAccepted s m lengths q 1 new_wholes
        → AreAcceptedBy s m lengths q i (take (k + 1) letters) old_wholes
    next-more letters k a begins there before accepted =
        let W : Option Letter → Type 0 = λ o. IsWay (get_or old_wholes i []) o (whole_of x) in
        let P : ℕ → Type 0 = λ j. AreAcceptedBy s m lengths q i (take j letters) old_wholes in
        let one : suc k ≡ k + 1 = omega arith in
        subst P one (accepted-more s m lengths q old_wholes i letters k a (whole_of x) within there
        (subst W begins way-here) before (set-accepted accepted))

  pub next-steps : (s : Sought) (lengths : Lengths) (letters : List Letter) (k : ℕ) (a : Letter) → e ≡ Some a
      → AreDistinct letters → slice_get letters k ≡ Some a → (before more made : ℕ)
      → before + more ≡ made
      → AreStepsBy s lengths i (take k letters) old_wholes before
      → AreSteps s lengths new_wholes more
      → AreStepsBy s lengths i (take (k + 1) letters) old_wholes made
  next-steps s lengths letters k a begins distinct there before more made sum b t =
      let W : Option Letter → Type 0 = λ o. IsWay (get_or old_wholes i []) o (whole_of x) in
      let P : ℕ → Type 0 = λ j. AreStepsBy s lengths i (take j letters) old_wholes made in
      let Q : ℕ → Type 0 = λ j. AreStepsBy s lengths i (take (suc k) letters) old_wholes j in
      let R : List (List Numbered) → Type 0 = λ ls. AreSteps s lengths ls more in
      let one : suc k ≡ k + 1 = omega arith in
      subst P one (subst Q sum (steps-more s lengths old_wholes i letters k a (whole_of x) within
      distinct there (subst W begins way-here) before more b (subst R same t)))

  pub next-gap : (s : Sought) (lengths : Lengths) (letters : List Letter) → e ≡ None
      → (before more made : ℕ) → before + more ≡ made
      → AreStepsBy s lengths i letters old_wholes before → AreSteps s lengths new_wholes more
      → AreSteps s lengths old_wholes made
  next-gap s lengths letters begins before more made sum b t =
      let W : Option Letter → Type 0 = λ o. IsWay (get_or old_wholes i []) o (whole_of x) in
      let Q : ℕ → Type 0 = AreSteps s lengths old_wholes in
      let R : List (List Numbered) → Type 0 = λ ls. AreSteps s lengths ls more in
      subst Q sum (steps-gap s lengths old_wholes i letters (whole_of x) within
      (subst W begins way-here) before more b (subst R same t))

  -- where each tuple begins so
  pub next-way : (s : Sought) (lengths : Lengths) (made : ℕ) → AreSteps s lengths new_wholes made
      → AreSteps s lengths old_wholes made
  next-way s lengths made t =
      let R : List (List Numbered) → Type 0 = λ ls. AreSteps s lengths ls made in
      steps-way s lengths old_wholes i e (whole_of x) way-here made (subst R same t)

-- the choices at a place, by letter and past the end
module _ (s : Sought) (m : Machine) (lengths : Lengths) (q n i : ℕ) (ps : List Place) (p : Place) (lt : i < n)
    (le : n ≤ length ps) (at : slice_get ps i ≡ Some p)
    (opens : Each IsOpen (drop i (take n ps))) (letters : List Letter)
    (are : AreLetters letters (left_at p)) where
  abbrev all_wholes : List (List Numbered)
  all_wholes = map whole_of (take n ps)

  inside : i < length all_wholes
  inside = omega (arith, long-places n whole_of ps le)

  letters-here : AreLetters letters (get_or all_wholes i [])
  letters-here =
      let P : List Numbered → Type 0 = AreLetters letters in
      subst P (sym (at-place n i ps p lt at opens)) are

  pub all-accepted : AreAcceptedBy s m lengths q i letters all_wholes
      → ((tuple : List Trace) → IsTupleIn s all_wholes tuple → 1 ≤ judged lengths tuple
      → entry (get_or tuple i []) ≡ None → IsAccepted m lengths q tuple)
      → AreAccepted s m lengths q 1 all_wholes
  all-accepted by_letter by_gap =
      accepted-all s m lengths q all_wholes i letters inside letters-here by_letter by_gap

  pub no-gap-accepted : HasNoGap lengths (left_at p)
      → AreAcceptedBy s m lengths q i letters all_wholes → AreAccepted s m lengths q 1 all_wholes
  no-gap-accepted none by_letter =
      let P : List Numbered → Type 0 = HasNoGap lengths in
      let gap = subst P (sym (at-place n i ps p lt at opens)) none in
      all-accepted by_letter (λ tuple h some e.
      absurd (none-gaps lengths all_wholes i inside gap tuple h.0 some e))

-- ---- what is answered before and behind a step

pub stopped-search : (s : Sought) (m : Machine) (lengths : Lengths) (q : ℕ)
    (ls : List (List Numbered)) (numbers : List ℕ) → AreStopped s lengths ls numbers
    → is_accepting m q ≡ false → AreRejected s m lengths q ls numbers
stopped-search s m lengths q ls numbers stopped rejects = record {
  pairs = stopped.pairs;
  members = stopped.members;
  has = stopped.has;
  same = stopped.same;
  rejected = ap (λ k. is_accepting m (state_over m q (traces_of stopped.pairs) k)) stopped.over
      ∙ rejects;
}

pub chosen-search : (s : Sought) (m : Machine) (lengths : Lengths) (q : ℕ)
    (ls wholes : List (List Numbered)) → wholes ≡ ls → (r : Option (List ℕ))
    → ((ts : List Trace) → IsTupleIn s ls ts → judged lengths ts ≡ 0 → is_accepting m q ≡ true)
    → IsSearch s m lengths q 1 wholes r → IsSearch s m lengths q 0 ls r
chosen-search s m lengths q ls wholes e (Some numbers) here found =
    let P : List (List Numbered) → Type 0 = λ l. AreRejected s m lengths q l numbers in
    subst P e found
chosen-search s m lengths q ls wholes e None here none =
    let P : List (List Numbered) → Type 0 = AreAccepted s m lengths q 1 in
    from-none s m lengths q ls (subst P e none) here

pub no-letter : (s : Sought) (m : Machine) (lengths : Lengths) (q : ℕ) (places : List Place)
    → Each (IsMoved lengths) places → list_any is_letter (map taken_of places) ≡ false
    → AreAccepted s m lengths q 1 (map whole_of places)
no-letter s m lengths q places moved none ts h some =
    let e = ap (list_any is_letter) (tuple-forward lengths places moved ts h.0).0 ∙ none in
    absurd (omega (arith, none-judged lengths ts e))

pub step-search : (m : Machine) (lengths : Lengths) (q code next : ℕ) (places : List Place)
    → Each (IsMoved lengths) places → list_any is_letter (map taken_of places) ≡ true
    → next ≡ next_state m q code
    → code ≡ code_of (joint_letter (map letter_or (map taken_of places))) m.atoms
    → (s u : Sought) → IsBehind s u places
    → (ls : List (List Numbered)) → ls ≡ map left_at places → (r : Option (List ℕ))
    → IsSearch u m lengths next 0 ls r → IsSearch s m lengths q 1 (map whole_of places) r
step-search m lengths q code next places moved letter steps is s u behind ls e (Some numbers) b =
    let P : List (List Numbered) → Type 0 = λ l. AreRejected u m lengths next l numbers in
    step-rejected m lengths q code next places moved letter steps
    (λ ts f. is ∙ taken-code m (map letter_or (map taken_of places)) ts (ap (map letter_or) f))
    s u behind numbers (subst P e b)
step-search m lengths q code next places moved letter steps is s u behind ls e None b =
    let P : List (List Numbered) → Type 0 = AreAccepted u m lengths next 0 in
    step-accepted m lengths q code next places moved letter steps
    (λ ts f. is ∙ taken-code m (map letter_or (map taken_of places)) ts (ap (map letter_or) f))
    s u behind (subst P e b)

pub at-some : {A : Type 0} (xs : List A) (k : ℕ) → k < length xs
    → (a : A) × (slice_get xs k ≡ Some a)
at-some [] k lt = absurd (omega arith)
at-some (x ∷ xs) zero lt = (x, refl)
at-some (x ∷ xs) (suc k) lt = at-some xs k (omega arith)

pub gap-search : (s : Sought) (m : Machine) (lengths : Lengths) (q n i : ℕ) (ps next : List Place)
    (p x : Place) (lt : i < n) (le : n ≤ length ps) (at : slice_get ps i ≡ Some p)
    (opens : Each IsOpen (drop i (take n ps))) → next ≡ set ps i x
    → IsWay (left_at p) None (whole_of x) → (letters : List Letter)
    → AreLetters letters (left_at p)
    → AreAcceptedBy s m lengths q i letters (map whole_of (take n ps)) → (r : Option (List ℕ))
    → IsSearch s m lengths q 1 (map whole_of (take n next)) r
    → IsSearch s m lengths q 1 (map whole_of (take n ps)) r
gap-search s m lengths q n i ps next p x lt le at opens is way letters are by_letter (Some ns) b =
    next-rejected n i ps next p x lt le at opens is None way s m lengths q ns b
gap-search s m lengths q n i ps next p x lt le at opens is way letters are by_letter None b =
    all-accepted s m lengths q n i ps p lt le at opens letters are by_letter
    (next-accepted n i ps next p x lt le at opens is None way s m lengths q b)
