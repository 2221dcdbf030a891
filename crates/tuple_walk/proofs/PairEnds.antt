-- Pairs of traces, one of which is given, where one ends.
use Rattle.std.proofs.Common.{◌≡◌, ◌⊎◌, ℕ, ◌+◌, ◌<◌, Bool, true, false, cond, List, [], ◌∷◌, length, get_or, nat_eq, Option, Some, None, IfSome, IfNone, not, ◌&&◌, is_some, inl, inr, refl, sym, ap, ◌∙◌, subst, arith}
use Rattle.std.specs.List.{Contains}
use Rattle.std.proofs.lemmas.Bool.{eqb-true}
use Rattle.hy_base.proofs.Members.{contains-here, contains-later, contains-cases, contains-one}
use Rattle.hy_bits.specs.Letter.{Letter as NameSet}
use Rattle.hy_formula.specs.Quantifiers.{Each}
use Rattle.hy_formula.proofs.Each.{each-at}
use Rattle.hy_finite.specs.declared.lengths.Lengths.{Lengths}
use Rattle.hy_finite.specs.declared.lengths.Lengths.TheVariants.{Min, Pad}
use Rattle.hy_finite.specs.Traces.{Trace, judged}
use Rattle.fin_monitor.specs.Machines.{Machine, is_accepting}
use Rattle.trace_trie.specs.Cursors.{AreLetters}
use Rattle.trace_trie.specs.Numbered.{Numbered}
use Rattle.tuple_walk.specs.Finds.{numbers_of, traces_of}
use Rattle.tuple_walk.specs.JointPrefixes.{entry}
use Rattle.tuple_walk.specs.Pairs.{pair_of, beside, sought_beside, found, stops_of, over_of, MayGoOn}
use Rattle.tuple_walk.specs.Places.{HasEnded, HasNoGap, IsWay}
use Rattle.tuple_walk.specs.Searches.{Sought, IsTupleIn, AreRejected, AreAccepted, AreAcceptedBy, IsSearch, CanStop, AreEnded, AreSteps, AreStepsBy}
use Rattle.tuple_walk.proofs.Choosing.{tuple-at, rejected-part, accepted-way, accepted-all, none-gaps, steps-gap}
use Rattle.tuple_walk.proofs.Ending.{from-none, ended-stopped, goes-on}
use Rattle.tuple_walk.proofs.Nexts.{stopped-search}
use Rattle.tuple_walk.proofs.Ways.{gap-way}
use Rattle.tuple_walk.proofs.Pairs.{each-pair, other_place, other-here, other-set, other-within, given-here, given-within, beside-has}

-- ---- where the node is done

-- none of a pair is past an end under the least length
pub ended-accepted : (m : Machine) (q : ℕ) (first : Bool) (number : ℕ) (t : Trace)
    (rests : List Numbered) → t ≡ []
    → AreAccepted (sought_beside first (number, t)) m Min q 1 (beside first (number, t) rests)
ended-accepted m q first number t rests e = λ tuple h some.
    let ls = beside first (number, t) rests in
    let i = cond first 0 1 in
    let lt = given-within first (number, t) rests in
    let P : List Numbered → Type 0 = λ l. Contains (traces_of l) (get_or tuple i []) in
    let is : t ≡ get_or tuple i [] =
    contains-one t (get_or tuple i [])
    (subst P (given-here first (number, t) rests) (tuple-at ls i tuple lt h.0)) in
    absurd (none-gaps Min ls i lt tt tuple h.0 some (ap entry (sym is ∙ e)))

module _ (m : Machine) (lengths : Lengths) (q : ℕ) (first : Bool) (number : ℕ) (t : Trace)
    (rests : List Numbered) (letters : List NameSet) (are : AreLetters letters rests)
    (here : (ts : List Trace)
    → IsTupleIn (sought_beside first (number, t)) (beside first (number, t) rests) ts
    → judged lengths ts ≡ 0 → is_accepting m q ≡ true) where
  abbrev sought : Sought
  sought = sought_beside first (number, t)

  abbrev lists : List (List Numbered)
  lists = beside first (number, t) rests

  letters-here : AreLetters letters (get_or lists (other_place first) [])
  letters-here =
      let P : List Numbered → Type 0 = AreLetters letters in
      subst P (sym (other-here first (number, t) rests)) are

  -- no trace ends where tuples are judged past an end
  pub node-accepted : HasNoGap lengths rests
      → AreAcceptedBy sought m lengths q (other_place first) letters lists
      → AreAccepted sought m lengths q 0 lists
  node-accepted none by_letter =
      let P : List Numbered → Type 0 = HasNoGap lengths in
      let gap = subst P (sym (other-here first (number, t) rests)) none in
      let lt = other-within first (number, t) rests in
      from-none sought m lengths q lists
      (accepted-all sought m lengths q lists (other_place first) letters lt letters-here by_letter
      (λ tuple h some e.
      absurd (none-gaps lengths lists (other_place first) lt gap tuple h.0 some e))) here

  module _ (ended : ℕ) (among : Contains rests (ended, [])) where
    gap-here : IsWay (get_or lists (other_place first) []) None ((ended, []) ∷ [])
    gap-here =
        let P : List Numbered → Type 0 = λ l. IsWay l None ((ended, []) ∷ []) in
        subst P (sym (other-here first (number, t) rests)) (gap-way ended rests among)

    pub end-search : AreAcceptedBy sought m lengths q (other_place first) letters lists
        → (r : Option ℕ)
        → IsSearch sought m lengths q 0 (beside first (number, t) ((ended, []) ∷ []))
        (found first number r)
        → IsSearch sought m lengths q 0 lists (found first number r)
    end-search by_letter (Some other) s =
        let P : List (List Numbered) → Type 0 = λ ls.
        AreRejected sought m lengths q ls (pair_of first number other) in
        rejected-part sought m lengths q lists (other_place first) None ((ended, []) ∷ [])
        (pair_of first number other) gap-here
        (subst P (sym (other-set first (number, t) rests ((ended, []) ∷ []))) s)
    end-search by_letter None s =
        let P : List (List Numbered) → Type 0 = AreAccepted sought m lengths q 1 in
        let lt = other-within first (number, t) rests in
        from-none sought m lengths q lists
        (accepted-all sought m lengths q lists (other_place first) letters lt letters-here by_letter
        (accepted-way sought m lengths q lists (other_place first) None ((ended, []) ∷ []) lt gap-here
        (subst P (sym (other-set first (number, t) rests ((ended, []) ∷ [])))
        (λ tuple h some. s tuple h (omega arith))))) here

    pub end-steps : (before more made : ℕ) → before + more ≡ made
        → AreStepsBy sought lengths (other_place first) letters lists before
        → AreSteps sought lengths (beside first (number, t) ((ended, []) ∷ [])) more
        → AreSteps sought lengths lists made
    end-steps before more made sum s u =
        let P : List (List Numbered) → Type 0 = λ ls. AreSteps sought lengths ls more in
        let Q : ℕ → Type 0 = AreSteps sought lengths lists in
        subst Q sum (steps-gap sought lengths lists (other_place first) letters ((ended, []) ∷ [])
        (other-within first (number, t) rests) gap-here before more s
        (subst P (sym (other-set first (number, t) rests ((ended, []) ∷ []))) u))

-- ---- where a tuple has no position left

given-ended : (number : ℕ) (t : Trace) → HasEnded ((number, t) ∷ []) → t ≡ []
given-ended number t (n, c) =
    ap (λ (p : Numbered). p.1) (contains-one (number, t) (n, []) c)

ended-given : (number : ℕ) (t : Trace) → t ≡ [] → HasEnded ((number, t) ∷ [])
ended-given number t e =
    let P : Trace → Type 0 = λ u. Contains {X = Numbered} ((number, t) ∷ []) (number, u) in
    (number, subst P e (contains-here (number, t) []))

pub stop-search : (m : Machine) (lengths : Lengths) (q : ℕ) (first : Bool) (number : ℕ)
    (t : Trace) (rests : List Numbered) → 0 < length rests → (r : Option ℕ)
    → IfSome r (λ n. (u : Trace) × Contains rests (n, u) × (HasEnded rests → u ≡ []))
    → IfNone r (rests ≡ []) → CanStop lengths (beside first (number, t) rests)
    → is_accepting m q ≡ false
    → IsSearch (sought_beside first (number, t)) m lengths q 0 (beside first (number, t) rests)
    (found first number r)
stop-search m lengths q first number t rests some None any none can rejects =
    absurd (omega (arith, some, ap (λ (l : List Numbered). length l) none))
stop-search m lengths q first number t rests some (Some other) (u, c, ended) none can rejects =
    let s = sought_beside first (number, t) in
    let ls = beside first (number, t) rests in
    stopped-search s m lengths q ls (pair_of first number other)
    (ended-stopped s lengths ls (pair_of first number other) can
    (pair_of first (number, t) (other, u)) (both first)
    (beside-has first (number, t) (other, u)) (same first)) rejects
  where
    here : Contains {X = Numbered} ((number, t) ∷ []) (number, t)
    here = contains-here (number, t) []

    both : (first : Bool)
        → AreEnded (beside first (number, t) rests) (pair_of first (number, t) (other, u))
    both true = (here, given-ended number t, (c, ended, tt))
    both false = (c, ended, (here, given-ended number t, tt))

    same : (first : Bool) → numbers_of (pair_of first (number, t) (other, u))
        ≡ pair_of first number other
    same true = refl
    same false = refl

given-stops : (first : Bool) (number : ℕ) (t : Trace) (rests : List Numbered) → t ≡ []
    → CanStop Min (beside first (number, t) rests)
given-stops true number t rests e =
    ((number, t) ∷ [], contains-here ((number, t) ∷ []) (rests ∷ []), ended-given number t e)
given-stops false number t rests e = (
  (number, t) ∷ [],
  contains-later rests ((number, t) ∷ []) (((number, t) ∷ []) ∷ [])
      (contains-here ((number, t) ∷ []) []),
  ended-given number t e,
)

other-stops : (first : Bool) (number : ℕ) (t : Trace) (rests : List Numbered)
    → HasEnded rests → CanStop Min (beside first (number, t) rests)
other-stops true number t rests e = (
  rests,
  contains-later ((number, t) ∷ []) rests (rests ∷ []) (contains-here rests []),
  e,
)
other-stops false number t rests e =
    (rests, contains-here rests (((number, t) ∷ []) ∷ []), e)

both-stop : (first : Bool) (number : ℕ) (t : Trace) (rests : List Numbered) → t ≡ []
    → HasEnded rests → CanStop Pad (beside first (number, t) rests)
both-stop first number t rests e h =
    each-pair HasEnded first ((number, t) ∷ []) rests (ended-given number t e) h

one-stops : (first : Bool) (number : ℕ) (t : Trace) (rests : List Numbered)
    → CanStop Min (beside first (number, t) rests) → (t ≡ []) ⊎ HasEnded rests
one-stops true number t rests (l, c, e) =
    elim (contains-cases ((number, t) ∷ []) l (rests ∷ []) c) [
      | inl is ↦ inl (given-ended number t (subst HasEnded (sym is) e))
      | inr later ↦ inr (subst HasEnded (sym (contains-one rests l later)) e)
    ]
one-stops false number t rests (l, c, e) =
    elim (contains-cases rests l (((number, t) ∷ []) ∷ []) c) [
      | inl is ↦ inr (subst HasEnded (sym is) e)
      | inr later ↦
          inl (given-ended number t (subst HasEnded (sym (contains-one ((number, t) ∷ []) l later)) e))
    ]

none-stops : (first : Bool) (number : ℕ) (t : Trace) (rests : List Numbered) → ¬ (t ≡ [])
    → (¬ HasEnded rests) → ¬ CanStop Min (beside first (number, t) rests)
none-stops first number t rests some none can = elim (one-stops first number t rests can) [
  | inl e ↦ some e
  | inr e ↦ none e
]

stops-both : (first : Bool) (number : ℕ) (t : Trace) (rests : List Numbered)
    → CanStop Pad (beside first (number, t) rests) → (t ≡ []) × HasEnded rests
stops-both true number t rests can = (given-ended number t can.0, can.1.0)
stops-both false number t rests can = (given-ended number t can.1.0, can.0)

no-letters : (t : Trace) → nat_eq (length t) 0 ≡ true → t ≡ []
no-letters [] e = refl
no-letters (a ∷ t) e = absurd (omega (arith, eqb-true (length (a ∷ t)) 0 e))

pub some-letters : (t : Trace) → nat_eq (length t) 0 ≡ false → 0 < length t
some-letters [] e = absurd (cc)
some-letters (a ∷ t) e = omega arith

-- what is found of a trace that ends
module _ (rests : List Numbered) where
  ended-some : (r : Option ℕ) → IfSome r (λ n. Contains rests (n, [])) → is_some r ≡ true
      → HasEnded rests
  ended-some None h e = absurd (cc)
  ended-some (Some n) h e = (n, h)

  ended-none : (r : Option ℕ) → IfNone r (Each (λ (p : Numbered). 0 < length p.1) rests)
      → is_some r ≡ false → ¬ HasEnded rests
  ended-none None h e (n, c) =
      let long : 0 < length {A = NameSet} [] = each-at (λ (p : Numbered). 0 < length p.1) rests (n, []) h c in
      omega (arith, long)
  ended-none (Some n) h e ended = absurd (cc)

module _ (lengths : Lengths) (first : Bool) (number : ℕ) (t : Trace) (rests : List Numbered)
    (r : Option ℕ) (some : IfSome r (λ n. Contains rests (n, [])))
    (none : IfNone r (Each (λ (p : Numbered). 0 < length p.1) rests)) where
  pub pair-stops : stops_of lengths (nat_eq (length t) 0) (is_some r) ≡ true
      → CanStop lengths (beside first (number, t) rests)
  pair-stops e = at lengths (nat_eq (length t) 0) refl (is_some r) refl e
    where
      at : (lengths : Lengths) (a : Bool) → nat_eq (length t) 0 ≡ a → (b : Bool)
          → is_some r ≡ b → stops_of lengths a b ≡ true
          → CanStop lengths (beside first (number, t) rests)
      at Min true f b g e = given-stops first number t rests (no-letters t f)
      at Min false f true g e = other-stops first number t rests (ended-some rests r some g)
      at Min false f false g e = absurd (cc)
      at Pad true f true g e =
          both-stop first number t rests (no-letters t f) (ended-some rests r some g)
      at Pad true f false g e = absurd (cc)
      at Pad false f b g e = absurd (cc)

  pub pair-goes : stops_of lengths (nat_eq (length t) 0) (is_some r) ≡ false
      → ¬ CanStop lengths (beside first (number, t) rests)
  pair-goes e = at lengths (nat_eq (length t) 0) refl (is_some r) refl e
    where
      apart : nat_eq (length t) 0 ≡ false → ¬ (t ≡ [])
      apart f e = let long = some-letters t f in omega (arith, long, ap (λ (u : Trace). length u) e)

      at : (lengths : Lengths) (a : Bool) → nat_eq (length t) 0 ≡ a → (b : Bool)
          → is_some r ≡ b → stops_of lengths a b ≡ false
          → ¬ CanStop lengths (beside first (number, t) rests)
      at Min true f b g e can = absurd (cc)
      at Min false f true g e can = absurd (cc)
      at Min false f false g e can =
          none-stops first number t rests (apart f) (ended-none rests r none g) can
      at Pad true f true g e can = absurd (cc)
      at Pad true f false g e can =
          ended-none rests r none g (stops-both first number t rests can).1
      at Pad false f b g e can = apart f (stops-both first number t rests can).0

  -- what is known where nothing is rejected here, and where something is
  module _ (m : Machine) (q : ℕ) (ended other b : Bool) (is_ended : ended ≡ nat_eq (length t) 0)
      (is_other : other ≡ is_some r)
      (is : b ≡ (not (is_accepting m q) && stops_of lengths ended other)) where
    seen : b ≡ (not (is_accepting m q) && stops_of lengths (nat_eq (length t) 0) (is_some r))
    seen =
        is ∙ (λ j. not (is_accepting m q) && stops_of lengths (is_ended j) (is_other j))

    pub pair-here : b ≡ false → (ts : List Trace)
        → IsTupleIn (sought_beside first (number, t)) (beside first (number, t) rests) ts
        → judged lengths ts ≡ 0 → is_accepting m q ≡ true
    pair-here e ts h zero_judged = at (is_accepting m q) refl (sym seen ∙ e)
      where
        two : 0 < length (beside first (number, t) rests)
        two = omega (arith, other-within first (number, t) rests)

        at : (a : Bool) → is_accepting m q ≡ a
            → (not a && stops_of lengths (nat_eq (length t) 0) (is_some r)) ≡ false
            → is_accepting m q ≡ true
        at true f g = f
        at false f g =
            absurd (goes-on lengths (beside first (number, t) rests) two (pair-goes g) ts h.0
            zero_judged)

    pub pair-rejects : b ≡ true → CanStop lengths (beside first (number, t) rests)
        × (is_accepting m q ≡ false)
    pair-rejects e = at (is_accepting m q) refl (sym seen ∙ e)
      where
        at : (a : Bool) → is_accepting m q ≡ a
            → (not a && stops_of lengths (nat_eq (length t) 0) (is_some r)) ≡ true
            → CanStop lengths (beside first (number, t) rests) × (is_accepting m q ≡ false)
        at true f g = absurd (cc)
        at false f g = (pair-stops g, f)

-- where none of the pairs has a position left, and where the given trace may go on
pub over-accepted : (m : Machine) (lengths : Lengths) (q : ℕ) (first : Bool) (number : ℕ)
    (t : Trace) (rests : List Numbered) → over_of lengths (nat_eq (length t) 0) ≡ true
    → AreAccepted (sought_beside first (number, t)) m lengths q 1 (beside first (number, t) rests)
over-accepted m Min q first number t rests e =
    ended-accepted m q first number t rests (no-letters t e)
over-accepted m Pad q first number t rests e = absurd (cc)

pub may-go-on : (lengths : Lengths) (t : Trace)
    → over_of lengths (nat_eq (length t) 0) ≡ false → MayGoOn lengths t
may-go-on Min t e = some-letters t e
may-go-on Pad t e = tt
