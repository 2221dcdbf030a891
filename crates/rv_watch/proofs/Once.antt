-- A line leads to one course or stops a watch, and the lines of an input come to one answer.
use Rattle.std.proofs.Common.{◌≡◌, ℕ, suc, ◌≤◌, true, false, true≢false, List, [], ◌∷◌, ◌++◌, length, Option, Ok, Err, refl, sym, ap, subst, ◌∙◌, arith}
use Rattle.hy_text.specs.Bytes.{past_blanks}
use Rattle.hy_finite.specs.EventFiles.{event_of}
use Rattle.hy_finite.specs.EventLines.{Said, word, Says, IsShort, IsTooLong}
use Rattle.hy_finite.specs.Traces.{most_letters}
use Rattle.hy_finite.specs.declared.event.Event.{Event}
use Rattle.hy_finite.specs.declared.lengths.Lengths.{Lengths}
use Rattle.hy_finite.proofs.Saying.{nothing-said, one-said}
use Rattle.rv_core.specs.Endings.{Spec, FirstViolated, IsClean}
use Rattle.rv_core.specs.Histories.{History, Refusal, refused, goes, step, arrives}
use Rattle.rv_core.specs.Replies.{IsFound, error_of}
use Rattle.rv_core.proofs.Ending.{first-one}
use Rattle.rv_tool.specs.declared.verdict.RvVerdict.TheVariants.{Violation}
use Rattle.rv_watch.specs.Agreeing.{Agree, same, other_tuple}
use Rattle.rv_watch.specs.Courses.{Course, EventStops, HasRoom, Leads, Stops, Takes, WatchAnswer, arrived, behind, counted, crowded, event_refusal, faulty, large, long, quiet, refuses, says_event, silent, uncounted, violates}

agree : {a b : WatchAnswer} → a ≡ b → Agree a b
agree {a} e = subst (Agree a) e (same a)

module _ (lengths : Lengths) (specs : List Spec) (table : List (List ℕ)) where
  -- ---- events

  event-same : (line : List ℕ) (told other : Said) → Says line told → Says line other → event_of table told ≡ event_of table other
  event-same line told other says also = ap (event_of table) (one-said (past_blanks line) told other says also)

  steps-same : (h a b : History) (d e : Event) → d ≡ e → step h d ≡ goes a → step h e ≡ goes b → a ≡ b
  steps-same h a b d e is one two =
      let both : goes a ≡ goes b = sym one ∙ ap (step h) is ∙ two in
      let alike : a ≡ b = cc in
      alike

  refusals-same : (h : History) (r s : Refusal) (d e : Event) → d ≡ e → step h d ≡ refused r → step h e ≡ refused s → r ≡ s
  refusals-same h r s d e is one two =
      let both : refused r ≡ refused s = sym one ∙ ap (step h) is ∙ two in
      let alike : r ≡ s = cc in
      alike

  refused-goes : (h a : History) (r : Refusal) (d e : Event) → d ≡ e → step h d ≡ refused r → step h e ≡ goes a → ⊥
  refused-goes h a r d e is one two =
      let both : refused r ≡ goes a = sym one ∙ ap (step h) is ∙ two in
      absurd (cc)

  loud-silent : (d e : Event) → d ≡ e → arrives d ≡ true → arrives e ≡ false → ⊥
  loud-silent d e is loud silent_is = true≢false (sym loud ∙ ap arrives is ∙ silent_is)

  -- ---- a line that is taken is taken in one way

  pub takes-once : (every : Option ℕ) (c a b : Course) (line : List ℕ) → Takes lengths specs table every c line a
      → Takes lengths specs table every c line b → a ≡ b
  takes-once every c _ _ line (silent in_one nothing) (silent in_two also) = refl
  takes-once every c _ _ line (silent in_one nothing) (quiet told h in_two says fits steps still) =
      absurd (nothing-said line told nothing says)
  takes-once every c _ _ line (silent in_one nothing) (arrived told h in_two says fits room steps loud clean) =
      absurd (nothing-said line told nothing says)
  takes-once every c _ _ line (quiet told h in_one says fits steps still) (silent in_two nothing) =
      absurd (nothing-said line told nothing says)
  takes-once every c _ _ line (quiet told h in_one says fits steps still) (quiet other k in_two more few leads stays) =
      ap (behind c) (steps-same c.history h k _ _ (event-same line told other says more) steps leads)
  takes-once every c _ _ line (quiet told h in_one says fits steps still) (arrived other k in_two more few also leads loud clean) =
      absurd (loud-silent _ _ (event-same line other told more says) loud still)
  takes-once every c _ _ line (arrived told h in_one says fits room steps loud clean) (silent in_two nothing) =
      absurd (nothing-said line told nothing says)
  takes-once every c _ _ line (arrived told h in_one says fits room steps loud clean) (quiet other k in_two more few leads stays) =
      absurd (loud-silent _ _ (event-same line told other says more) loud stays)
  takes-once every c _ _ line (arrived told h in_one says fits room steps loud clean) (arrived other k in_two more few also leads shout tidy) =
      ap (counted every c) (steps-same c.history h k _ _ (event-same line told other says more) steps leads)

  -- ---- a line that is taken does not stop a watch

  goes-stops : (c : Course) (h : History) (e d : Event) (a : WatchAnswer) → (arrives e ≡ true → HasRoom c)
      → step c.history e ≡ goes h → (arrives e ≡ true → IsClean lengths specs h.present.arrived) → e ≡ d
      → ¬ EventStops lengths specs table c d a
  goes-stops c h e d _ room steps clean is (crowded ((loud, next), many)) =
      let few = room (ap arrives is ∙ loud) in omega (arith, few, many)
  goes-stops c h e d _ room steps clean is (refuses r refused_is) = refused-goes c.history h r d e (sym is) refused_is steps
  goes-stops c h e d _ room steps clean is (violates k s trace tuple also leads loud found) =
      let alike = steps-same c.history k h d e (sym is) leads steps in
      let P : History → Type 0 = λ x. FirstViolated lengths specs x.present.arrived s in
      let first = subst P alike found.first in
      clean (ap arrives is ∙ loud) s first.there first.violated

  not-short : (line : List ℕ) (told : Said) → Says line told → IsShort told → ¬ IsTooLong line
  not-short line told says fits too =
      let P : Said → Type 0 = IsShort in
      let few : length too.sets ≤ most_letters = subst P (one-said (past_blanks line) told (word too.sets) says too.says) fits in
      omega (arith, few, too.long)

  pub taken-stops : (every : Option ℕ) (c next : Course) (line : List ℕ) (a : WatchAnswer) → Takes lengths specs table every c line next
      → ¬ Stops lengths specs table c line a
  taken-stops every c _ line _ (silent within nothing) (large grown) = let small = within.0 in omega (arith, small, grown)
  taken-stops every c _ line _ (silent within nothing) (uncounted small many) = let few = within.1 in omega (arith, few, many)
  taken-stops every c _ line _ (silent within nothing) (faulty again fault) = fault.speaks nothing
  taken-stops every c _ line _ (silent within nothing) (long again too) = nothing-said line (word too.sets) nothing too.says
  taken-stops every c _ line _ (silent within nothing) (says_event told a again says fits stops) = nothing-said line told nothing says
  taken-stops every c _ line _ (quiet told h within says fits steps still) (large grown) = let small = within.0 in omega (arith, small, grown)
  taken-stops every c _ line _ (quiet told h within says fits steps still) (uncounted small many) = let few = within.1 in omega (arith, few, many)
  taken-stops every c _ line _ (quiet told h within says fits steps still) (faulty again fault) = fault.none told says
  taken-stops every c _ line _ (quiet told h within says fits steps still) (long again too) = not-short line told says fits too
  taken-stops every c _ line _ (quiet told h within says fits steps still) (says_event other a again more few stops) =
      let never : ¬ (arrives (event_of table told) ≡ true) = λ loud. true≢false (sym loud ∙ still) in
      goes-stops c h _ _ a (λ loud. absurd (never loud)) steps (λ loud. absurd (never loud)) (event-same line told other says more) stops
  taken-stops every c _ line _ (arrived told h within says fits room steps loud clean) (large grown) = let small = within.0 in omega (arith, small, grown)
  taken-stops every c _ line _ (arrived told h within says fits room steps loud clean) (uncounted small many) = let few = within.1 in omega (arith, few, many)
  taken-stops every c _ line _ (arrived told h within says fits room steps loud clean) (faulty again fault) = fault.none told says
  taken-stops every c _ line _ (arrived told h within says fits room steps loud clean) (long again too) = not-short line told says fits too
  taken-stops every c _ line _ (arrived told h within says fits room steps loud clean) (says_event other a again more few stops) =
      goes-stops c h _ _ a (λ also. room) steps (λ also. clean) (event-same line told other says more) stops

  -- ---- a line stops a watch in one way

  found-agree : (h k : History) (s t trace other : ℕ) (tuple others : List ℕ) → h ≡ k
      → IsFound lengths specs h.present.arrived s trace tuple → IsFound lengths specs k.present.arrived t other others
      → Agree (Ok (Violation s trace tuple)) (Ok (Violation t other others))
  found-agree h k s t trace other tuple others is one two =
      let P : History → Type 0 = λ x. IsFound lengths specs x.present.arrived s trace tuple in
      let moved = subst P is one in
      let spec_same : s ≡ t = first-one lengths specs k.present.arrived s t moved.first two.first in
      let trace_same : trace ≡ other = let p = moved.last in let q = two.last in omega (arith, p, q) in
      let Q : ℕ → Type 0 = λ x. Agree (Ok (Violation s trace tuple)) (Ok (Violation x other others)) in
      let R : ℕ → Type 0 = λ x. Agree (Ok (Violation s trace tuple)) (Ok (Violation s x others)) in
      subst Q spec_same (subst R trace_same (other_tuple s trace tuple others))

  event-once : (c : Course) (d e : Event) (a b : WatchAnswer) → d ≡ e → EventStops lengths specs table c d a
      → EventStops lengths specs table c e b → Agree a b
  event-once c d e _ _ is (crowded many) (crowded also) = same _
  event-once c d e _ _ is (crowded ((loud, (next, goes_on)), many)) (refuses r steps) =
      absurd (refused-goes c.history next r e d (sym is) steps goes_on)
  event-once c d e _ _ is (crowded (came, many)) (violates h s trace tuple room steps loud found) = absurd (omega (arith, many, room))
  event-once c d e _ _ is (refuses r steps) (crowded ((loud, (next, goes_on)), many)) =
      absurd (refused-goes c.history next r d e is steps goes_on)
  event-once c d e _ _ is (refuses r steps) (refuses s leads) =
      agree (ap (λ x. Err (event_refusal (suc c.lines) (error_of x))) (refusals-same c.history r s d e is steps leads))
  event-once c d e _ _ is (refuses r steps) (violates h s trace tuple also leads loud found) =
      absurd (refused-goes c.history h r d e is steps leads)
  event-once c d e _ _ is (violates h s trace tuple room steps loud found) (crowded (came, many)) = absurd (omega (arith, many, room))
  event-once c d e _ _ is (violates h s trace tuple room steps loud found) (refuses r leads) =
      absurd (refused-goes c.history h r e d (sym is) leads steps)
  event-once c d e _ _ is (violates h s trace tuple room steps loud found) (violates k t other others also leads shout finds) =
      found-agree h k s t trace other tuple others (steps-same c.history h k d e is steps leads) found finds

  pub stops-once : (c : Course) (line : List ℕ) (a b : WatchAnswer) → Stops lengths specs table c line a
      → Stops lengths specs table c line b → Agree a b
  stops-once c line _ _ (large grown) (large also) = same _
  stops-once c line _ _ (large grown) (uncounted small many) = absurd (omega (arith, small, grown))
  stops-once c line _ _ (large grown) (faulty within fault) = absurd (let small = within.0 in omega (arith, small, grown))
  stops-once c line _ _ (large grown) (long within too) = absurd (let small = within.0 in omega (arith, small, grown))
  stops-once c line _ _ (large grown) (says_event told b within says fits stops) = absurd (let small = within.0 in omega (arith, small, grown))
  stops-once c line _ _ (uncounted small many) (large grown) = absurd (omega (arith, small, grown))
  stops-once c line _ _ (uncounted small many) (uncounted also more) = same _
  stops-once c line _ _ (uncounted small many) (faulty within fault) = absurd (let few = within.1 in omega (arith, few, many))
  stops-once c line _ _ (uncounted small many) (long within too) = absurd (let few = within.1 in omega (arith, few, many))
  stops-once c line _ _ (uncounted small many) (says_event told b within says fits stops) = absurd (let few = within.1 in omega (arith, few, many))
  stops-once c line _ _ (faulty within fault) (large grown) = absurd (let small = within.0 in omega (arith, small, grown))
  stops-once c line _ _ (faulty within fault) (uncounted small many) = absurd (let few = within.1 in omega (arith, few, many))
  stops-once c line _ _ (faulty within fault) (faulty again also) = same _
  stops-once c line _ _ (faulty within fault) (long again too) = absurd (fault.none (word too.sets) too.says)
  stops-once c line _ _ (faulty within fault) (says_event told b again says fits stops) = absurd (fault.none told says)
  stops-once c line _ _ (long within too) (large grown) = absurd (let small = within.0 in omega (arith, small, grown))
  stops-once c line _ _ (long within too) (uncounted small many) = absurd (let few = within.1 in omega (arith, few, many))
  stops-once c line _ _ (long within too) (faulty again fault) = absurd (fault.none (word too.sets) too.says)
  stops-once c line _ _ (long within too) (long again also) = same _
  stops-once c line _ _ (long within too) (says_event told b again says fits stops) = absurd (not-short line told says fits too)
  stops-once c line _ _ (says_event told a within says fits stops) (large grown) = absurd (let small = within.0 in omega (arith, small, grown))
  stops-once c line _ _ (says_event told a within says fits stops) (uncounted small many) = absurd (let few = within.1 in omega (arith, few, many))
  stops-once c line _ _ (says_event told a within says fits stops) (faulty again fault) = absurd (fault.none told says)
  stops-once c line _ _ (says_event told a within says fits stops) (long again too) = absurd (not-short line told says fits too)
  stops-once c line _ _ (says_event told a within says fits stops) (says_event other b again more few also) =
      event-once c _ _ a b (event-same line told other says more) stops also

  -- ---- the lines of an input come to one answer

  module _ (every : Option ℕ) where
    pub lines-one : (c d e : Course) (xs ys xr yr : List (List ℕ)) (x y : List ℕ) (a b : WatchAnswer) → xs ++ x ∷ xr ≡ ys ++ y ∷ yr
        → Leads lengths specs table every c xs d → Stops lengths specs table d x a
        → Leads lengths specs table every c ys e → Stops lengths specs table e y b → (d ≡ e) × Agree a b
    lines-one c d e [] [] xr yr x y a b is one stops two ends =
        let heads : x ≡ y = cc in
        let P : List ℕ → Course → Type 0 = λ l f. Stops lengths specs table f l a in
        let moved : Stops lengths specs table e y a = rw (← heads, two, ← one) stops in
        (one ∙ sym two, stops-once e y a b moved ends)
    lines-one c d e [] (z ∷ ys) xr yr x y a b is one stops (next, takes, leads) ends =
        let heads : x ≡ z = cc in
        absurd (taken-stops every c next z a takes (rw (← heads, ← one) stops))
    lines-one c d e (z ∷ xs) [] xr yr x y a b is (next, takes, leads) stops two ends =
        let heads : z ≡ y = cc in
        absurd (taken-stops every c next z b takes (rw (heads, ← two) ends))
    lines-one c d e (z ∷ xs) (w ∷ ys) xr yr x y a b is (next, takes, leads) stops (then, also, goes_on) ends =
        let heads : z ≡ w = cc in
        let tails : xs ++ x ∷ xr ≡ ys ++ y ∷ yr = cc in
        let P : List ℕ → Type 0 = λ l. Takes lengths specs table every c l next in
        let alike : next ≡ then = takes-once every c next then w (subst P heads takes) also in
        let Q : Course → Type 0 = λ f. Leads lengths specs table every f xs d in
        lines-one then d e xs ys xr yr x y a b tails (subst Q alike leads) stops goes_on ends

    -- Where a line stops a watch, not all lines are taken.
    pub lines-through : (c d e : Course) (xs ys xr : List (List ℕ)) (x : List ℕ) (a : WatchAnswer) → xs ++ x ∷ xr ≡ ys
        → Leads lengths specs table every c xs d → Stops lengths specs table d x a → ¬ Leads lengths specs table every c ys e
    lines-through c d e [] [] xr x a is one stops two = absurd (cc)
    lines-through c d e [] (y ∷ ys) xr x a is one stops (next, takes, leads) =
        let heads : x ≡ y = cc in
        taken-stops every c next y a takes (rw (← heads, ← one) stops)
    lines-through c d e (z ∷ xs) [] xr x a is one stops two = absurd (cc)
    lines-through c d e (z ∷ xs) (y ∷ ys) xr x a is (next, takes, leads) stops (then, also, goes_on) =
        let heads : z ≡ y = cc in
        let tails : xs ++ x ∷ xr ≡ ys = cc in
        let P : List ℕ → Type 0 = λ l. Takes lengths specs table every c l next in
        let alike : next ≡ then = takes-once every c next then y (subst P heads takes) also in
        let Q : Course → Type 0 = λ f. Leads lengths specs table every f xs d in
        lines-through then d e xs ys xr x a tails (subst Q alike leads) stops goes_on

    pub leads-once : (c d e : Course) (lines : List (List ℕ)) → Leads lengths specs table every c lines d
        → Leads lengths specs table every c lines e → d ≡ e
    leads-once c d e [] one two = one ∙ sym two
    leads-once c d e (line ∷ lines) (next, takes, leads) (then, also, goes_on) =
        let alike : next ≡ then = takes-once every c next then line takes also in
        let Q : Course → Type 0 = λ f. Leads lengths specs table every f lines d in
        leads-once then d e lines (subst Q alike leads) goes_on
