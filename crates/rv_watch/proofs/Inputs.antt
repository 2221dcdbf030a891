-- What the bytes of an input come to is one answer, and that of a watch on a sound shelf.
use Rattle.std.proofs.Common.{◌≡◌, ◌⊎◌, ℕ, ◌<◌, List, [], ◌∷◌, ◌++◌, length, Some, None, Ok, Err, inl, inr, refl, sym, ap, subst, ◌∙◌, arith, length-append}
use Rattle.hy_base.specs.declared.reading.TheConstants.{BYTES_LIMIT}
use Rattle.hy_base.specs.declared.shelf.Shelf.{Ghosts}
use Rattle.hy_text.specs.Lines.{lines_of}
use Rattle.rv_core.specs.Endings.{Spec}
use Rattle.hy_run.specs.declared.refusal.Refusal.TheVariants.{Memory}
use Rattle.rv_tool.specs.declared.verdict.RvVerdict.TheVariants.{NoViolation}
use Rattle.rv_tool.proofs.Counting.{counts-once}
use Rattle.rv_watch.specs.Agreeing.{Agree, same}
use Rattle.rv_watch.specs.At.{glued}
use Rattle.rv_watch.specs.Courses.{Course, Stops, WatchAnswer, faulty, large, long, says_event, start, uncounted}
use Rattle.rv_watch.specs.Input.{AreTaken, InputComes, IsThrough, Watches, input_name, runs_short, stops_at, to_end, unopened, unread, stopped, last, through, spent, spent_last}
use Rattle.rv_watch.specs.declared.verdict.Question.{Question}
use Rattle.rv_watch.proofs.Once.{leads-once, lines-one, lines-through}
use Rattle.rv_watch.proofs.Pieces.{lines-on, melded, lines-melded, melded-within, some-lines}

agree : {a b : WatchAnswer} → a ≡ b → Agree a b
agree {a} e = subst (Agree a) e (same a)

module _ (q : Question) (specs : List Spec) (table : List (List ℕ)) where
  abbrev Alike : List (List ℕ) → WatchAnswer → List (List ℕ) → WatchAnswer → Type 0
  Alike said a more b = (a ≡ Err Memory) ⊎ (b ≡ Err Memory) ⊎ ((said ≡ more) × Agree a b)

  through-once : (c d : Course) (a b : WatchAnswer) → c ≡ d → IsThrough q specs c a → IsThrough q specs d b → Agree a b
  through-once c d a b is one two =
      let P : Course → Type 0 = λ x. IsThrough q specs x a in
      let moved = subst P is one in
      let arrived = length d.history.present.arrived in
      let live = length d.history.present.sessions in
      agree
      (moved.answered
      ∙ ap (λ kept. Ok (NoViolation arrived kept live))
      (counts-once q.lengths q.drop d.history.present.arrived specs moved.kept two.kept moved.counts two.counts)
      ∙ sym two.answered)

  -- Input comes to one answer.
  pub inputs-once : (bytes : List ℕ) (said more : List (List ℕ)) (a b : WatchAnswer) → InputComes q specs table bytes said a
      → InputComes q specs table bytes more b → Alike said a more b
  inputs-once bytes _ _ a b (stops_at xs xr x c _ is takes stops) (stops_at ys yr y d _ also leads ends) =
      let (same_course, alike) = lines-one q.lengths specs table q.every start c d xs ys xr yr x y a b (sym is ∙ also) takes stops leads ends in
      inr (inr (ap (λ (e : Course). e.said) same_course, alike))
  inputs-once bytes _ _ a b (stops_at xs xr x c _ is takes stops) (to_end d _ leads done) =
      absurd (lines-through q.lengths specs table q.every start c d xs (lines_of bytes) xr x a (sym is) takes stops leads)
  inputs-once bytes _ _ a b (to_end c _ takes done) (stops_at ys yr y d _ also leads ends) =
      absurd (lines-through q.lengths specs table q.every start d c ys (lines_of bytes) yr y b (sym also) leads ends takes)
  inputs-once bytes _ _ a b (to_end c _ takes done) (to_end d _ leads ends) =
      let same_course = leads-once q.lengths specs table q.every start c d (lines_of bytes) takes leads in
      inr (inr (ap (λ (e : Course). e.said) same_course, through-once c d a b same_course done ends))
  inputs-once bytes _ _ _ b (runs_short xs xr c is takes) two = inl refl
  inputs-once bytes _ _ a _ one (runs_short ys yr d also leads) = inr (inl refl)

  -- ---- a sound shelf

  -- A line that is past its limit stops a watch as soon as it is, whatever stands behind it.
  grown-on : (c : Course) (line behind : List ℕ) (a : WatchAnswer) → BYTES_LIMIT < length line → Stops q.lengths specs table c line a
      → Stops q.lengths specs table c (line ++ behind) a
  grown-on c line behind _ grown (large also) = large (omega (arith, also, length-append line behind))
  grown-on c line behind _ grown (uncounted small many) = absurd (omega (arith, small, grown))
  grown-on c line behind _ grown (faulty within fault) = absurd (let small = within.0 in omega (arith, small, grown))
  grown-on c line behind _ grown (long within too) = absurd (let small = within.0 in omega (arith, small, grown))
  grown-on c line behind _ grown (says_event told _ within says fits stops) = absurd (let small = within.0 in omega (arith, small, grown))

  module _ (given rest line : List ℕ) (lines : List (List ℕ)) (c : Course) (a : WatchAnswer)
      (takes : AreTaken q specs table lines c) (stops : Stops q.lengths specs table c line a) where
    by-rest : (others : List (List ℕ)) → 0 < length others → lines_of (given ++ rest) ≡ lines ++ glued line others
        → BYTES_LIMIT < length line → InputComes q specs table (given ++ rest) c.said a
    by-rest [] some is grown = absurd (omega (arith, some))
    by-rest (other ∷ others) some is grown = stops_at lines others (line ++ other) c a is takes (grown-on c line other a grown stops)

    stopped-comes : (more : List (List ℕ)) → lines_of given ≡ lines ++ line ∷ more → (more ≡ [] → BYTES_LIMIT < length line)
        → InputComes q specs table (given ++ rest) c.said a
    stopped-comes [] here grown =
        by-rest (lines_of rest) (some-lines rest) (lines-on given rest line lines here) (grown refl)
    stopped-comes (next ∷ more) here grown =
        stops_at lines (melded (next ∷ more) (lines_of rest)) line c a
        (lines-melded given rest ∙ ap (λ ls. melded ls (lines_of rest)) here ∙ melded-within lines line (next ∷ more) (lines_of rest) (omega arith))
        takes stops

  module _ (given rest front : List ℕ) (lines : List (List ℕ)) (c : Course) (takes : AreTaken q specs table lines c) where
    spent-comes : (more : List (List ℕ)) → lines_of given ≡ lines ++ front ∷ more → InputComes q specs table (given ++ rest) c.said (Err Memory)
    spent-comes [] here = runs_short lines (glued front (lines_of rest)) c (lines-on given rest front lines here) takes
    spent-comes (next ∷ more) here =
        runs_short lines (front ∷ melded (next ∷ more) (lines_of rest)) c
        (lines-melded given rest ∙ ap (λ ls. melded ls (lines_of rest)) here ∙ melded-within lines front (next ∷ more) (lines_of rest) (omega arith))
        takes

  module _ {S : Type 0} (g : Ghosts S) (old new : S) (tells : g.tells old) (sound : g.is_sound old) (bytes : List ℕ)
      (told : g.file old input_name ≡ Some bytes) where
    same-bytes : (given : List ℕ) → g.file old input_name ≡ Some given → given ≡ bytes
    same-bytes given is =
        let both : Some given ≡ Some bytes = sym is ∙ told in
        let alike : given ≡ bytes = cc in
        alike

    -- On a sound shelf that tells a watch answers what the bytes of standard input come to.
    pub sound-comes : (said : List (List ℕ)) (a : WatchAnswer) → Watches g old q specs table new said a → InputComes q specs table bytes said a
    sound-comes _ _ (unopened fails) =
        absurd (let both : None ≡ Some bytes = sym (fails.lacks sound) ∙ told in cc)
    sound-comes _ _ (unread given front lines c cut ended small takes) = absurd (cut.unsound sound)
    sound-comes _ a (stopped mid before piece line lines more c _ is called after still_open here grown takes stops) =
        let P : List ℕ → Type 0 = λ bs. InputComes q specs table bs c.said a in
        subst P (same-bytes ((before ++ piece) ++ g.rest new) (after.front tells))
        (stopped-comes (before ++ piece) (g.rest new) line lines c a takes stops more here grown)
    sound-comes _ a (last given line lines c _ whole ended small takes stops) =
        let P : List ℕ → Type 0 = λ bs. InputComes q specs table bs c.said a in
        subst P (same-bytes given (whole.all tells)) (stops_at lines [] line c a ended takes stops)
    sound-comes _ a (through given c _ whole takes done) =
        let P : List ℕ → Type 0 = λ bs. InputComes q specs table bs c.said a in
        subst P (same-bytes given (whole.all tells)) (to_end c a takes done)
    sound-comes _ _ (spent given front lines more c is here takes) =
        let P : List ℕ → Type 0 = λ bs. InputComes q specs table bs c.said (Err Memory) in
        subst P (same-bytes (given ++ g.rest new) (is.front tells)) (spent-comes given (g.rest new) front lines c takes more here)
    sound-comes _ _ (spent_last given lines more c whole here takes) =
        let P : List ℕ → Type 0 = λ bs. InputComes q specs table bs c.said (Err Memory) in
        subst P (same-bytes given (whole.all tells)) (runs_short lines more c here takes)
