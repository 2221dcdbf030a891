-- What lines come to that say events is what these end in.
use Rattle.std.proofs.Common.{append-nil, ◌≡◌, ◌⊎◌, ℕ, suc, Bool, true, false, true≢false, List, [], ◌∷◌, ◌++◌, length, Ok, Err, inl, inr, refl, sym, ap, subst, ◌∙◌, arith, length-append}
use Rattle.hy_base.specs.declared.limit.Kind.TheVariants as kinds
use Rattle.hy_base.specs.declared.shelf.Shelf.{Ghosts}
use Rattle.hy_text.specs.Bytes.{past_blanks}
use Rattle.hy_text.specs.Lines.{lines_of}
use Rattle.hy_files.specs.declared.fault.FileFault.TheVariants.{Open, Read}
use Rattle.hy_finite.specs.EventFiles.{SayEvents, SomeTooLong, event_of}
use Rattle.hy_finite.specs.EventLines.{Said, word, SaysNothing, Says, IsTooLong}
use Rattle.hy_finite.specs.declared.event.Event.{Event}
use Rattle.hy_finite.specs.declared.event.Placed.{Placed}
use Rattle.hy_finite.proofs.Saying.{nothing-said, one-said}
use Rattle.rv_core.specs.Endings.{Spec, Ending, clean, refusal, violation, Comes, Ends, FirstViolated, IsClean}
use Rattle.rv_core.specs.Histories.{History, Refusal, Step, no_session, no_save, too_long, too_many_sessions, too_many_saves, refused, goes, step, arrives}
use Rattle.rv_core.specs.Replies.{error_of}
use Rattle.rv_core.proofs.Ending.{first-one}
use Rattle.rv_tool.specs.Monitoring.{RvAnswer, events_of, line_of}
use Rattle.rv_tool.specs.Monitoring as monitoring
use Rattle.rv_tool.specs.declared.verdict.RvVerdict.TheVariants.{NoViolation, Violation}
use Rattle.rv_watch.specs.ByEvents.{IsByEvents, IsByReads, IsDue, IsOver, SaysTheSame, long_line, many_lines, many_traces, short}
use Rattle.rv_watch.specs.ByEvents as by
use Rattle.rv_watch.specs.Courses.{Course, EventStops, Leads, Stops, Takes, WatchAnswer, arrived, behind, counted, crowded, event_refusal, faulty, large, long, quiet, refuses, says_event, silent, start, uncounted, violates}
use Rattle.rv_watch.specs.Input.{AreTaken, InputComes, IsThrough, Watches, runs_short, stops_at, to_end, unopened, unread, stopped, last, through, spent, spent_last}
use Rattle.rv_watch.specs.declared.verdict.Question.{Question}
use Rattle.rv_watch.proofs.Taking.{counted-history, counted-lines}

-- ---- one event

line-at : (before placed : List Placed) (p : Placed) → line_of (before ++ p ∷ placed) (length before) ≡ p.line
line-at [] placed p = refl
line-at (b ∷ before) placed p = line-at before placed p

refused-same : (n : ℕ) (r : Refusal)
    → SaysTheSame (Err (monitoring.event_refusal n (error_of r))) (Err (event_refusal n (error_of r)))
refused-same n no_session = by.session n
refused-same n no_save = by.session n
refused-same n too_long = by.limit kinds.Length
refused-same n too_many_sessions = by.limit kinds.Sessions
refused-same n too_many_saves = by.limit kinds.Saves

module _ (q : Question) (specs : List Spec) (k : ℕ) (Rest : History → Type 0) (ending : Ending) where
  abbrev Comes-so : Bool → Step → Type 0
  Comes-so arriving s = Comes q.lengths specs k arriving s Rest ending

  comes-refused : (b : Bool) (r : Refusal) → Comes-so b (refused r) → ending ≡ refusal k r
  comes-refused true r is = is
  comes-refused false r is = is

  -- an event that leads on, quietly or to a clean list
  comes-on : (b : Bool) (h : History) → (b ≡ true → IsClean q.lengths specs h.present.arrived) → Comes-so b (goes h) → Rest h
  comes-on false h tidy rest = rest
  comes-on true h tidy (inl (s, first, is)) = absurd (tidy refl s first.there first.violated)
  comes-on true h tidy (inr (also, rest)) = rest

  comes-violated : (b : Bool) (h : History) (s : ℕ) → b ≡ true → FirstViolated q.lengths specs h.present.arrived s
      → Comes-so b (goes h) → ending ≡ violation k s h
  comes-violated false h s loud first comes = absurd (cc)
  comes-violated true h s loud first (inl (r, one, is)) =
      is ∙ ap (λ n. violation k n h) (first-one q.lengths specs h.present.arrived r s one first)
  comes-violated true h s loud first (inr (tidy, rest)) = absurd (tidy s first.there first.violated)

module _ (q : Question) (specs : List Spec) (table : List (List ℕ)) where
  -- ---- the line that stops a watch

  module _ (before rest : List Placed) (c : Course) (line : List ℕ) (said : Said) (says : Says line said) (ending : Ending)
      (ends : Ends q.lengths specs (length before) c.history (event_of table said ∷ events_of rest) ending) where
    abbrev here : Placed
    here = record { line = suc c.lines; event = event_of table said }

    abbrev all : List Placed
    all = before ++ here ∷ rest

    abbrev Next : History → Type 0
    Next h = Ends q.lengths specs (suc (length before)) h (events_of rest) ending

    moved : (s : Step) → step c.history (event_of table said) ≡ s
        → Comes q.lengths specs (length before) (arrives (event_of table said)) s Next ending
    moved s is =
        let P : Step → Type 0 = λ t. Comes q.lengths specs (length before) (arrives (event_of table said)) t Next ending in
        subst P is ends

    event-due : (a : WatchAnswer) → EventStops q.lengths specs table c (event_of table said) a → IsDue q specs all ending a
    event-due _ (crowded many) = inl many_traces
    event-due _ (refuses r steps) =
        let is = comes-refused q specs (length before) Next ending (arrives (event_of table said)) r (moved (refused r) steps) in
        let P : Ending → Type 0 = λ x. IsDue q specs all x (Err (event_refusal (suc c.lines) (error_of r))) in
        let A : ℕ → RvAnswer = λ n. Err (monitoring.event_refusal n (error_of r)) in
        subst P (sym is) (inr (A (suc c.lines), ap A (sym (line-at before rest here)), refused-same (suc c.lines) r))
    event-due _ (violates h s trace tuple room steps loud found) =
        let is = comes-violated q specs (length before) Next ending (arrives (event_of table said)) h s loud found.first (moved (goes h) steps) in
        let P : Ending → Type 0 = λ x. IsDue q specs all x (Ok (Violation s trace tuple)) in
        subst P (sym is)
        (inr (
          Ok (Violation s trace tuple),
          record { trace = trace; tuple = tuple; found = found; answered = refl },
          by.verdict (Violation s trace tuple),
        ))

    line-due : (a : WatchAnswer) → Stops q.lengths specs table c line a → (¬ IsTooLong line) → IsDue q specs all ending a
    line-due _ (large grown) few = inl long_line
    line-due _ (uncounted small many) few = inl many_lines
    line-due _ (faulty within fault) few = absurd (fault.none said says)
    line-due _ (long within too) few = absurd (few too)
    line-due a (says_event told _ within also fits stops) few =
        let P : Said → Type 0 = λ x. EventStops q.lengths specs table c (event_of table x) a in
        event-due a (subst P (one-said (past_blanks line) told said also says) stops)

  silent-due : (c : Course) (line : List ℕ) (placed : List Placed) (ending : Ending) (a : WatchAnswer) → SaysNothing line
      → Stops q.lengths specs table c line a → IsDue q specs placed ending a
  silent-due c line placed ending _ nothing (large grown) = inl long_line
  silent-due c line placed ending _ nothing (uncounted small many) = inl many_lines
  silent-due c line placed ending _ nothing (faulty within fault) = absurd (fault.speaks nothing)
  silent-due c line placed ending _ nothing (long within too) = absurd (nothing-said line (word too.sets) nothing too.says)
  silent-due c line placed ending _ nothing (says_event told _ within says fits stops) = absurd (nothing-said line told nothing says)

  -- ---- a line that is taken

  silent-next : (c next : Course) (line : List ℕ) → SaysNothing line → Takes q.lengths specs table q.every c line next
      → next ≡ behind c c.history
  silent-next c _ line nothing (silent within also) = refl
  silent-next c _ line nothing (quiet told h within says fits steps still) = absurd (nothing-said line told nothing says)
  silent-next c _ line nothing (arrived told h within says fits room steps loud tidy) = absurd (nothing-said line told nothing says)

  pub record LeadsOn (c next : Course) (e : Event) : Type 0 where
    pub lines : next.lines ≡ suc c.lines
    pub steps : step c.history e ≡ goes next.history
    pub tidy : arrives e ≡ true → IsClean q.lengths specs next.history.present.arrived

  event-next : (c next : Course) (line : List ℕ) (said : Said) → Says line said → Takes q.lengths specs table q.every c line next
      → LeadsOn c next (event_of table said)
  event-next c _ line said says (silent within nothing) = absurd (nothing-said line said nothing says)
  event-next c _ line said says (quiet told h within also fits steps still) =
      let P : Said → Type 0 = λ x. LeadsOn c (behind c h) (event_of table x) in
      subst P (one-said (past_blanks line) told said also says)
      (record { lines = refl; steps = steps; tidy = λ loud. absurd (true≢false (sym loud ∙ still)) })
  event-next c _ line said says (arrived told h within also fits room steps loud tidy) =
      let P : Said → Type 0 = λ x. LeadsOn c (counted q.every c h) (event_of table x) in
      let same = sym (counted-history c h q.every) in
      let Q : History → Type 0 = λ x. IsClean q.lengths specs x.present.arrived in
      subst P (one-said (past_blanks line) told said also says)
      (record { lines = counted-lines c h q.every; steps = steps ∙ ap goes same; tidy = λ yes. subst Q same tidy })

  -- ---- lines that are taken, and what stands behind them

  -- Behind the lines that were taken one stops the watch, or there is none.
  pub data IsLeft (c : Course) (a : WatchAnswer) : List (List ℕ) → Type 0 where
    one : (line : List ℕ) (lines : List (List ℕ)) → Stops q.lengths specs table c line a → IsLeft c a (line ∷ lines)
    none : IsThrough q specs c a → IsLeft c a []

  through-due : (placed : List Placed) (c : Course) (a : WatchAnswer) → IsThrough q specs c a → IsDue q specs placed (clean c.history) a
  through-due placed c a done =
      let v = NoViolation (length c.history.present.arrived) done.kept (length c.history.present.sessions) in
      let P : WatchAnswer → Type 0 = IsDue q specs placed (clean c.history) in
      subst P (sym done.answered)
      (inr (Ok v, record { kept = done.kept; counts = done.counts; answered = refl }, by.verdict v))

  -- Events that all led on are over where no line is left.
  all-due : (placed : List Placed) (c d : Course) (taken left : List (List ℕ)) (a : WatchAnswer) → taken ++ left ≡ []
      → Leads q.lengths specs table q.every c taken d → IsLeft d a left → IsDue q specs placed (clean c.history) a
  all-due placed c d (t ∷ taken) left a is leads behind_is = absurd (cc)
  all-due placed c d [] _ a is leads (one line lines stops) = absurd (cc)
  all-due placed c d [] _ a is leads (none done) =
      let P : Course → Type 0 = λ x. IsThrough q specs x a in
      through-due placed c a (subst P leads done)

  over-due : (placed : List Placed) (c d : Course) (taken left more : List (List ℕ)) (ending : Ending) (a : WatchAnswer)
      → taken ++ left ≡ more → Leads q.lengths specs table q.every c taken d → IsLeft d a left → ending ≡ clean c.history
      → (more ≡ []) ⊎ IsOver ending → IsDue q specs placed ending a
  over-due placed c d taken left more ending a is leads behind_is clean_is (inr over) = absurd (subst IsOver clean_is over)
  over-due placed c d taken left more ending a is leads behind_is clean_is (inl nothing) =
      let P : Ending → Type 0 = λ x. IsDue q specs placed x a in
      subst P (sym clean_is) (all-due placed c d taken left a (is ∙ nothing) leads behind_is)

  pushed : (before rest : List Placed) (p : Placed) → (before ++ p ∷ []) ++ rest ≡ before ++ p ∷ rest
  pushed [] rest p = refl
  pushed (b ∷ before) rest p = ap (λ ps. b ∷ ps) (pushed before rest p)

  follows : (before placed : List Placed) (c d : Course) (taken left lines more : List (List ℕ)) (ending : Ending) (a : WatchAnswer)
      → taken ++ left ≡ lines ++ more → Leads q.lengths specs table q.every c taken d → IsLeft d a left
      → SayEvents table (suc c.lines) lines placed → (¬ SomeTooLong lines)
      → Ends q.lengths specs (length before) c.history (events_of placed) ending → (more ≡ []) ⊎ IsOver ending
      → IsDue q specs (before ++ placed) ending a
  follows before placed c d taken left [] more ending a is leads behind_is says few ends over =
      let P : List Placed → Type 0 = λ ps. Ends q.lengths specs (length before) c.history (events_of ps) ending in
      over-due (before ++ placed) c d taken left more ending a is leads behind_is (subst P says ends) over
  follows before placed c d [] _ (l ∷ lines) more ending a is leads (none done) says few ends over = absurd (cc)
  follows before placed c d [] _ (l ∷ lines) more ending a is leads (one x left stops) says few ends over =
      let heads : x ≡ l = cc in
      let P : List ℕ → Type 0 = λ y. Stops q.lengths specs table d y a in
      let S : Course → Type 0 = λ e. Stops q.lengths specs table e l a in
      let stops_here = subst S leads (subst P heads stops) in
      elim says [
        | inl silence ↦ silent-due c l (before ++ placed) ending a silence.0 stops_here
        | inr (said, rest, spoken, placed_is, further) ↦
            let Q : List Placed → Type 0 = λ ps. IsDue q specs (before ++ ps) ending a in
            let R : List Placed → Type 0 = λ ps. Ends q.lengths specs (length before) c.history (events_of ps) ending in
            subst Q (sym placed_is)
            (line-due before rest c l said spoken ending (subst R placed_is ends) a stops_here (λ far. few (inl far)))
      ]
  follows before placed c d (t ∷ taken) left (l ∷ lines) more ending a is (next, takes, leads) behind_is says few ends over =
      let heads : t ≡ l = cc in
      let tails : taken ++ left ≡ lines ++ more = cc in
      let T : List ℕ → Type 0 = λ x. Takes q.lengths specs table q.every c x next in
      let takes_here = subst T heads takes in
      let fewer : ¬ SomeTooLong lines = λ far. few (inr far) in
      elim says [
        | inl (nothing, further) ↦
            let on = silent-next c next l nothing takes_here in
            let P : Course → Type 0 = λ x. SayEvents table (suc x.lines) lines placed in
            let R : Course → Type 0 = λ x. Ends q.lengths specs (length before) x.history (events_of placed) ending in
            follows before placed next d taken left lines more ending a tails leads behind_is (subst P (sym on) further) fewer
            (subst R (sym on) ends) over
        | inr (said, rest, spoken, placed_is, further) ↦
            let on = event-next c next l said spoken takes_here in
            let p : Placed = record { line = suc c.lines; event = event_of table said } in
            let longer : length (before ++ p ∷ []) ≡ suc (length before) = omega (arith, length-append before (p ∷ [])) in
            let N : ℕ → Type 0 = λ n. SayEvents table (suc n) lines rest in
            let R : List Placed → Type 0 = λ ps. Ends q.lengths specs (length before) c.history (events_of ps) ending in
            let L : ℕ → Type 0 = λ k. Ends q.lengths specs k next.history (events_of rest) ending in
            let Next : History → Type 0 = λ h. Ends q.lengths specs (suc (length before)) h (events_of rest) ending in
            let S : Step → Type 0 = λ s. Comes q.lengths specs (length before) (arrives (event_of table said)) s Next ending in
            let ahead = comes-on q specs (length before) Next ending (arrives (event_of table said)) next.history on.tidy
            (subst S on.steps (subst R placed_is ends))
            in
            let P : List Placed → Type 0 = λ ps. IsDue q specs ps ending a in
            subst P (pushed before rest p ∙ ap (λ ps. before ++ ps) (sym placed_is))
            (follows (before ++ p ∷ []) rest next d taken left lines more ending a tails leads behind_is
            (subst N (sym on.lines) further) fewer (subst L (sym longer) ahead) over)
      ]

  -- ---- bytes

  by-stop : (bytes : List ℕ) (taken left : List (List ℕ)) (line : List ℕ) (c : Course) (a : WatchAnswer)
      → lines_of bytes ≡ taken ++ line ∷ left → AreTaken q specs table taken c → Stops q.lengths specs table c line a
      → IsByEvents q specs table bytes a
  by-stop bytes taken left line c a is takes stops lines more placed ending also =
      follows [] placed start c taken (line ∷ left) lines more ending a (sym is ∙ also) takes (one line left stops)

  by-end : (bytes : List ℕ) (c : Course) (a : WatchAnswer) → AreTaken q specs table (lines_of bytes) c → IsThrough q specs c a
      → IsByEvents q specs table bytes a
  by-end bytes c a takes done lines more placed ending also =
      follows [] placed start c (lines_of bytes) [] lines more ending a (append-nil (lines_of bytes) ∙ also) takes (none done)

  -- What bytes come to.
  pub input-by-events : (bytes : List ℕ) (said : List (List ℕ)) (a : WatchAnswer) → InputComes q specs table bytes said a
      → IsByEvents q specs table bytes a
  input-by-events bytes _ a (stops_at taken left line c _ is takes stops) = by-stop bytes taken left line c a is takes stops
  input-by-events bytes _ a (to_end c _ takes done) = by-end bytes c a takes done
  input-by-events bytes _ _ (runs_short taken left c is takes) = λ lines more placed ending also says few ends over. inl short

  -- What a watch answers by what its reads gave.
  pub watch-by-events : {S : Type 0} (g : Ghosts S) (old new : S) (said : List (List ℕ)) (a : WatchAnswer)
      → Watches g old q specs table new said a → IsByReads g old q specs table new a
  watch-by-events g old new _ _ (unopened fails) = inl (Open, refl)
  watch-by-events g old new _ _ (unread given front lines c cut ended small takes) = inl (Read, refl)
  watch-by-events g old new _ a (stopped mid before piece line lines more c _ is called after still_open here grown takes stops) =
      inr (before ++ piece, inl after, by-stop (before ++ piece) lines more line c a here takes stops)
  watch-by-events g old new _ a (last given line lines c _ whole ended small takes stops) =
      inr (given, inr whole, by-stop given lines [] line c a ended takes stops)
  watch-by-events g old new _ a (through given c _ whole takes done) = inr (given, inr whole, by-end given c a takes done)
  watch-by-events g old new _ _ (spent given front lines more c is here takes) =
      inr (given, inl is, λ first left placed ending also says few ends over. inl short)
  watch-by-events g old new _ _ (spent_last given lines more c whole here takes) =
      inr (given, inr whole, λ first left placed ending also says few ends over. inl short)
