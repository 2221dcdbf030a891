-- What a line does to a watch, by what was read of it and by what the monitor answered to its event.
use Rattle.std.proofs.Common.{◌≡◌, ◌+◌, ℕ, suc, ◌≤◌, ◌<◌, Bool, true, false, nat_lt, List, length, Option, Some, None, Ok, Err, inl, inr, refl, sym, ap, subst, ◌∙◌, arith}
use Rattle.hy_base.specs.declared.reading.TheConstants.{BYTES_LIMIT}
use Rattle.hy_base.specs.declared.sink.Sink.{Ghosts}
use Rattle.std.proofs.lemmas.Bool.{cases_lt}
use Rattle.std.proofs.lemmas.Bool.Decides.{nat_tests}
use Rattle.hy_files.specs.ErrorLines.{Received}
use Rattle.hy_text.specs.declared.line_error.LineError.{LineError}
use Rattle.hy_text.specs.declared.line_error.LineError.TheVariants as line_errors
use Rattle.hy_finite.specs.EventAnswers.{IsLineAnswer}
use Rattle.hy_finite.specs.EventLines.{SaysNothing}
use Rattle.hy_finite.specs.declared.event.Event.{Event}
use Rattle.rv_core.specs.Endings.{Spec, IsClean}
use Rattle.rv_core.specs.Held.{Held, StandsFor, specs_of}
use Rattle.rv_core.specs.Histories.{History, goes, step, arrives}
use Rattle.rv_core.specs.Replies.{Answers, IsFound}
use Rattle.rv_core.specs.Seen.{held}
use Rattle.rv_core.specs.declared.rv.Rv.{Rv}
use Rattle.rv_core.specs.declared.reply.Reply.TheVariants.{Quiet, Arrived, Violation}
use Rattle.rv_core.specs.declared.rv_error.RvError.{RvError}
use Rattle.hy_run.specs.declared.refusal.Refusal.TheVariants.{Own}
use Rattle.rv_tool.specs.declared.verdict.RvVerdict.TheVariants as verdicts
use Rattle.rv_watch.specs.At.{IsAt, IsTaken, TellsCrowded, line_refusal}
use Rattle.rv_watch.specs.Courses.{Course, HasRoom, IsCrowded, IsWithin, WatchAnswer, arrived, behind, counted, counted_if, crowded, event_refusal, faulty, long, most_lines, most_traces, quiet, refuses, says_event, silent, uncounted, violates}
use Rattle.rv_watch.specs.Runs.{ReceivesAll}
use Rattle.rv_watch.specs.Texts.{count_line, counts_text}
use Rattle.rv_watch.proofs.Leading.{receives-more}
use Rattle.rv_watch.specs.declared.course.Terms.{Terms}
use Rattle.rv_watch.specs.declared.course.Watcher.{Watcher}
use Rattle.rv_watch.specs.declared.verdict.WatchFault.TheVariants.{Traces, Lines}
use Rattle.rv_watch.proofs.Replying.{answered-quiet, answered-arrived, answered-violation, answered-error}

-- where it is not told that there is no room
pub not-crowded : {m : Held} {e : Event} {answer : Bool} (c : Course) → TellsCrowded m e answer → StandsFor m c.history
    → answer ≡ false → ¬ IsCrowded c e
not-crowded c tells stands is many = let yes = (tells.crowded c stands).1 many in absurd (cc (yes, is))

-- ---- counts

module _ (c : Course) (h : History) where
  either-history : (b : Bool) → (counted_if b c h).history ≡ h
  either-history true = refl
  either-history false = refl

  either-lines : (b : Bool) → (counted_if b c h).lines ≡ suc c.lines
  either-lines true = refl
  either-lines false = refl

  pub counted-history : (every : Option ℕ) → (counted every c h).history ≡ h
  counted-history None = refl
  counted-history (Some n) = either-history (nat_lt (suc c.since) n)

  pub counted-lines : (every : Option ℕ) → (counted every c h).lines ≡ suc c.lines
  counted-lines None = refl
  counted-lines (Some n) = either-lines (nat_lt (suc c.since) n)

module _ {E : Type 0} (g : Ghosts E) (from err err' : E) (c : Course) (h : History) (n traces live : ℕ) (reached : n ≤ suc c.since)
    (heard : ReceivesAll g from err c.said) (wrote : Received g err err' (counts_text traces live))
    (traces_are : traces ≡ length h.present.arrived) (live_are : live ≡ length h.present.sessions) where
  said-now : Received g err err' (count_line h.present)
  said-now = rw (← traces_are, ← live_are) wrote

  counted-by : (b : Bool) → nat_lt (suc c.since) n ≡ b → (0 ≡ (counted_if b c h).since) × ReceivesAll g from err' (counted_if b c h).said
  counted-by true e = absurd (let lt : suc c.since < n = grind (arith, nat_tests) in omega (arith, lt, reached))
  counted-by false e = (refl, receives-more g from err err' c.said (count_line h.present) heard said-now)

  -- Counts that are due were written.
  pub counted-now : (0 ≡ (counted (Some n) c h).since) × ReceivesAll g from err' (counted (Some n) c h).said
  counted-now = counted-by (nat_lt (suc c.since) n) refl

module _ (terms : Terms) (specs : List Spec) {E : Type 0} (g : Ghosts E) (from err : E) (w : Watcher) (line : List ℕ) (c : Course)
    (at : IsAt terms specs g from err w c) (small : length line ≤ BYTES_LIMIT) where
  -- ---- lines that stop a watch

  pub stopped-uncounted : (w' : Watcher) → most_lines ≤ w.lines → IsTaken terms specs g from err w' line c (Some (Err (Own Lines)))
  stopped-uncounted w' many = (at.heard, inr (uncounted small (omega (arith, many, at.lines))))

  module _ (n : ℕ) (number : n ≡ w.lines + 1) (few : w.lines < most_lines) where
    within : IsWithin c line
    within = (small, omega (arith, few, at.lines))

    number-is : n ≡ suc c.lines
    number-is = omega (arith, number, at.lines)

    pub stopped-unread : (w' : Watcher) (fault : LineError) (answer : WatchAnswer) → IsLineAnswer terms.names.now line (Err fault)
        → answer ≡ Err (line_refusal n fault) → IsTaken terms specs g from err w' line c (Some answer)
    stopped-unread w' (line_errors.Syntax k) answer (one, is) e =
        let P : WatchAnswer → Type 0 = λ a. IsTaken terms specs g from err w' line c (Some a) in
        subst P (sym (e ∙ ap (λ k. Err (line_refusal k (line_errors.Syntax 1))) number-is)) (at.heard, inr (faulty within is))
    stopped-unread w' line_errors.Limit answer is e =
        let P : WatchAnswer → Type 0 = λ a. IsTaken terms specs g from err w' line c (Some a) in
        subst P (sym e) (at.heard, inr (long within is))
    stopped-unread w' line_errors.Memory answer is e = (at.heard, inl e)

    pub took-silent : (w' : Watcher) → w'.rv ≡ w.rv → w'.lines ≡ n → w'.since ≡ w.since → SaysNothing line
        → IsTaken terms specs g from err w' line c None
    took-silent w' same lines since nothing = (
      behind c c.history,
      silent within nothing,
      record {
        rule = rw same at.rule;
        dropping = rw same at.dropping;
        specs_are = rw same at.specs_are;
        stands = rw same at.stands;
        lines = lines ∙ number-is;
        since = since ∙ at.since;
        heard = at.heard;
      },
    )

    -- ---- lines that say an event

    module _ (event : Event) (is : IsLineAnswer terms.names.now line (Ok (Some event))) where
      pub stopped-crowded : (w' : Watcher) → IsCrowded c event
          → IsTaken terms specs g from err w' line c (Some (Err (Own Traces)))
      stopped-crowded w' many =
          let (said, says, fits, same) = is in
          (at.heard, inr (says_event said _ within says fits (crowded (rw (← same) many))))

      module _ (w' : Watcher) where
        -- Where a trace comes there is room for it.
        has-room : (next : History) → step c.history event ≡ goes next → arrives event ≡ true → (¬ IsCrowded c event) → HasRoom c
        has-room next steps loud room =
            elim (cases_lt (length c.history.present.arrived) most_traces)
            [ inl few ↦ few | inr many ↦ absurd (room ((loud, (next, steps)), many)) ]

        module _ (drops : (held w'.rv).drop ≡ (held w.rv).drop) (lines : w'.lines ≡ n) where
          pub took-quiet : w'.since ≡ w.since → Answers (held w.rv) (held w'.rv) event (Ok Quiet)
              → IsTaken terms specs g from err w' line c None
          took-quiet since said =
              let goes = answered-quiet (held w.rv) (held w'.rv) event c.history (Ok Quiet) refl (said.right c.history at.stands) in
              let (told, says, fits, same) = is in (
                behind c goes.next,
                quiet told goes.next within says fits (rw (← same) goes.steps) (rw (← same) goes.silent),
                record {
                  rule = said.rule ∙ at.rule;
                  dropping = drops ∙ at.dropping;
                  specs_are = said.specs ∙ at.specs_are;
                  stands = goes.stands;
                  lines = lines ∙ number-is;
                  since = since ∙ at.since;
                  heard = at.heard;
                },
              )

          pub took-arrival : (err' : E) (rv : Rv) (trace : ℕ) → w'.rv ≡ rv → (¬ IsCrowded c event) → Answers (held w.rv) (held rv) event (Ok (Arrived trace))
              → ((h : History) → StandsFor (held rv) h → (w'.since ≡ (counted terms.question.every c h).since)
              × ReceivesAll g from err' (counted terms.question.every c h).said)
              → IsTaken terms specs g from err' w' line c None
          took-arrival err' rv trace is_rv room said wrote =
              let goes = answered-arrived (held w.rv) (held rv) event c.history (Ok (Arrived trace)) trace refl (said.right c.history at.stands) in
              let (told, says, fits, same) = is in
              let rule = said.rule ∙ at.rule in
              let specs_are = said.specs ∙ at.specs_are in
              let every = terms.question.every in
              let P : History → Type 0 = StandsFor (held w'.rv) in
              let R : Rv → Type 0 = λ r. StandsFor (held r) goes.next in
              let clean : IsClean terms.question.lengths specs goes.next.present.arrived = rw (← rule, ← specs_are) goes.stands.quiet.now in (
                counted every c goes.next,
                arrived told goes.next within says fits (has-room goes.next goes.steps goes.loud room) (rw (← same) goes.steps) (rw (← same) goes.loud) clean,
                record {
                  rule = ap (λ (r : Rv). (held r).rule) is_rv ∙ rule;
                  dropping = drops ∙ at.dropping;
                  specs_are = ap (λ (r : Rv). specs_of (held r)) is_rv ∙ specs_are;
                  stands = subst P (sym (counted-history c goes.next every)) (subst R (sym is_rv) goes.stands);
                  lines = lines ∙ number-is ∙ sym (counted-lines c goes.next every);
                  since = (wrote goes.next goes.stands).0;
                  heard = (wrote goes.next goes.stands).1;
                },
              )

        pub stopped-violated : (s trace : ℕ) (tuple : List ℕ) → (¬ IsCrowded c event) → Answers (held w.rv) (held w'.rv) event (Ok (Violation s trace tuple))
            → IsTaken terms specs g from err w' line c (Some (Ok (verdicts.Violation s trace tuple)))
        stopped-violated s trace tuple room said =
            let v = answered-violation (held w.rv) (held w'.rv) event c.history (Ok (Violation s trace tuple)) s trace tuple refl
            (said.right c.history at.stands) in
            let (told, says, fits, same) = is in
            let found : IsFound terms.question.lengths specs v.next.present.arrived s trace tuple = rw (← at.rule, ← at.specs_are) v.found in (
              at.heard,
              inr (says_event told _ within says fits (violates v.next s trace tuple (has-room v.next v.steps v.loud room) (rw (← same) v.steps) (rw (← same) v.loud) found)),
            )

        pub stopped-error : (error : RvError) (answer : WatchAnswer) → Answers (held w.rv) (held w'.rv) event (Err error)
            → answer ≡ Err (event_refusal n error) → IsTaken terms specs g from err w' line c (Some answer)
        stopped-error error answer said e =
            let (told, says, fits, same) = is in
            elim (answered-error (held w.rv) (held w'.rv) event c.history (Err error) error refl (said.right c.history at.stands)) [
              | inl memory ↦ (at.heard, inl (e ∙ ap (λ r. Err (event_refusal n r)) memory))
              | inr r ↦
                  let P : WatchAnswer → Type 0 = λ a. IsTaken terms specs g from err w' line c (Some a) in
                  subst P
                  (sym (e ∙ ap (λ k. Err (event_refusal k error)) number-is ∙ ap (λ x. Err (event_refusal (suc c.lines) x)) r.is))
                  (at.heard, inr (says_event told _ within says fits (refuses r.cause (rw (← same) r.steps))))
            ]
