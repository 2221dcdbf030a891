-- How the lines of a piece are taken behind what came before, and how many bytes may still come.
use Rattle.std.proofs.Common.{◌≡◌, ◌+◌, ◌^◌, ℕ, suc, ◌≤◌, ◌<◌, List, [], ◌∷◌, ◌++◌, length, Option, Some, None, IfSome, IfNone, Ok, Err, inl, inr, refl, sym, ap, subst, ◌∙◌, arith, length-append, append_assoc, append-nil}
use Rattle.hy_base.specs.declared.limit.Kind.TheVariants.{Bytes}
use Rattle.hy_base.specs.declared.reading.TheConstants.{BYTES_LIMIT}
use Rattle.hy_base.specs.declared.sink.Sink.{Ghosts}
use Rattle.hy_text.specs.Lines.{lines_of}
use Rattle.hy_finite.specs.declared.lengths.Lengths.{Lengths}
use Rattle.rv_core.specs.Endings.{Spec}
use Rattle.rv_core.specs.Held.{StandsFor, specs_of}
use Rattle.rv_core.specs.Histories.{History}
use Rattle.rv_core.specs.Seen.{held}
use Rattle.hy_run.specs.declared.refusal.Refusal.TheVariants.{Limit, Memory}
use Rattle.rv_tool.specs.Monitoring.{AreKeptCounts}
use Rattle.rv_tool.specs.declared.verdict.RvVerdict.TheVariants.{NoViolation}
use Rattle.rv_watch.specs.At.{IsBehind, IsFed, IsFinished, IsPassing, IsStopped, IsTaken, TakenLines, at_last, at_end, at_line, glued, room, short, short_last}
use Rattle.rv_watch.specs.Courses.{Course, Takes, WatchAnswer, arrived, large, most_lines, quiet, silent, start}
use Rattle.rv_watch.specs.declared.course.Terms.{Terms}
use Rattle.rv_watch.specs.declared.course.Watcher.{Watcher}
use Rattle.rv_watch.proofs.Leading.{leads-more}
use Rattle.rv_watch.proofs.Pieces.{extent, extent-lines, lines-on, some-lines}

-- ---- room

-- A line that ended takes its bytes and its line feed.
room-ended : (n : ℕ) (front line rest left : List ℕ) → n < 2 ^ 64 → length (front ++ line) ≤ BYTES_LIMIT
    → lines_of left ≡ line ∷ lines_of rest → room (suc n) [] + length left ≤ room n front + length rest
room-ended n front line rest left few small lines =
    let long : length left ≡ suc (length line) + length rest =
    omega (arith, extent-lines left, extent-lines rest, ap extent lines) in
    omega (arith, long, few, small, length-append front line)

pub room-on : (n n' p r : ℕ) (front front' line rest left : List ℕ) → n < 2 ^ 64 → length (front ++ line) ≤ BYTES_LIMIT
    → lines_of left ≡ line ∷ lines_of rest → n' ≡ n + 1 → front' ≡ [] → room n front + p ≤ r + length left
    → room n' front' + p ≤ r + length rest
room-on n n' p r front front' line rest left few small lines next empty before =
    let now = room-ended n front line rest left few small lines in
    let same_lines : n' ≡ suc n = omega (arith, next) in
    rw (same_lines, empty) (omega (arith, now, before))

-- The front of a line takes its bytes.
room-kept : (n : ℕ) (front line left : List ℕ) → length (front ++ line) ≤ BYTES_LIMIT
    → lines_of left ≡ line ∷ [] → room n (front ++ line) + length left ≤ room n front
room-kept n front line left small lines =
    let long : length left ≡ length line = omega (arith, extent-lines left, ap extent lines) in
    omega (arith, long, small, length-append front line)

pub room-last : (n p r : ℕ) (front front' line left : List ℕ) (o : Option WatchAnswer) → length (front ++ line) ≤ BYTES_LIMIT
    → lines_of left ≡ line ∷ [] → room n front + p ≤ r + length left → IfNone o (front' ≡ front ++ line)
    → IfNone o (room n front' + p ≤ r)
room-last n p r front front' line left (Some answer) small lines before kept = tt
room-last n p r front front' line left None small lines before kept =
    let now = room-kept n front line left small lines in
    rw kept (omega (arith, now, before))

pub no-bytes : (xs : List ℕ) → length xs ≡ 0 → xs ≡ []
no-bytes [] e = refl
no-bytes (x ∷ xs) e = absurd (omega (arith, e))

-- A line that was taken was numbered.
pub taken-few : (lengths : Lengths) (specs : List Spec) (table : List (List ℕ)) (every : Option ℕ) (c next : Course) (line : List ℕ)
    → Takes lengths specs table every c line next → c.lines < most_lines
taken-few lengths specs table every c _ line (silent within nothing) = within.1
taken-few lengths specs table every c _ line (quiet told h within says fits steps still) = within.1
taken-few lengths specs table every c _ line (arrived told h within says fits room steps loud clean) = within.1

-- ---- pieces

glued-nothing : (lines : List (List ℕ)) → 0 < length lines → glued [] lines ≡ lines
glued-nothing [] some = absurd (omega (arith, some))
glued-nothing (line ∷ lines) some = refl

module _ (terms : Terms) (specs : List Spec) {E : Type 0} (g : Ghosts E) (from : E) where
  pub passing-first : (err : E) (w : Watcher) (front bytes piece : List ℕ) → IsBehind terms specs g from err w front bytes
      → IsPassing terms specs g from err w front bytes piece piece
  passing-first err w front bytes piece b = record {
    lines = b.lines;
    course = b.course;
    still_open = record { lines = b.lines; front = front; ended = b.ended; fewer = omega arith; small = b.small };
    whole = lines-on bytes piece front b.lines b.ended;
    small = b.small;
    taken = b.taken;
    at = b.at;
  }

  module _ (err : E) (w : Watcher) (front bytes piece left line : List ℕ)
      (p : IsPassing terms specs g from err w front bytes piece left) where
    -- The next line of the piece ended.
    module _ (rest : List ℕ) (lines : lines_of left ≡ line ∷ lines_of rest) where
      here : lines_of (bytes ++ piece) ≡ p.lines ++ (front ++ line) ∷ lines_of rest
      here = p.whole ∙ ap (λ ls. p.lines ++ glued front ls) lines

      pub passing-more : (err' : E) (w' : Watcher) (front' : List ℕ) → front' ≡ []
          → IsTaken terms specs g from err' w' (front ++ line) p.course None
          → IsPassing terms specs g from err' w' front' bytes piece rest
      passing-more err' w' front' empty (next, takes, at) =
          let P : List ℕ → Type 0 = λ f. IsPassing terms specs g from err' w' f bytes piece rest in
          subst P (sym empty) (record {
            lines = p.lines ++ (front ++ line) ∷ [];
            course = next;
            still_open = record {
              lines = p.still_open.lines;
              front = p.still_open.front;
              ended = p.still_open.ended;
              fewer = omega (arith, p.still_open.fewer, length-append p.lines ((front ++ line) ∷ []));
              small = p.still_open.small;
            };
            whole =
                here ∙ sym (append_assoc p.lines ((front ++ line) ∷ []) (lines_of rest))
                ∙ ap (λ ls. (p.lines ++ (front ++ line) ∷ []) ++ ls) (sym (glued-nothing (lines_of rest) (some-lines rest)));
            small = omega arith;
            taken =
                leads-more terms.question.lengths specs terms.names.now terms.question.every start p.course next p.lines
                (front ++ line) p.taken takes;
            at = at;
          })

      pub passing-stopped : (err' : E) (w' : Watcher) (answer : WatchAnswer)
          → IsTaken terms specs g from err' w' (front ++ line) p.course (Some answer)
          → IsStopped terms specs g from err' bytes piece answer
      passing-stopped err' w' answer (heard, inl memory) =
          let P : WatchAnswer → Type 0 = IsStopped terms specs g from err' bytes piece in
          subst P (sym memory) (short p.lines (lines_of rest) (front ++ line) p.course here p.taken heard)
      passing-stopped err' w' answer (heard, inr stops) =
          at_line p.lines (lines_of rest) (front ++ line) p.course answer p.still_open here
          (λ none. absurd (let some = some-lines rest in omega (arith, some, ap length none))) p.taken stops heard

    -- The next line grew past its limit.
    pub passing-large : (more : List (List ℕ)) (answer : WatchAnswer) → lines_of left ≡ line ∷ more
        → BYTES_LIMIT < length (front ++ line) → answer ≡ Err (Limit Bytes BYTES_LIMIT)
        → IsStopped terms specs g from err bytes piece answer
    passing-large more answer lines long e =
        let P : WatchAnswer → Type 0 = IsStopped terms specs g from err bytes piece in
        subst P (sym e)
        (at_line p.lines more (front ++ line) p.course (Err (Limit Bytes BYTES_LIMIT)) p.still_open
        (p.whole ∙ ap (λ ls. p.lines ++ glued front ls) lines) (λ none. long) p.taken (large long) p.at.heard)

    -- The piece ended within a line.
    module _ (last : lines_of left ≡ line ∷ []) where
      ended : lines_of (bytes ++ piece) ≡ p.lines ++ (front ++ line) ∷ []
      ended = p.whole ∙ ap (λ ls. p.lines ++ glued front ls) last

      passing-last : (front' : List ℕ) → front' ≡ front ++ line → length (front ++ line) ≤ BYTES_LIMIT
          → IsBehind terms specs g from err w front' (bytes ++ piece)
      passing-last front' e small =
          let P : List ℕ → Type 0 = λ f. IsBehind terms specs g from err w f (bytes ++ piece) in
          subst P (sym e) (record {
            lines = p.lines;
            course = p.course;
            ended = ended;
            small = small;
            taken = p.taken;
            at = p.at;
          })

      passing-short : (answer : WatchAnswer) → answer ≡ Err Memory → IsStopped terms specs g from err bytes piece answer
      passing-short answer e =
          let P : WatchAnswer → Type 0 = IsStopped terms specs g from err bytes piece in
          subst P (sym e) (short p.lines [] (front ++ line) p.course ended p.taken p.at.heard)

      pub passing-kept : (front' : List ℕ) (o : Option WatchAnswer) → length (front ++ line) ≤ BYTES_LIMIT
          → IfNone o (front' ≡ front ++ line) → IfSome o (λ a. a ≡ Err Memory) → IsFed terms specs g from err w front' bytes piece o
      passing-kept front' None small kept refused = passing-last front' kept small
      passing-kept front' (Some answer) small kept refused = passing-short answer refused

  -- ---- the end of the input

  module _ (err : E) (w : Watcher) (line bytes : List ℕ) (b : IsBehind terms specs g from err w line bytes) (err' : E) where
    pub finished-stopped : (w' : Watcher) (answer : WatchAnswer) → IsTaken terms specs g from err' w' line b.course (Some answer)
        → IsFinished terms specs g from err' bytes answer
    finished-stopped w' answer (heard, inl memory) =
        let P : WatchAnswer → Type 0 = IsFinished terms specs g from err' bytes in
        subst P (sym memory) (short_last b.lines (line ∷ []) b.course b.ended b.taken heard)
    finished-stopped w' answer (heard, inr stops) =
        at_last b.lines line b.course answer b.ended b.small b.taken stops heard

    module _ (w' : Watcher) (took : IsTaken terms specs g from err' w' line b.course None) where
      all-lines : TakenLines terms specs start (lines_of bytes) took.0
      all-lines =
          let P : List (List ℕ) → Type 0 = λ ls. TakenLines terms specs start ls took.0 in
          subst P (sym b.ended)
          (leads-more terms.question.lengths specs terms.names.now terms.question.every start b.course took.0 b.lines line b.taken took.1)

      pub finished-short : (answer : WatchAnswer) → answer ≡ Err Memory → IsFinished terms specs g from err' bytes answer
      finished-short answer e =
          let P : WatchAnswer → Type 0 = IsFinished terms specs g from err' bytes in
          subst P (sym e) (short_last (lines_of bytes) [] took.0 (sym (append-nil (lines_of bytes))) all-lines took.2.heard)

      pub finished-through : (kept : List ℕ) (traces live : ℕ) (answer : WatchAnswer)
          → ((h : History) → StandsFor (held w'.rv) h
          → AreKeptCounts (held w'.rv).rule (held w'.rv).drop (specs_of (held w'.rv)) h.present.arrived kept)
          → traces ≡ (held w'.rv).arrived → live ≡ length (held w'.rv).sessions
          → answer ≡ Ok (NoViolation traces kept live) → IsFinished terms specs g from err' bytes answer
      finished-through kept traces live answer counts traces_are live_are e =
          let at = took.2 in
          let c = took.0 in
          at_end c answer all-lines
          (record {
            kept = kept;
            counts = rw (← at.rule, ← at.dropping, ← at.specs_are) (counts c.history at.stands);
            answered =
                e
                ∙ ap (λ n. Ok (NoViolation n kept live)) (traces_are ∙ at.stands.count)
                ∙ ap (λ n. Ok (NoViolation (length c.history.present.arrived) kept n)) (live_are ∙ at.stands.sessions.count);
          })
          at.heard
