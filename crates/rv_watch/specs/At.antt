-- What the code of a watch has in hand, and what its steps come to.
use Rattle.std.specs.Prelude.{◌≡◌, ◌⊎◌, ◌↔◌, Bool, IsTrue, IsFalse, ◌+◌, ◌-◌, ◌*◌, ◌^◌, ℕ, ◌≤◌, ◌<◌, List, [], ◌∷◌, ◌++◌, length, Option, Some, None, Err}
use Rattle.hy_base.specs.Limits.{most}
use Rattle.hy_base.specs.declared.limit.Kind.TheVariants.{Length}
use Rattle.hy_base.specs.declared.reading.TheConstants.{BYTES_LIMIT}
use Rattle.hy_base.specs.declared.shelf.Shelf.{Ghosts as ShelfGhosts}
use Rattle.hy_base.specs.declared.sink.Sink.{Ghosts}
use Rattle.hy_finite.specs.Traces.{Trace}
use Rattle.hy_finite.specs.declared.event.Event.{Event}
use Rattle.hy_text.specs.Lines.{lines_of}
use Rattle.hy_text.specs.declared.line_error.LineError.{LineError}
use Rattle.hy_text.specs.declared.line_error.LineError.TheVariants as line_errors
use Rattle.rv_core.specs.Endings.{Spec}
use Rattle.rv_core.specs.Held.{Held, StandsFor, specs_of}
use Rattle.rv_core.specs.Histories.{History, empty_history}
use Rattle.rv_core.specs.Seen.{held}
use Rattle.rv_core.specs.StepBounds.{Brings}
use Rattle.rv_core.specs.declared.rv.Rv.{Rv}
use Rattle.hy_run.specs.declared.refusal.Refusal as refusals
use Rattle.hy_run.specs.declared.refusal.Refusal.TheVariants.{Limit, Own, Memory}
use Rattle.rv_watch.specs.Courses.{Course, IsCrowded, Leads, Stops, Takes, WatchAnswer, counted, start}
use Rattle.rv_watch.specs.Input.{HasEnded, IsOpen, IsThrough, Watches}
use Rattle.rv_watch.specs.Runs.{ReceivesAll}
use Rattle.rv_watch.specs.declared.course.Terms.{Terms}
use Rattle.rv_watch.specs.declared.course.Watcher.{Watcher}
use Rattle.rv_watch.specs.declared.verdict.WatchFault.{WatchFault}
use Rattle.rv_watch.specs.declared.verdict.WatchFault.TheVariants.{Line}

-- why a line with this number is refused that is read so
abbrev pub line_refusal : ℕ → LineError → refusals.Refusal WatchFault
line_refusal line (line_errors.Syntax n) = Own (Line line)
line_refusal line line_errors.Limit = Limit Length (most Length)
line_refusal line line_errors.Memory = Memory

-- lines, of which the first goes on from a front
abbrev pub glued : List ℕ → List (List ℕ) → List (List ℕ)
glued front [] = front ∷ []
glued front (line ∷ lines) = (front ++ line) ∷ lines

-- how many bytes may still come, at least one for each of them that is taken
abbrev pub room : ℕ → List ℕ → ℕ
room lines front = (2 ^ 64 - lines) * (BYTES_LIMIT + 1) + (BYTES_LIMIT - length front)

-- Nothing has come to the monitor yet, which goes by what is asked.
pub record IsFresh (terms : Terms) (rv : Rv) : Type 0 where
  pub stands : StandsFor (held rv) empty_history
  pub rule : (held rv).rule ≡ terms.question.lengths
  pub dropping : (held rv).drop ≡ terms.question.drop

-- It is told whether the most traces are present and the event brings one more.
pub record TellsCrowded (m : Held) (e : Event) (answer : Bool) : Type 0 where
  pub crowded : (c : Course) → StandsFor m c.history → IsTrue answer ↔ IsCrowded c e
  pub room : IsFalse answer → (t : Trace) → Brings m e t → m.arrived < 2 ^ 31

module _ (terms : Terms) (specs : List Spec) where
  abbrev pub TakenLines : Course → List (List ℕ) → Course → Type 0
  TakenLines = Leads terms.question.lengths specs terms.names.now terms.question.every

  abbrev pub StopsHere : Course → List ℕ → WatchAnswer → Type 0
  StopsHere = Stops terms.question.lengths specs terms.names.now

  module _ {E : Type 0} (g : Ghosts E) (from : E) where
    -- The monitor and the counts are those of a course, of these formulas, and its lines of counts were written.
    pub record IsAt (err : E) (w : Watcher) (c : Course) : Type 0 where
      pub rule : (held w.rv).rule ≡ terms.question.lengths
      pub dropping : (held w.rv).drop ≡ terms.question.drop
      pub specs_are : specs_of (held w.rv) ≡ specs
      pub stands : StandsFor (held w.rv) c.history
      pub lines : w.lines ≡ c.lines
      pub since : w.since ≡ c.since
      pub heard : ReceivesAll g from err c.said

    -- A line was taken, or it stopped the watch, or memory ran out.
    abbrev pub IsTaken : E → Watcher → List ℕ → Course → Option WatchAnswer → Type 0
    IsTaken err w line c None =
        (next : Course) × Takes terms.question.lengths specs terms.names.now terms.question.every c line next × IsAt err w next
    IsTaken err w line c (Some answer) = ReceivesAll g from err c.said × ((answer ≡ Err Memory) ⊎ StopsHere c line answer)

    -- Of these bytes the lines that ended were taken, and this is the front of the next one.
    pub record IsBehind (err : E) (w : Watcher) (front bytes : List ℕ) : Type 0 where
      pub lines : List (List ℕ)
      pub course : Course
      pub ended : HasEnded bytes lines front
      pub small : length front ≤ BYTES_LIMIT
      pub taken : TakenLines start lines course
      pub at : IsAt err w course

    -- The lines of a piece behind these bytes were taken, but for those that are left of it, the first of which goes on
    -- from this front.
    pub record IsPassing (err : E) (w : Watcher) (front bytes piece left : List ℕ) : Type 0 where
      pub lines : List (List ℕ)
      pub course : Course
      pub still_open : IsOpen bytes lines
      pub whole : lines_of (bytes ++ piece) ≡ lines ++ glued front (lines_of left)
      pub small : length front ≤ BYTES_LIMIT
      pub taken : TakenLines start lines course
      pub at : IsAt err w course

    -- In a piece behind these bytes a line stops the watch, or memory runs out behind some of the lines.
    pub data IsStopped (err : E) (bytes piece : List ℕ) : WatchAnswer → Type 0 where
      at_line : (lines more : List (List ℕ)) (line : List ℕ) (c : Course) (answer : WatchAnswer) → IsOpen bytes lines
          → lines_of (bytes ++ piece) ≡ lines ++ line ∷ more → (more ≡ [] → BYTES_LIMIT < length line)
          → TakenLines start lines c → StopsHere c line answer → ReceivesAll g from err c.said → IsStopped err bytes piece answer
      short : (lines more : List (List ℕ)) (front : List ℕ) (c : Course) → lines_of (bytes ++ piece) ≡ lines ++ front ∷ more
          → TakenLines start lines c → ReceivesAll g from err c.said → IsStopped err bytes piece (Err Memory)

    -- What a piece behind these bytes comes to.
    abbrev pub IsFed : E → Watcher → List ℕ → List ℕ → List ℕ → Option WatchAnswer → Type 0
    IsFed err w front bytes piece None = IsBehind err w front (bytes ++ piece)
    IsFed err w front bytes piece (Some answer) = IsStopped err bytes piece answer

    -- The input was these bytes: its last line stops the watch, all lines were taken, or memory ran out behind some of them.
    pub data IsFinished (err : E) (bytes : List ℕ) : WatchAnswer → Type 0 where
      at_last : (lines : List (List ℕ)) (line : List ℕ) (c : Course) (answer : WatchAnswer) → HasEnded bytes lines line
          → length line ≤ BYTES_LIMIT → TakenLines start lines c → StopsHere c line answer → ReceivesAll g from err c.said
          → IsFinished err bytes answer
      at_end : (c : Course) (answer : WatchAnswer) → TakenLines start (lines_of bytes) c
          → IsThrough terms.question specs c answer → ReceivesAll g from err c.said → IsFinished err bytes answer
      short_last : (lines more : List (List ℕ)) (c : Course) → lines_of bytes ≡ lines ++ more → TakenLines start lines c
          → ReceivesAll g from err c.said → IsFinished err bytes (Err Memory)

    -- What a watch of standard input comes to.
    abbrev pub IsWatched : {S : Type 0} → ShelfGhosts S → S → S → E → WatchAnswer → Type 0
    IsWatched shelves old new err answer =
        (said : List (List ℕ)) × Watches shelves old terms.question specs terms.names.now new said answer × ReceivesAll g from err said

-- ---- whatever the formulas are, and from whichever sink on

-- What a watch by such a monitor comes to.
abbrev pub IsWatchedBy : {E S : Type 0} → Terms → Rv → Ghosts E → E → ShelfGhosts S → S → S → E → WatchAnswer → Type 0
IsWatchedBy terms rv g err shelves old new err' answer = IsWatched terms (specs_of (held rv)) g err shelves old new err' answer

-- An arrival was counted, and the counts were written where they were due.
abbrev pub CountsArrival : {E : Type 0} → Ghosts E → E → Watcher → Option ℕ → E → Watcher → Type 0
CountsArrival {E} g old w every new next = (from : E) (c : Course) (h : History) → StandsFor (held w.rv) h
    → w.since ≡ c.since → ReceivesAll g from old c.said
    → (next.since ≡ (counted every c h).since) × ReceivesAll g from new (counted every c h).said

module _ {E : Type 0} (terms : Terms) (g : Ghosts E) (old : E) (w : Watcher) where
  -- The watcher is at some course.
  abbrev pub IsUnderWay : Type 0
  IsUnderWay = (specs : List Spec) × (from : E) × (c : Course) × IsAt terms specs g from old w c

  -- The line was taken from there, or it stopped the watch, or memory ran out.
  abbrev pub TakesLine : E → Watcher → List ℕ → Option WatchAnswer → Type 0
  TakesLine new next line answer = (specs : List Spec) (from : E) (c : Course) → IsAt terms specs g from old w c
      → IsTaken terms specs g from new next line c answer

  module _ (front : List ℕ) where
    -- The watcher is behind some bytes, with this front of a line.
    abbrev pub IsMidway : Type 0
    IsMidway = (specs : List Spec) × (from : E) × (bytes : List ℕ) × IsBehind terms specs g from old w front bytes

    -- The piece was taken from there, as far as the watch goes.
    abbrev pub TakesPiece : E → Watcher → List ℕ → List ℕ → Option WatchAnswer → Type 0
    TakesPiece new next front' piece answer = (specs : List Spec) (from : E) (bytes : List ℕ)
        → IsBehind terms specs g from old w front bytes → IsFed terms specs g from new next front' bytes piece answer

    -- The input ends there.
    abbrev pub Finishes : E → WatchAnswer → Type 0
    Finishes new answer = (specs : List Spec) (from : E) (bytes : List ℕ)
        → IsBehind terms specs g from old w front bytes → IsFinished terms specs g from new bytes answer
