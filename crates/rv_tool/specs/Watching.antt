-- What comes of the events of a source, given to a monitor one after another.
use Rattle.std.specs.Prelude.{◌≡◌, ◌⊎◌, ◌+◌, ◌<◌, ◌^◌, ℕ, Bool, List, [], ◌∷◌, length, Option, Some, None, Result, Ok, Err}
use Rattle.hy_finite.specs.declared.event.Placed.{Placed}
use Rattle.hy_finite.specs.declared.lengths.Lengths.{Lengths}
use Rattle.hy_text.specs.declared.line_error.LineError.{LineError}
use Rattle.hy_finite.specs.EventAnswers.{AreChecked, IsCheckAnswer, IsRefusal}
use Rattle.hy_finite.specs.EventFiles.{SayEvents, IsEventFile}
use Rattle.hy_finite.specs.Remaining.{remaining}
use Rattle.rv_core.specs.Endings.{Spec, clean, Ends}
use Rattle.rv_core.specs.Held.{Held, StandsFor}
use Rattle.rv_core.specs.Histories.{History, empty_history}
use Rattle.rv_core.specs.declared.rv_error.RvError.TheVariants as errors
use Rattle.hy_files.specs.Faults.{line_fault}
use Rattle.hy_formula.specs.Formulas.{Plain}
use Rattle.hy_run.specs.Refusals.{file_refusal}
use Rattle.hy_run.specs.declared.refusal.Refusal.TheVariants.{Memory}
use Rattle.rv_tool.specs.Monitoring.{RvAnswer, EventsCome, IsOutcome, event_refusal, events_of, whole_traces}
use Rattle.rv_tool.specs.declared.verdict.RvVerdict.TheVariants.{Violation}
use Rattle.rv_tool.specs.declared.source.Source.{Source}
use Rattle.rv_tool.specs.declared.source.Source.TheVariants.{Lines, Made}
use Rattle.rv_tool.specs.declared.watching.Watched.{Watched}
use Rattle.rv_tool.specs.declared.watching.Watched.TheVariants.{Through, Refused, Violated, Unread}

-- Memory ran out, or the fact holds.
abbrev pub OrMemory : RvAnswer → Type 0 → Type 0
OrMemory answer P = (answer ≡ Err Memory) ⊎ P

-- The events that a source has left are these.
abbrev pub AreLeft : Source → List Placed → Type 0
AreLeft (Lines lines names) events = SayEvents names.now (remaining lines).first (remaining lines).lines events
AreLeft (Made first traces) events = events ≡ whole_traces first traces.now

-- how many lines or traces a source has left
abbrev pub count_left : Source → ℕ
count_left (Lines lines names) = length (remaining lines).lines
count_left (Made first traces) = length traces.now

-- The traces that are left can be numbered.
abbrev pub AreNumbered : Source → Type 0
AreNumbered (Lines lines names) = Unit {0}
AreNumbered (Made first traces) = first + length traces.now < 2 ^ 32

-- This is found of the lines that are left; made traces are taken.
abbrev pub IsLeftAnswer : Source → Result (Unit {0}) LineError → Type 0
IsLeftAnswer (Lines lines names) found = AreChecked (remaining lines) found
IsLeftAnswer (Made first traces) found = found ≡ Ok tt

-- Each line that is left says nothing or an event.
abbrev pub AreGood : Source → Type 0
AreGood source = IsLeftAnswer source (Ok tt)

-- What is found of the lines that the new source has left is found of those of the old one.
abbrev pub AreRead : Source → Source → Type 0
AreRead old new = (found : Result (Unit {0}) LineError) → IsLeftAnswer new found → IsLeftAnswer old found

-- The event is the next of a source, and then the new source is left.
pub record IsAhead (old new : Source) (placed : Placed) : Type 0 where
  pub before : (events : List Placed) → AreLeft new events → AreLeft old (placed ∷ events)
  pub fewer : count_left new < count_left old
  pub numbered : AreNumbered new
  pub good : AreGood old → AreGood new

-- The next event of a source, if there is one.
abbrev pub IsNext : Source → Source → Option Placed → Type 0
IsNext old new None = AreLeft old []
IsNext old new (Some placed) = IsAhead old new placed

-- The events of a source end behind the last one, and the monitor stands for what came of them.
pub record IsThrough (lengths : Lengths) (specs : List Spec) (source : Source) (new : Held) : Type 0 where
  pub placed : List Placed
  pub left : AreLeft source placed
  pub history : History
  pub ends : Ends lengths specs 0 empty_history (events_of placed) (clean history)
  pub stands : StandsFor new history

-- What giving the events of a source to a monitor came to, which holds this then.
abbrev pub IsWatched : Lengths → Bool → List Spec → Source → Held → Watched → Type 0
IsWatched lengths drop specs source new Through = IsThrough lengths specs source new
IsWatched lengths drop specs source new (Refused error line) =
    (error ≡ errors.Memory) ⊎ EventsCome lengths drop specs (AreLeft source) (Err (event_refusal line error))
IsWatched lengths drop specs source new (Violated spec trace tuple) =
    EventsCome lengths drop specs (AreLeft source) (Ok (Violation spec trace tuple))
IsWatched lengths drop specs source new Unread = Unit {0}

-- Each line of a source is taken, and the fact holds; or the first that is not is answered.
abbrev pub OrFault : Source → RvAnswer → Type 0 → Type 0
OrFault source answer P =
    (AreGood source × P)
    ⊎ ((fault : LineError) × IsLeftAnswer source (Err fault) × (answer ≡ Err (file_refusal 1 (line_fault fault))))

-- What formulas come to on the events of a file, where each of its lines is taken; else why they are refused.
abbrev pub IsLinesAnswer : Lengths → Bool → List Plain → List (List ℕ) → List ℕ → RvAnswer → Type 0
IsLinesAnswer lengths drop formulas names bytes answer =
    (IsCheckAnswer bytes (Ok tt) × IsOutcome lengths drop formulas (IsEventFile names bytes) answer)
    ⊎ ((fault : LineError) × IsRefusal bytes fault × (answer ≡ Err (file_refusal 1 (line_fault fault))))
