-- What a watch answers, by how the events end that its lines say.
use Rattle.std.specs.Prelude.{◌≡◌, ◌⊎◌, ℕ, List, [], ◌++◌, Ok, Err}
use Rattle.hy_base.specs.Limits.{most}
use Rattle.hy_base.specs.declared.limit.Kind.{Kind}
use Rattle.hy_base.specs.declared.limit.Kind.TheVariants as kinds
use Rattle.hy_base.specs.declared.reading.TheConstants.{BYTES_LIMIT}
use Rattle.hy_base.specs.declared.shelf.Shelf.{Ghosts}
use Rattle.hy_files.specs.declared.fault.FileFault.{FileFault}
use Rattle.hy_finite.specs.EventFiles.{SayEvents, SomeTooLong, lines_of}
use Rattle.hy_finite.specs.declared.event.Placed.{Placed}
use Rattle.rv_core.specs.Endings.{Spec, Ending, clean, refusal, violation, Ends}
use Rattle.rv_core.specs.Histories.{empty_history}
use Rattle.hy_run.specs.declared.refusal.Refusal.TheVariants.{File, Limit, Own, Memory}
use Rattle.rv_tool.specs.Monitoring.{Brings, RvAnswer, events_of}
use Rattle.rv_tool.specs.declared.verdict.RvFault.TheVariants as monitor_faults
use Rattle.rv_tool.specs.declared.verdict.RvVerdict.{RvVerdict}
use Rattle.rv_watch.specs.Courses.{WatchAnswer}
use Rattle.rv_watch.specs.Input.{IsGiven, IsWhole}
use Rattle.rv_watch.specs.declared.verdict.Question.{Question}
use Rattle.rv_watch.specs.declared.verdict.WatchFault.TheVariants.{Session, Traces, Lines}

-- `rvhyper` answers the first, and the second says the same.
pub data SaysTheSame : RvAnswer → WatchAnswer → Type 0 where
  verdict : (v : RvVerdict) → SaysTheSame (Ok v) (Ok v)
  session : (line : ℕ) → SaysTheSame (Err (Own (monitor_faults.Session line))) (Err (Own (Session line)))
  limit : (kind : Kind) → SaysTheSame (Err (Limit kind (most kind))) (Err (Limit kind (most kind)))

-- Memory ran out, or the watch ran into a limit that no file of `rvhyper` is past.
pub data IsLimited : WatchAnswer → Type 0 where
  short : IsLimited (Err Memory)
  long_line : IsLimited (Err (Limit kinds.Bytes BYTES_LIMIT))
  many_traces : IsLimited (Err (Own Traces))
  many_lines : IsLimited (Err (Own Lines))

-- An event is refused, or brings a violation.
abbrev pub IsOver : Ending → Type 0
IsOver (clean h) = ⊥
IsOver (refusal k r) = Unit {0}
IsOver (violation k s h) = Unit {0}

module _ (q : Question) (specs : List Spec) where
  -- What is answered where events end so, each of a line: what `rvhyper` answers.
  abbrev pub IsDue : List Placed → Ending → WatchAnswer → Type 0
  IsDue placed ending answer =
      IsLimited answer ⊎ ((a : RvAnswer) × Brings q.lengths q.drop specs placed ending a × SaysTheSame a answer)

  -- Lines at the front of the bytes say events, none of them a trace that is too long, and how these end decides the
  -- answer: because one of them is refused or brings a violation, whatever lines stand behind, or because these are all.
  abbrev pub IsByEvents : List (List ℕ) → List ℕ → WatchAnswer → Type 0
  IsByEvents table bytes answer =
      (lines more : List (List ℕ)) (placed : List Placed) (ending : Ending) → lines_of bytes ≡ lines ++ more
      → SayEvents table 1 lines placed → (¬ SomeTooLong lines)
      → Ends q.lengths specs 0 empty_history (events_of placed) ending → (more ≡ []) ⊎ IsOver ending
      → IsDue placed ending answer

-- What is answered where the watch of standard input ends so: it could not be opened or read, or the answer is by the
-- events that the lines of those bytes say which reads gave.
abbrev pub IsByReads : {S : Type 0} → Ghosts S → S → Question → List Spec → List (List ℕ) → S → WatchAnswer → Type 0
IsByReads g old q specs table new answer =
    ((fault : FileFault) × (answer ≡ Err (File 1 fault)))
    ⊎ ((bytes : List ℕ) × (IsGiven g old bytes new ⊎ IsWhole g old bytes new) × IsByEvents q specs table bytes answer)
