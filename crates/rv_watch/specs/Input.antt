-- What a watch of standard input answers, by what its reads gave.
use Rattle.std.specs.Prelude.{◌≡◌, ℕ, ◌<◌, ◌≤◌, List, [], ◌∷◌, ◌++◌, length, Some, Ok, Err, codes}
use Rattle.hy_base.specs.Counts.{Rose}
use Rattle.hy_base.specs.Shelf.{Begun, Ended, FailsToOpen}
use Rattle.hy_base.specs.Talks.{gave, at_end, not_read}
use Rattle.hy_base.specs.declared.reading.TheConstants.{BYTES_LIMIT}
use Rattle.hy_base.specs.declared.shelf.Shelf.{Ghosts}
use Rattle.hy_text.specs.Lines.{lines_of}
use Rattle.hy_files.specs.declared.fault.FileFault.TheVariants.{Open, Read}
use Rattle.rv_core.specs.Endings.{Spec}
use Rattle.hy_run.specs.declared.refusal.Refusal.TheVariants.{File, Memory}
use Rattle.rv_tool.specs.Monitoring.{AreKeptCounts}
use Rattle.rv_tool.specs.declared.verdict.RvVerdict.TheVariants.{NoViolation}
use Rattle.rv_watch.specs.Courses.{Course, Leads, Stops, WatchAnswer, start}
use Rattle.rv_watch.specs.declared.verdict.Question.{Question}

-- the name of standard input
abbrev pub input_name : List ℕ
input_name = codes "-"

-- Of these bytes these lines ended, and this is the front of the next one.
abbrev pub HasEnded : List ℕ → List (List ℕ) → List ℕ → Type 0
HasEnded bytes lines front = lines_of bytes ≡ lines ++ front ∷ []

-- Of these bytes no more lines ended than were taken, and the front of the next one is within its limit: so they did not
-- stop the watch.
pub record IsOpen (bytes : List ℕ) (taken : List (List ℕ)) : Type 0 where
  pub lines : List (List ℕ)
  pub front : List ℕ
  pub ended : HasEnded bytes lines front
  pub fewer : length lines ≤ length taken
  pub small : length front ≤ BYTES_LIMIT

-- All lines were taken, and so is answered: by how many traces are present, how many of them are kept for each formula,
-- and how many sessions are open.
pub record IsThrough (q : Question) (specs : List Spec) (c : Course) (answer : WatchAnswer) : Type 0 where
  pub kept : List ℕ
  pub counts : AreKeptCounts q.lengths q.drop specs c.history.present.arrived kept
  pub answered :
      answer ≡ Ok (NoViolation (length c.history.present.arrived) kept (length c.history.present.sessions))

-- ---- what bytes come to

module _ (q : Question) (specs : List Spec) (table : List (List ℕ)) where
  -- The lines are taken, one after another, and lead to this course.
  abbrev pub AreTaken : List (List ℕ) → Course → Type 0
  AreTaken lines c = Leads q.lengths specs table q.every start lines c

  -- What an input of these bytes comes to, and the lines of counts that are due before: the first line that stops the
  -- watch answers, or each line is taken; or memory ran out behind some of them.
  pub data InputComes (bytes : List ℕ) : List (List ℕ) → WatchAnswer → Type 0 where
    stops_at : (lines more : List (List ℕ)) (line : List ℕ) (c : Course) (answer : WatchAnswer)
        → lines_of bytes ≡ lines ++ line ∷ more → AreTaken lines c → Stops q.lengths specs table c line answer
        → InputComes bytes c.said answer
    to_end : (c : Course) (answer : WatchAnswer) → AreTaken (lines_of bytes) c → IsThrough q specs c answer
        → InputComes bytes c.said answer
    runs_short : (lines more : List (List ℕ)) (c : Course) → lines_of bytes ≡ lines ++ more → AreTaken lines c
        → InputComes bytes c.said (Err Memory)

-- ---- what reads gave, and what that comes to

module _ {S : Type 0} (g : Ghosts S) (old : S) where
  -- Standard input was opened, and reads gave these bytes of it.
  pub record IsGiven (bytes : List ℕ) (new : S) : Type 0 where
    pub begun : Begun g old input_name bytes new
    pub front : g.tells old → g.file old input_name ≡ Some (bytes ++ g.rest new)

  -- Reads gave these bytes, and the next one nothing.
  pub record IsWhole (bytes : List ℕ) (new : S) : Type 0 where
    pub said : Ended g old input_name bytes at_end new
    pub all : g.tells old → g.file old input_name ≡ Some bytes

  -- Reads gave these bytes, and the next one failed: it was counted, and the shelf was not sound.
  pub record IsCut (bytes : List ℕ) (new : S) : Type 0 where
    pub said : Ended g old input_name bytes not_read new
    pub counted : Rose (g.read_faults old) (g.read_faults new)
    pub unsound : ¬ g.is_sound old

  module _ (q : Question) (specs : List Spec) (table : List (List ℕ)) where
    -- What is answered then, and the lines of counts that are due before.
    pub data Watches (new : S) : List (List ℕ) → WatchAnswer → Type 0 where
      unopened : FailsToOpen g old new input_name → Watches new [] (Err (File 1 Open))
      -- A read failed.
      unread : (bytes front : List ℕ) (lines : List (List ℕ)) (c : Course) → IsCut bytes new → HasEnded bytes lines front
          → length front ≤ BYTES_LIMIT → AreTaken q specs table lines c → Watches new c.said (Err (File 1 Read))
      -- In the last piece that was read ended the first line that stops the watch, or it grew past its limit; the pieces
      -- before had not decided that.
      stopped : (mid : S) (before piece line : List ℕ) (lines more : List (List ℕ)) (c : Course) (answer : WatchAnswer)
          → IsGiven before mid → g.called mid (gave piece) new → IsGiven (before ++ piece) new → IsOpen before lines
          → lines_of (before ++ piece) ≡ lines ++ line ∷ more → (more ≡ [] → BYTES_LIMIT < length line)
          → AreTaken q specs table lines c → Stops q.lengths specs table c line answer → Watches new c.said answer
      -- The input ended, and its last line stops the watch.
      last : (bytes line : List ℕ) (lines : List (List ℕ)) (c : Course) (answer : WatchAnswer) → IsWhole bytes new
          → HasEnded bytes lines line → length line ≤ BYTES_LIMIT → AreTaken q specs table lines c
          → Stops q.lengths specs table c line answer → Watches new c.said answer
      -- The input ended, and each line was taken.
      through : (bytes : List ℕ) (c : Course) (answer : WatchAnswer) → IsWhole bytes new → AreTaken q specs table (lines_of bytes) c
          → IsThrough q specs c answer → Watches new c.said answer
      -- Memory ran out behind some of the lines: before the end of the input, or at it.
      spent : (bytes front : List ℕ) (lines more : List (List ℕ)) (c : Course) → IsGiven bytes new
          → lines_of bytes ≡ lines ++ front ∷ more → AreTaken q specs table lines c → Watches new c.said (Err Memory)
      spent_last : (bytes : List ℕ) (lines more : List (List ℕ)) (c : Course) → IsWhole bytes new
          → lines_of bytes ≡ lines ++ more → AreTaken q specs table lines c → Watches new c.said (Err Memory)
