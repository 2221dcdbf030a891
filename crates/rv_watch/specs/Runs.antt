-- What a run answers, by its words and by what reads gave, and what it writes.
use Rattle.std.specs.Prelude.{◌≡◌, ℕ, List, [], ◌∷◌, Ok, Err}
use Rattle.hy_base.specs.Limits.{most}
use Rattle.hy_base.specs.declared.limit.Kind.{Kind}
use Rattle.hy_base.specs.declared.shelf.Shelf.{Ghosts}
use Rattle.hy_base.specs.declared.sink.Sink as sink
use Rattle.hy_formula.specs.declared.classes.Class.{Class}
use Rattle.hy_formula.specs.Formulas.{Plain}
use Rattle.fin_monitor.specs.Limits.{IsTaken}
use Rattle.hy_files.specs.Contents.{AreNoSpecs, AreSpecs}
use Rattle.hy_files.specs.ErrorLines.{Received}
use Rattle.hy_files.specs.Steps.{Fails, Takes}
use Rattle.hy_files.specs.declared.fault.FileFault.{FileFault}
use Rattle.hy_run.specs.Classes.{FirstUntaken, by_class, is_universal}
use Rattle.hy_run.specs.Names.{Text}
use Rattle.hy_run.specs.Refusals.{file_refusal, refusal_line, refusal_status}
use Rattle.hy_run.specs.declared.refusal.Refusal.TheVariants.{Words, Prefix, Limit, Memory}
use Rattle.rv_tool.specs.Monitoring.{AreTooLarge, AreUniversal, EachPlain, specs_of}
use Rattle.rv_tool.specs.Texts.{text_of}
use Rattle.rv_tool.specs.Texts as verdicts
use Rattle.rv_tool.specs.declared.verdict.Question.TheVariants.{Monitor}
use Rattle.rv_watch.specs.Courses.{WatchAnswer}
use Rattle.rv_watch.specs.Input.{Watches, input_name}
use Rattle.rv_watch.specs.Texts.{own_line, own_status}
use Rattle.rv_watch.specs.Words.{asks}
use Rattle.rv_watch.specs.declared.verdict.Question.{Question}

-- The words ask for nothing.
abbrev pub HasNoCommand : List Text → Type 0
HasNoCommand words = (question : Question) (file : Text) → ¬ asks words question file

-- The file of this name has these formulas, of at most four quantifiers, and their names are these.
abbrev pub TakesSpecs : {S : Type 0} → Ghosts S → S → S → Text → List Plain → List Text → Type 0
TakesSpecs g old new file formulas names = Takes g old new file (λ bytes. AreSpecs 4 [] bytes formulas names)

-- How a command comes to its answer, and to the lines of counts before: its file is read first, and where its formulas
-- are monitored standard input is watched.
pub data Follows {S : Type 0} (g : Ghosts S) (old new : S) (question : Question) (file : Text) : List Text → WatchAnswer → Type 0 where
  unspecified : (fault : FileFault) → Fails g old new file (AreNoSpecs 4 []) fault
      → Follows g old new question file [] (Err (file_refusal 0 fault))
  untaken : (formulas : List Plain) (names : List Text) (place : ℕ) (class : Class) → TakesSpecs g old new file formulas names
      → FirstUntaken (by_class is_universal) formulas place class → Follows g old new question file [] (Err (Prefix 0 class))
  too_large : (formulas : List Plain) (names : List Text) (kind : Kind) → TakesSpecs g old new file formulas names
      → AreUniversal formulas → AreTooLarge formulas kind → Follows g old new question file [] (Err (Limit kind (most kind)))
  unmade : (formulas : List Plain) (names : List Text) → TakesSpecs g old new file formulas names
      → Follows g old new question file [] (Err Memory)
  watched : (mid : S) (formulas : List Plain) (names said : List Text) (answer : WatchAnswer)
      → TakesSpecs g old mid file formulas names → AreUniversal formulas → EachPlain IsTaken formulas
      → Watches g mid question (specs_of formulas) names new said answer → Follows g old new question file said answer

-- what is due to `out`: what `rvhyper` prints
abbrev pub out_text : Question → WatchAnswer → List ℕ
out_text question (Ok verdict) = text_of (Monitor question.lengths question.drop) verdict
out_text question (Err refusal) = []

-- How a run comes to its answer, its text and the lines of counts: the words are no command, or memory ran out over
-- them, and no file is touched; or they are one.
pub data Comes {S : Type 0} (g : Ghosts S) (words : List Text) (old new : S) : WatchAnswer → List ℕ → List Text → Type 0 where
  unworded : HasNoCommand words → old ≡ new → Comes g words old new (Err Words) [] []
  short : old ≡ new → Comes g words old new (Err Memory) [] []
  worded : (question : Question) (file : Text) (said : List Text) (answer : WatchAnswer) → asks words question file
      → Follows g old new question file said answer → Comes g words old new answer (out_text question answer) said

-- The names of the files that an answer may name: that of the command, and standard input.
pub data Names (words : List Text) : WatchAnswer → List Text → Type 0 where
  of_command : (question : Question) (file : Text) (answer : WatchAnswer) → asks words question file
      → Names words answer (file ∷ input_name ∷ [])
  of_none : (answer : WatchAnswer) → HasNoCommand words → Names words answer []
  of_memory : Names words (Err Memory) []

-- what is due to `err` at the end, where these are the names of the files
abbrev pub error_line : List Text → WatchAnswer → List ℕ
error_line files (Ok verdict) = []
error_line files (Err refusal) = refusal_line own_line files refusal

-- the exit status
abbrev pub status_of : WatchAnswer → ℕ
status_of (Ok verdict) = verdicts.status_of verdict
status_of (Err refusal) = refusal_status own_status refusal

-- The sink was given these lines, one after another, or less of each one at which a put failed.
abbrev pub ReceivesAll : {E : Type 0} → sink.Ghosts E → E → E → List Text → Type 0
ReceivesAll g old new [] = new ≡ old
ReceivesAll {E} g old new (line ∷ lines) = (mid : E) × Received g old mid line × ReceivesAll g mid new lines
