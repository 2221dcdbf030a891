-- What a run answers, what it has read then, and what it writes. The order of refusals is said here, and in the relation
-- to which the question of each tool comes.
use Rattle.std.specs.Prelude.{◌≡◌, ◌⊎◌, ◌<◌, ℕ, List, [], ◌∷◌, ◌++◌, length, Result, Ok, Err}
use Rattle.hy_base.specs.Shelf.{Read, ReadsFiles}
use Rattle.hy_base.specs.Sink.{GivesWhole, FailsToGive}
use Rattle.hy_base.specs.declared.shelf.Shelf.{Ghosts}
use Rattle.hy_base.specs.declared.sink.Sink as sink
use Rattle.hy_files.specs.Faults.{read_fault}
use Rattle.hy_files.specs.declared.fault.FileFault.{FileFault}
use Rattle.hy_run.specs.Names.{Text}
use Rattle.hy_run.specs.Refusals.{file_refusal, refusal_line, refusal_status}
use Rattle.hy_run.specs.Rules.{Rules}
use Rattle.hy_run.specs.declared.refusal.Refusal.{Refusal}
use Rattle.hy_run.specs.declared.refusal.Refusal.TheVariants.{Words, Write, Memory}

-- What a run answers: a verdict, or why there is none.
abbrev pub Answer : (V F : Type 0) → Type 0
Answer V F = Result V (Refusal F)

module _ {Q V F : Type 0} (rules : Rules Q V F) where
  -- The words ask for nothing.
  abbrev pub HasNoCommand : List Text → Type 0
  HasNoCommand words = (question : Q) (files : List Text) → ¬ rules.asks words question files

  -- The file behind those that are done was read, but is no text, and so is answered. Want of memory needs no cause.
  pub data Stops (question : Q) (k : ℕ) (names : List Text) (bytes : List ℕ) : Answer V F → Type 0 where
    refused : (fault : FileFault) → rules.is_refused question k names bytes fault
        → Stops question k names bytes (Err (file_refusal k fault))
    spent : Stops question k names bytes (Err Memory)

  -- What is answered where this came of reading these files, one after another, behind those that are done: `done` are the
  -- bytes of those, and `old` their names. A file is read only where those before it are texts. The first that was not
  -- read, or is no text, answers; else the question does, by the names of all.
  abbrev pub DecidesBehind : Q → List Text → List (List ℕ) → List Text → List Read → List Text → Answer V F → Type 0
  DecidesBehind question [] done old [] names answer = (names ≡ old) × rules.comes question done old answer
  DecidesBehind question (file ∷ files) done old (Err error ∷ given) names answer =
      (given ≡ []) × (answer ≡ Err (file_refusal (length done) (read_fault error)))
  DecidesBehind question (file ∷ files) done old (Ok bytes ∷ given) names answer =
      ((given ≡ []) × Stops question (length done) old bytes answer)
      ⊎ ((new : List Text) × rules.is_text question (length done) old bytes new
      × DecidesBehind question files (done ++ bytes ∷ []) new given names answer)
  DecidesBehind question _ done old _ names answer = ⊥

  abbrev pub Decides : Q → List Text → List Read → List Text → Answer V F → Type 0
  Decides question files given names answer = DecidesBehind question files [] [] given names answer

  -- what is due to `out`, by these names
  abbrev pub out_text : Q → List Text → Answer V F → List ℕ
  out_text question names (Ok verdict) = rules.text question names verdict
  out_text question names (Err refusal) = []

  -- what is due to `err`, where the command has files of these names
  abbrev pub error_line : List Text → Answer V F → List ℕ
  error_line files (Ok verdict) = []
  error_line files (Err refusal) = refusal_line rules.own_line files refusal

  -- the exit status
  abbrev pub status_of : Answer V F → ℕ
  status_of (Ok verdict) = rules.status verdict
  status_of (Err refusal) = refusal_status rules.own_status refusal

  -- How a command comes to its answer: by what reads of its files gave, one after another.
  pub record Follows {S : Type 0} (g : Ghosts S) (old new : S) (question : Q) (files names : List Text) (answer : Answer V F) : Type 0 where
    pub given : List Read
    pub read : ReadsFiles g old new files given
    pub decided : Decides question files given names answer

  -- How a run comes to its answer and its text: the words are no command, or memory ran out over them, and no file is
  -- touched; or they are one.
  pub data Comes {S : Type 0} (g : Ghosts S) (words : List Text) (old new : S) : Answer V F → List ℕ → Type 0 where
    unworded : HasNoCommand words → old ≡ new → Comes g words old new (Err Words) []
    short : old ≡ new → Comes g words old new (Err Memory) []
    worded : (question : Q) (files names : List Text) (answer : Answer V F) → rules.asks words question files
        → Follows g old new question files names answer
        → Comes g words old new answer (out_text question names answer)

  -- The names of the files that the words name: those of their command, or none; where memory ran out over the words no
  -- line needs them.
  pub data Names (words : List Text) : Answer V F → List Text → Type 0 where
    of_command : (question : Q) (files : List Text) (answer : Answer V F) → rules.asks words question files → Names words answer files
    of_none : (answer : Answer V F) → HasNoCommand words → Names words answer []
    of_memory : Names words (Err Memory) []

-- What is answered once the text of the answer that was due was written: that answer. Where a put failed it is `Write`, and
-- where memory ran out no put was made.
abbrev pub IsWritten : {O V F : Type 0} → sink.Ghosts O → O → O → Answer V F → List ℕ → Answer V F → Type 0
IsWritten g old new due text answer =
    ((answer ≡ due) × GivesWhole g old new text)
    ⊎ ((answer ≡ Err Write) × (0 < length text) × FailsToGive g old new text)
    ⊎ ((answer ≡ Err Memory) × (old ≡ new))
