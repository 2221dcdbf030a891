-- How a run goes from file to file: for the proofs of tools.
use Rattle.std.proofs.Common.{ℕ, List, [], ◌∷◌, ◌++◌, length, Ok, Err, inl, inr, refl}
use Rattle.hy_base.specs.Shelf.{Read, ReadsFiles}
use Rattle.hy_base.specs.declared.shelf.Shelf.{Ghosts}
use Rattle.hy_files.specs.Steps.{Takes, Fails}
use Rattle.hy_files.specs.Steps as steps
use Rattle.hy_files.specs.declared.fault.FileFault.{FileFault}
use Rattle.hy_run.specs.Names.{Text}
use Rattle.hy_run.specs.Refusals.{file_refusal}
use Rattle.hy_run.specs.Rules.{Rules}
use Rattle.hy_run.specs.Runs.{Answer, DecidesBehind, Follows, refused, spent}

module _ {Q V F : Type 0} (rules : Rules Q V F) (question : Q) (files : List Text) {S : Type 0} (g : Ghosts S) (old : S) where
  -- The files before the rest were read and are texts: with what comes of the rest the run follows.
  abbrev pub Onward : S → List Text → List (List ℕ) → List Text → Type 0
  Onward mid rest done names =
      (new : S) (given : List Read) (later : List Text) (answer : Answer V F) → ReadsFiles g mid new rest given
      → DecidesBehind rules question rest done names given later answer → Follows rules g old new question files later answer

  -- before the first file
  pub begin : Onward old files [] []
  begin new given later answer read decided = record { given = given; read = read; decided = decided }

  module _ (mid : S) (file : Text) (rest : List Text) (done : List (List ℕ)) (names : List Text) (on : Onward mid (file ∷ rest) done names) where
    -- The next file is a text.
    pub pass : (next : S) (new : List Text) (is_text : List ℕ → Type 0) (taken : Takes g mid next file is_text)
        → rules.is_text question (length done) names taken.bytes new → Onward next rest (done ++ taken.bytes ∷ []) new
    pass next new is_text taken is =
        λ end given later answer reads decided. on end (Ok taken.bytes ∷ given) later answer (next, taken.read, reads) (inr (new, is, decided))

    -- The next file is not taken, and the run ends: whatever names the table then has.
    pub stop : (new : S) (any : List Text) (is_refused : List ℕ → FileFault → Type 0)
        → ((bytes : List ℕ) (fault : FileFault) → is_refused bytes fault → rules.is_refused question (length done) names bytes fault)
        → (fault : FileFault) → Fails g mid new file is_refused fault
        → Follows rules g old new question files any (Err (file_refusal (length done) fault))
    stop new any is_refused is _ (steps.unread error came) = on new (Err error ∷ []) any _ (new, came, refl) (refl, refl)
    stop new any is_refused is _ (steps.spent bytes came) = on new (Ok bytes ∷ []) any _ (new, came, refl) (inl (refl, spent))
    stop new any is_refused is _ (steps.refused bytes fault came refuses) =
        on new (Ok bytes ∷ []) any _ (new, came, refl) (inl (refl, refused fault (is bytes fault refuses)))

  -- All files are texts, and the question comes to this.
  pub finish : (new : S) (done : List (List ℕ)) (names : List Text) (answer : Answer V F) → Onward new [] done names
      → rules.comes question done names answer → Follows rules g old new question files names answer
  finish new done names answer on comes = on new [] names answer refl (refl, comes)
