-- Runs whose words are no command, and what is received of one line.
use Rattle.std.proofs.Common.{◌≡◌, ◌⊎◌, ℕ, List, [], ◌∷◌, ◌++◌, Err, inl, inr, refl, ap, sym, subst, ◌∙◌}
use Rattle.hy_base.specs.declared.shelf.Shelf.{Ghosts as ShelfGhosts}
use Rattle.hy_base.specs.declared.sink.Sink.{Ghosts}
use Rattle.hy_files.specs.ErrorLines.{Received}
use Rattle.hy_run.specs.Names.{Text}
use Rattle.hy_run.specs.Runs.{IsWritten}
use Rattle.hy_run.specs.declared.refusal.Refusal.{Refusal}
use Rattle.hy_run.specs.declared.refusal.Refusal.TheVariants.{Words, Memory}
use Rattle.rv_watch.specs.Courses.{WatchAnswer}
use Rattle.rv_watch.specs.Runs.{Comes, HasNoCommand, Names, ReceivesAll, error_line, of_memory, of_none, short, unworded}
use Rattle.rv_watch.specs.declared.verdict.WatchFault.{WatchFault}
use Rattle.hy_run.proofs.Silence.{gives_nothing}

-- The words are no command, or memory ran out over them.
abbrev pub HasNone : List Text → Refusal WatchFault → Type 0
HasNone words refusal = ((refusal ≡ Words) × HasNoCommand words) ⊎ (refusal ≡ Memory)

-- what a run says of its answer, its text and what it writes to `err`
abbrev pub IsRight : {S O E : Type 0} → ShelfGhosts S → Ghosts O → Ghosts E → List Text → S → S → O → O → E → E → WatchAnswer → Type 0
IsRight shelves outs errs words old new out out' err err' answer =
    (due : WatchAnswer) × (text : List ℕ) × (said : List (List ℕ)) × (names : List (List ℕ)) × Comes shelves words old new due text said
    × IsWritten outs out out' due text answer × Names words answer names × ReceivesAll errs err err' (said ++ error_line names answer ∷ [])

-- Nothing is read then, and nothing is given to `out`.
pub unworded-right : {S O E : Type 0} (shelves : ShelfGhosts S) (outs : Ghosts O) (errs : Ghosts E) (words : List Text) (shelf : S) (out : O)
    (err err' : E) (refusal : Refusal WatchFault) (answer : WatchAnswer) → HasNone words refusal → answer ≡ Err refusal
    → Received errs err err' (error_line [] (Err refusal))
    → IsRight shelves outs errs words shelf shelf out out err err' answer
unworded-right shelves outs errs words shelf out err err' refusal answer (inl (is, none)) e got =
    let same : answer ≡ Err Words = e ∙ ap Err is in
    let P : WatchAnswer → Type 0 = λ a. Received errs err err' (error_line [] a) in
    (Err Words, [], [], [], unworded none refl, inl (same, gives_nothing outs out), of_none answer none, (err', subst P (sym e) got, refl))
unworded-right shelves outs errs words shelf out err err' refusal answer (inr is) e got =
    let same : answer ≡ Err Memory = e ∙ ap Err is in
    let P : WatchAnswer → Type 0 = λ a. Received errs err err' (error_line [] a) in
    let N : WatchAnswer → Type 0 = λ a. Names words a [] in
    (Err Memory, [], [], [], short refl, inl (same, gives_nothing outs out), subst N (sym same) of_memory, (err', subst P (sym e) got, refl))
