-- What a run writes, as evidence for a claim about its files, and what the checker says of it.
use Rattle.std.specs.Prelude.{◌≡◌, ◌⊎◌, ℕ, List, [], ◌∷◌, ◌++◌, Ok, Err, map}
use Rattle.hy_base.specs.Shelf.{ReadsFiles}
use Rattle.hy_base.specs.declared.shelf.Shelf.{Ghosts}
use Rattle.cert_text.specs.declared.question.Question.{Question}
use Rattle.claim_check.specs.Claims.{Claim}
use Rattle.hy_run.specs.Names.{Text}
use Rattle.hy_run.specs.Reads.{HaveBytes}
use Rattle.hy_run.specs.Runs.{Answer, Comes}
use Rattle.hy_run.specs.declared.refusal.Refusal.TheVariants.{Memory}
use Rattle.hy_check.specs.Contents.{MakeClaim}
use Rattle.hy_check.specs.Rules.{check_rules}
use Rattle.hy_check.specs.Words.{IsCommand}
use Rattle.hy_check.specs.declared.answer.CertFault.{CertFault}
use Rattle.hy_check.specs.declared.answer.CheckVerdict.{CheckVerdict}
use Rattle.hy_check.specs.declared.answer.CheckVerdict.TheVariants.{Accepted}
use Rattle.cert_laws.specs.GoodTexts.{IsGoodText}

-- The files of these names were read to their ends, they make a claim for this question of the checker, and the text is good
-- evidence for it.
pub record IsWrittenGood {S : Type 0} (g : Ghosts S) (old new : S) (files : List Text) (asked : Question) (text : List ℕ) : Type 0 where
  pub contents : List (List ℕ)
  pub read : ReadsFiles g old new files (map Ok contents)
  pub names : List Text
  pub claim : Claim
  pub makes : MakeClaim asked (contents ++ text ∷ []) claim names
  pub good : IsGoodText names claim text

-- Each run of the checker accepts the files, if memory suffices, whose words ask the question and whose shelf is sound, tells
-- its files and has these, whatever their names.
abbrev pub Accepts : {R : Type 0} → Ghosts R → Question → List (List ℕ) → Type 0
Accepts {R} g asked files =
    (words names : List Text) (old new : R) (answer : Answer CheckVerdict CertFault) (said : List ℕ) → IsCommand words asked names
    → g.tells old → g.is_sound old → HaveBytes (g.file old) names files → Comes check_rules g words old new answer said
    → (answer ≡ Ok Accepted) ⊎ (answer ≡ Err Memory)

-- The files of these names were read to their ends, and the checker accepts the text with them.
pub record IsWrittenAccepted {S R : Type 0} (g : Ghosts S) (h : Ghosts R) (old new : S) (files : List Text) (asked : Question) (text : List ℕ) : Type 0 where
  pub contents : List (List ℕ)
  pub read : ReadsFiles g old new files (map Ok contents)
  pub accepts : Accepts h asked (contents ++ text ∷ [])
