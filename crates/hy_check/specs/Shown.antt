-- What a verdict shows of the files that a run has read.
use Rattle.std.specs.Prelude.{ℕ, List, Ok, map}
use Rattle.hy_base.specs.Shelf.{ReadsFiles}
use Rattle.hy_base.specs.declared.shelf.Shelf.{Ghosts}
use Rattle.cert_text.specs.declared.question.Question.{Question}
use Rattle.cert_text.specs.Certificates.{Certificate}
use Rattle.cert_text.specs.Texts.{IsText}
use Rattle.claim_check.specs.Claims.{Claim, question_of}
use Rattle.claim_check.specs.Good.{IsGood}
use Rattle.claim_check.specs.Truths.{IsSaid}
use Rattle.hy_run.specs.Names.{Text}
use Rattle.hy_check.specs.Contents.{MakeClaim}
use Rattle.hy_check.specs.Texts.{last_of}
use Rattle.hy_check.specs.Words.{IsCommand}

-- The words are a command whose files were read to their ends, and make this claim with these names; the last one is the
-- text of this certificate.
pub record HasRead {S : Type 0} (g : Ghosts S) (words : List Text) (old new : S) (table : List Text) (claim : Claim) (c : Certificate) : Type 0 where
  pub question : Question
  pub names : List Text
  pub command : IsCommand words question names
  pub files : List (List ℕ)
  pub read : ReadsFiles g old new names (map Ok files)
  pub makes : MakeClaim question files claim table
  pub text : IsText (question_of claim) (last_of files) c

-- A good certificate was read, and what it says of the claim is so.
abbrev pub IsAccepted : {S : Type 0} → Ghosts S → List Text → S → S → Type 0
IsAccepted g words old new =
    (table : List Text) × (claim : Claim) × (c : Certificate)
    × HasRead g words old new table claim c × IsGood table claim c × IsSaid table claim c

-- A certificate was read that is not good.
abbrev pub IsRejected : {S : Type 0} → Ghosts S → List Text → S → S → Type 0
IsRejected g words old new =
    (table : List Text) × (claim : Claim) × (c : Certificate)
    × HasRead g words old new table claim c × (¬ IsGood table claim c)
