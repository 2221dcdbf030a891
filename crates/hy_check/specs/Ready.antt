-- When nothing stands before the judgement of a certificate, and what is answered then.
use Rattle.std.specs.Prelude.{ℕ, List, Ok, Err}
use Rattle.cert_text.specs.declared.question.Question.{Question}
use Rattle.cert_text.specs.Certificates.{Certificate}
use Rattle.cert_text.specs.Texts.{IsText}
use Rattle.claim_check.specs.Claims.{Claim, question_of}
use Rattle.claim_check.specs.Good.{IsGood}
use Rattle.claim_check.specs.Verdicts.{AreNamed, AreTaken, PassesLimit}
use Rattle.hy_run.specs.Names.{Text}
use Rattle.hy_run.specs.Runs.{Answer}
use Rattle.hy_run.specs.declared.refusal.Refusal.TheVariants.{Limit, Memory}
use Rattle.hy_check.specs.Contents.{MakeClaim}
use Rattle.hy_check.specs.Texts.{last_of}
use Rattle.hy_check.specs.declared.answer.CertFault.{CertFault}
use Rattle.hy_check.specs.declared.answer.CheckVerdict.{CheckVerdict}
use Rattle.hy_check.specs.declared.answer.CheckVerdict.TheVariants.{Accepted, Rejected}

-- The files make the claim, the bytes of the last one are a certificate text for it, the classes of its formulas are taken,
-- and its names are found.
pub record IsReady (question : Question) (files : List (List ℕ)) (names : List Text) (claim : Claim) (c : Certificate) : Type 0 where
  pub makes : MakeClaim question files claim names
  pub text : IsText (question_of claim) (last_of files) c
  pub taken : AreTaken claim
  pub named : AreNamed names claim

-- What is answered to the certificate of a claim: whether it is good, or a limit that it passes; want of memory needs no
-- cause.
abbrev pub IsDue : List Text → Claim → Certificate → Answer CheckVerdict CertFault → Type 0
IsDue names claim c (Ok Accepted) = IsGood names claim c
IsDue names claim c (Ok Rejected) = ¬ IsGood names claim c
IsDue names claim c (Err (Limit kind limit)) = PassesLimit names claim c (record { kind = kind; limit = limit })
IsDue names claim c (Err Memory) = Unit {0}
IsDue names claim c _ = ⊥
