-- What is answered to the bytes of a certificate.
use Rattle.std.specs.Prelude.{◌≡◌, ℕ, Bool, cond, true, false, List, Result, Ok, Err}
use Rattle.net_names.specs.Names.{name_at}
use Rattle.cert_text.specs.declared.question.Question.{Question}
use Rattle.cert_text.specs.declared.question.Question.TheVariants.{Formula, Implication, Equivalence, Circuit}
use Rattle.claim_check.specs.Claims.{Claim, question_of}
use Rattle.claim_check.specs.Verdicts.{IsVerdict}
use Rattle.claim_check.specs.declared.error.CertError.{CertError}
use Rattle.claim_check.specs.declared.error.CertError.TheVariants as errors
use Rattle.hy_run.specs.Names.{Text}
use Rattle.hy_run.specs.Runs.{Answer}
use Rattle.hy_run.specs.declared.refusal.Refusal.{Refusal}
use Rattle.hy_run.specs.declared.refusal.Refusal.TheVariants.{Prefix, Limit, Own, Memory}
use Rattle.hy_check.specs.declared.answer.CertFault.{CertFault}
use Rattle.hy_check.specs.declared.answer.CertFault.TheVariants.{Name, Certificate}
use Rattle.hy_check.specs.declared.answer.CheckVerdict.{CheckVerdict}
use Rattle.hy_check.specs.declared.answer.CheckVerdict.TheVariants.{Accepted, Rejected}

-- the file of a formula: of the second one of two, or of the other
abbrev pub formula_file : Question → Bool → ℕ
formula_file Formula second = cond second 1 0
formula_file Implication second = cond second 1 0
formula_file Equivalence second = cond second 1 0
formula_file Circuit second = 1

-- the refusal of a command whose certificate was not judged, by the names of its formulas
abbrev pub judging_refusal : Question → List Text → CertError → Refusal CertFault
judging_refusal question names (errors.Prefix second class) = Prefix (formula_file question second) class
judging_refusal question names (errors.Limit past) = Limit past.kind past.limit
judging_refusal question names (errors.Name name twice) = Own (Name (name_at names name) twice)
judging_refusal question names (errors.Text line) = Own (Certificate line)
judging_refusal question names errors.Memory = Memory

-- the answer of a command to whose certificate this came
abbrev pub answer_to : Question → List Text → Result Bool CertError → Answer CheckVerdict CertFault
answer_to question names (Ok true) = Ok Accepted
answer_to question names (Ok false) = Ok Rejected
answer_to question names (Err error) = Err (judging_refusal question names error)

-- The bytes have a verdict for the claim, and so are answered.
pub record IsJudged (names : List Text) (claim : Claim) (bytes : List ℕ) (answer : Answer CheckVerdict CertFault) : Type 0 where
  pub result : Result Bool CertError
  pub is : IsVerdict names claim bytes result
  pub answered : answer ≡ answer_to (question_of claim) names result
