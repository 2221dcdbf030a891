-- The rules of `hycheck`.
use Rattle.std.specs.Prelude.{◌≡◌, ◌⊎◌, ℕ, List, Err}
use Rattle.hy_base.specs.declared.limit.Kind.{Kind}
use Rattle.hy_base.specs.declared.limit.Kind.TheVariants.{CnfVariables, CnfLiterals}
use Rattle.cert_text.specs.declared.question.Question.{Question}
use Rattle.claim_check.specs.Claims.{Claim}
use Rattle.hy_run.specs.Names.{Text}
use Rattle.hy_run.specs.Rules.{Rules}
use Rattle.hy_run.specs.Runs.{Answer}
use Rattle.hy_run.specs.declared.refusal.Refusal.TheVariants.{Limit}
use Rattle.hy_check.specs.Contents.{IsRefusedAs, IsTextOf, MakeClaim, content_of}
use Rattle.hy_check.specs.Judging.{IsJudged}
use Rattle.hy_check.specs.Texts.{last_of, own_line, own_status, status_of, text_of}
use Rattle.hy_check.specs.Words.{IsCommand}
use Rattle.hy_check.specs.declared.answer.CertFault.{CertFault}
use Rattle.hy_check.specs.declared.answer.CheckVerdict.{CheckVerdict}

-- All files but the last make a claim, and this is answered to the bytes of the last.
abbrev pub ComesTo : Question → List (List ℕ) → List Text → Answer CheckVerdict CertFault → Type 0
ComesTo question files names answer =
    (claim : Claim) × MakeClaim question files claim names × IsJudged names claim (last_of files) answer

-- The limit is one of queries.
abbrev pub IsQueryLimit : Kind → Type 0
IsQueryLimit CnfVariables = Unit {0}
IsQueryLimit CnfLiterals = Unit {0}
IsQueryLimit _ = ⊥

-- A query is past a limit.
abbrev pub HasLargeQuery : Answer CheckVerdict CertFault → Type 0
HasLargeQuery (Err (Limit kind limit)) = IsQueryLimit kind
HasLargeQuery _ = ⊥

-- Two answers are the same, but that a query may be past a limit for one of them.
abbrev pub Agree : Answer CheckVerdict CertFault → Answer CheckVerdict CertFault → Type 0
Agree a b = (a ≡ b) ⊎ HasLargeQuery a ⊎ HasLargeQuery b

abbrev pub check_rules : Rules Question CheckVerdict CertFault
check_rules = record {
  asks = IsCommand;
  is_text = λ question k. IsTextOf (content_of question k);
  is_refused = λ question k. IsRefusedAs (content_of question k);
  comes = ComesTo;
  text = λ question names. text_of;
  status = status_of;
  own_line = own_line;
  own_status = own_status;
  agrees = Agree;
}
