use Rattle.std.proofs.Common.{◌≡◌, ◌⊎◌, ℕ, List, Err, inl, inr, ap, ◌∙◌}
use Rattle.cert_text.specs.declared.question.Question.{Question}
use Rattle.claim_check.specs.Claims.{Claim, question_of}
use Rattle.claim_check.specs.Verdicts.{IsVerdict}
use Rattle.claim_check.specs.declared.error.CertError.{CertError}
use Rattle.claim_check.specs.declared.error.CertError.TheVariants as errors
use Rattle.hy_run.specs.Names.{Text}
use Rattle.hy_run.specs.declared.refusal.Refusal.{Refusal}
use Rattle.hy_run.specs.declared.refusal.Refusal.TheVariants.{Memory}
use Rattle.hy_check.specs.Judging.{IsJudged, judging_refusal}
use Rattle.hy_check.specs.declared.answer.CertFault.{CertFault}
use Rattle.hy_check.proofs.judging.judge.Goals as goal

-- Bytes that were not judged are refused, or memory ran out.
was_refused : (names : List Text) (claim : Claim) (bytes : List ℕ) (asked : Question) (error : CertError) (refusal : Refusal CertFault)
    → asked ≡ question_of claim → IsVerdict names claim bytes (Err error)
    → (refusal ≡ judging_refusal asked names error) ⊎ (refusal ≡ Memory) → IsJudged names claim bytes (Err refusal)
was_refused names claim bytes asked error refusal same is (inl e) = record {
  result = Err error;
  is = is;
  answered = ap Err (e ∙ ap (λ q. judging_refusal q names error) same);
}
was_refused names claim bytes asked error refusal same is (inr e) = record {
  result = Err errors.Memory;
  is = tt;
  answered = ap Err e;
}

pub returns-in-Err : goal.returns-in-Err
returns-in-Err c = was_refused _ _ _ _ c.in-Err.error _ c.question.ensures c.in-Err.ensures c.judging_refusal.ensures
