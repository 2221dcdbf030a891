-- What is answered where nothing stands before the judgement.
use Rattle.std.proofs.Common.{◌≡◌, ◌⊎◌, inl, inr, ℕ, Bool, true, false, List, Result, Ok, Err, refl, sym, subst, true≢false}
use Rattle.hy_formula.specs.Formulas.{Plain}
use Rattle.aig_net.specs.Nets.{Net}
use Rattle.cert_text.specs.declared.question.Question.{Question}
use Rattle.cert_text.specs.Certificates.{Certificate}
use Rattle.cert_text.specs.Texts.{IsFaultAt, IsText}
use Rattle.circuit_files.specs.Circuits.{IsCircuit}
use Rattle.claim_check.proofs.OneVerdict.{class-taken, name-named}
use Rattle.claim_check.specs.Claims.{Claim, question_of}
use Rattle.claim_check.specs.Good.{IsGood}
use Rattle.claim_check.specs.Verdicts.{AreNamed, AreTaken, IsVerdict, PassesLimit}
use Rattle.claim_check.specs.declared.error.CertError.{CertError}
use Rattle.claim_check.specs.declared.error.CertError.TheVariants as errors
use Rattle.hy_files.specs.Contents as contents
use Rattle.hy_run.specs.Names.{Text}
use Rattle.hy_run.specs.Runs.{Answer}
use Rattle.hy_run.specs.declared.refusal.Refusal.TheVariants.{Memory}
use Rattle.hy_check.specs.Judging.{IsJudged, answer_to}
use Rattle.hy_check.specs.Ready.{IsDue, IsReady}
use Rattle.hy_check.specs.Rules.{ComesTo}
use Rattle.hy_check.specs.Texts.{last_of}
use Rattle.hy_check.specs.declared.answer.CertFault.{CertFault}
use Rattle.hy_check.specs.declared.answer.CheckVerdict.{CheckVerdict}
use Rattle.hy_check.proofs.Claims.{one_claim}

module _ (one-text : (question : Question) (bytes : List ℕ) (c d : Certificate) → IsText question bytes c → IsText question bytes d → c ≡ d)
    (no-fault : (question : Question) (bytes : List ℕ) (k : ℕ) (c : Certificate) → IsFaultAt question bytes k → ¬ IsText question bytes c) where
  module _ (names : List Text) (claim : Claim) (bytes : List ℕ) (c : Certificate) (text : IsText (question_of claim) bytes c)
      (taken : AreTaken claim) (named : AreNamed names claim) where
    -- The certificate of the verdict is the one that the bytes spell.
    of_text : (P : Certificate → Type 0) (d : Certificate) → IsText (question_of claim) bytes d → P d → P c
    of_text P d also is = subst P (one-text (question_of claim) bytes d c also text) is

    verdict_due : (result : Result Bool CertError) → IsVerdict names claim bytes result → IsDue names claim c (answer_to (question_of claim) names result)
    verdict_due (Ok true) (d, also, (counted, found, is)) = of_text (λ x. IsGood names claim x) d also (is.0 refl)
    verdict_due (Ok false) (d, also, (counted, found, is)) =
        of_text (λ x. ¬ IsGood names claim x) d also (λ good. true≢false (sym (is.1 good)))
    verdict_due (Err (errors.Prefix second class)) (d, also, is) = absurd (class-taken claim second class taken is)
    verdict_due (Err (errors.Limit past)) (d, also, is) = of_text (λ x. PassesLimit names claim x past) d also is
    verdict_due (Err (errors.Name name twice)) (d, also, (counted, bad)) = absurd (name-named names claim name twice bad named)
    verdict_due (Err (errors.Text line)) is = absurd (no-fault (question_of claim) bytes line c is text)
    verdict_due (Err errors.Memory) is = tt

    judged_due : (answer : Answer CheckVerdict CertFault) → IsJudged names claim bytes answer → IsDue names claim c answer
    judged_due answer is =
        let P : Answer CheckVerdict CertFault → Type 0 = λ a. IsDue names claim c a in
        subst P (sym is.answered) (verdict_due is.result is.is)

  pub comes_due : ((many : Bool) (quantifiers : ℕ) (old : List Text) (bytes : List ℕ) (formulas others : List Plain) (new later : List Text)
      → contents.IsText many quantifiers old bytes formulas new → contents.IsText many quantifiers old bytes others later
      → (formulas ≡ others) × (new ≡ later))
      → ((bytes : List ℕ) (net other : Net) → IsCircuit bytes net → IsCircuit bytes other → net ≡ other)
      → (question : Question) (files : List (List ℕ)) (names : List Text) (claim : Claim) (c : Certificate)
      (answer : Answer CheckVerdict CertFault) → IsReady question files names claim c → ComesTo question files names answer
      → IsDue names claim c answer
  comes_due once one-net question files names claim c answer ready (other, makes, is) =
      let P : Claim → Type 0 = λ x. IsJudged names x (last_of files) answer in
      let same = one_claim once one-net question files other claim names makes ready.makes in
      judged_due names claim (last_of files) c ready.text ready.taken ready.named answer (subst P same is)

-- Want of memory needs no cause.
pub due_or_short : (names : List Text) (claim : Claim) (c : Certificate) (answer : Answer CheckVerdict CertFault) (Comes : Type 0)
    → (Comes → IsDue names claim c answer) → (answer ≡ Err Memory) ⊎ Comes → IsDue names claim c answer
due_or_short names claim c answer Comes due (inl short) =
    let P : Answer CheckVerdict CertFault → Type 0 = λ a. IsDue names claim c a in subst P (sym short) tt
due_or_short names claim c answer Comes due (inr comes) = due comes
