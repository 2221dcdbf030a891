-- The checker accepts evidence that is written.
use Rattle.std.proofs.Common.{◌≡◌, ◌⊎◌, inl, inr, ℕ, Bool, List, [], ◌∷◌, ◌++◌, Result, Ok, Err, refl, sym, subst}
use Rattle.hy_base.specs.declared.limit.Limit.{Limit as Past}
use Rattle.hy_base.specs.declared.shelf.Shelf.{Ghosts}
use Rattle.hy_bits.specs.Letter.{Letter}
use Rattle.hy_formula.specs.Lassos.{Lasso}
use Rattle.hy_lasso.specs.Joint.{IsJudged}
use Rattle.cert_text.specs.Certificates.{Certificate}
use Rattle.cert_text.specs.Texts.{IsText}
use Rattle.cert_text.specs.declared.question.Question.{Question}
use Rattle.claim_check.specs.Claims.{Claim, question_of}
use Rattle.claim_check.specs.Good.{IsGood}
use Rattle.claim_check.specs.Truths.{IsFree}
use Rattle.claim_check.specs.Verdicts.{IsVerdict, PassesLimit}
use Rattle.claim_check.specs.declared.error.CertError.{CertError}
use Rattle.hy_run.specs.Names.{Text}
use Rattle.hy_run.specs.Reads.{HaveBytes}
use Rattle.hy_run.specs.Runs.{Answer, Comes}
use Rattle.hy_run.specs.declared.refusal.Refusal.TheVariants.{Limit, Memory}
use Rattle.hy_check.specs.Ready.{IsDue, IsReady}
use Rattle.hy_check.specs.Rules.{check_rules}
use Rattle.hy_check.specs.Words.{IsCommand}
use Rattle.hy_check.specs.declared.answer.CertFault.{CertFault}
use Rattle.hy_check.specs.declared.answer.CheckVerdict.{CheckVerdict}
use Rattle.hy_check.specs.declared.answer.CheckVerdict.TheVariants.{Accepted, Rejected}
use Rattle.hy_check.proofs.Last.{last-appended}
use Rattle.cert_laws.specs.Written.{Accepts, IsWrittenAccepted}
use Rattle.cert_laws.proofs.Evidence.{IsEvidence, never-passed}
use Rattle.cert_laws.proofs.Questions.{MakesEvidence}
use Rattle.cert_laws.proofs.Written.{WritesEvidence}

-- A good certificate that passes no limit is accepted, or memory ran out.
accepted-due : (names : List Text) (claim : Claim) (c : Certificate) → IsGood names claim c → ((limit : Past) → ¬ PassesLimit names claim c limit)
    → (answer : Answer CheckVerdict CertFault) → IsDue names claim c answer → (answer ≡ Ok Accepted) ⊎ (answer ≡ Err Memory)
accepted-due names claim c good free (Ok Accepted) due = inl refl
accepted-due names claim c good free (Ok Rejected) due = absurd (due good)
accepted-due names claim c good free (Err (Limit kind limit)) due = absurd (free (record { kind = kind; limit = limit }) due)
accepted-due names claim c good free (Err Memory) due = inr refl
accepted-due names claim c good free _ due = absurd due

module _ (once : (names : List Text) (claim : Claim) (bytes : List ℕ) (a b : Result Bool CertError) → ¬ IsFree a → ¬ IsFree b
    → IsVerdict names claim bytes a → IsVerdict names claim bytes b → a ≡ b) {R : Type 0} (h : Ghosts R)
    (verdict : (words files : List Text) (question : Question) (contents : List (List ℕ)) (table : List Text) (claim : Claim) (c : Certificate)
    (old new : R) (answer : Answer CheckVerdict CertFault) (said : List ℕ) → IsCommand words question files → h.tells old → h.is_sound old
    → HaveBytes (h.file old) files contents → IsReady question contents table claim c → Comes check_rules h words old new answer said
    → IsDue table claim c answer)
    (asked : Question) (lassos : List (Lasso Letter)) (text : List ℕ) (judged : IsJudged lassos) where
  evidence-ready : (contents : List (List ℕ)) (names : List Text) (made : MakesEvidence asked contents names (λ claim. IsEvidence names claim lassos text) text)
      → IsReady asked (contents ++ text ∷ []) names made.claim made.is.shows.certificate
  evidence-ready contents names made =
      let P : List ℕ → Type 0 = λ b. IsText (question_of made.claim) b made.is.shows.certificate in
      record {
        makes = made.makes;
        text = subst P (sym (last-appended contents text)) made.is.shows.spelled;
        taken = made.is.taken;
        named = made.is.named;
      }

  accepts : (contents : List (List ℕ)) (names : List Text) → MakesEvidence asked contents names (λ claim. IsEvidence names claim lassos text) text
      → Accepts h asked (contents ++ text ∷ [])
  accepts contents names made words files old new answer said is tells sound have comes =
      accepted-due names made.claim made.is.shows.certificate made.is.shows.good
      (never-passed once names made.claim lassos text made.is judged) answer
      (verdict words files asked (contents ++ text ∷ []) names made.claim made.is.shows.certificate old new answer said is tells sound have
      (evidence-ready contents names made) comes)

  pub written-accepted : {S : Type 0} (g : Ghosts S) (old new : S) (files : List Text) → WritesEvidence g old new files asked lassos text
      → IsWrittenAccepted g h old new files asked text
  written-accepted g old new files is = record {
    contents = is.contents;
    read = is.read;
    accepts = accepts is.contents is.names is.made;
  }
