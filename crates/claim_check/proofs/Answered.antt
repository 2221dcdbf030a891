-- The answer to each certificate that the bytes spell is the answer to the bytes.
use Rattle.std.proofs.Common.{ℕ, Bool, List, Result, Ok, Err}
use Rattle.cert_text.specs.Certificates.{Certificate}
use Rattle.cert_text.specs.Texts.{IsText}
use Rattle.claim_check.specs.declared.error.CertError.{CertError}
use Rattle.claim_check.specs.declared.error.CertError.TheVariants.{Prefix, Limit, Name, Text, Memory}
use Rattle.claim_check.specs.Claims.{Claim, question_of}
use Rattle.claim_check.specs.Verdicts.{IsJudgement, IsVerdict}

pub answered : (names : List (List ℕ)) (claim : Claim) (bytes : List ℕ)
    (result : Result Bool CertError)
    → ((c : Certificate) → IsText (question_of claim) bytes c → IsJudgement names claim c result)
    → (c : Certificate) → IsText (question_of claim) bytes c → IsVerdict names claim bytes result
answered names claim bytes (Ok good) judged c text = (c, text, judged c text)
answered names claim bytes (Err (Prefix which found)) judged c text = (c, text, judged c text)
answered names claim bytes (Err (Limit limit)) judged c text = (c, text, judged c text)
answered names claim bytes (Err (Name name twice)) judged c text = (c, text, judged c text)
answered names claim bytes (Err (Text line)) judged c text = absurd (judged c text)
answered names claim bytes (Err Memory) judged c text = tt
