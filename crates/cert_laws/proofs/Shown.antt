-- What is printed as evidence: a good certificate, what is read of its lassos, and that none of its queries is too large.
use Rattle.std.proofs.Common.{◌≡◌, ℕ, List}
use Rattle.hy_base.specs.declared.limit.Limit.{Limit as Past}
use Rattle.hy_bits.specs.Letter.{Letter}
use Rattle.hy_formula.specs.Lassos.{Lasso}
use Rattle.cert_text.specs.Certificates.{Certificate}
use Rattle.cert_text.specs.Texts.{IsText}
use Rattle.claim_check.specs.Claims.{Claim, question_of}
use Rattle.claim_check.specs.Good.{IsGood, lassos_over}
use Rattle.claim_check.specs.Verdicts.{RefusesQuery, spelled_in}
use Rattle.cert_laws.specs.GoodTexts.{IsGoodText}

-- The text spells a good certificate, these are its lassos, and each of its queries is within the limits.
pub record IsShown (names : List (List ℕ)) (claim : Claim) (lassos : List (Lasso Letter)) (text : List ℕ) : Type 0 where
  pub certificate : Certificate
  pub spelled : IsText (question_of claim) text certificate
  pub good : IsGood names claim certificate
  pub shown : lassos_over names (spelled_in certificate) ≡ lassos
  pub unrefused : (limit : Past) → ¬ RefusesQuery names claim certificate limit

pub good-text : (names : List (List ℕ)) (claim : Claim) (lassos : List (Lasso Letter)) (text : List ℕ) → IsShown names claim lassos text
    → IsGoodText names claim text
good-text names claim lassos text is = record { certificate = is.certificate; spelled = is.spelled; good = is.good }
