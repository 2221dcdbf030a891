-- When what is printed is a good certificate.
use Rattle.std.specs.Prelude.{ℕ, ◌<◌, ◌≤◌, IsTrue, List, length}
use Rattle.hy_base.specs.declared.reading.TheConstants.{BYTES_LIMIT}
use Rattle.hy_formula.specs.Formulas.{Plain}
use Rattle.hy_formula.specs.Names.{are_distinct}
use Rattle.hy_text.specs.Names.{AreNames}
use Rattle.hy_read.specs.Readings.{names_below}
use Rattle.cert_text.specs.Certificates.{Certificate}
use Rattle.cert_text.specs.Texts.{IsText}
use Rattle.claim_check.specs.Claims.{Claim, question_of}
use Rattle.claim_check.specs.Good.{IsGood}

-- ---- names

-- A reader may give these names: each is one, and no two of them are equal.
pub record IsTable (names : List (List ℕ)) : Type 0 where
  pub are : AreNames names
  pub distinct : IsTrue (are_distinct names)

-- Some quantifier stands in the formula, and each of its atoms has one of these names.
pub record IsFormulaOver (names : List (List ℕ)) (f : Plain) : Type 0 where
  pub some : 0 < length f.prefix
  pub named : IsTrue (names_below (length names) f.body)

-- ---- texts

-- The text is no longer than a file may be.
abbrev pub IsShort : List ℕ → Type 0
IsShort text = length text ≤ BYTES_LIMIT

-- The text spells a certificate for what the claim asks, and that one is good.
pub record IsGoodText (names : List (List ℕ)) (claim : Claim) (text : List ℕ) : Type 0 where
  pub certificate : Certificate
  pub spelled : IsText (question_of claim) text certificate
  pub good : IsGood names claim certificate
