-- What a certificate is about.
use Rattle.hy_formula.specs.Formulas.{Plain, plain_formula}
use Rattle.aig_net.specs.Nets.{Net}
use Rattle.cert_text.specs.declared.question.Question.{Question}
use Rattle.cert_text.specs.declared.question.Question.TheVariants.{Formula, Implication, Equivalence, Circuit}
use Rattle.claim_check.specs.declared.claim.Claim.{Claim as Kept}
use Rattle.claim_check.specs.declared.claim.Claim.TheVariants.{Ea, Implies, Equivalent, Mc}

pub data Claim : Type 0 where
  -- whether a formula is satisfiable
  formula : Plain → Claim
  -- whether the first formula implies the second
  implication : Plain → Plain → Claim
  -- whether each implies the other
  equivalence : Plain → Plain → Claim
  -- whether a circuit satisfies a formula
  circuit : Net → Plain → Claim

-- what was asked
abbrev pub question_of : Claim → Question
question_of (formula f) = Formula
question_of (implication f g) = Implication
question_of (equivalence f g) = Equivalence
question_of (circuit net f) = Circuit

-- a claim without where its parts lie in memory
abbrev pub claim_of : Kept → Claim
claim_of (Ea f) = formula (plain_formula f.now)
claim_of (Implies f g) = implication (plain_formula f.now) (plain_formula g.now)
claim_of (Equivalent f g) = equivalence (plain_formula f.now) (plain_formula g.now)
claim_of (Mc net f) = circuit net.now (plain_formula f.now)
