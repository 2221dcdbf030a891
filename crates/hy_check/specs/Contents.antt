-- What the files of a command are to be, and the claim that they make.
use Rattle.std.specs.Prelude.{◌≡◌, ℕ, zero, suc, List, [], ◌∷◌}
use Rattle.hy_formula.specs.Formulas.{Plain}
use Rattle.aig_net.specs.Nets.{Net}
use Rattle.cert_text.specs.declared.question.Question.{Question}
use Rattle.cert_text.specs.declared.question.Question.TheVariants.{Formula, Implication, Equivalence, Circuit}
use Rattle.circuit_files.specs.Circuits.{IsCircuit, IsNoCircuit}
use Rattle.claim_check.specs.Claims as claims
use Rattle.claim_check.specs.Claims.{Claim}
use Rattle.hy_files.specs.Contents.{IsFormula, IsNoFormula}
use Rattle.hy_files.specs.declared.fault.FileFault.{FileFault}
use Rattle.hy_run.specs.Names.{Text}

-- ---- files

-- What a file is to be: a formula of at most so many quantifiers, a circuit, or a certificate.
pub data Content : Type 0 where
  formula : ℕ → Content
  circuit : Content
  certificate : Content

-- what file k of a command is to be
abbrev pub content_of : Question → ℕ → Content
content_of Circuit zero = circuit
content_of Circuit (suc zero) = formula 4
content_of Formula (suc zero) = certificate
content_of _ zero = formula 8
content_of _ (suc zero) = formula 8
content_of _ (suc (suc k)) = certificate

-- The bytes are such a text, where `old` are the names of the files before, and `new` those then. Those of a certificate may
-- be any: where they go wrong is said with the claim.
abbrev pub IsTextOf : Content → List Text → List ℕ → List Text → Type 0
IsTextOf (formula quantifiers) old bytes new = (f : Plain) × IsFormula quantifiers old bytes f new
IsTextOf circuit old bytes new = ((net : Net) × IsCircuit bytes net) × (new ≡ old)
IsTextOf certificate old bytes new = new ≡ old

-- They are no such text, by this fault.
abbrev pub IsRefusedAs : Content → List Text → List ℕ → FileFault → Type 0
IsRefusedAs (formula quantifiers) old bytes fault = IsNoFormula quantifiers old bytes fault
IsRefusedAs circuit old bytes fault = IsNoCircuit bytes fault
IsRefusedAs certificate old bytes fault = ⊥

-- ---- claims

-- The bytes are two formulas, one after the other, with these names.
abbrev pub AreTwo : List ℕ → List ℕ → Plain → Plain → List Text → Type 0
AreTwo one two f g names = (known : List Text) × IsFormula 8 [] one f known × IsFormula 8 known two g names

-- The bytes of all files but the last make this claim, with these names.
abbrev pub MakeClaim : Question → List (List ℕ) → Claim → List Text → Type 0
MakeClaim Formula (one ∷ out ∷ []) (claims.formula f) names = IsFormula 8 [] one f names
MakeClaim Implication (one ∷ two ∷ out ∷ []) (claims.implication f g) names = AreTwo one two f g names
MakeClaim Equivalence (one ∷ two ∷ out ∷ []) (claims.equivalence f g) names = AreTwo one two f g names
MakeClaim Circuit (one ∷ two ∷ out ∷ []) (claims.circuit net f) names = IsCircuit one net × IsFormula 4 [] two f names
MakeClaim _ _ _ _ = ⊥
