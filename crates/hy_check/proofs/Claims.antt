-- The claim that files make: they are texts in turn, and make one.
use Rattle.std.proofs.Common.{◌≡◌, ℕ, Bool, false, List, [], ◌∷◌, refl, ap, subst}
use Rattle.hy_formula.specs.Formulas.{Plain}
use Rattle.aig_net.specs.Nets.{Net}
use Rattle.cert_text.specs.declared.question.Question.{Question}
use Rattle.cert_text.specs.declared.question.Question.TheVariants.{Formula, Implication, Equivalence, Circuit}
use Rattle.circuit_files.specs.Circuits.{IsCircuit}
use Rattle.claim_check.specs.Claims.{Claim, formula, implication, equivalence, circuit}
use Rattle.hy_files.specs.Contents.{IsFormula, IsText}
use Rattle.hy_run.specs.Laws.{AreTexts}
use Rattle.hy_run.specs.Names.{Text}
use Rattle.hy_check.specs.Contents.{AreTwo, MakeClaim}
use Rattle.hy_check.specs.Rules.{check_rules}

-- Files that make a claim are texts, one after another.
pub claim_texts : (question : Question) (files : List (List ℕ)) (claim : Claim) (names : List Text) → MakeClaim question files claim names
    → AreTexts check_rules question files names
claim_texts Formula (one ∷ out ∷ []) (formula f) names is = (names, (f, is), (names, refl, refl))
claim_texts Implication (one ∷ two ∷ out ∷ []) (implication f g) names (known, is, also) =
    (known, (f, is), (names, (g, also), (names, refl, refl)))
claim_texts Equivalence (one ∷ two ∷ out ∷ []) (equivalence f g) names (known, is, also) =
    (known, (f, is), (names, (g, also), (names, refl, refl)))
claim_texts Circuit (one ∷ two ∷ out ∷ []) (circuit net f) names (is, also) =
    ([], ((net, is), refl), (names, (f, also), (names, refl, refl)))
claim_texts _ _ _ names is = absurd is

-- ---- one claim

module _ (once : (many : Bool) (quantifiers : ℕ) (old : List Text) (bytes : List ℕ) (formulas others : List Plain) (new later : List Text)
    → IsText many quantifiers old bytes formulas new → IsText many quantifiers old bytes others later → (formulas ≡ others) × (new ≡ later))
    (one-net : (bytes : List ℕ) (net other : Net) → IsCircuit bytes net → IsCircuit bytes other → net ≡ other) where
  pub formula_once : (quantifiers : ℕ) (old : List Text) (bytes : List ℕ) (f g : Plain) (new later : List Text)
      → IsFormula quantifiers old bytes f new → IsFormula quantifiers old bytes g later → (f ≡ g) × (new ≡ later)
  formula_once quantifiers old bytes f g new later one two =
      let (formulas, names) = once false quantifiers old bytes (f ∷ []) (g ∷ []) new later one two in
      let same : f ≡ g = cc in
      (same, names)

  two_once : (one two : List ℕ) (f g h k : Plain) (names : List Text) → AreTwo one two f g names → AreTwo one two h k names
      → (f ≡ h) × (g ≡ k)
  two_once one two f g h k names (known, is, are) (table, also, too) =
      let (first, tables) = formula_once 8 [] one f h known table is also in
      let P : List Text → Type 0 = λ n. IsFormula 8 n two g names in
      (first, (formula_once 8 table two g k names names (subst P tables are) too).0)

  -- Files make one claim.
  pub one_claim : (question : Question) (files : List (List ℕ)) (a b : Claim) (names : List Text) → MakeClaim question files a names
      → MakeClaim question files b names → a ≡ b
  one_claim Formula (one ∷ out ∷ []) (formula f) (formula g) names is are = ap formula (formula_once 8 [] one f g names names is are).0
  one_claim Implication (one ∷ two ∷ out ∷ []) (implication f g) (implication h k) names is are =
      let (first, second) = two_once one two f g h k names is are in cc
  one_claim Equivalence (one ∷ two ∷ out ∷ []) (equivalence f g) (equivalence h k) names is are =
      let (first, second) = two_once one two f g h k names is are in cc
  one_claim Circuit (one ∷ two ∷ out ∷ []) (circuit net f) (circuit other g) names (is, of) (are, too) =
      let nets = one-net one net other is are in
      let formulas = (formula_once 4 [] two f g names names of too).0 in
      cc
  one_claim Formula (one ∷ out ∷ []) (formula f) _ names is are = absurd are
  one_claim Implication (one ∷ two ∷ out ∷ []) (implication f g) _ names is are = absurd are
  one_claim Equivalence (one ∷ two ∷ out ∷ []) (equivalence f g) _ names is are = absurd are
  one_claim Circuit (one ∷ two ∷ out ∷ []) (circuit net f) _ names is are = absurd are
  one_claim _ _ _ _ names is are = absurd is
