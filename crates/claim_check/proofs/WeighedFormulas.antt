-- What is found of the evidence of a claim about formulas is whether the certificate is good.
use Rattle.std.proofs.Common.{◌≡◌, ◌≢◌, ℕ, zero, suc, ◌<◌, ◌↔◌, Bool, true, false, nat_eq, IsTrue, List, [], ◌∷◌, ◌++◌, length, Result, sym, ap, ◌∙◌, subst, arith, eqb-true, true≢false}
use Rattle.std.specs.Prelude.{codes}
use Rattle.hy_bits.specs.Letter.{Letter}
use Rattle.hy_formula.specs.Formulas.{Plain}
use Rattle.hy_formula.specs.Lassos.{Lasso}
use Rattle.hy_text.specs.Lines.{lines_of}
use Rattle.ea_reduce.specs.Plans.{PlainPlan}
use Rattle.cert_text.specs.declared.question.Question.TheVariants.{Formula, Implication, Equivalence}
use Rattle.cert_text.specs.Certificates.{Certificate, Refutation, SayRefutation, first, second, model, refuted, both, induction, runs}
use Rattle.cert_text.specs.Lines.{Line}
use Rattle.claim_check.specs.declared.error.CertError.{CertError}
use Rattle.claim_check.specs.Claims.{formula, implication, equivalence}
use Rattle.claim_check.specs.Good.{IsGood, IsModel, Refutes, Separates, plan_against, reduction}
use Rattle.claim_check.specs.Counting.{IsFound, IsWeighed}
use Rattle.claim_check.specs.Reading.{IsRead}
use Rattle.claim_check.specs.Verdicts.{RefusesEither, RefusesIn}

-- whether a list is empty
pub empty_so : (n : ℕ) (b : Bool) → b ≡ nat_eq n 0 → b ≡ true → n ≡ 0
empty_so n b is so = eqb-true n 0 (sym is ∙ so)

pub filled_so : (n : ℕ) (b : Bool) → b ≡ nat_eq n 0 → b ≡ false → 0 < n
filled_so zero b is not = absurd (true≢false (sym is ∙ not))
filled_so (suc n) b is not = omega arith

-- What is found of the text as a proof that nothing fulfils the plan.
abbrev pub Weighs : List ℕ → Result Bool CertError → PlainPlan → Type 0
Weighs evidence result plan =
    (proof : Refutation) (lines : List Line) → lines_of evidence ≡ lines ++ [] ∷ []
    → SayRefutation lines proof → IsFound (Refutes plan proof) (RefusesIn plan proof) result

-- the same of two proofs, one for each plan
abbrev pub WeighsBoth : List ℕ → Result Bool CertError → PlainPlan → PlainPlan → Type 0
WeighsBoth evidence result there back =
    (one two : Refutation) (front rest : List Line)
    → lines_of evidence ≡ (front ++ rest) ++ [] ∷ []
    → SayRefutation front one → SayRefutation rest two
    → IsFound (Refutes there one × Refutes back two) (RefusesEither there one back two) result

module _ (names : List (List ℕ)) (head : Line) (list : List (Lasso Letter)) (evidence : List ℕ)
    (result : Result Bool CertError) where
  pub formula_refuted : (f : Plain) (c : Certificate) → IsRead names Formula c head list evidence
      → length list ≡ 0 → Weighs evidence result (reduction f)
      → IsWeighed names (formula f) c result
  formula_refuted f (model first lassos) read none weighs =
      absurd (omega (arith, read.filled, none))
  formula_refuted f (model second lassos) read none weighs = absurd read.begun
  formula_refuted f (refuted proof) read none weighs =
      weighs proof read.lines read.ended read.shown
  formula_refuted f (both one two) read none weighs = absurd read.begun
  formula_refuted f (induction holds proof) read none weighs = absurd read.begun
  formula_refuted f (runs holds lassos tuple) read none weighs = absurd read.begun

  pub implication_refuted : (f g : Plain) (c : Certificate)
      → IsRead names Implication c head list evidence → length list ≡ 0
      → Weighs evidence result (plan_against f g) → IsWeighed names (implication f g) c result
  implication_refuted f g (model first lassos) read none weighs =
      absurd (omega (arith, read.filled, none))
  implication_refuted f g (model second lassos) read none weighs = absurd read.begun
  implication_refuted f g (refuted proof) read none weighs =
      weighs proof read.lines read.ended read.shown
  implication_refuted f g (both one two) read none weighs = absurd read.begun
  implication_refuted f g (induction holds proof) read none weighs = absurd read.begun
  implication_refuted f g (runs holds lassos tuple) read none weighs = absurd read.begun

  pub equivalence_refuted : (f g : Plain) (c : Certificate)
      → IsRead names Equivalence c head list evidence → length list ≡ 0
      → WeighsBoth evidence result (plan_against f g) (plan_against g f)
      → IsWeighed names (equivalence f g) c result
  equivalence_refuted f g (model side lassos) read none weighs =
      absurd (omega (arith, read.filled, none))
  equivalence_refuted f g (refuted proof) read none weighs = absurd read.begun
  equivalence_refuted f g (both one two) read none weighs =
      let (front, rest, e, a, b) = read.shown in
      let P : List Line → Type 0 = λ l. lines_of evidence ≡ l ++ [] ∷ [] in
      weighs one two front rest (subst P e read.ended) a b
  equivalence_refuted f g (induction holds proof) read none weighs = absurd read.begun
  equivalence_refuted f g (runs holds lassos tuple) read none weighs = absurd read.begun

module _ (names : List (List ℕ)) (head : Line) (list : List (Lasso Letter)) (evidence : List ℕ)
    (answer : Bool) where
  pub formula_modelled : (f : Plain) (c : Certificate) → IsRead names Formula c head list evidence
      → 0 < length list → IsTrue answer ↔ IsModel f list
      → IsTrue answer ↔ IsGood names (formula f) c
  formula_modelled f (model first lassos) read some is =
      let P : List (Lasso Letter) → Type 0 = λ l. IsTrue answer ↔ IsModel f l in
      subst P read.over is
  formula_modelled f (model second lassos) read some is = absurd read.begun
  formula_modelled f (refuted proof) read some is = absurd (omega (arith, read.filled, some))
  formula_modelled f (both one two) read some is = absurd read.begun
  formula_modelled f (induction holds proof) read some is = absurd read.begun
  formula_modelled f (runs holds lassos tuple) read some is = absurd read.begun

  pub implication_parted : (f g : Plain) (c : Certificate)
      → IsRead names Implication c head list evidence → 0 < length list
      → IsTrue answer ↔ Separates f g list → IsTrue answer ↔ IsGood names (implication f g) c
  implication_parted f g (model first lassos) read some is =
      let P : List (Lasso Letter) → Type 0 = λ l. IsTrue answer ↔ Separates f g l in
      subst P read.over is
  implication_parted f g (model second lassos) read some is = absurd read.begun
  implication_parted f g (refuted proof) read some is = absurd (omega (arith, read.filled, some))
  implication_parted f g (both one two) read some is = absurd read.begun
  implication_parted f g (induction holds proof) read some is = absurd read.begun
  implication_parted f g (runs holds lassos tuple) read some is = absurd read.begun

  pub first_parted : (f g : Plain) (c : Certificate)
      → IsRead names Equivalence c head list evidence → 0 < length list
      → head ≢ codes "not equivalent second" → IsTrue answer ↔ Separates f g list
      → IsTrue answer ↔ IsGood names (equivalence f g) c
  first_parted f g (model first lassos) read some other is =
      let P : List (Lasso Letter) → Type 0 = λ l. IsTrue answer ↔ Separates f g l in
      subst P read.over is
  first_parted f g (model second lassos) read some other is = absurd (other read.begun)
  first_parted f g (refuted proof) read some other is = absurd read.begun
  first_parted f g (both one two) read some other is = absurd (omega (arith, read.filled, some))
  first_parted f g (induction holds proof) read some other is = absurd read.begun
  first_parted f g (runs holds lassos tuple) read some other is = absurd read.begun

  pub second_parted : (f g : Plain) (c : Certificate)
      → IsRead names Equivalence c head list evidence → 0 < length list
      → head ≡ codes "not equivalent second" → IsTrue answer ↔ Separates g f list
      → IsTrue answer ↔ IsGood names (equivalence f g) c
  second_parted f g (model first lassos) read some same is =
      let clash : 20 ≡ 21 = ap length (sym read.begun ∙ same) in absurd (omega (arith, clash))
  second_parted f g (model second lassos) read some same is =
      let P : List (Lasso Letter) → Type 0 = λ l. IsTrue answer ↔ Separates g f l in
      subst P read.over is
  second_parted f g (refuted proof) read some same is = absurd read.begun
  second_parted f g (both one two) read some same is = absurd (omega (arith, read.filled, some))
  second_parted f g (induction holds proof) read some same is = absurd read.begun
  second_parted f g (runs holds lassos tuple) read some same is = absurd read.begun
