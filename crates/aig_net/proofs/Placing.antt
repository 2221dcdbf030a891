-- A part that is placed in a net goes along with it.
use Rattle.std.proofs.Common.{◌≡◌, ℕ, zero, suc, ◌-◌, ◌+◌, ◌*◌, ◌/◌, ◌<◌, ◌&&◌, Bool, IsTrue, List, inl, inr, refl, sym, ap, ◌∙◌, subst, arith}
use Rattle.std.proofs.lemmas.Bool.{cases_lt}
use Rattle.aig_net.specs.declared.parts.And.{And}
use Rattle.aig_net.specs.declared.parts.Reset.{Reset}
use Rattle.aig_net.specs.Nets.{Net, Valuation, AllTrue, Below, IsNet, IsRight, IsStart, IsStep, ResetTo, and_at, and_value, first_and, latch_variable, literal_at, literal_value, reset_at, under, variables}
use Rattle.aig_net.specs.Executions.{IsExecution, IsFair, Recurs, Word}
use Rattle.aig_net.proofs.Likeness.{start-alike, true-alike}
use Rattle.aig_net.proofs.Literals.{below-even, below-under, value-even, value-same, value-under}
use Rattle.aig_net.proofs.Wiring.{and-of-value}
use Rattle.aig_net.specs.Placed.{AreAmong, IsGiven, IsPlaced, and_under, through, word_through}
use Rattle.aig_net.specs.Running.{AreGivenAlike, IsRunOn, Obeys}
use Rattle.aig_net.proofs.Running.{one-run}

and-through : (f : ℕ → ℕ) (v : Valuation) (a : And) →
    and_value v (and_under f a) ≡ and_value (through f v) a
and-through f v a =
    and-of-value v (under f a.left) (under f a.right)
    ∙ ap (λ b. b && literal_value v (under f a.right)) (value-under v f a.left)
    ∙ ap (λ b. literal_value (through f v) a.left && b) (value-under v f a.right)

pub of-execution : (net : Net) (word : Word) → IsExecution net word → Obeys net word
of-execution net word is = record { right = is.run.right; goes = is.run.goes }

module _ (part whole : Net) (f : ℕ → ℕ) (placed : IsPlaced part whole f) where
  right-through : (v : Valuation) → IsRight whole v → IsRight part (through f v)
  right-through v right = record {
    constant = ap (literal_value v) placed.constant ∙ value-even v 0 ∙ right.constant;
    gates = λ j lt.
        let (k, is) = placed.ands j lt in
        ap (literal_value v) is.stands ∙ value-even v (first_and whole + k)
        ∙ right.gates k is.below ∙ ap (and_value v) is.made
        ∙ and-through f v (and_at part.ands j);
  }

  step-through : (v w : Valuation) → IsStep whole v w → IsStep part (through f v) (through f w)
  step-through v w goes j lt =
      let (k, is) = placed.latches j lt in
      ap (literal_value w) is.stands ∙ value-even w (latch_variable whole k)
      ∙ goes k is.below ∙ ap (literal_value v) is.next
      ∙ value-under v f (literal_at part.latches j)

  pub start-through : (v : Valuation) → IsStart whole v → IsStart part (through f v)
  start-through v starts j lt =
      let (k, is) = placed.latches j lt in
      let P : Bool → Type 0 = ResetTo (reset_at part.resets j) in
      let Q : Reset → Type 0 = λ r. ResetTo r (v (latch_variable whole k)) in
      subst P (sym (value-even v (latch_variable whole k)) ∙ ap (literal_value v) (sym is.stands))
      (subst Q is.reset (starts k is.below))

  pub obeys-through : (word : Word) → Obeys whole word → Obeys part (word_through f word)
  obeys-through word obeys = record {
    right = λ i. right-through (word i) (obeys.right i);
    goes = λ i. step-through (word i) (word (suc i)) (obeys.goes i);
  }

  -- ---- constraints and fairness

  among-true : (literals others : List ℕ) (v : Valuation) → AreAmong f literals others →
      AllTrue others v → AllTrue literals (through f v)
  among-true literals others v among all j lt =
      let (k, few, e) = among j lt in
      sym (value-under v f (literal_at literals j)) ∙ ap (literal_value v) (sym e) ∙ all k few

  among-fair : (word : Word) → AreAmong f part.fairs whole.fairs → IsFair whole word →
      IsFair part (word_through f word)
  among-fair word among fair j lt i =
      let (k, few, e) = among j lt in
      let (x, le, here) = fair k few i in
      let v : Valuation = word x in
      (x, le, sym (value-under v f (literal_at part.fairs j)) ∙ ap (literal_value v) (sym e) ∙ here)

  pub among-execution : (word : Word) → AreAmong f part.constraints whole.constraints →
      AreAmong f part.fairs whole.fairs → IsExecution whole word →
      IsExecution part (word_through f word)
  among-execution word constraints fairs is =
      let there : Obeys part (word_through f word) =
      obeys-through word (of-execution whole word is) in
      record {
        run = record {
          starts = start-through (word 0) is.run.starts;
          right = there.right;
          goes = there.goes;
          kept = λ i. among-true part.constraints whole.constraints (word i) constraints
              (is.run.kept i);
        };
        fair = among-fair word fairs is.fair;
      }

  -- ---- which variables are seen

  -- a variable that stands for one of the whole
  for-variable : (u x y : ℕ) → x ≡ u → f x ≡ 2 * y → y < variables whole →
      Below (variables whole) (f u)
  for-variable u x y at stands lt =
      let P : ℕ → Type 0 = Below (variables whole) in
      subst P (sym stands ∙ ap f at) (below-even (variables whole) y lt)

  stands-below : (u : ℕ) → u < variables part → Below (variables whole) (f u)
  stands-below zero lt = for-variable 0 0 0 refl placed.constant (omega arith)
  stands-below (suc u) lt =
      elim (cases_lt u part.inputs) [
        | inl input ↦ placed.inputs u input
        | inr past ↦ elim (cases_lt (suc u) (first_and part)) [
          | inl latch ↦
              let j : ℕ = u - part.inputs in
              let (k, is) = placed.latches j (omega arith) in
              let at : latch_variable part j ≡ suc u = omega arith in
              for-variable (suc u) (latch_variable part j) (latch_variable whole k) at is.stands
              (omega (arith, is.below))
          | inr and ↦
              let j : ℕ = suc u - first_and part in
              let (k, is) = placed.ands j (omega arith) in
              let at : first_and part + j ≡ suc u = omega arith in
              for-variable (suc u) (first_and part + j) (first_and whole + k) at is.stands
              (omega (arith, is.below))
        ]
      ]

  pub below-through : (l : ℕ) → Below (variables part) l → Below (variables whole) (under f l)
  below-through l = below-under (variables whole) (variables part) f l stands-below

pub recurs-through : (f : ℕ → ℕ) (word : Word) (s p : ℕ) → Recurs word s p →
    Recurs (word_through f word) s p
recurs-through f word s p recurs = record {
  some = recurs.some;
  same = λ i u le. value-same (word (i + p)) (word i) (f u) (recurs.same i (f u / 2) le);
}

-- ---- a part that is given what a word is given

pub given-alike : (part whole : Net) (f : ℕ → ℕ) (inputs : ℕ → ℕ → Bool) (latches : ℕ → Bool)
    (word own : Word) → IsRunOn whole inputs latches word →
    IsGiven part whole f inputs latches own → AreGivenAlike part (word_through f word) own
given-alike part whole f inputs latches word own is given = record {
  inputs = λ i j lt.
      let (k, few, e, same) = given.inputs j lt in
      ap (literal_value (word i)) e ∙ value-even (word i) (suc k) ∙ is.given i k few ∙ same i;
  first = λ j lt.
      let (k, few, e, same) = given.latches j lt in
      ap (literal_value (word 0)) e ∙ value-even (word 0) (latch_variable whole k)
      ∙ is.first k few ∙ same;
}

module _ (part whole : Net) (f : ℕ → ℕ) (word own : Word) (good : IsNet part)
    (placed : IsPlaced part whole f) (obeys : Obeys whole word)
    (alike : AreGivenAlike part (word_through f word) own) where
  pub same-through : Obeys part own → (i u : ℕ) → u < variables part →
      word_through f word i u ≡ own i u
  same-through obeys' =
      one-run part (word_through f word) own good (obeys-through part whole f placed word obeys)
      obeys' alike

  pub says-through : Obeys part own → (i l : ℕ) → Below (variables part) l →
      literal_value (word i) (under f l) ≡ literal_value (own i) l
  says-through obeys' i l below =
      value-under (word i) f l
      ∙ value-same (through f (word i)) (own i) l (same-through obeys' i (l / 2) below)

  pub execution-through : IsExecution part own → IsExecution part (word_through f word)
  execution-through is = record {
    run = record {
      starts = start-alike part good (own 0) (through f (word 0)) (back 0) is.run.starts;
      right = there.right;
      goes = there.goes;
      kept = λ i. true-alike part good part.constraints (own i) (through f (word i))
          good.constraints (back i) (is.run.kept i);
    };
    fair = λ j lt i.
        let (k, le, here) = is.fair j lt i in
        let l : ℕ = literal_at part.fairs j in (
          k,
          le,
          subst IsTrue (value-same (own k) (through f (word k)) l
              (back k (l / 2) (good.fairs j lt))) here,
        );
  }
    where
      there : Obeys part (word_through f word)
      there = obeys-through part whole f placed word obeys

      back : (i u : ℕ) → u < variables part → own i u ≡ word_through f word i u
      back i u lt = sym (same-through (of-execution part own is) i u lt)
