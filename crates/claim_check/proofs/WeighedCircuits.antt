-- What is found of the evidence of a claim about a circuit is whether the certificate is good.
use Rattle.std.proofs.Common.{◌≡◌, ◌≢◌, ℕ, ◌<◌, ◌↔◌, Bool, true, false, IsTrue, List, [], ◌∷◌, ◌++◌, length, Result, Ok, Err, refl, sym, ap, ◌∙◌, subst, arith, true≢false}
use mathlib.Core.Bool.{beq}
use Rattle.std.specs.Prelude.{IfErr, IfOk, codes, not}
use Rattle.hy_bits.specs.Letter.{Letter}
use Rattle.hy_formula.specs.Formulas.{Plain}
use Rattle.hy_formula.specs.Lassos.{Lasso}
use Rattle.hy_text.specs.Lines.{lines_of}
use Rattle.aig_net.specs.declared.run.Run.{Run}
use Rattle.aig_net.specs.declared.signals.Signal.{Signal}
use Rattle.aig_net.specs.Nets.{Net}
use Rattle.net_names.specs.Names.{AreSignals}
use Rattle.live_safe.specs.declared.safe_net.SafeNet.{SafeNet}
use Rattle.cnf_frames.specs.declared.inductions.InductionProof.{InductionProof}
use Rattle.cnf_frames.specs.declared.queries.FrameError.{FrameError}
use Rattle.cnf_frames.specs.declared.queries.FrameError.TheVariants as frame
use Rattle.formula_nets.specs.Posed.{is_existential}
use Rattle.cert_text.specs.declared.question.Question.TheVariants.{Circuit}
use Rattle.cert_text.specs.Certificates.{Certificate, model, refuted, both, induction, runs, holds_line}
use Rattle.cert_text.specs.InductionLines.{SayInductionProof}
use Rattle.cert_text.specs.Lines.{Line}
use Rattle.cert_text.specs.RunLines.{SayRuns}
use Rattle.induction_judge.specs.Good.{IsGoodInduction, IsRefusedInduction}
use Rattle.claim_check.specs.declared.error.CertError.{CertError}
use Rattle.claim_check.specs.declared.error.CertError.TheVariants.{Prefix, Limit, Name, Text, Memory}
use Rattle.claim_check.specs.Claims.{circuit}
use Rattle.claim_check.specs.Counting.{IsQueryRefusal, IsWeighed}
use Rattle.claim_check.specs.Errors.{of_frames}
use Rattle.claim_check.specs.Good.{AreGoodRuns, IsGood, WantsInduction, safe_net}
use Rattle.claim_check.specs.Reading.{IsRead}
use Rattle.claim_check.proofs.SameNets.{same-net, same-runs}

-- why the queries of a proof were not made
pub frames_refused : (safe other : SafeNet) (proof : InductionProof) (e : FrameError)
    → safe ≡ other → IsRefusedInduction safe proof e → IsQueryRefusal other proof (of_frames e)
frames_refused safe other proof (frame.Limit limit) same refused =
    let P : SafeNet → Type 0 = λ s. IsRefusedInduction s proof (frame.Limit limit) in
    subst P same refused
frames_refused safe other proof frame.Memory same refused = tt

-- ---- truth values

pub same_so : (a b : Bool) → beq a b ≡ true → a ≡ b
same_so true true is = refl
same_so false false is = refl
same_so true false is = absurd (true≢false (sym is))
same_so false true is = absurd (true≢false (sym is))

pub other_so : (a b : Bool) → beq a b ≡ false → a ≡ not b
other_so true true is = absurd (true≢false is)
other_so false false is = absurd (true≢false is)
other_so true false is = refl
other_so false true is = refl

pub then_not : (a b : Bool) → beq a b ≡ false → a ≡ true → b ≡ false
then_not a b other so = by b (sym (other_so a b other) ∙ so)
  where
    by : (b : Bool) → not b ≡ true → b ≡ false
    by true e = absurd (true≢false (sym e))
    by false e = refl

pub else_so : (a b : Bool) → beq a b ≡ false → a ≡ false → b ≡ true
else_so a b other not_so = by b (sym (other_so a b other) ∙ not_so)
  where
    by : (b : Bool) → not b ≡ false → b ≡ true
    by true e = refl
    by false e = absurd (true≢false e)

-- ---- what is shown

-- The first line is read as whether the circuit satisfies the formula.
head-said : (head : Line) (holds h : Bool) → head ≡ holds_line holds
    → IsTrue h ↔ (head ≡ codes "holds") → h ≡ holds
head-said head true h is exactly = exactly.1 is
head-said head false true is exactly =
    let clash : 8 ≡ 5 = ap length (sym is ∙ exactly.0 refl) in absurd (omega (arith, clash))
head-said head false false is exactly = refl

not-itself : (a b : Bool) → a ≡ b → a ≢ not b
not-itself true true same other = absurd (true≢false other)
not-itself false false same other = absurd (true≢false (sym other))
not-itself true false same other = absurd (true≢false same)
not-itself false true same other = absurd (true≢false (sym same))

module _ (net : Net) (names : List (List ℕ)) (f : Plain) (head : Line) (list : List (Lasso Letter))
    (evidence : List ℕ) (h : Bool) (exactly : IsTrue h ↔ (head ≡ codes "holds")) where
  -- Where runs are wanted and no lassos are there, it is no good.
  pub runs_wanted : (c : Certificate) → IsRead names Circuit c head list evidence
      → h ≡ is_existential f.prefix → length list ≡ 0 → ¬ IsGood names (circuit net f) c
  runs_wanted (model side lassos) read wants none good = good
  runs_wanted (refuted proof) read wants none good = good
  runs_wanted (both one two) read wants none good = good
  runs_wanted (induction holds proof) read wants none good =
      not-itself holds (is_existential f.prefix)
      (sym (head-said head holds h read.begun exactly) ∙ wants) good.0
  runs_wanted (runs holds lassos tuple) read wants none good = omega (arith, read.filled, none)

  -- Where a proof is wanted and lassos are there, it is no good.
  pub proof_wanted : (c : Certificate) → IsRead names Circuit c head list evidence
      → h ≢ is_existential f.prefix → 0 < length list → ¬ IsGood names (circuit net f) c
  proof_wanted (model side lassos) read other some good = good
  proof_wanted (refuted proof) read other some good = good
  proof_wanted (both one two) read other some good = good
  proof_wanted (induction holds proof) read other some good = omega (arith, read.filled, some)
  proof_wanted (runs holds lassos tuple) read other some good =
      other (head-said head holds h read.begun exactly ∙ good.0)

  module _ (signals : List Signal) (are : AreSignals net names f.body signals) where
    pub runs_weighed : (c : Certificate) → IsRead names Circuit c head list evidence
        → h ≡ is_existential f.prefix → 0 < length list → (good : Bool)
        → ((lines : List Line) (tuple : List Run) → lines_of evidence ≡ lines ++ [] ∷ []
        → SayRuns lines tuple → IsTrue good ↔ AreGoodRuns net signals f list tuple)
        → IsTrue good ↔ IsGood names (circuit net f) c
    runs_weighed (model side lassos) read wants some good weighs = absurd read.begun
    runs_weighed (refuted proof) read wants some good weighs = absurd read.begun
    runs_weighed (both one two) read wants some good weighs = absurd read.begun
    runs_weighed (induction holds proof) read wants some good weighs =
        absurd (omega (arith, read.filled, some))
    runs_weighed (runs holds lassos tuple) read wants some good weighs =
        let P : List (Lasso Letter) → Type 0 =
        λ l. IsTrue good ↔ AreGoodRuns net signals f l tuple in
        let is = subst P read.over (weighs read.lines tuple read.ended read.shown) in
        let wanted : holds ≡ is_existential f.prefix =
        sym (head-said head holds h read.begun exactly) ∙ wants in (
          λ yes. (wanted, (signals, are, is.0 yes)),
          λ (_, (others, own, shows)).
              is.1 (same-runs net names f others signals own are _ tuple shows),
        )

    pub proof_weighed : (c : Certificate) → IsRead names Circuit c head list evidence
        → h ≡ not (is_existential f.prefix) → length list ≡ 0 → (good : Bool)
        → ((lines : List Line) (proof : InductionProof) → lines_of evidence ≡ lines ++ [] ∷ []
        → SayInductionProof lines proof
        → IsTrue good ↔ IsGoodInduction (safe_net net signals f) proof)
        → IsTrue good ↔ IsGood names (circuit net f) c
    proof_weighed (model side lassos) read wants none good weighs = absurd read.begun
    proof_weighed (refuted proof) read wants none good weighs = absurd read.begun
    proof_weighed (both one two) read wants none good weighs = absurd read.begun
    proof_weighed (runs holds lassos tuple) read wants none good weighs =
        absurd (omega (arith, read.filled, none))
    proof_weighed (induction holds proof) read wants none good weighs =
        let is = weighs read.lines proof read.ended read.shown in
        let wanted : WantsInduction f holds =
        sym (head-said head holds h read.begun exactly) ∙ wants in
        let P : SafeNet → Type 0 = λ safe. IsGoodInduction safe proof in (
          λ yes. (wanted, (signals, are, is.0 yes)),
          λ (_, (others, own, shows)).
              is.1 (subst P (same-net net names f others signals own are) shows),
        )

    pub proof_refused : (c : Certificate) → IsRead names Circuit c head list evidence
        → h ≡ not (is_existential f.prefix) → length list ≡ 0 → (e : CertError)
        → ((lines : List Line) (proof : InductionProof) → lines_of evidence ≡ lines ++ [] ∷ []
        → SayInductionProof lines proof → IsQueryRefusal (safe_net net signals f) proof e)
        → IsWeighed names (circuit net f) c (Err e)
    proof_refused (model side lassos) read wants none e refuses = absurd read.begun
    proof_refused (refuted proof) read wants none e refuses = absurd read.begun
    proof_refused (both one two) read wants none e refuses = absurd read.begun
    proof_refused (runs holds lassos tuple) read wants none e refuses =
        absurd (omega (arith, read.filled, none))
    proof_refused (induction holds proof) read wants none e refuses =
        by e (refuses read.lines proof read.ended read.shown)
      where
        by : (e : CertError) → IsQueryRefusal (safe_net net signals f) proof e
            → IsWeighed names (circuit net f) (induction holds proof) (Err e)
        by (Prefix which found) refused = absurd refused
        by (Limit limit) refused =
            (sym (head-said head holds h read.begun exactly) ∙ wants, (signals, are, refused))
        by (Name name twice) refused = absurd refused
        by (Text line) refused = absurd refused
        by Memory refused = tt

    -- The answer to a proof that is wanted.
    pub proof_answered : (c : Certificate) → IsRead names Circuit c head list evidence
        → h ≡ not (is_existential f.prefix) → length list ≡ 0 → (result : Result Bool CertError)
        → IfOk result (λ good. (lines : List Line) (proof : InductionProof)
        → lines_of evidence ≡ lines ++ [] ∷ [] → SayInductionProof lines proof
        → IsTrue good ↔ IsGoodInduction (safe_net net signals f) proof)
        → IfErr result (λ e. (lines : List Line) (proof : InductionProof)
        → lines_of evidence ≡ lines ++ [] ∷ [] → SayInductionProof lines proof
        → IsQueryRefusal (safe_net net signals f) proof e)
        → IsWeighed names (circuit net f) c result
    proof_answered c read wants none (Ok good) judged refused =
        proof_weighed c read wants none good judged
    proof_answered c read wants none (Err e) judged refused =
        proof_refused c read wants none e refused
