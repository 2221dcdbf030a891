-- What is printed of decisions on formulas is good evidence.
use Rattle.std.proofs.Common.{◌≡◌, ℕ, ◌<◌, ◌≤◌, ◌++◌, true, List, [], length, map, inl, inr, refl, sym, subst, arith, length-append}
use Rattle.std.specs.Prelude.{codes}
use Rattle.std.specs.List.{All}
use Rattle.hy_base.specs.declared.limit.Limit.{Limit as Past}
use Rattle.hy_base.specs.declared.reading.TheConstants.{BYTES_LIMIT}
use Rattle.hy_bits.specs.Letter.{Letter}
use Rattle.hy_formula.specs.Formulas.{Plain}
use Rattle.hy_formula.specs.Lassos.{Lasso}
use Rattle.hy_lasso.specs.Printed.{IsLassoOver, spelled_of}
use Rattle.ea_reduce.specs.Plans.{PlainPlan}
use Rattle.rank_proofs.specs.Counts.{HasFewMembers}
use Rattle.rank_proofs.specs.Proofs.{plan_nodes, plan_roots}
use Rattle.rank_proofs.specs.ProofTexts.{proof_text}
use Rattle.rank_proofs.specs.declared.rank_proof.RankProof.{RankProof}
use Rattle.ea_core.specs.Decided.{Decides, DecidesEquivalence, DecidesImplication, IsShort as IsShortList, TellsApart}
use Rattle.ea_core.specs.Proofs.{IsProofOf}
use Rattle.ea_core.specs.declared.decision.Both.TheVariants as both_ways
use Rattle.ea_core.specs.declared.decision.Decision.TheVariants as decisions
use Rattle.cnf_frames.specs.ProofTexts.{worded_text}
use Rattle.cnf_frames.specs.declared.inductions.InductionProof.{InductionProof}
use Rattle.mc_core.specs.Answers.{IsProved}
use Rattle.mc_core.specs.declared.ask.Ask.{Ask}
use Rattle.free_net.specs.FreeNets.{plan_net, plan_safe}
use Rattle.cert_text.specs.Certificates.{Refutation, first, second, model, ranks, free, refuted, both}
use Rattle.cert_text.specs.InductionLines.{free_word}
use Rattle.cert_text.specs.Printed.{IsPrintableRefutation}
use Rattle.cert_text.specs.ProofTexts.{refutation_text}
use Rattle.cert_text.proofs.Printable.{printable_induction, printable_ranks}
use Rattle.cert_text.proofs.PrintedRefutations.{printed_equivalent, printed_implied, printed_unsat}
use Rattle.cert_text.proofs.PrintedRuns.{printed_not_equivalent, printed_not_implied, printed_sat}
use Rattle.claim_check.specs.Claims.{equivalence, formula, implication}
use Rattle.induction_judge.specs.Good.{most_depth}
use Rattle.claim_check.specs.Good.{IsModel, Refutes, Separates, lassos_over, plan_against, reduction}
use Rattle.claim_check.specs.Verdicts.{RefusesIn}
use Rattle.ea_tool.specs.Texts.{verdict_text}
use Rattle.ea_tool.specs.declared.verdict.CircuitVerdict.TheVariants as circuit
use Rattle.ea_tool.specs.declared.verdict.EaVerdict.TheVariants as verdicts
use Rattle.cert_laws.specs.GoodTexts.{IsFormulaOver, IsShort, IsTable}
use Rattle.cert_laws.proofs.Checks.{never-refused, safe-latch}
use Rattle.cert_laws.proofs.Lassos.{lassos-back, lassos-over}
use Rattle.cert_laws.proofs.Named.{mentioned-below}
use Rattle.cert_laws.proofs.Shown.{IsShown}

-- ---- proofs that there are no lassos

-- The proof is right, it can be printed, and each query that it is to refute is within the limits.
record IsShownProof (plan : PlainPlan) (proof : Refutation) : Type 0 where
  refutes : Refutes plan proof
  printable : IsPrintableRefutation proof
  unrefused : (limit : Past) → ¬ RefusesIn plan proof limit

ranks-shown : (plan : PlainPlan) (proof : RankProof) → HasFewMembers plan → IsProofOf plan proof
    → length (proof_text proof) ≤ BYTES_LIMIT → IsShownProof plan (ranks proof)
ranks-shown plan proof few is short = record {
  refutes = is.right;
  printable = printable_ranks (plan_nodes plan) (plan_roots plan) proof is.right is.ascending few short;
  unrefused = λ limit refused. refused;
}

free-shown : (plan : PlainPlan) (ask : Ask) (proof : InductionProof) → ask.depth ≤ most_depth → IsProved (plan_safe plan) ask proof
    → length (worded_text free_word proof) ≤ BYTES_LIMIT → IsShownProof plan (free proof)
free-shown plan ask proof low is short = record {
  refutes = (is.right, omega (arith, is.low, low));
  printable = printable_induction free_word (plan_safe plan) proof is.right is.within (safe-latch (plan_net plan)) short;
  unrefused = λ limit. never-refused (plan_safe plan) proof is.within limit;
}

module _ (names : List (List ℕ)) where
  unsat-shown : (f : Plain) (proof : Refutation) → IsShownProof (reduction f) proof
      → IsShown names (formula f) [] (codes "unsat\n" ++ refutation_text proof)
  unsat-shown f proof is = record {
    certificate = refuted proof;
    spelled = printed_unsat proof is.printable;
    good = is.refutes;
    shown = refl;
    unrefused = is.unrefused;
  }

  implied-shown : (f g : Plain) (proof : Refutation) → IsShownProof (plan_against f g) proof
      → IsShown names (implication f g) [] (codes "implied\n" ++ refutation_text proof)
  implied-shown f g proof is = record {
    certificate = refuted proof;
    spelled = printed_implied proof is.printable;
    good = is.refutes;
    shown = refl;
    unrefused = is.unrefused;
  }

  equivalent-shown : (f g : Plain) (one two : Refutation) → IsShownProof (plan_against f g) one → IsShownProof (plan_against g f) two
      → IsShown names (equivalence f g) [] (codes "equivalent\n" ++ refutation_text one ++ refutation_text two)
  equivalent-shown f g one two is also = record {
    certificate = both one two;
    spelled = printed_equivalent one two is.printable also.printable;
    good = (is.refutes, also.refutes);
    shown = refl;
    unrefused = λ limit refused. elim refused [ inl r ↦ is.unrefused limit r | inr r ↦ also.unrefused limit r ];
  }

  pub unsat-good : (f : Plain) (proof : RankProof) → HasFewMembers (reduction f)
      → Decides f.prefix f.body (decisions.Unsat proof) → IsShort (verdict_text true names (verdicts.Unsat proof))
      → IsShown names (formula f) [] (verdict_text true names (verdicts.Unsat proof))
  unsat-good f proof few (none, is) short =
      let long = length-append (codes "unsat\n") (proof_text proof) in
      unsat-shown f (ranks proof) (ranks-shown (reduction f) proof few is (omega (arith, short, long)))

  pub implied-good : (f g : Plain) (proof : RankProof) → HasFewMembers (plan_against f g)
      → DecidesImplication f.prefix f.body g.prefix g.body (decisions.Unsat proof)
      → IsShort (verdict_text true names (verdicts.Implied proof))
      → IsShown names (implication f g) [] (verdict_text true names (verdicts.Implied proof))
  implied-good f g proof few (implies, is) short =
      let long = length-append (codes "implied\n") (proof_text proof) in
      implied-shown f g (ranks proof) (ranks-shown (plan_against f g) proof few is (omega (arith, short, long)))

  -- The texts of two proofs are shorter than all that is printed of them.
  two-short : (one two : List ℕ) → IsShort (codes "equivalent\n" ++ one ++ two) → (length one ≤ BYTES_LIMIT) × (length two ≤ BYTES_LIMIT)
  two-short one two short =
      let long = length-append (codes "equivalent\n" ++ one) two in
      let begun = length-append (codes "equivalent\n") one in
      (omega (arith, short, long, begun), omega (arith, short, long))

  pub equivalent-good : (f g : Plain) (one two : RankProof) → HasFewMembers (plan_against f g)
      → HasFewMembers (plan_against g f)
      → DecidesEquivalence f.prefix f.body g.prefix g.body (both_ways.Same one two)
      → IsShort (verdict_text true names (verdicts.Equivalent one two))
      → IsShown names (equivalence f g) [] (verdict_text true names (verdicts.Equivalent one two))
  equivalent-good f g one two few small ((there, is), (back, are)) short =
      let (begun, rest) = two-short (proof_text one) (proof_text two) short in
      equivalent-shown f g (ranks one) (ranks two) (ranks-shown (plan_against f g) one few is begun)
      (ranks-shown (plan_against g f) two small are rest)

  -- So are proofs about free nets.
  module _ (ask : Ask) (low : ask.depth ≤ most_depth) where
    pub free-unsat-good : (f : Plain) (proof : InductionProof) → IsProved (plan_safe (reduction f)) ask proof
        → IsShort (verdict_text true names (verdicts.ByCircuit (circuit.Unsat proof)))
        → IsShown names (formula f) [] (verdict_text true names (verdicts.ByCircuit (circuit.Unsat proof)))
    free-unsat-good f proof is short =
        let long = length-append (codes "unsat\n") (worded_text free_word proof) in
        unsat-shown f (free proof) (free-shown (reduction f) ask proof low is (omega (arith, short, long)))

    pub free-implied-good : (f g : Plain) (proof : InductionProof) → IsProved (plan_safe (plan_against f g)) ask proof
        → IsShort (verdict_text true names (verdicts.ByCircuit (circuit.Implied proof)))
        → IsShown names (implication f g) [] (verdict_text true names (verdicts.ByCircuit (circuit.Implied proof)))
    free-implied-good f g proof is short =
        let long = length-append (codes "implied\n") (worded_text free_word proof) in
        implied-shown f g (free proof) (free-shown (plan_against f g) ask proof low is (omega (arith, short, long)))

    pub free-equivalent-good : (f g : Plain) (one two : InductionProof) → IsProved (plan_safe (plan_against f g)) ask one
        → IsProved (plan_safe (plan_against g f)) ask two
        → IsShort (verdict_text true names (verdicts.ByCircuit (circuit.Equivalent one two)))
        → IsShown names (equivalence f g) [] (verdict_text true names (verdicts.ByCircuit (circuit.Equivalent one two)))
    free-equivalent-good f g one two is are short =
        let (begun, rest) = two-short (worded_text free_word one) (worded_text free_word two) short in
        equivalent-shown f g (free one) (free two) (free-shown (plan_against f g) ask one low is begun)
        (free-shown (plan_against g f) ask two low are rest)

-- ---- lassos

module _ (names : List (List ℕ)) (table : IsTable names) where
  -- The lassos have no names but those of bodies that are over the table.
  short-over : (Named : ℕ → Type 0) → ((name : ℕ) → Named name → name < length names)
      → (list : List (Lasso Letter)) → IsShortList Named list → All (IsLassoOver names) list
  short-over Named below list short =
      lassos-over names list (λ v lt i name has. below name (short.names name v i has))

  module _ (f g : Plain) (over : IsFormulaOver names f) (also : IsFormulaOver names g)
      (list : List (Lasso Letter)) where
    -- What tells the formulas apart is read again as it was.
    list-back : TellsApart f.prefix f.body g.prefix g.body list → lassos_over names (map (spelled_of names) list) ≡ list
    list-back apart =
        lassos-back names table.distinct list (short-over _ (λ name m. elim m [
          | inl one ↦ mentioned-below (length names) f.body over.named name one
          | inr two ↦ mentioned-below (length names) g.body also.named name two
        ]) list apart.short)

    pub not-implied-good : DecidesImplication f.prefix f.body g.prefix g.body (decisions.Sat list)
        → IsShown names (implication f g) list (verdict_text true names (verdicts.NotImplied list))
    not-implied-good apart = record {
      certificate = model first (map (spelled_of names) list);
      spelled =
          printed_not_implied names list table.are apart.separates.model.some
          apart.separates.model.lassos;
      good = subst (Separates f g) (sym (list-back apart)) apart.separates;
      shown = list-back apart;
      unrefused = λ limit refused. refused;
    }

    pub first-alone-good : DecidesEquivalence f.prefix f.body g.prefix g.body (both_ways.First list)
        → IsShown names (equivalence f g) list (verdict_text true names (verdicts.NotEquivalent 0 list))
    first-alone-good apart = record {
      certificate = model first (map (spelled_of names) list);
      spelled =
          printed_not_equivalent names first list table.are apart.separates.model.some
          apart.separates.model.lassos;
      good = subst (Separates f g) (sym (list-back apart)) apart.separates;
      shown = list-back apart;
      unrefused = λ limit refused. refused;
    }

  pub second-alone-good : (f g : Plain) → IsFormulaOver names f → IsFormulaOver names g
      → (list : List (Lasso Letter))
      → DecidesEquivalence f.prefix f.body g.prefix g.body (both_ways.Second list)
      → IsShown names (equivalence f g) list (verdict_text true names (verdicts.NotEquivalent 1 list))
  second-alone-good f g over also list (implies, apart) =
      let back = list-back g f also over list apart in
      record {
        certificate = model second (map (spelled_of names) list);
        spelled =
            printed_not_equivalent names second list table.are apart.separates.model.some
            apart.separates.model.lassos;
        good = subst (Separates g f) (sym back) apart.separates;
        shown = back;
        unrefused = λ limit refused. refused;
      }

  pub sat-good : (f : Plain) → IsFormulaOver names f → (list : List (Lasso Letter))
      → Decides f.prefix f.body (decisions.Sat list)
      → IsShown names (formula f) list (verdict_text true names (verdicts.Sat list))
  sat-good f over list (is, count, short) =
      let fits = short-over _ (mentioned-below (length names) f.body over.named) list short in
      let back = lassos-back names table.distinct list fits in
      record {
        certificate = model first (map (spelled_of names) list);
        spelled = printed_sat names list table.are is.some is.lassos;
        good = subst (IsModel f) (sym back) is;
        shown = back;
        unrefused = λ limit refused. refused;
      }
