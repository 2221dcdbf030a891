-- What is printed of verdicts shows what is claimed.
use Rattle.std.proofs.Common.{◌≡◌, ◌⊎◌, inl, inr, ℕ, ◌≤◌, Bool, true, List, [], ◌∷◌, Ok, Err, refl, sym, true≢false}
use Rattle.hy_bits.specs.Letter.{Letter}
use Rattle.hy_formula.specs.Classes.{class_of}
use Rattle.hy_formula.specs.Formulas.{Plain}
use Rattle.hy_formula.specs.Lassos.{Lasso}
use Rattle.hy_formula.specs.Quantifiers.{Each}
use Rattle.hy_formula.specs.declared.classes.Class.{Class}
use Rattle.hy_formula.specs.declared.classes.Class.TheVariants.{Exists, Forall, ExistsForall, Other}
use Rattle.ea_core.specs.Undecided.{IsCounted}
use Rattle.ea_reduce.specs.Fulfilled.{IsOfOneKind}
use Rattle.ea_reduce.specs.Plans.{PlainPlan}
use Rattle.aig_net.specs.Nets.{Net}
use Rattle.aig_net.specs.declared.signals.Signal.{Signal}
use Rattle.formula_nets.specs.Posed.{IsPosed}
use Rattle.mc_core.specs.declared.ask.Ask.{Ask}
use Rattle.mc_core.specs.declared.checked.Checked.TheVariants.{Holds, Violated, UnknownDepth, UnknownConflicts}
use Rattle.induction_judge.specs.Good.{most_depth}
use Rattle.claim_check.specs.Claims.{Claim, circuit, equivalence, formula, implication}
use Rattle.hy_run.specs.Classes.{AreTaken, by_class, is_decided, is_of_one_kind}
use Rattle.hy_run.specs.Runs.{Answer}
use Rattle.ea_tool.specs.Deciding as deciding
use Rattle.ea_tool.specs.Deciding.{ComparesTwo, DecidesBy, DecidesOne, DecidesTwo, Outcome, IsDecision, IsOpen, IsRelated, Relates, SettlesBoth, SettlesOne, SettlesTwo}
use Rattle.ea_tool.specs.Texts.{verdict_text}
use Rattle.ea_tool.specs.declared.verdict.EaFault.{EaFault}
use Rattle.ea_tool.specs.declared.verdict.EaVerdict.{EaVerdict}
use Rattle.ea_tool.specs.declared.verdict.Engine.{Engine}
use Rattle.ea_tool.specs.declared.verdict.Engine.TheVariants.{Branches, Circuit}
use Rattle.ea_tool.specs.declared.verdict.Relation.TheVariants.{Implication, Equivalence}
use Rattle.mc_tool.specs.Checking as checking
use Rattle.mc_tool.specs.Checking.{ComesBy, IsCheck}
use Rattle.mc_tool.specs.Texts.{checked_text}
use Rattle.mc_tool.specs.declared.verdict.McFault.{McFault}
use Rattle.mc_tool.specs.declared.verdict.McVerdict.{McVerdict}
use Rattle.mc_tool.specs.declared.verdict.McVerdict.TheVariants as verdicts
use Rattle.cert_laws.specs.Claimed.{IsFound, IsKnown, IsLow, models_of, traces_of}
use Rattle.cert_laws.specs.GoodTexts.{IsShort}
use Rattle.cert_laws.proofs.Checks.{holds-good, violated-good}
use Rattle.cert_laws.proofs.Decisions.{equivalent-good, first-alone-good, free-equivalent-good, free-implied-good, free-unsat-good, implied-good, not-implied-good, sat-good, second-alone-good, unsat-good}
use Rattle.cert_laws.proofs.Evidence.{IsEvidence}
use Rattle.cert_laws.proofs.Files.{AreOver}
use Rattle.cert_laws.proofs.Shown.{IsShown}

-- ---- classes that are taken

decided-class : (class : Class) → is_decided class ≡ true → ¬ (class ≡ Other)
decided-class Exists taken e = cc
decided-class Forall taken e = cc
decided-class ExistsForall taken e = cc
decided-class Other taken e = true≢false (sym taken)

one-kind : (class : Class) → is_of_one_kind class ≡ true → (class ≡ Exists) ⊎ (class ≡ Forall)
one-kind Exists taken = inl refl
one-kind Forall taken = inr refl
one-kind ExistsForall taken = absurd (true≢false (sym taken))
one-kind Other taken = absurd (true≢false (sym taken))

-- ---- decisions

module _ (names : List (List ℕ)) where
  -- The text of an answer of `eahyper` is evidence for the claim, if it is a verdict that leaves nothing open, and short.
  abbrev pub EaShows : Claim → Answer EaVerdict EaFault → Type 0
  EaShows claim (Ok verdict) =
      IsKnown verdict → IsShort (verdict_text true names verdict) → IsEvidence names claim (models_of verdict) (verdict_text true names verdict)
  EaShows claim (Err refusal) = Unit {0}

  -- Behind the counts the work answers.
  shown-outcome : (claim : Claim) (takes : Class → Bool) (formulas : List Plain) (plans : List PlainPlan)
      (decides : Answer EaVerdict EaFault → Type 0)
      → (AreTaken (by_class takes) formulas → Each IsCounted plans → (a : Answer EaVerdict EaFault) → decides a → EaShows claim a)
      → (a : Answer EaVerdict EaFault) → Outcome takes formulas plans decides a → EaShows claim a
  shown-outcome claim takes formulas plans decides work _ (deciding.untaken place class untaken) = tt
  shown-outcome claim takes formulas plans decides work _ (deciding.many_instances taken plan there many) = tt
  shown-outcome claim takes formulas plans decides work _ (deciding.large_closure taken few plan there many) = tt
  shown-outcome claim takes formulas plans decides work a (deciding.done _ taken counted is) = work taken counted a is
  shown-outcome claim takes formulas plans decides work _ deciding.spent = tt

  -- Of a plan that is left open nothing is shown.
  open-shown : (claim : Claim) (plan : PlainPlan) (ask : Ask) (a : Answer EaVerdict EaFault) → IsOpen plan ask a → EaShows claim a
  open-shown claim plan ask _ (deciding.deep kept path is) = λ known short. absurd known
  open-shown claim plan ask _ (deciding.tired k step kept log is) = λ known short. absurd known
  open-shown claim plan ask _ (deciding.past limit kept is) = tt

  module _ (f : Plain) (engine : Engine) (low : IsLow engine) (are : AreOver (f ∷ []) names) where
    module _ (taken : AreTaken (by_class is_decided) (f ∷ [])) (counted : Each IsCounted (deciding.plan_of f ∷ [])) where
      formula-evidence : (lassos : List (Lasso Letter)) (text : List ℕ) → IsShown names (formula f) lassos text
          → IsEvidence names (formula f) lassos text
      formula-evidence lassos text shows = record {
        shows = shows;
        taken = decided-class (class_of f.prefix) taken.0;
        instances = (counted.0.maps, tt);
        members = (counted.0.members, tt);
        named = tt;
      }

      branches-shown : (states : ℕ) (a : Answer EaVerdict EaFault) → DecidesOne f states a → EaShows (formula f) a
      branches-shown states _ (deciding.sat list is within) = λ known short. formula-evidence _ _ (sat-good names are.table f are.over.0 list is)
      branches-shown states _ (deciding.unsat proof is within) =
          λ known short. formula-evidence _ _ (unsat-good names f proof counted.0.members is short)
      branches-shown states _ (deciding.beyond many) = tt

      circuit-shown : (ask : Ask) → ask.depth ≤ most_depth → (a : Answer EaVerdict EaFault) → SettlesOne f ask a → EaShows (formula f) a
      circuit-shown ask deep _ (deciding.sat list is) = λ known short. formula-evidence _ _ (sat-good names are.table f are.over.0 list is)
      circuit-shown ask deep _ (deciding.unsat proof is) =
          λ known short. formula-evidence _ _ (free-unsat-good names ask deep f proof is.1 short)
      circuit-shown ask deep a (deciding.unsettled _ is) = open-shown (formula f) (deciding.plan_of f) ask a is

    pub decision-shown : (a : Answer EaVerdict EaFault) → IsDecision f engine a → EaShows (formula f) a
    decision-shown =
        shown-outcome (formula f) is_decided (f ∷ []) (deciding.plan_of f ∷ []) (DecidesBy f engine)
        (λ taken counted. by engine low taken counted)
      where
        by : (other : Engine) → IsLow other → AreTaken (by_class is_decided) (f ∷ []) → Each IsCounted (deciding.plan_of f ∷ [])
            → (a : Answer EaVerdict EaFault) → DecidesBy f other a → EaShows (formula f) a
        by (Branches states) shallow taken counted = branches-shown taken counted states
        by (Circuit ask) shallow taken counted = circuit-shown taken counted ask shallow

  module _ (f g : Plain) (engine : Engine) (low : IsLow engine) (are : AreOver (f ∷ g ∷ []) names) where
    both-taken : AreTaken (by_class is_of_one_kind) (f ∷ g ∷ []) → IsOfOneKind f.prefix × IsOfOneKind g.prefix
    both-taken taken = (one-kind (class_of f.prefix) taken.0, one-kind (class_of g.prefix) taken.1.0)

    module _ (taken : AreTaken (by_class is_of_one_kind) (f ∷ g ∷ [])) (counted : Each IsCounted (deciding.plan_against f g ∷ [])) where
      implication-evidence : (lassos : List (Lasso Letter)) (text : List ℕ) → IsShown names (implication f g) lassos text
          → IsEvidence names (implication f g) lassos text
      implication-evidence lassos text shows = record {
        shows = shows;
        taken = both-taken taken;
        instances = (counted.0.maps, tt);
        members = (counted.0.members, tt);
        named = tt;
      }

      implied-by-branches : (states : ℕ) (a : Answer EaVerdict EaFault) → DecidesTwo f g states a → EaShows (implication f g) a
      implied-by-branches states _ (deciding.implied proof is within) =
          λ known short. implication-evidence _ _ (implied-good names f g proof counted.0.members is short)
      implied-by-branches states _ (deciding.not_implied list is within) =
          λ known short. implication-evidence _ _ (not-implied-good names are.table f g are.over.0 are.over.1.0 list is)
      implied-by-branches states _ (deciding.beyond many) = tt

      implied-by-circuit : (ask : Ask) → ask.depth ≤ most_depth → (a : Answer EaVerdict EaFault) → SettlesTwo f g ask a
          → EaShows (implication f g) a
      implied-by-circuit ask deep _ (deciding.implied proof is) =
          λ known short. implication-evidence _ _ (free-implied-good names ask deep f g proof is.1 short)
      implied-by-circuit ask deep _ (deciding.not_implied list is) =
          λ known short. implication-evidence _ _ (not-implied-good names are.table f g are.over.0 are.over.1.0 list is)
      implied-by-circuit ask deep a (deciding.unsettled _ is) = open-shown (implication f g) (deciding.plan_against f g) ask a is

    pub implication-shown : (a : Answer EaVerdict EaFault) → IsRelated Implication f g engine a → EaShows (implication f g) a
    implication-shown =
        shown-outcome (implication f g) is_of_one_kind (f ∷ g ∷ []) (deciding.plan_against f g ∷ []) (Relates Implication f g engine)
        (λ taken counted. by engine low taken counted)
      where
        by : (other : Engine) → IsLow other → AreTaken (by_class is_of_one_kind) (f ∷ g ∷ []) → Each IsCounted (deciding.plan_against f g ∷ [])
            → (a : Answer EaVerdict EaFault) → Relates Implication f g other a → EaShows (implication f g) a
        by (Branches states) shallow taken counted = implied-by-branches taken counted states
        by (Circuit ask) shallow taken counted = implied-by-circuit taken counted ask shallow

    module _ (taken : AreTaken (by_class is_of_one_kind) (f ∷ g ∷ []))
        (counted : Each IsCounted (deciding.plan_against f g ∷ deciding.plan_against g f ∷ [])) where
      equivalence-evidence : (lassos : List (Lasso Letter)) (text : List ℕ) → IsShown names (equivalence f g) lassos text
          → IsEvidence names (equivalence f g) lassos text
      equivalence-evidence lassos text shows = record {
        shows = shows;
        taken = both-taken taken;
        instances = (counted.0.maps, (counted.1.0.maps, tt));
        members = (counted.0.members, (counted.1.0.members, tt));
        named = tt;
      }

      compared-by-branches : (states : ℕ) (a : Answer EaVerdict EaFault) → ComparesTwo f g states a → EaShows (equivalence f g) a
      compared-by-branches states _ (deciding.equivalent one two is within) =
          λ known short. equivalence-evidence _ _ (equivalent-good names f g one two counted.0.members counted.1.0.members is short)
      compared-by-branches states _ (deciding.first_alone list is within) =
          λ known short. equivalence-evidence _ _ (first-alone-good names are.table f g are.over.0 are.over.1.0 list is)
      compared-by-branches states _ (deciding.second_alone list is within) =
          λ known short. equivalence-evidence _ _ (second-alone-good names are.table f g are.over.0 are.over.1.0 list is)
      compared-by-branches states _ (deciding.many_branches many) = tt

      compared-by-circuit : (ask : Ask) → ask.depth ≤ most_depth → (a : Answer EaVerdict EaFault) → SettlesBoth f g ask a
          → EaShows (equivalence f g) a
      compared-by-circuit ask deep _ (deciding.equivalent one two is) =
          λ known short. equivalence-evidence _ _ (free-equivalent-good names ask deep f g one two is.0.1 is.1.1 short)
      compared-by-circuit ask deep _ (deciding.first_alone list is) =
          λ known short. equivalence-evidence _ _ (first-alone-good names are.table f g are.over.0 are.over.1.0 list is)
      compared-by-circuit ask deep _ (deciding.second_alone list is) =
          λ known short. equivalence-evidence _ _ (second-alone-good names are.table f g are.over.0 are.over.1.0 list is)
      compared-by-circuit ask deep a (deciding.unsettled _ is) = open-shown (equivalence f g) (deciding.plan_against f g) ask a is
      compared-by-circuit ask deep a (deciding.unsettled_back _ implies is) =
          open-shown (equivalence f g) (deciding.plan_against g f) ask a is

    pub comparison-shown : (a : Answer EaVerdict EaFault) → IsRelated Equivalence f g engine a → EaShows (equivalence f g) a
    comparison-shown =
        shown-outcome (equivalence f g) is_of_one_kind (f ∷ g ∷ []) (deciding.plan_against f g ∷ deciding.plan_against g f ∷ [])
        (Relates Equivalence f g engine) (λ taken counted. by engine low taken counted)
      where
        by : (other : Engine) → IsLow other → AreTaken (by_class is_of_one_kind) (f ∷ g ∷ [])
            → Each IsCounted (deciding.plan_against f g ∷ deciding.plan_against g f ∷ [])
            → (a : Answer EaVerdict EaFault) → Relates Equivalence f g other a → EaShows (equivalence f g) a
        by (Branches states) shallow taken counted = compared-by-branches taken counted states
        by (Circuit ask) shallow taken counted = compared-by-circuit taken counted ask shallow

-- ---- checks

module _ (names : List (List ℕ)) where
  -- The text of an answer of `mchyper` is evidence for the claim, if evidence was found and the text is short.
  abbrev pub McShows : Claim → Answer McVerdict McFault → Type 0
  McShows claim (Ok (verdicts.Checked checked)) =
      IsFound (verdicts.Checked checked) → IsShort (checked_text true names checked)
      → IsEvidence names claim (traces_of checked) (checked_text true names checked)
  McShows claim _ = Unit {0}

  module _ (net : Net) (f : Plain) (ask : Ask) (are : AreOver (f ∷ []) names) (deep : ask.depth ≤ most_depth) where
    module _ (signals : List Signal) (posed : IsPosed net names f.prefix f.body signals) where
      circuit-evidence : (lassos : List (Lasso Letter)) (text : List ℕ) → IsShown names (circuit net f) lassos text
          → IsEvidence names (circuit net f) lassos text
      circuit-evidence lassos text shows = record {
        shows = shows;
        taken = posed.taken;
        instances = tt;
        members = (posed.few, tt);
        named = (signals, posed.signals_are);
      }

      work-shown : (a : Answer McVerdict McFault) → ComesBy net signals f ask a → McShows (circuit net f) a
      work-shown _ (checking.found (Holds traces tuple proof) is) = λ found short. circuit-evidence _ _ (holds-good names are.table net signals f are.over.0 posed.signals_are ask deep traces tuple proof is short)
      work-shown _ (checking.found (Violated traces tuple proof) is) = λ found short. circuit-evidence _ _ (violated-good names are.table net signals f are.over.0 posed.signals_are ask deep traces tuple proof is short)
      work-shown _ (checking.found (UnknownDepth depth kept path) is) = λ found short. absurd found
      work-shown _ (checking.found (UnknownConflicts conflicts k step kept log) is) = λ found short. absurd found
      work-shown _ (checking.facts_stop limit plain stopped) = tt
      work-shown _ (checking.paths_stop kind limit kept keeps stopped) = tt

    pub check-shown : (a : Answer McVerdict McFault) → IsCheck net names f ask a → McShows (circuit net f) a
    check-shown _ (checking.untaken class is other) = tt
    check-shown _ (checking.large_closure taken many) = tt
    check-shown _ (checking.bad_name taken few name twice bad) = tt
    check-shown a (checking.done _ taken (signals, posed, comes)) = work-shown signals posed a comes
    check-shown _ checking.spent = tt
