-- A question about files of these bytes comes to one answer, and to what is decided where nothing stands before that.
use Rattle.std.proofs.Common.{◌≡◌, ◌⊎◌, ℕ, ◌≤◌, length, Bool, List, [], ◌∷◌, Some, None, Ok, Err, inl, inr, refl, subst, arith}
use Rattle.std.specs.List.{Contains}
use Rattle.std.proofs.lemmas.List.Elements.{All-contains}
use Rattle.hy_bits.specs.Letter.{Letter}
use Rattle.hy_formula.specs.Quantifiers.{Each}
use Rattle.hy_formula.proofs.Each.{each-at, each-like}
use Rattle.hy_formula.specs.declared.classes.Class.{Class}
use Rattle.hy_formula.specs.Formulas.{Plain}
use Rattle.hy_formula.specs.Lassos.{Lasso}
use Rattle.hy_formula.specs.Trees.{Tree}
use Rattle.hy_formula.specs.declared.prefix.Quant.{Quant}
use Rattle.ea_reduce.specs.Plans.{PlainPlan, PlainJob}
use Rattle.ea_reduce.specs.Refused.{HasFewMaps, HasManyMaps, most_maps}
use Rattle.rank_proofs.specs.Counts.{HasManyMembers}
use Rattle.ea_core.specs.Decided.{Implies, TellsApart}
use Rattle.ea_core.specs.Undecided.{HasFewBranches, HasManyBranches, IsCounted}
use Rattle.ea_core.proofs.Searching.{not-both}
use Rattle.hy_lasso.specs.Joint.{IsJudged}
use Rattle.hy_lasso.specs.Words.{Satisfies}
use Rattle.hy_run.specs.Classes.{AreTaken, by_class, is_decided, is_of_one_kind}
use Rattle.hy_run.specs.Laws.{AgreeOrShort}
use Rattle.hy_run.specs.Runs.{Answer}
use Rattle.hy_run.specs.declared.refusal.Refusal.TheVariants.{Own, Prefix, Memory}
use Rattle.hy_run.proofs.Classes.{untaken_once, untaken_or_taken}
use Rattle.mc_core.specs.declared.ask.Ask.{Ask}
use Rattle.mc_core.proofs.QueryLimits.{stopped_facts, stopped_paths}
use Rattle.free_net.specs.FreeNets.{plan_safe}
use Rattle.ea_tool.specs.Agreeing.{Agree, same, other_model, other_proof, other_implied, other_proofs, other_witness, other_side, other_circuit}
use Rattle.ea_tool.specs.Agreeing.{IsOfCircuit, HasList, IsRefuted, IsSide, DenyByCircuit}
use Rattle.ea_tool.specs.Deciding.{plan_of, plan_against, DecidesOne, DecidesTwo, ComparesTwo, sat, unsat, implied, not_implied, beyond, equivalent, first_alone, second_alone, many_branches}
use Rattle.ea_tool.specs.Deciding as deciding
use Rattle.ea_tool.specs.Deciding.{SettlesOne, SettlesTwo, SettlesBoth, IsOpen, deep, tired, past, unsettled_back, DecidesBy}
use Rattle.ea_tool.specs.Deciding.{Outcome, IsDecision, IsRelated, Relates, plans_between, untaken, many_instances, large_closure, done, spent}
use Rattle.ea_tool.specs.Judging.{IsJudgement, satisfies, violates, too_joint}
use Rattle.ea_tool.specs.Judging as judging
use Rattle.ea_tool.specs.Rules.{ea_rules}
use Rattle.ea_tool.specs.declared.verdict.EaFault.{EaFault}
use Rattle.ea_tool.specs.declared.verdict.EaFault.TheVariants.{States}
use Rattle.ea_tool.specs.declared.verdict.EaVerdict.{EaVerdict}
use Rattle.ea_tool.specs.declared.verdict.EaVerdict.TheVariants.{ByCircuit, OnTrue, OnFalse}
use Rattle.ea_tool.specs.declared.verdict.CircuitVerdict.{CircuitVerdict}
use Rattle.ea_tool.specs.declared.verdict.CircuitVerdict.TheVariants as circuit
use Rattle.ea_tool.specs.declared.verdict.Engine.{Engine}
use Rattle.ea_tool.specs.declared.verdict.Engine.TheVariants.{Branches, Circuit}
use Rattle.ea_tool.specs.declared.verdict.Relation.{Relation}
use Rattle.ea_tool.specs.declared.verdict.Relation.TheVariants.{Implication, Equivalence}

abbrev Said : Type 0
Said = Answer EaVerdict EaFault

-- ---- two decisions

decisions_agree : (f : Plain) (n : ℕ) (a b : Answer EaVerdict EaFault) → DecidesOne f n a → DecidesOne f n b → Agree a b
decisions_agree f n _ _ (sat list one within) (sat other two also) = other_model list other
decisions_agree f n _ _ (sat list one within) (unsat proof two also) =
    absurd (two.0 (list, one.0.some, one.0.lassos, one.0.satisfies))
decisions_agree f n _ _ (sat list one within) (beyond more) = absurd (not-both (plan_of f) n within.branches more)
decisions_agree f n _ _ (unsat proof one within) (sat list two also) =
    absurd (one.0 (list, two.0.some, two.0.lassos, two.0.satisfies))
decisions_agree f n _ _ (unsat proof one within) (unsat other two also) = other_proof proof other
decisions_agree f n _ _ (unsat proof one within) (beyond more) = absurd (not-both (plan_of f) n within.branches more)
decisions_agree f n _ _ (beyond more) (sat list two within) = absurd (not-both (plan_of f) n within.branches more)
decisions_agree f n _ _ (beyond more) (unsat proof two within) = absurd (not-both (plan_of f) n within.branches more)
decisions_agree f n _ _ (beyond more) (beyond also) = same (Err (Own (States n)))

module _ (f g : Plain) where
  apart_or_implies : (list : List (Lasso Letter)) → TellsApart f.prefix f.body g.prefix g.body list → ¬ Implies f.prefix f.body g.prefix g.body
  apart_or_implies list apart implies =
      apart.separates.fails (implies list apart.separates.model.some apart.separates.model.lassos apart.separates.model.satisfies)

implications_agree : (f g : Plain) (n : ℕ) (a b : Answer EaVerdict EaFault) → DecidesTwo f g n a → DecidesTwo f g n b → Agree a b
implications_agree f g n _ _ (implied proof one within) (implied other two also) = other_implied proof other
implications_agree f g n _ _ (implied proof one within) (not_implied list two also) = absurd (apart_or_implies f g list two one.0)
implications_agree f g n _ _ (implied proof one within) (beyond more) = absurd (not-both (plan_against f g) n within.branches more)
implications_agree f g n _ _ (not_implied list one within) (implied proof two also) = absurd (apart_or_implies f g list one two.0)
implications_agree f g n _ _ (not_implied list one within) (not_implied other two also) = other_witness list other
implications_agree f g n _ _ (not_implied list one within) (beyond more) = absurd (not-both (plan_against f g) n within.branches more)
implications_agree f g n _ _ (beyond more) (implied proof two within) = absurd (not-both (plan_against f g) n within.branches more)
implications_agree f g n _ _ (beyond more) (not_implied list two within) = absurd (not-both (plan_against f g) n within.branches more)
implications_agree f g n _ _ (beyond more) (beyond also) = same (Err (Own (States n)))

-- More branches are reachable than the first direction may have, or than the second where the first formula implies the second.
module _ (f g : Plain) (n : ℕ) where
  same-or-beyond : HasFewBranches (plan_against f g) n → HasFewBranches (plan_against g f) n
      → HasManyBranches (plan_against f g) n
      ⊎ (HasFewBranches (plan_against f g) n × Implies f.prefix f.body g.prefix g.body × HasManyBranches (plan_against g f) n) → ⊥
  same-or-beyond few back (inl more) = not-both (plan_against f g) n few more
  same-or-beyond few back (inr (first, implies, more)) = not-both (plan_against g f) n back more

  first-or-beyond : (list : List (Lasso Letter)) → TellsApart f.prefix f.body g.prefix g.body list → HasFewBranches (plan_against f g) n
      → HasManyBranches (plan_against f g) n
      ⊎ (HasFewBranches (plan_against f g) n × Implies f.prefix f.body g.prefix g.body × HasManyBranches (plan_against g f) n) → ⊥
  first-or-beyond list apart few (inl more) = not-both (plan_against f g) n few more
  first-or-beyond list apart few (inr (first, implies, more)) = apart_or_implies f g list apart implies

comparisons_agree : (f g : Plain) (n : ℕ) (a b : Answer EaVerdict EaFault) → ComparesTwo f g n a → ComparesTwo f g n b → Agree a b
comparisons_agree f g n _ _ (equivalent p q one within) (equivalent r s two also) = other_proofs p q r s
comparisons_agree f g n _ _ (equivalent p q one within) (first_alone list two also) = absurd (apart_or_implies f g list two one.0.0)
comparisons_agree f g n _ _ (equivalent p q one within) (second_alone list two also) = absurd (apart_or_implies g f list two.1 one.1.0)
comparisons_agree f g n _ _ (equivalent p q one within) (many_branches more) =
    absurd (same-or-beyond f g n within.0.branches within.1.branches more)
comparisons_agree f g n _ _ (first_alone list one within) (equivalent p q two also) = absurd (apart_or_implies f g list one two.0.0)
comparisons_agree f g n _ _ (first_alone list one within) (first_alone other two also) = other_side 0 list other
comparisons_agree f g n _ _ (first_alone list one within) (second_alone other two also) = absurd (apart_or_implies f g list one two.0)
comparisons_agree f g n _ _ (first_alone list one within) (many_branches more) = absurd (first-or-beyond f g n list one within.0.branches more)
comparisons_agree f g n _ _ (second_alone list one within) (equivalent p q two also) = absurd (apart_or_implies g f list one.1 two.1.0)
comparisons_agree f g n _ _ (second_alone list one within) (first_alone other two also) = absurd (apart_or_implies f g other two one.0)
comparisons_agree f g n _ _ (second_alone list one within) (second_alone other two also) = other_side 1 list other
comparisons_agree f g n _ _ (second_alone list one within) (many_branches more) =
    absurd (same-or-beyond f g n within.0.branches within.1.branches more)
comparisons_agree f g n _ _ (many_branches more) (equivalent p q two within) =
    absurd (same-or-beyond f g n within.0.branches within.1.branches more)
comparisons_agree f g n _ _ (many_branches more) (first_alone list two within) = absurd (first-or-beyond f g n list two within.0.branches more)
comparisons_agree f g n _ _ (many_branches more) (second_alone list two within) =
    absurd (same-or-beyond f g n within.0.branches within.1.branches more)
comparisons_agree f g n _ _ (many_branches more) (many_branches also) = same (Err (Own (States n)))

-- ---- outcomes

few_or_many : (plan : PlainPlan) → HasFewMaps plan → ¬ HasManyMaps plan
few_or_many plan few (job, there, many) =
    let le = All-contains (λ (j : PlainJob). length j.maps ≤ most_maps) plan.jobs job few there in omega (arith, le, many)

module _ (takes : Class → Bool) (formulas : List Plain) (plans : List PlainPlan) (decides : Answer EaVerdict EaFault → Type 0) where
  not-many : Each HasFewMaps plans → (plan : PlainPlan) → Contains plans plan → ¬ HasManyMaps plan
  not-many few plan there many = few_or_many plan (each-at HasFewMaps plans plan few there) many

  not-large : Each IsCounted plans → (plan : PlainPlan) → Contains plans plan → ¬ HasManyMembers plan
  not-large counted plan there many = let within = (each-at IsCounted plans plan counted there).members in omega (arith, within, many)

  few-of : Each IsCounted plans → Each HasFewMaps plans
  few-of counted = each-like IsCounted HasFewMaps (λ (plan : PlainPlan) is. is.maps) plans counted

  -- Where the classes are taken and the plans within their counts, the answer is what is decided.
  pub decided_where_ready : AreTaken (by_class takes) formulas → Each IsCounted plans → (a : Answer EaVerdict EaFault)
      → Outcome takes formulas plans decides a → (a ≡ Err Memory) ⊎ decides a
  decided_where_ready taken counted _ (untaken j c one) = absurd (untaken_or_taken (by_class takes) formulas j c one taken)
  decided_where_ready taken counted _ (many_instances again plan there many) = absurd (not-many (few-of counted) plan there many)
  decided_where_ready taken counted _ (large_closure again few plan there many) = absurd (not-large counted plan there many)
  decided_where_ready taken counted a (done _ again also is) = inr is
  decided_where_ready taken counted _ spent = inl refl

  module _ (decided : (a b : Answer EaVerdict EaFault) → decides a → decides b → Agree a b) where
    pub outcomes_agree : (a b : Answer EaVerdict EaFault) → Outcome takes formulas plans decides a → Outcome takes formulas plans decides b
        → AgreeOrShort ea_rules a b
    outcomes_agree _ b spent two = inl refl
    outcomes_agree a _ (untaken j c one) spent = inr (inl refl)
    outcomes_agree a _ (many_instances taken plan there many) spent = inr (inl refl)
    outcomes_agree a _ (large_closure taken few plan there many) spent = inr (inl refl)
    outcomes_agree a _ (done _ taken counted is) spent = inr (inl refl)
    outcomes_agree _ _ (untaken j c one) (untaken k d two) =
        let (place, class) = untaken_once (by_class takes) formulas j k c d one two in
        let P : Answer EaVerdict EaFault → Type 0 = λ a. Agree (Err (Prefix j c)) a in
        inr (inr (subst P (λ i. Err (Prefix (place i) (class i))) (same (Err (Prefix j c)))))
    outcomes_agree _ _ (untaken j c one) (many_instances taken plan there many) = absurd (untaken_or_taken (by_class takes) formulas j c one taken)
    outcomes_agree _ _ (untaken j c one) (large_closure taken few plan there many) = absurd (untaken_or_taken (by_class takes) formulas j c one taken)
    outcomes_agree _ b (untaken j c one) (done _ taken counted is) = absurd (untaken_or_taken (by_class takes) formulas j c one taken)
    outcomes_agree _ _ (many_instances taken plan there many) (untaken k d two) = absurd (untaken_or_taken (by_class takes) formulas k d two taken)
    outcomes_agree _ _ (many_instances taken plan there many) (many_instances again other further also) = inr (inr (same _))
    outcomes_agree _ _ (many_instances taken plan there many) (large_closure again few other further also) = absurd (not-many few plan there many)
    outcomes_agree _ b (many_instances taken plan there many) (done _ again counted is) = absurd (not-many (few-of counted) plan there many)
    outcomes_agree _ _ (large_closure taken few plan there many) (untaken k d two) = absurd (untaken_or_taken (by_class takes) formulas k d two taken)
    outcomes_agree _ _ (large_closure taken few plan there many) (many_instances again other further also) = absurd (not-many few other further also)
    outcomes_agree _ _ (large_closure taken few plan there many) (large_closure again less other further also) = inr (inr (same _))
    outcomes_agree _ b (large_closure taken few plan there many) (done _ again counted is) = absurd (not-large counted plan there many)
    outcomes_agree a _ (done _ taken counted is) (untaken k d two) = absurd (untaken_or_taken (by_class takes) formulas k d two taken)
    outcomes_agree a _ (done _ taken counted is) (many_instances again plan there many) = absurd (not-many (few-of counted) plan there many)
    outcomes_agree a _ (done _ taken counted is) (large_closure again few plan there many) = absurd (not-large counted plan there many)
    outcomes_agree a b (done _ taken counted one) (done _ again also two) = inr (inr (decided a b one two))

-- ---- by a free circuit

of_open : (plan : PlainPlan) (ask : Ask) (a : Said) → IsOpen plan ask a → IsOfCircuit a
of_open plan ask _ (deep kept path is) = tt
of_open plan ask _ (tired k step kept log is) = tt
of_open plan ask _ (past limit None (facts, stopped)) = stopped_facts (plan_safe plan) limit stopped
of_open plan ask _ (past limit (Some kept) (keeps, stopped)) =
    stopped_paths (plan_safe plan) kept.inv ask.depth limit.kind limit.limit stopped

-- It says nothing that another may deny.
record IsMute (a : Said) : Type 0 where
  list : ¬ HasList a
  proof : ¬ IsRefuted a
  side : (side : ℕ) → ¬ IsSide a side

mute_open : (plan : PlainPlan) (ask : Ask) (a : Said) → IsOpen plan ask a → IsMute a
mute_open plan ask _ (deep kept path is) = record { list = λ x. x; proof = λ x. x; side = λ s x. x }
mute_open plan ask _ (tired k step kept log is) = record { list = λ x. x; proof = λ x. x; side = λ s x. x }
mute_open plan ask _ (past limit kept is) = record { list = λ x. x; proof = λ x. x; side = λ s x. x }

module _ (a b : Said) (one : IsOfCircuit a) (two : IsOfCircuit b) where
  mute-denies : IsMute a → ¬ DenyByCircuit a b
  mute-denies mute (inl (list, proof)) = mute.list list
  mute-denies mute (inr (inl (proof, list))) = mute.proof proof
  mute-denies mute (inr (inr (side, other, is, also, apart))) = mute.side side is

  denies-mute : IsMute b → ¬ DenyByCircuit a b
  denies-mute mute (inl (list, proof)) = mute.proof proof
  denies-mute mute (inr (inl (proof, list))) = mute.list list
  denies-mute mute (inr (inr (side, other, is, also, apart))) = mute.side other also

  left_open : (plan : PlainPlan) (ask : Ask) → IsOpen plan ask a → Agree a b
  left_open plan ask is = other_circuit a b one two (mute-denies (mute_open plan ask a is))

  right_open : (plan : PlainPlan) (ask : Ask) → IsOpen plan ask b → Agree a b
  right_open plan ask is = other_circuit a b one two (denies-mute (mute_open plan ask b is))

undenied : (p q : CircuitVerdict) → IsRefuted (Ok (ByCircuit p)) → IsRefuted (Ok (ByCircuit q)) → Agree (Ok (ByCircuit p)) (Ok (ByCircuit q))
undenied p q one two = other_circuit _ _ tt tt (only-proofs p q)
  where
    only-proofs : (p q : CircuitVerdict) → ¬ DenyByCircuit (Ok (ByCircuit p)) (Ok (ByCircuit q))
    only-proofs p q (inl (list, proof)) = list
    only-proofs p q (inr (inl (proof, list))) = list
    only-proofs p q (inr (inr (side, other, is, also, apart))) = is

of_one : (f : Plain) (ask : Ask) (a : Said) → SettlesOne f ask a → IsOfCircuit a
of_one f ask _ (deciding.sat list is) = tt
of_one f ask _ (deciding.unsat proof is) = tt
of_one f ask a (deciding.unsettled _ is) = of_open (plan_of f) ask a is

settled_agree : (f : Plain) (ask : Ask) (a b : Said) → SettlesOne f ask a → SettlesOne f ask b → Agree a b
settled_agree f ask a b (deciding.unsettled _ is) two =
    left_open a b (of_open (plan_of f) ask a is) (of_one f ask b two) (plan_of f) ask is
settled_agree f ask a b one (deciding.unsettled _ is) =
    right_open a b (of_one f ask a one) (of_open (plan_of f) ask b is) (plan_of f) ask is
settled_agree f ask _ _ (deciding.sat list one) (deciding.sat other two) = other_model list other
settled_agree f ask _ _ (deciding.sat list one) (deciding.unsat proof two) =
    absurd (two.0 (list, one.0.some, one.0.lassos, one.0.satisfies))
settled_agree f ask _ _ (deciding.unsat proof one) (deciding.sat list two) =
    absurd (one.0 (list, two.0.some, two.0.lassos, two.0.satisfies))
settled_agree f ask _ _ (deciding.unsat proof one) (deciding.unsat other two) = undenied (circuit.Unsat proof) (circuit.Unsat other) tt tt

of_two : (f g : Plain) (ask : Ask) (a : Said) → SettlesTwo f g ask a → IsOfCircuit a
of_two f g ask _ (deciding.implied proof is) = tt
of_two f g ask _ (deciding.not_implied list is) = tt
of_two f g ask a (deciding.unsettled _ is) = of_open (plan_against f g) ask a is

implied_agree : (f g : Plain) (ask : Ask) (a b : Said) → SettlesTwo f g ask a → SettlesTwo f g ask b → Agree a b
implied_agree f g ask a b (deciding.unsettled _ is) two =
    left_open a b (of_open (plan_against f g) ask a is) (of_two f g ask b two) (plan_against f g) ask is
implied_agree f g ask a b one (deciding.unsettled _ is) =
    right_open a b (of_two f g ask a one) (of_open (plan_against f g) ask b is) (plan_against f g) ask is
implied_agree f g ask _ _ (deciding.implied proof one) (deciding.implied other two) = undenied (circuit.Implied proof) (circuit.Implied other) tt tt
implied_agree f g ask _ _ (deciding.implied proof one) (deciding.not_implied list two) = absurd (apart_or_implies f g list two one.0)
implied_agree f g ask _ _ (deciding.not_implied list one) (deciding.implied proof two) = absurd (apart_or_implies f g list one two.0)
implied_agree f g ask _ _ (deciding.not_implied list one) (deciding.not_implied other two) = other_witness list other

of_both : (f g : Plain) (ask : Ask) (a : Said) → SettlesBoth f g ask a → IsOfCircuit a
of_both f g ask _ (deciding.equivalent first second is) = tt
of_both f g ask _ (deciding.first_alone list is) = tt
of_both f g ask _ (deciding.second_alone list is) = tt
of_both f g ask a (deciding.unsettled _ is) = of_open (plan_against f g) ask a is
of_both f g ask a (unsettled_back _ implies is) = of_open (plan_against g f) ask a is

compared_agree : (f g : Plain) (ask : Ask) (a b : Said) → SettlesBoth f g ask a → SettlesBoth f g ask b → Agree a b
compared_agree f g ask a b (deciding.unsettled _ is) two =
    left_open a b (of_open (plan_against f g) ask a is) (of_both f g ask b two) (plan_against f g) ask is
compared_agree f g ask a b (unsettled_back _ implies is) two =
    left_open a b (of_open (plan_against g f) ask a is) (of_both f g ask b two) (plan_against g f) ask is
compared_agree f g ask a b one (deciding.unsettled _ is) =
    right_open a b (of_both f g ask a one) (of_open (plan_against f g) ask b is) (plan_against f g) ask is
compared_agree f g ask a b one (unsettled_back _ implies is) =
    right_open a b (of_both f g ask a one) (of_open (plan_against g f) ask b is) (plan_against g f) ask is
compared_agree f g ask _ _ (deciding.equivalent p q one) (deciding.equivalent r s two) =
    undenied (circuit.Equivalent p q) (circuit.Equivalent r s) tt tt
compared_agree f g ask _ _ (deciding.equivalent p q one) (deciding.first_alone list two) = absurd (apart_or_implies f g list two one.0.0)
compared_agree f g ask _ _ (deciding.equivalent p q one) (deciding.second_alone list two) = absurd (apart_or_implies g f list two.1 one.1.0)
compared_agree f g ask _ _ (deciding.first_alone list one) (deciding.equivalent p q two) = absurd (apart_or_implies f g list one two.0.0)
compared_agree f g ask _ _ (deciding.first_alone list one) (deciding.first_alone other two) = other_side 0 list other
compared_agree f g ask _ _ (deciding.first_alone list one) (deciding.second_alone other two) = absurd (apart_or_implies f g list one two.0)
compared_agree f g ask _ _ (deciding.second_alone list one) (deciding.equivalent p q two) = absurd (apart_or_implies g f list one.1 two.1.0)
compared_agree f g ask _ _ (deciding.second_alone list one) (deciding.first_alone other two) = absurd (apart_or_implies f g other two one.0)
compared_agree f g ask _ _ (deciding.second_alone list one) (deciding.second_alone other two) = other_side 1 list other

-- ---- by either

decides_agree : (f : Plain) (engine : Engine) (a b : Said) → DecidesBy f engine a → DecidesBy f engine b → Agree a b
decides_agree f (Branches n) = decisions_agree f n
decides_agree f (Circuit ask) = settled_agree f ask

relates_agree : (relation : Relation) (f g : Plain) (engine : Engine) (a b : Said) → Relates relation f g engine a → Relates relation f g engine b
    → Agree a b
relates_agree Implication f g (Branches n) = implications_agree f g n
relates_agree Equivalence f g (Branches n) = comparisons_agree f g n
relates_agree Implication f g (Circuit ask) = implied_agree f g ask
relates_agree Equivalence f g (Circuit ask) = compared_agree f g ask

pub decisions_once : (f : Plain) (engine : Engine) (a b : Said) → IsDecision f engine a → IsDecision f engine b → AgreeOrShort ea_rules a b
decisions_once f engine = outcomes_agree is_decided (f ∷ []) (plan_of f ∷ []) (DecidesBy f engine) (decides_agree f engine)

pub relations_once : (relation : Relation) (f g : Plain) (engine : Engine) (a b : Said) → IsRelated relation f g engine a
    → IsRelated relation f g engine b → AgreeOrShort ea_rules a b
relations_once relation f g engine =
    outcomes_agree is_of_one_kind (f ∷ g ∷ []) (plans_between relation f g) (Relates relation f g engine) (relates_agree relation f g engine)

-- ---- judgements

pub judged_once : (prefix : List Quant) (body : Tree) (list : List (Lasso Letter)) (a b : Answer EaVerdict EaFault)
    → IsJudgement prefix body list a → IsJudgement prefix body list b → AgreeOrShort ea_rules a b
judged_once prefix body list _ b judging.spent two = inl refl
judged_once prefix body list a _ (satisfies fits is) judging.spent = inr (inl refl)
judged_once prefix body list a _ (violates fits is) judging.spent = inr (inl refl)
judged_once prefix body list a _ (too_joint long) judging.spent = inr (inl refl)
judged_once prefix body list _ _ (satisfies fits is) (satisfies also again) = inr (inr (same _))
judged_once prefix body list _ _ (satisfies fits is) (violates also not) = absurd (not is)
judged_once prefix body list _ _ (satisfies fits is) (too_joint long) = absurd (long fits)
judged_once prefix body list _ _ (violates fits not) (satisfies also is) = absurd (not is)
judged_once prefix body list _ _ (violates fits is) (violates also again) = inr (inr (same _))
judged_once prefix body list _ _ (violates fits is) (too_joint long) = absurd (long fits)
judged_once prefix body list _ _ (too_joint long) (satisfies fits is) = absurd (long fits)
judged_once prefix body list _ _ (too_joint long) (violates fits is) = absurd (long fits)
judged_once prefix body list _ _ (too_joint long) (too_joint also) = inr (inr (same _))

-- Where its lassos repeat together soon enough a list is judged.
pub judged_where_ready : (prefix : List Quant) (body : Tree) (list : List (Lasso Letter)) → IsJudged list → (a : Answer EaVerdict EaFault)
    → IsJudgement prefix body list a
    → (a ≡ Err Memory) ⊎ ((a ≡ Ok OnTrue) × Satisfies list prefix body) ⊎ ((a ≡ Ok OnFalse) × (¬ Satisfies list prefix body))
judged_where_ready prefix body list fits _ (satisfies also is) = inr (inl (refl, is))
judged_where_ready prefix body list fits _ (violates also not) = inr (inr (refl, not))
judged_where_ready prefix body list fits _ (too_joint long) = absurd (long fits)
judged_where_ready prefix body list fits _ judging.spent = inl refl
