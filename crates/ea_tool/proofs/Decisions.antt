-- What calls of decisions say is what they come to, and the run follows it.
use Rattle.std.proofs.Common.{◌≡◌, ◌≢◌, ℕ, Bool, true, false, cond, List, [], ◌∷◌, Ok, Err, inl, inr, refl, sym, ap, subst, ◌∙◌}
use Rattle.hy_base.specs.declared.limit.Limit.{Limit as Past}
use Rattle.hy_base.specs.declared.shelf.Shelf.{Ghosts}
use Rattle.hy_base.proofs.Members.{contains-here, contains-later}
use Rattle.hy_bits.specs.Letter.{Letter}
use Rattle.hy_formula.specs.Lassos.{Lasso}
use Rattle.hy_formula.specs.Classes.{class_of}
use Rattle.hy_formula.specs.declared.classes.Class.{Class}
use Rattle.hy_formula.specs.declared.classes.Class.TheVariants as classes
use Rattle.hy_formula.specs.declared.prefix.Quant.{Quant}
use Rattle.hy_formula.specs.Formulas.{Plain}
use Rattle.ea_reduce.specs.Fulfilled.{IsOfOneKind}
use Rattle.ea_reduce.specs.Refused.{RefusesClass as Unlike}
use Rattle.rank_proofs.specs.declared.rank_proof.RankProof.{RankProof}
use Rattle.ea_core.specs.declared.decision.Decision.TheVariants as decisions
use Rattle.ea_core.specs.declared.decision.Both.TheVariants as both
use Rattle.ea_core.specs.declared.ea_error.EaError.{EaError}
use Rattle.ea_core.specs.declared.ea_error.EaError.TheVariants as errors
use Rattle.ea_core.specs.Decided.{Decides, DecidesImplication, DecidesEquivalence}
use Rattle.ea_core.specs.Undecided.{IsCounted, IsWithin, AreWithin, RefusesCounts, RefusesPlans, Undecided, UndecidedImplication, UndecidedEquivalence}
use Rattle.ea_reduce.specs.Plans.{PlainPlan}
use Rattle.mc_core.specs.declared.ask.Ask.{Ask}
use Rattle.free_net.specs.FreeNets.{plan_safe}
use Rattle.ea_circuit.specs.declared.circuit_error.CircuitError.{CircuitError}
use Rattle.ea_circuit.specs.declared.circuit_error.CircuitError.TheVariants as stops
use Rattle.ea_circuit.specs.declared.found.Found.{Found}
use Rattle.ea_circuit.specs.declared.found.Found.TheVariants as found
use Rattle.ea_circuit.specs.declared.found.FoundBoth.{FoundBoth}
use Rattle.ea_circuit.specs.declared.found.FoundBoth.TheVariants as founds
use Rattle.ea_circuit.specs.declared.found.Unknown.{Unknown}
use Rattle.ea_circuit.specs.declared.found.Unknown.TheVariants as unknown
use Rattle.ea_circuit.specs.Found.{IsUnknown, Decides as Settles, DecidesImplication as SettlesImplication, DecidesEquivalence as SettlesEquivalence}
use Rattle.ea_circuit.specs.Refused.{Undecided as Unsettled, UndecidedImplication as UnsettledImplication, UndecidedEquivalence as UnsettledEquivalence}
use Rattle.hy_files.specs.Contents.{IsFormula, IsNoFormula}
use Rattle.hy_files.specs.Steps.{Takes, Fails}
use Rattle.hy_files.specs.declared.fault.FileFault.{FileFault}
use Rattle.hy_run.specs.Classes.{FirstUntaken, AreTaken, by_class, is_decided, is_of_one_kind}
use Rattle.hy_run.specs.Refusals.{file_refusal}
use Rattle.hy_run.specs.Runs.{Answer, Follows}
use Rattle.hy_run.specs.declared.refusal.Refusal.TheVariants.{Prefix, Limit}
use Rattle.hy_run.proofs.Steps.{finish, pass, stop}
use Rattle.ea_tool.specs.Deciding as deciding
use Rattle.ea_tool.specs.Deciding.{plan_of, plan_against, DecidesOne, DecidesTwo, ComparesTwo, sat, unsat, implied, not_implied, beyond, equivalent, first_alone, second_alone, many_branches}
use Rattle.ea_tool.specs.Deciding.{SettlesOne, SettlesTwo, SettlesBoth, IsOpen, deep, tired, past, unsettled_back, open_verdict, settled_verdict, implied_verdict, compared_verdict, circuit_refusal}
use Rattle.ea_tool.specs.Deciding.{Outcome, IsDecision, IsRelated, untaken, many_instances, large_closure, done, spent, decision_refusal}
use Rattle.ea_tool.specs.Rules.{ea_rules}
use Rattle.ea_tool.specs.declared.verdict.EaFault.{EaFault}
use Rattle.ea_tool.specs.declared.verdict.Engine.{Engine}
use Rattle.ea_tool.specs.declared.verdict.Engine.TheVariants.{Branches, Circuit}
use Rattle.ea_tool.specs.declared.verdict.EaVerdict.{EaVerdict}
use Rattle.ea_tool.specs.declared.verdict.EaVerdict.TheVariants as verdicts
use Rattle.ea_tool.specs.declared.verdict.Question.{Question}
use Rattle.ea_tool.specs.declared.verdict.Question.TheVariants.{Decide, Relate}
use Rattle.ea_tool.specs.declared.verdict.Relation.{Relation}
use Rattle.ea_tool.specs.declared.verdict.Relation.TheVariants.{Implication, Equivalence}
use Rattle.ea_tool.proofs.Reading.{past_first}

decided-taken : (c : Class) → c ≢ classes.Other → is_decided c ≡ true
decided-taken classes.Exists known = refl
decided-taken classes.Forall known = refl
decided-taken classes.ExistsForall known = refl
decided-taken classes.Other known = absurd (known refl)

one_kind-taken : (prefix : List Quant) (c : Class) → class_of prefix ≡ c → IsOfOneKind prefix → is_of_one_kind c ≡ true
one_kind-taken prefix classes.Exists e is = refl
one_kind-taken prefix classes.Forall e is = refl
one_kind-taken prefix classes.ExistsForall e (inl f) = let both = sym e ∙ f in cc
one_kind-taken prefix classes.ExistsForall e (inr f) = let both = sym e ∙ f in cc
one_kind-taken prefix classes.Other e (inl f) = let both = sym e ∙ f in cc
one_kind-taken prefix classes.Other e (inr f) = let both = sym e ∙ f in cc

one_kind-untaken : (prefix : List Quant) (c : Class) → class_of prefix ≡ c → ¬ IsOfOneKind prefix → is_of_one_kind c ≡ false
one_kind-untaken prefix classes.Exists e other = absurd (other (inl e))
one_kind-untaken prefix classes.Forall e other = absurd (other (inr e))
one_kind-untaken prefix classes.ExistsForall e other = refl
one_kind-untaken prefix classes.Other e other = refl

-- ---- plans that are past a count

module _ (takes : Class → Bool) (formulas : List Plain) (decides : Answer EaVerdict EaFault → Type 0) (taken : AreTaken (by_class takes) formulas) where
  abbrev Refuses : List PlainPlan → Past → Type 0
  Refuses plans limit = Outcome takes formulas plans decides (Err (Limit limit.kind limit.limit))

  counts-refused : (plan : PlainPlan) (limit : Past) → RefusesCounts plan limit → Refuses (plan ∷ []) limit
  counts-refused plan limit (inl (e, many)) = subst (Refuses (plan ∷ [])) (sym e) (many_instances taken plan (contains-here plan []) many)
  counts-refused plan limit (inr (e, few, many)) =
      subst (Refuses (plan ∷ [])) (sym e) (large_closure taken (few, tt) plan (contains-here plan []) many)

  plans-refused : (plan back : PlainPlan) (limit : Past) → RefusesPlans plan back limit → Refuses (plan ∷ back ∷ []) limit
  plans-refused plan back limit (inl (e, inl many)) =
      subst (Refuses (plan ∷ back ∷ [])) (sym e) (many_instances taken plan (contains-here plan (back ∷ [])) many)
  plans-refused plan back limit (inl (e, inr many)) =
      subst (Refuses (plan ∷ back ∷ [])) (sym e) (many_instances taken back (contains-later plan back (back ∷ []) (contains-here back [])) many)
  plans-refused plan back limit (inr (e, few, also, inl many)) =
      subst (Refuses (plan ∷ back ∷ [])) (sym e) (large_closure taken (few, (also, tt)) plan (contains-here plan (back ∷ [])) many)
  plans-refused plan back limit (inr (e, few, also, inr many)) =
      subst (Refuses (plan ∷ back ∷ [])) (sym e)
      (large_closure taken (few, (also, tt)) back (contains-later plan back (back ∷ []) (contains-here back [])) many)

-- ---- plans that are left open

open-of : (plan : PlainPlan) (ask : Ask) (rest : Unknown) → IsUnknown (plan_safe plan) ask rest → IsOpen plan ask (Ok (open_verdict ask rest))
open-of plan ask (unknown.Depth kept path) is = deep kept path is
open-of plan ask (unknown.Spent k step kept log) is = tired k step kept log is

-- ---- a formula

module _ (f : Plain) where
  decide-taken : class_of f.prefix ≢ classes.Other → AreTaken (by_class is_decided) (f ∷ [])
  decide-taken known = (decided-taken (class_of f.prefix) known, tt)

  decide-class : (engine : Engine) (second : Bool) (found : Class) → (second ≡ false) × (found ≡ classes.Other) × (class_of f.prefix ≡ classes.Other)
      → IsDecision f engine (Err (Prefix (cond second 1 0) found))
  decide-class engine second found (one, is, other) =
      let P : Bool → Type 0 = λ b. IsDecision f engine (Err (Prefix (cond b 1 0) found)) in
      subst P (sym one) (untaken 0 found (other ∙ sym is, ap is_decided other))

  module _ (states : ℕ) where
    pub decide-sat : (list : List (Lasso Letter)) → class_of f.prefix ≢ classes.Other → IsWithin (plan_of f) states
        → Decides f.prefix f.body (decisions.Sat list) → IsDecision f (Branches states) (Ok (verdicts.Sat list))
    decide-sat list known within is = done _ (decide-taken known) (within.counted, tt) (sat list is within)

    pub decide-unsat : (evidence : RankProof) → class_of f.prefix ≢ classes.Other → IsWithin (plan_of f) states
        → Decides f.prefix f.body (decisions.Unsat evidence) → IsDecision f (Branches states) (Ok (verdicts.Unsat evidence))
    decide-unsat evidence known within is = done _ (decide-taken known) (within.counted, tt) (unsat evidence is within)

    pub decide-refused : (error : EaError) → Undecided f.prefix f.body states error
        → IsDecision f (Branches states) (Err (decision_refusal states error))
    decide-refused (errors.Prefix second found) is = decide-class (Branches states) second found is
    decide-refused (errors.Limit limit) (known, is) =
        counts-refused is_decided (f ∷ []) (DecidesOne f states) (decide-taken known) (plan_of f) limit is
    decide-refused errors.States (known, (counted, more)) = done _ (decide-taken known) (counted, tt) (beyond more)
    decide-refused errors.Memory is = spent

  module _ (ask : Ask) where
    pub settle-found : (it : Found) → class_of f.prefix ≢ classes.Other → IsCounted (plan_of f)
        → Settles f.prefix f.body ask it → IsDecision f (Circuit ask) (Ok (settled_verdict ask it))
    settle-found (found.Sat list) known counted is = done _ (decide-taken known) (counted, tt) (deciding.sat list is)
    settle-found (found.Unsat proof) known counted is = done _ (decide-taken known) (counted, tt) (deciding.unsat proof is)
    settle-found (found.Unknown rest) known counted is =
        done _ (decide-taken known) (counted, tt) (deciding.unsettled _ (open-of (plan_of f) ask rest is))

    pub settle-refused : (error : CircuitError) → Unsettled f.prefix f.body ask error → IsDecision f (Circuit ask) (Err (circuit_refusal error))
    settle-refused (stops.Prefix second found) is = decide-class (Circuit ask) second found is
    settle-refused (stops.Limit limit) (known, is) =
        counts-refused is_decided (f ∷ []) (SettlesOne f ask) (decide-taken known) (plan_of f) limit is
    settle-refused (stops.Query limit kept) (known, counted, is) =
        done _ (decide-taken known) (counted, tt) (deciding.unsettled _ (past limit kept is))
    settle-refused stops.Memory is = spent

  -- The run follows what is decided of the formula.
  pub decide_follows : (engine : Engine) (proof : Bool) {S : Type 0} (g : Ghosts S) (old new : S) (file : List ℕ) (names : List (List ℕ))
      → Takes g old new file (λ bytes. IsFormula 8 [] bytes f names) → (answer : Answer EaVerdict EaFault) → IsDecision f engine answer
      → Follows ea_rules g old new (Decide engine proof) (file ∷ []) names answer
  decide_follows engine proof g old new file names first answer is =
      finish ea_rules (Decide engine proof) (file ∷ []) g old new (first.bytes ∷ []) names answer
      (past_first (Decide engine proof) file [] g old new f names first) (f, first.is, is)

-- ---- two formulas

both-taken : (f g : Plain) → IsOfOneKind f.prefix → IsOfOneKind g.prefix → AreTaken (by_class is_of_one_kind) (f ∷ g ∷ [])
both-taken f g one two = (one_kind-taken f.prefix (class_of f.prefix) refl one, (one_kind-taken g.prefix (class_of g.prefix) refl two, tt))

-- The first formula whose quantifiers are of both kinds.
unlike : (f g : Plain) (second : Bool) (found : Class) → Unlike f.prefix g.prefix second found
    → FirstUntaken (by_class is_of_one_kind) (f ∷ g ∷ []) (cond second 1 0) found
unlike f g false found (is, other) = (is, one_kind-untaken f.prefix (class_of f.prefix) refl other)
unlike f g true found (one, is, other) = (one_kind-taken f.prefix (class_of f.prefix) refl one, (is, one_kind-untaken g.prefix (class_of g.prefix) refl other))

module _ (f g : Plain) (states : ℕ) where
  abbrev Implied : Answer EaVerdict EaFault → Type 0
  Implied = IsRelated Implication f g (Branches states)

  abbrev Compared : Answer EaVerdict EaFault → Type 0
  Compared = IsRelated Equivalence f g (Branches states)

  pub imply-not : (list : List (Lasso Letter)) → IsOfOneKind f.prefix → IsOfOneKind g.prefix → IsWithin (plan_against f g) states
      → DecidesImplication f.prefix f.body g.prefix g.body (decisions.Sat list) → Implied (Ok (verdicts.NotImplied list))
  imply-not list one two within is = done _ (both-taken f g one two) (within.counted, tt) (not_implied list is within)

  pub imply-yes : (evidence : RankProof) → IsOfOneKind f.prefix → IsOfOneKind g.prefix → IsWithin (plan_against f g) states
      → DecidesImplication f.prefix f.body g.prefix g.body (decisions.Unsat evidence) → Implied (Ok (verdicts.Implied evidence))
  imply-yes evidence one two within is = done _ (both-taken f g one two) (within.counted, tt) (implied evidence is within)

  pub imply-refused : (error : EaError) → UndecidedImplication f.prefix f.body g.prefix g.body states error
      → Implied (Err (decision_refusal states error))
  imply-refused (errors.Prefix second found) is = untaken (cond second 1 0) found (unlike f g second found is)
  imply-refused (errors.Limit limit) (one, two, is) =
      counts-refused is_of_one_kind (f ∷ g ∷ []) (DecidesTwo f g states) (both-taken f g one two) (plan_against f g) limit is
  imply-refused errors.States (one, two, (counted, more)) = done _ (both-taken f g one two) (counted, tt) (beyond more)
  imply-refused errors.Memory is = spent

  pub compare-same : (first second : RankProof) → IsOfOneKind f.prefix → IsOfOneKind g.prefix
      → AreWithin f.prefix f.body g.prefix g.body states (both.Same first second)
      → DecidesEquivalence f.prefix f.body g.prefix g.body (both.Same first second) → Compared (Ok (verdicts.Equivalent first second))
  compare-same first second one two (within, back) is =
      done _ (both-taken f g one two) (within.counted, (back.counted, tt)) (equivalent first second is (within, back))

  pub compare-first : (list : List (Lasso Letter)) → IsOfOneKind f.prefix → IsOfOneKind g.prefix
      → AreWithin f.prefix f.body g.prefix g.body states (both.First list)
      → DecidesEquivalence f.prefix f.body g.prefix g.body (both.First list) → Compared (Ok (verdicts.NotEquivalent 0 list))
  compare-first list one two (within, counted) is =
      done _ (both-taken f g one two) (within.counted, (counted, tt)) (first_alone list is (within, counted))

  pub compare-second : (list : List (Lasso Letter)) → IsOfOneKind f.prefix → IsOfOneKind g.prefix
      → AreWithin f.prefix f.body g.prefix g.body states (both.Second list)
      → DecidesEquivalence f.prefix f.body g.prefix g.body (both.Second list) → Compared (Ok (verdicts.NotEquivalent 1 list))
  compare-second list one two (within, back) is =
      done _ (both-taken f g one two) (within.counted, (back.counted, tt)) (second_alone list is (within, back))

  pub compare-refused : (error : EaError) → UndecidedEquivalence f.prefix f.body g.prefix g.body states error
      → Compared (Err (decision_refusal states error))
  compare-refused (errors.Prefix second found) is = untaken (cond second 1 0) found (unlike f g second found is)
  compare-refused (errors.Limit limit) (one, two, is) =
      plans-refused is_of_one_kind (f ∷ g ∷ []) (ComparesTwo f g states) (both-taken f g one two) (plan_against f g) (plan_against g f) limit is
  compare-refused errors.States (one, two, counted, back, more) = done _ (both-taken f g one two) (counted, (back, tt)) (many_branches more)
  compare-refused errors.Memory is = spent

module _ (f g : Plain) (ask : Ask) where
  abbrev IsImplied : Answer EaVerdict EaFault → Type 0
  IsImplied = IsRelated Implication f g (Circuit ask)

  abbrev IsCompared : Answer EaVerdict EaFault → Type 0
  IsCompared = IsRelated Equivalence f g (Circuit ask)

  pub settle-implied : (it : Found) → IsOfOneKind f.prefix → IsOfOneKind g.prefix → IsCounted (plan_against f g)
      → SettlesImplication f.prefix f.body g.prefix g.body ask it → IsImplied (Ok (implied_verdict ask it))
  settle-implied (found.Sat list) one two counted is = done _ (both-taken f g one two) (counted, tt) (deciding.not_implied list is)
  settle-implied (found.Unsat proof) one two counted is = done _ (both-taken f g one two) (counted, tt) (deciding.implied proof is)
  settle-implied (found.Unknown rest) one two counted is =
      done _ (both-taken f g one two) (counted, tt) (deciding.unsettled _ (open-of (plan_against f g) ask rest is))

  pub settle-unimplied : (error : CircuitError) → UnsettledImplication f.prefix f.body g.prefix g.body ask error
      → IsImplied (Err (circuit_refusal error))
  settle-unimplied (stops.Prefix second found) is = untaken (cond second 1 0) found (unlike f g second found is)
  settle-unimplied (stops.Limit limit) (one, two, is) =
      counts-refused is_of_one_kind (f ∷ g ∷ []) (SettlesTwo f g ask) (both-taken f g one two) (plan_against f g) limit is
  settle-unimplied (stops.Query limit kept) (one, two, counted, is) =
      done _ (both-taken f g one two) (counted, tt) (deciding.unsettled _ (past limit kept is))
  settle-unimplied stops.Memory is = spent

  pub settle-compared : (it : FoundBoth) → IsOfOneKind f.prefix → IsOfOneKind g.prefix → IsCounted (plan_against f g) → IsCounted (plan_against g f)
      → SettlesEquivalence f.prefix f.body g.prefix g.body ask it → IsCompared (Ok (compared_verdict ask it))
  settle-compared (founds.Same first second) one two counted back is =
      done _ (both-taken f g one two) (counted, (back, tt)) (deciding.equivalent first second is)
  settle-compared (founds.First list) one two counted back is =
      done _ (both-taken f g one two) (counted, (back, tt)) (deciding.first_alone list is)
  settle-compared (founds.Second list) one two counted back is =
      done _ (both-taken f g one two) (counted, (back, tt)) (deciding.second_alone list is)
  settle-compared (founds.Unknown rest) one two counted back (inl is) =
      done _ (both-taken f g one two) (counted, (back, tt)) (deciding.unsettled _ (open-of (plan_against f g) ask rest is))
  settle-compared (founds.Unknown rest) one two counted back (inr (implies, is)) =
      done _ (both-taken f g one two) (counted, (back, tt)) (unsettled_back _ implies (open-of (plan_against g f) ask rest is))

  pub settle-uncompared : (error : CircuitError) → UnsettledEquivalence f.prefix f.body g.prefix g.body ask error
      → IsCompared (Err (circuit_refusal error))
  settle-uncompared (stops.Prefix second found) is = untaken (cond second 1 0) found (unlike f g second found is)
  settle-uncompared (stops.Limit limit) (one, two, is) =
      plans-refused is_of_one_kind (f ∷ g ∷ []) (SettlesBoth f g ask) (both-taken f g one two) (plan_against f g) (plan_against g f) limit is
  settle-uncompared (stops.Query limit kept) (one, two, counted, back, inl is) =
      done _ (both-taken f g one two) (counted, (back, tt)) (deciding.unsettled _ (past limit kept is))
  settle-uncompared (stops.Query limit kept) (one, two, counted, back, inr (implies, is)) =
      done _ (both-taken f g one two) (counted, (back, tt)) (unsettled_back _ implies (past limit kept is))
  settle-uncompared stops.Memory is = spent

-- ---- the run

module _ (relation : Relation) (engine : Engine) (proof : Bool) {S : Type 0} (g : Ghosts S) (old mid new : S) (one two : List ℕ) (f : Plain) (known : List (List ℕ))
    (first : Takes g old mid one (λ bytes. IsFormula 8 [] bytes f known)) where
  abbrev relates : Question
  relates = Relate relation engine proof

  -- The run ends at the second formula.
  pub ends_at_second : (any : List (List ℕ)) (fault : FileFault) → Fails g mid new two (IsNoFormula 8 known) fault
      → Follows ea_rules g old new relates (one ∷ two ∷ []) any (Err (file_refusal 1 fault))
  ends_at_second any fault fails =
      stop ea_rules relates (one ∷ two ∷ []) g old mid two [] (first.bytes ∷ []) known (past_first relates one (two ∷ []) g old mid f known first)
      new any (IsNoFormula 8 known) (λ bytes f is. is) fault fails

  -- The run follows what is decided of the formulas.
  pub relation_follows : (h : Plain) (names : List (List ℕ)) → Takes g mid new two (λ bytes. IsFormula 8 known bytes h names)
      → (answer : Answer EaVerdict EaFault) → IsRelated relation f h engine answer
      → Follows ea_rules g old new relates (one ∷ two ∷ []) names answer
  relation_follows h names second answer is =
      finish ea_rules relates (one ∷ two ∷ []) g old new (first.bytes ∷ second.bytes ∷ []) names answer
      (pass ea_rules relates (one ∷ two ∷ []) g old mid two [] (first.bytes ∷ []) known
      (past_first relates one (two ∷ []) g old mid f known first) new names (λ bytes. IsFormula 8 known bytes h names) second (h, second.is))
      (f, h, known, first.is, second.is, is)
