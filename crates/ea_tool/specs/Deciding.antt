-- What is answered for a formula that is decided, and for two formulas of which one is to imply the other, or that are
-- to be equivalent.
use Rattle.std.specs.Prelude.{◌⊎◌, ℕ, Bool, cond, List, [], ◌∷◌, Option, Ok, Err}
use Rattle.std.specs.List.{Contains}
use Rattle.hy_base.specs.Limits.{most}
use Rattle.hy_base.specs.declared.limit.Kind.TheVariants.{Instances, Closure}
use Rattle.hy_base.specs.declared.limit.Limit.{Limit as Past}
use Rattle.hy_bits.specs.Letter.{Letter}
use Rattle.hy_formula.specs.Quantifiers.{Each}
use Rattle.hy_formula.specs.declared.classes.Class.{Class}
use Rattle.hy_formula.specs.Lassos.{Lasso}
use Rattle.hy_formula.specs.Formulas.{Plain}
use Rattle.ea_reduce.specs.Plans.{PlainPlan, implication, reduction}
use Rattle.ea_reduce.specs.Refused.{HasFewMaps, HasManyMaps}
use Rattle.rank_proofs.specs.declared.rank_proof.RankProof.{RankProof}
use Rattle.rank_proofs.specs.Counts.{HasManyMembers}
use Rattle.ea_core.specs.declared.decision.Decision.TheVariants as decisions
use Rattle.ea_core.specs.declared.decision.Both.TheVariants as both
use Rattle.ea_core.specs.declared.ea_error.EaError.{EaError}
use Rattle.ea_core.specs.declared.ea_error.EaError.TheVariants as errors
use Rattle.ea_core.specs.Decided.{Decides, DecidesImplication, DecidesEquivalence, Implies}
use Rattle.ea_core.specs.Undecided.{IsCounted, IsWithin, AreWithin, HasFewBranches, HasManyBranches}
use Rattle.chain_check.specs.declared.logs.Learned.{Learned}
use Rattle.cnf_frames.specs.declared.inductions.InductionProof.{InductionProof}
use Rattle.live_safe.specs.declared.safe_net.Path.{Path}
use Rattle.invar_find.specs.declared.kept.Kept.{Kept}
use Rattle.mc_core.specs.declared.ask.Ask.{Ask}
use Rattle.free_net.specs.FreeNets.{plan_safe}
use Rattle.ea_circuit.specs.declared.circuit_error.CircuitError.{CircuitError}
use Rattle.ea_circuit.specs.declared.circuit_error.CircuitError.TheVariants as stops
use Rattle.ea_circuit.specs.declared.found.Found.{Found}
use Rattle.ea_circuit.specs.declared.found.Found.TheVariants as found
use Rattle.ea_circuit.specs.declared.found.FoundBoth.{FoundBoth}
use Rattle.ea_circuit.specs.declared.found.FoundBoth.TheVariants as founds
use Rattle.ea_circuit.specs.declared.found.Unknown.{Unknown}
use Rattle.ea_circuit.specs.declared.found.Unknown.TheVariants as unknown
use Rattle.ea_circuit.specs.Found as circuits
use Rattle.ea_circuit.specs.Found.{IsUnknown}
use Rattle.ea_circuit.specs.Refused.{RefusesQuery}
use Rattle.hy_run.specs.Classes.{FirstUntaken, AreTaken, by_class, is_decided, is_of_one_kind}
use Rattle.hy_run.specs.Runs.{Answer}
use Rattle.hy_run.specs.declared.refusal.Refusal.{Refusal}
use Rattle.hy_run.specs.declared.refusal.Refusal.TheVariants.{Prefix, Limit, Own, Memory}
use Rattle.ea_tool.specs.declared.verdict.EaFault.{EaFault}
use Rattle.ea_tool.specs.declared.verdict.EaFault.TheVariants.{States}
use Rattle.ea_tool.specs.declared.verdict.Engine.{Engine}
use Rattle.ea_tool.specs.declared.verdict.Engine.TheVariants.{Branches, Circuit}
use Rattle.ea_tool.specs.declared.verdict.EaVerdict.{EaVerdict}
use Rattle.ea_tool.specs.declared.verdict.CircuitVerdict.TheVariants as circuit
use Rattle.ea_tool.specs.declared.verdict.CircuitVerdict.TheVariants.{UnknownDepth, UnknownConflicts}
use Rattle.ea_tool.specs.declared.verdict.EaVerdict.TheVariants.{Sat, Unsat, Implied, NotImplied, Equivalent, NotEquivalent, ByCircuit}
use Rattle.ea_tool.specs.declared.verdict.Relation.{Relation}
use Rattle.ea_tool.specs.declared.verdict.Relation.TheVariants.{Implication, Equivalence}

-- the plan of a formula, and that of the claim that one does not imply another
abbrev pub plan_of : Plain → PlainPlan
plan_of f = reduction f.prefix f.body

abbrev pub plan_against : Plain → Plain → PlainPlan
plan_against f g = implication f.prefix f.body g.prefix g.body

-- ---- by branches

-- A formula is satisfiable or not, or its plan reaches more than n branches.
pub data DecidesOne (f : Plain) (n : ℕ) : Answer EaVerdict EaFault → Type 0 where
  sat : (list : List (Lasso Letter)) → Decides f.prefix f.body (decisions.Sat list) → IsWithin (plan_of f) n
      → DecidesOne f n (Ok (Sat list))
  unsat : (proof : RankProof) → Decides f.prefix f.body (decisions.Unsat proof) → IsWithin (plan_of f) n
      → DecidesOne f n (Ok (Unsat proof))
  beyond : HasManyBranches (plan_of f) n → DecidesOne f n (Err (Own (States n)))

-- A formula implies another or not, or the plan of that reaches more than n branches.
pub data DecidesTwo (f g : Plain) (n : ℕ) : Answer EaVerdict EaFault → Type 0 where
  implied : (proof : RankProof) → DecidesImplication f.prefix f.body g.prefix g.body (decisions.Unsat proof)
      → IsWithin (plan_against f g) n → DecidesTwo f g n (Ok (Implied proof))
  not_implied : (list : List (Lasso Letter)) → DecidesImplication f.prefix f.body g.prefix g.body (decisions.Sat list)
      → IsWithin (plan_against f g) n → DecidesTwo f g n (Ok (NotImplied list))
  beyond : HasManyBranches (plan_against f g) n → DecidesTwo f g n (Err (Own (States n)))

-- Two formulas are equivalent, or one alone is satisfied by a list, the first before the second; or a plan reaches more
-- than n branches, that of the second direction where the first formula implies the second.
pub data ComparesTwo (f g : Plain) (n : ℕ) : Answer EaVerdict EaFault → Type 0 where
  equivalent : (first second : RankProof) → DecidesEquivalence f.prefix f.body g.prefix g.body (both.Same first second)
      → AreWithin f.prefix f.body g.prefix g.body n (both.Same first second)
      → ComparesTwo f g n (Ok (Equivalent first second))
  first_alone : (list : List (Lasso Letter)) → DecidesEquivalence f.prefix f.body g.prefix g.body (both.First list)
      → AreWithin f.prefix f.body g.prefix g.body n (both.First list)
      → ComparesTwo f g n (Ok (NotEquivalent 0 list))
  second_alone : (list : List (Lasso Letter)) → DecidesEquivalence f.prefix f.body g.prefix g.body (both.Second list)
      → AreWithin f.prefix f.body g.prefix g.body n (both.Second list)
      → ComparesTwo f g n (Ok (NotEquivalent 1 list))
  many_branches : HasManyBranches (plan_against f g) n
      ⊎ (HasFewBranches (plan_against f g) n × Implies f.prefix f.body g.prefix g.body × HasManyBranches (plan_against g f) n)
      → ComparesTwo f g n (Err (Own (States n)))

-- ---- by a free circuit

-- What a free circuit leaves open of a plan: paths of so many steps do not decide it, a query learned as many clauses as it
-- may, or a query is past a limit.
pub data IsOpen (plan : PlainPlan) (ask : Ask) : Answer EaVerdict EaFault → Type 0 where
  deep : (kept : Kept) (path : Path) → IsUnknown (plan_safe plan) ask (unknown.Depth kept path)
      → IsOpen plan ask (Ok (ByCircuit (UnknownDepth ask.depth)))
  tired : (k : ℕ) (step : Bool) (kept : Kept) (log : List Learned) → IsUnknown (plan_safe plan) ask (unknown.Spent k step kept log)
      → IsOpen plan ask (Ok (ByCircuit (UnknownConflicts ask.conflicts)))
  past : (limit : Past) (kept : Option Kept) → RefusesQuery plan ask limit kept
      → IsOpen plan ask (Err (Limit limit.kind limit.limit))

-- A formula is satisfiable or not, or its plan is left open.
pub data SettlesOne (f : Plain) (ask : Ask) : Answer EaVerdict EaFault → Type 0 where
  sat : (list : List (Lasso Letter)) → circuits.Decides f.prefix f.body ask (found.Sat list) → SettlesOne f ask (Ok (Sat list))
  unsat : (proof : InductionProof) → circuits.Decides f.prefix f.body ask (found.Unsat proof)
      → SettlesOne f ask (Ok (ByCircuit (circuit.Unsat proof)))
  unsettled : (answer : Answer EaVerdict EaFault) → IsOpen (plan_of f) ask answer → SettlesOne f ask answer

-- A formula implies another or not, or the plan of that is left open.
pub data SettlesTwo (f g : Plain) (ask : Ask) : Answer EaVerdict EaFault → Type 0 where
  implied : (proof : InductionProof) → circuits.DecidesImplication f.prefix f.body g.prefix g.body ask (found.Unsat proof)
      → SettlesTwo f g ask (Ok (ByCircuit (circuit.Implied proof)))
  not_implied : (list : List (Lasso Letter)) → circuits.DecidesImplication f.prefix f.body g.prefix g.body ask (found.Sat list)
      → SettlesTwo f g ask (Ok (NotImplied list))
  unsettled : (answer : Answer EaVerdict EaFault) → IsOpen (plan_against f g) ask answer → SettlesTwo f g ask answer

-- Two formulas are equivalent, or one alone is satisfied by a list, the first before the second; or a plan is left open,
-- that of the second direction where the first formula implies the second.
pub data SettlesBoth (f g : Plain) (ask : Ask) : Answer EaVerdict EaFault → Type 0 where
  equivalent : (first second : InductionProof)
      → circuits.DecidesEquivalence f.prefix f.body g.prefix g.body ask (founds.Same first second)
      → SettlesBoth f g ask (Ok (ByCircuit (circuit.Equivalent first second)))
  first_alone : (list : List (Lasso Letter)) → circuits.DecidesEquivalence f.prefix f.body g.prefix g.body ask (founds.First list)
      → SettlesBoth f g ask (Ok (NotEquivalent 0 list))
  second_alone : (list : List (Lasso Letter)) → circuits.DecidesEquivalence f.prefix f.body g.prefix g.body ask (founds.Second list)
      → SettlesBoth f g ask (Ok (NotEquivalent 1 list))
  unsettled : (answer : Answer EaVerdict EaFault) → IsOpen (plan_against f g) ask answer → SettlesBoth f g ask answer
  unsettled_back : (answer : Answer EaVerdict EaFault) → Implies f.prefix f.body g.prefix g.body → IsOpen (plan_against g f) ask answer
      → SettlesBoth f g ask answer

-- ---- questions

-- What a question about formulas comes to that is decided by these plans: the first of these that is met, or memory ran
-- out. A class is not taken; some plan has a job of too many maps; some plan's closure has too many members; or the answer
-- is as `decides` says.
pub data Outcome (takes : Class → Bool) (formulas : List Plain) (plans : List PlainPlan) (decides : Answer EaVerdict EaFault → Type 0)
    : Answer EaVerdict EaFault → Type 0 where
  untaken : (place : ℕ) (class : Class) → FirstUntaken (by_class takes) formulas place class
      → Outcome takes formulas plans decides (Err (Prefix place class))
  many_instances : AreTaken (by_class takes) formulas → (plan : PlainPlan) → Contains plans plan → HasManyMaps plan
      → Outcome takes formulas plans decides (Err (Limit Instances (most Instances)))
  large_closure : AreTaken (by_class takes) formulas → Each HasFewMaps plans → (plan : PlainPlan)
      → Contains plans plan → HasManyMembers plan
      → Outcome takes formulas plans decides (Err (Limit Closure (most Closure)))
  done : (answer : Answer EaVerdict EaFault) → AreTaken (by_class takes) formulas → Each IsCounted plans → decides answer
      → Outcome takes formulas plans decides answer
  spent : Outcome takes formulas plans decides (Err Memory)

-- What a formula comes to by an engine where its plan is counted.
abbrev pub DecidesBy : Plain → Engine → Answer EaVerdict EaFault → Type 0
DecidesBy f (Branches n) answer = DecidesOne f n answer
DecidesBy f (Circuit ask) answer = SettlesOne f ask answer

-- By an engine the decision of a formula comes to this answer.
abbrev pub IsDecision : Plain → Engine → Answer EaVerdict EaFault → Type 0
IsDecision f engine answer = Outcome is_decided (f ∷ []) (plan_of f ∷ []) (DecidesBy f engine) answer

-- the plans by which a relation of two formulas is decided: one for each direction
abbrev pub plans_between : Relation → Plain → Plain → List PlainPlan
plans_between Implication f g = plan_against f g ∷ []
plans_between Equivalence f g = plan_against f g ∷ plan_against g f ∷ []

-- The formulas stand in the relation or not, by an engine, where their plans are counted.
abbrev pub Relates : Relation → Plain → Plain → Engine → Answer EaVerdict EaFault → Type 0
Relates Implication f g (Branches n) answer = DecidesTwo f g n answer
Relates Equivalence f g (Branches n) answer = ComparesTwo f g n answer
Relates Implication f g (Circuit ask) answer = SettlesTwo f g ask answer
Relates Equivalence f g (Circuit ask) answer = SettlesBoth f g ask answer

-- Whether the formulas stand in the relation.
abbrev pub IsRelated : Relation → Plain → Plain → Engine → Answer EaVerdict EaFault → Type 0
IsRelated relation f g engine answer = Outcome is_of_one_kind (f ∷ g ∷ []) (plans_between relation f g) (Relates relation f g engine) answer

-- how an error of a decision by branches is answered
abbrev pub decision_refusal : ℕ → EaError → Refusal EaFault
decision_refusal states (errors.Prefix second class) = Prefix (cond second 1 0) class
decision_refusal states (errors.Limit limit) = Limit limit.kind limit.limit
decision_refusal states errors.States = Own (States states)
decision_refusal states errors.Memory = Memory

-- how an error of a decision by a free circuit is answered
abbrev pub circuit_refusal : CircuitError → Refusal EaFault
circuit_refusal (stops.Prefix second class) = Prefix (cond second 1 0) class
circuit_refusal (stops.Limit limit) = Limit limit.kind limit.limit
circuit_refusal (stops.Query limit kept) = Limit limit.kind limit.limit
circuit_refusal stops.Memory = Memory

-- how a plan that is left open is answered
abbrev pub open_verdict : Ask → Unknown → EaVerdict
open_verdict ask (unknown.Depth kept path) = ByCircuit (UnknownDepth ask.depth)
open_verdict ask (unknown.Spent k step kept log) = ByCircuit (UnknownConflicts ask.conflicts)

-- what is answered with what a free circuit finds of a formula, of an implication and of an equivalence
abbrev pub settled_verdict : Ask → Found → EaVerdict
settled_verdict ask (found.Sat list) = Sat list
settled_verdict ask (found.Unsat proof) = ByCircuit (circuit.Unsat proof)
settled_verdict ask (found.Unknown rest) = open_verdict ask rest

abbrev pub implied_verdict : Ask → Found → EaVerdict
implied_verdict ask (found.Sat list) = NotImplied list
implied_verdict ask (found.Unsat proof) = ByCircuit (circuit.Implied proof)
implied_verdict ask (found.Unknown rest) = open_verdict ask rest

abbrev pub compared_verdict : Ask → FoundBoth → EaVerdict
compared_verdict ask (founds.Same first second) = ByCircuit (circuit.Equivalent first second)
compared_verdict ask (founds.First list) = NotEquivalent 0 list
compared_verdict ask (founds.Second list) = NotEquivalent 1 list
compared_verdict ask (founds.Unknown rest) = open_verdict ask rest
