-- What is found of plans, and what that says of formulas.
use Rattle.std.specs.Prelude.{◌⊎◌, List}
use Rattle.hy_formula.specs.Trees.{Tree}
use Rattle.hy_formula.specs.declared.prefix.Quant.{Quant}
use Rattle.hy_lasso.specs.Words.{IsSatisfiable}
use Rattle.ea_reduce.specs.Fulfilled.{IsFulfillable}
use Rattle.ea_reduce.specs.Plans.{PlainPlan, implication, reduction}
use Rattle.ea_core.specs.declared.decision.Decision.TheVariants as core
use Rattle.ea_core.specs.Decided as decided
use Rattle.ea_core.specs.Decided.{Implies, TellsApart}
use Rattle.ea_core.specs.Solved.{Solves}
use Rattle.live_safe.specs.declared.safe_net.SafeNet.{SafeNet}
use Rattle.mc_core.specs.declared.ask.Ask.{Ask}
use Rattle.mc_core.specs.declared.decision.Decision.{Decision}
use Rattle.mc_core.specs.declared.decision.Decision.TheVariants as net
use Rattle.mc_core.specs.Answers.{IsProved}
use Rattle.mc_core.specs.Decisions.{IsDecision}
use Rattle.free_net.specs.FreeNets.{plan_safe}
use Rattle.ea_circuit.specs.declared.found.Unknown.{Unknown as Undecided}
use Rattle.ea_circuit.specs.declared.found.Unknown.TheVariants as left
use Rattle.ea_circuit.specs.declared.found.Found.{Found}
use Rattle.ea_circuit.specs.declared.found.Found.TheVariants.{Sat, Unsat, Unknown}
use Rattle.ea_circuit.specs.declared.found.FoundBoth.{FoundBoth}
use Rattle.ea_circuit.specs.declared.found.FoundBoth.TheVariants as both

-- The safe net is not decided, and as much was tried as was asked for.
abbrev pub decision_of : Undecided → Decision
decision_of (left.Depth kept path) = net.Depth kept path
decision_of (left.Spent k step kept log) = net.Spent k step kept log

abbrev pub IsUnknown : SafeNet → Ask → Undecided → Type 0
IsUnknown safe ask unknown = IsDecision safe ask (decision_of unknown)

-- ---- plans

-- a tuple that fulfils the plan, a proof that there is none, or neither
abbrev pub IsFound : PlainPlan → Ask → Found → Type 0
IsFound plan ask (Sat list) = Solves plan (core.Sat list)
IsFound plan ask (Unsat proof) = (¬ IsFulfillable plan) × IsProved (plan_safe plan) ask proof
IsFound plan ask (Unknown unknown) = IsUnknown (plan_safe plan) ask unknown

-- what is found of two plans: the second is looked at where nothing fulfils the first
abbrev pub AreFound : PlainPlan → PlainPlan → Ask → FoundBoth → Type 0
AreFound plan converse ask (both.Same proof back) =
    IsFound plan ask (Unsat proof) × IsFound converse ask (Unsat back)
AreFound plan converse ask (both.First list) = IsFound plan ask (Sat list)
AreFound plan converse ask (both.Second list) =
    (¬ IsFulfillable plan) × IsFound converse ask (Sat list)
AreFound plan converse ask (both.Unknown unknown) =
    IsFound plan ask (Unknown unknown)
    ⊎ ((¬ IsFulfillable plan) × IsFound converse ask (Unknown unknown))

-- ---- formulas: lists of lassos as they are found by branches, and proofs of the plan's safe net

abbrev pub Decides : List Quant → Tree → Ask → Found → Type 0
Decides prefix body ask (Sat list) = decided.Decides prefix body (core.Sat list)
Decides prefix body ask (Unsat proof) =
    (¬ IsSatisfiable prefix body) × IsProved (plan_safe (reduction prefix body)) ask proof
Decides prefix body ask (Unknown unknown) =
    IsUnknown (plan_safe (reduction prefix body)) ask unknown

abbrev pub DecidesImplication : List Quant → Tree → List Quant → Tree → Ask → Found → Type 0
DecidesImplication first body second other ask (Sat list) =
    TellsApart first body second other list
DecidesImplication first body second other ask (Unsat proof) =
    Implies first body second other
    × IsProved (plan_safe (implication first body second other)) ask proof
DecidesImplication first body second other ask (Unknown unknown) =
    IsUnknown (plan_safe (implication first body second other)) ask unknown

-- The first direction is tried first, and the second one where the first formula implies the second.
abbrev pub DecidesEquivalence : List Quant → Tree → List Quant → Tree → Ask → FoundBoth → Type 0
DecidesEquivalence first body second other ask (both.Same proof back) =
    DecidesImplication first body second other ask (Unsat proof)
    × DecidesImplication second other first body ask (Unsat back)
DecidesEquivalence first body second other ask (both.First list) =
    TellsApart first body second other list
DecidesEquivalence first body second other ask (both.Second list) =
    Implies first body second other × TellsApart second other first body list
DecidesEquivalence first body second other ask (both.Unknown unknown) =
    DecidesImplication first body second other ask (Unknown unknown)
    ⊎ (Implies first body second other
    × DecidesImplication second other first body ask (Unknown unknown))
