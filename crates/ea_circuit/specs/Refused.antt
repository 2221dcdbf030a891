-- When nothing is decided: the class, the maps, the members, and what the work meets, in this order.
use Rattle.std.specs.Prelude.{◌≡◌, ◌≢◌, ◌⊎◌, false, List, Option, Some, None}
use Rattle.hy_base.specs.declared.limit.Limit.{Limit as Past}
use Rattle.hy_formula.specs.Classes.{class_of}
use Rattle.hy_formula.specs.Trees.{Tree}
use Rattle.hy_formula.specs.declared.classes.Class.TheVariants.{Other}
use Rattle.hy_formula.specs.declared.prefix.Quant.{Quant}
use Rattle.ltl_closure.specs.declared.closure_error.ClosureError.{ClosureError}
use Rattle.ltl_closure.specs.declared.closure_error.ClosureError.TheVariants as closures
use Rattle.ea_reduce.specs.declared.reduce_error.ReduceError.{ReduceError}
use Rattle.ea_reduce.specs.declared.reduce_error.ReduceError.TheVariants as plans
use Rattle.ea_reduce.specs.Fulfilled.{IsFulfillable, IsOfOneKind}
use Rattle.ea_reduce.specs.Plans.{PlainPlan, implication, reduction}
use Rattle.ea_reduce.specs.Refused.{RefusesClass}
use Rattle.rank_proofs.specs.Counts.{closure_limit}
use Rattle.ea_core.specs.Decided.{Implies}
use Rattle.ea_core.specs.Undecided.{IsCounted, RefusesCounts, RefusesPlans}
use Rattle.invar_find.specs.declared.kept.Kept.{Kept}
use Rattle.mc_core.specs.declared.ask.Ask.{Ask}
use Rattle.mc_core.specs.declared.mc_error.McError.{McError}
use Rattle.mc_core.specs.declared.mc_error.McError.TheVariants as work
use Rattle.mc_core.specs.Answers.{IsWorkRefusal}
use Rattle.free_net.specs.FreeNets.{plan_safe}
use Rattle.ea_circuit.specs.declared.circuit_error.CircuitError.{CircuitError}
use Rattle.ea_circuit.specs.declared.circuit_error.CircuitError.TheVariants.{Prefix, Limit, Query, Memory}

-- A query is past this limit: one about facts, or one about paths behind these facts.
abbrev pub RefusesQuery : PlainPlan → Ask → Past → Option Kept → Type 0
RefusesQuery plan ask limit None = IsWorkRefusal (plan_safe plan) ask (work.Limit limit)
RefusesQuery plan ask limit (Some kept) =
    IsWorkRefusal (plan_safe plan) ask (work.CnfLimit limit.kind limit.limit kept)

-- on a formula
abbrev pub Undecided : List Quant → Tree → Ask → CircuitError → Type 0
Undecided prefix body ask (Prefix second found) =
    (second ≡ false) × (found ≡ Other) × (class_of prefix ≡ Other)
Undecided prefix body ask (Limit limit) =
    (class_of prefix ≢ Other) × RefusesCounts (reduction prefix body) limit
Undecided prefix body ask (Query limit kept) =
    (class_of prefix ≢ Other) × IsCounted (reduction prefix body)
    × RefusesQuery (reduction prefix body) ask limit kept
Undecided prefix body ask Memory = Unit {0}

-- on an implication
abbrev pub UndecidedImplication : List Quant → Tree → List Quant → Tree → Ask → CircuitError → Type 0
UndecidedImplication first body second other ask (Prefix which found) =
    RefusesClass first second which found
UndecidedImplication first body second other ask (Limit limit) =
    IsOfOneKind first × IsOfOneKind second
    × RefusesCounts (implication first body second other) limit
UndecidedImplication first body second other ask (Query limit kept) =
    IsOfOneKind first × IsOfOneKind second × IsCounted (implication first body second other)
    × RefusesQuery (implication first body second other) ask limit kept
UndecidedImplication first body second other ask Memory = Unit {0}

-- on an equivalence: both directions are counted before either is tried
abbrev pub UndecidedEquivalence : List Quant → Tree → List Quant → Tree → Ask → CircuitError → Type 0
UndecidedEquivalence first body second other ask (Prefix which found) =
    RefusesClass first second which found
UndecidedEquivalence first body second other ask (Limit limit) =
    IsOfOneKind first × IsOfOneKind second
    × RefusesPlans (implication first body second other) (implication second other first body) limit
UndecidedEquivalence first body second other ask (Query limit kept) =
    IsOfOneKind first × IsOfOneKind second × IsCounted (implication first body second other)
    × IsCounted (implication second other first body)
    × (RefusesQuery (implication first body second other) ask limit kept
    ⊎ (Implies first body second other
    × RefusesQuery (implication second other first body) ask limit kept))
UndecidedEquivalence first body second other ask Memory = Unit {0}

-- ---- on the way

-- refusals of the layers below
abbrev pub of_plan : ReduceError → CircuitError
of_plan (plans.Prefix second found) = Prefix second found
of_plan (plans.Limit limit) = Limit limit
of_plan plans.Memory = Memory

abbrev pub of_closure : ClosureError → CircuitError
of_closure closures.Limit = Limit closure_limit
of_closure closures.Memory = Memory

-- The work meets neither a class nor a name.
abbrev pub IsOfWork : McError → Type 0
IsOfWork (work.Prefix class) = ⊥
IsOfWork (work.Name name twice) = ⊥
IsOfWork _ = Unit {0}

abbrev pub of_work : McError → CircuitError
of_work (work.Limit limit) = Query limit None
of_work (work.CnfLimit kind limit kept) = Query (record { kind = kind; limit = limit }) (Some kept)
of_work _ = Memory

-- Why a plan that is within the limits is not decided.
abbrev pub RefusesWork : PlainPlan → Ask → CircuitError → Type 0
RefusesWork plan ask (Query limit kept) = RefusesQuery plan ask limit kept
RefusesWork plan ask Memory = Unit {0}
RefusesWork plan ask _ = ⊥

-- Why two are not: the second is looked at where nothing fulfils the first.
abbrev pub RefusesBoth : PlainPlan → PlainPlan → Ask → CircuitError → Type 0
RefusesBoth plan converse ask e =
    RefusesWork plan ask e ⊎ ((¬ IsFulfillable plan) × RefusesWork converse ask e)
