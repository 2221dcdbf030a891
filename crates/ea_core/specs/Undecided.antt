-- When nothing is decided: within which counts a plan is, and past which.
use Rattle.std.specs.Prelude.{◌≡◌, ◌≢◌, ◌⊎◌, ℕ, ◌≤◌, false, List, length}
use Rattle.std.specs.List.{Contains}
use Rattle.hy_base.specs.declared.limit.Limit.{Limit as Past}
use Rattle.hy_formula.specs.Trees.{Tree}
use Rattle.hy_formula.specs.Classes.{class_of}
use Rattle.hy_formula.specs.declared.classes.Class.TheVariants.{Other}
use Rattle.hy_formula.specs.declared.prefix.Quant.{Quant}
use Rattle.ltl_closure.specs.declared.closure_error.ClosureError.{ClosureError}
use Rattle.ltl_closure.specs.declared.closure_error.ClosureError.TheVariants as closures
use Rattle.ltl_tableau.specs.declared.tableau_error.TableauError.{TableauError}
use Rattle.ltl_tableau.specs.declared.tableau_error.TableauError.TheVariants as tableaus
use Rattle.ltl_tableau.specs.Branches.{Branch}
use Rattle.ltl_tableau.specs.Reached.{IsReachable, HasMore}
use Rattle.ea_reduce.specs.declared.reduce_error.ReduceError.{ReduceError}
use Rattle.ea_reduce.specs.declared.reduce_error.ReduceError.TheVariants as plans
use Rattle.ea_reduce.specs.Plans.{PlainPlan, reduction, implication}
use Rattle.ea_reduce.specs.Fulfilled.{IsOfOneKind, IsFulfillable}
use Rattle.ea_reduce.specs.Refused.{HasFewMaps, HasManyMaps, instances_limit, RefusesClass}
use Rattle.rank_proofs.specs.Counts.{closure_limit, HasFewMembers, HasManyMembers}
use Rattle.rank_proofs.specs.Proofs.{plan_nodes, plan_roots}
use Rattle.ea_core.specs.declared.decision.Both.{Both}
use Rattle.ea_core.specs.declared.decision.Both.TheVariants.{Same, First, Second}
use Rattle.ea_core.specs.declared.ea_error.EaError.{EaError}
use Rattle.ea_core.specs.declared.ea_error.EaError.TheVariants.{Prefix, Limit, States, Memory}
use Rattle.ea_core.specs.Decided.{Implies}

-- The plan is within the limits.
pub record IsCounted (plan : PlainPlan) : Type 0 where
  pub maps : HasFewMaps plan
  pub members : HasFewMembers plan

-- At most n branches are reachable: they are in a list that is no longer.
pub record HasFewBranches (plan : PlainPlan) (n : ℕ) : Type 0 where
  pub branches : List Branch
  pub few : length branches ≤ n
  pub all : (b : Branch) → IsReachable (plan_nodes plan) (plan_roots plan) b → Contains branches b

-- More than n branches are reachable.
abbrev pub HasManyBranches : PlainPlan → ℕ → Type 0
HasManyBranches plan n = HasMore (plan_nodes plan) (plan_roots plan) n

-- The plan is within the limits, and at most n branches are reachable.
pub record IsWithin (plan : PlainPlan) (n : ℕ) : Type 0 where
  pub counted : IsCounted plan
  pub branches : HasFewBranches plan n

-- The plan is past a limit: first of maps, then of members.
abbrev pub RefusesCounts : PlainPlan → Past → Type 0
RefusesCounts plan limit =
    ((limit ≡ instances_limit) × HasManyMaps plan) ⊎ ((limit ≡ closure_limit) × HasFewMaps plan × HasManyMembers plan)

-- Why nothing is decided on a plan.
abbrev pub RefusesPlan : PlainPlan → ℕ → EaError → Type 0
RefusesPlan plan states (Prefix second found) = ⊥
RefusesPlan plan states (Limit limit) = RefusesCounts plan limit
RefusesPlan plan states States = IsCounted plan × HasManyBranches plan states
RefusesPlan plan states Memory = Unit {0}

-- on a formula
abbrev pub Undecided : List Quant → Tree → ℕ → EaError → Type 0
Undecided prefix body states (Prefix second found) = (second ≡ false) × (found ≡ Other) × (class_of prefix ≡ Other)
Undecided prefix body states (Limit limit) = (class_of prefix ≢ Other) × RefusesPlan (reduction prefix body) states (Limit limit)
Undecided prefix body states States = (class_of prefix ≢ Other) × RefusesPlan (reduction prefix body) states States
Undecided prefix body states Memory = Unit {0}

-- on an implication
abbrev pub UndecidedImplication : List Quant → Tree → List Quant → Tree → ℕ → EaError → Type 0
UndecidedImplication first body second other states (Prefix which found) = RefusesClass first second which found
UndecidedImplication first body second other states (Limit limit) =
    IsOfOneKind first × IsOfOneKind second × RefusesPlan (implication first body second other) states (Limit limit)
UndecidedImplication first body second other states States =
    IsOfOneKind first × IsOfOneKind second × RefusesPlan (implication first body second other) states States
UndecidedImplication first body second other states Memory = Unit {0}

-- One of two plans has too many maps, or too many members.
abbrev pub RefusesPlans : PlainPlan → PlainPlan → Past → Type 0
RefusesPlans plan back limit =
    ((limit ≡ instances_limit) × (HasManyMaps plan ⊎ HasManyMaps back))
    ⊎ ((limit ≡ closure_limit) × HasFewMaps plan × HasFewMaps back × (HasManyMembers plan ⊎ HasManyMembers back))

-- on an equivalence: both directions are counted before either is searched
abbrev pub UndecidedEquivalence : List Quant → Tree → List Quant → Tree → ℕ → EaError → Type 0
UndecidedEquivalence first body second other states (Prefix which found) = RefusesClass first second which found
UndecidedEquivalence first body second other states (Limit limit) =
    IsOfOneKind first × IsOfOneKind second
    × RefusesPlans (implication first body second other) (implication second other first body) limit
UndecidedEquivalence first body second other states States =
    IsOfOneKind first × IsOfOneKind second
    × IsCounted (implication first body second other) × IsCounted (implication second other first body)
    × (HasManyBranches (implication first body second other) states
    ⊎ (HasFewBranches (implication first body second other) states × Implies first body second other
    × HasManyBranches (implication second other first body) states))
UndecidedEquivalence first body second other states Memory = Unit {0}

-- Where an equivalence is decided, both plans are within the limits, and so are the branches that were searched.
abbrev pub AreWithin : List Quant → Tree → List Quant → Tree → ℕ → Both → Type 0
AreWithin first body second other states (Same proof back) =
    IsWithin (implication first body second other) states × IsWithin (implication second other first body) states
AreWithin first body second other states (First list) =
    IsWithin (implication first body second other) states × IsCounted (implication second other first body)
AreWithin first body second other states (Second list) =
    IsWithin (implication first body second other) states × IsWithin (implication second other first body) states

-- ---- on the way

-- refusals of the layers below
abbrev pub of_plan : ReduceError → EaError
of_plan (plans.Prefix second found) = Prefix second found
of_plan (plans.Limit limit) = Limit limit
of_plan plans.Memory = Memory

abbrev pub of_closure : ClosureError → EaError
of_closure closures.Limit = Limit closure_limit
of_closure closures.Memory = Memory

abbrev pub of_tableau : TableauError → EaError
of_tableau tableaus.States = States
of_tableau tableaus.Memory = Memory

-- Why the branches of a plan are not searched.
abbrev pub RefusesSearch : PlainPlan → ℕ → EaError → Type 0
RefusesSearch plan states (Prefix second found) = ⊥
RefusesSearch plan states (Limit limit) = ⊥
RefusesSearch plan states States = HasManyBranches plan states
RefusesSearch plan states Memory = Unit {0}

-- Why one of two plans has no closure.
abbrev pub RefusesClosures : PlainPlan → PlainPlan → EaError → Type 0
RefusesClosures plan converse (Prefix second found) = ⊥
RefusesClosures plan converse (Limit limit) = (limit ≡ closure_limit) × (HasManyMembers plan ⊎ HasManyMembers converse)
RefusesClosures plan converse States = ⊥
RefusesClosures plan converse Memory = Unit {0}

-- The branches that were searched are few.
abbrev pub AreSearched : PlainPlan → PlainPlan → ℕ → Both → Type 0
AreSearched plan converse states (Same proof back) = HasFewBranches plan states × HasFewBranches converse states
AreSearched plan converse states (First list) = HasFewBranches plan states
AreSearched plan converse states (Second list) = HasFewBranches plan states × HasFewBranches converse states

-- Why the branches of two plans are not searched: the second are where nothing fulfils the first.
abbrev pub RefusesSearches : PlainPlan → PlainPlan → ℕ → EaError → Type 0
RefusesSearches plan converse states (Prefix second found) = ⊥
RefusesSearches plan converse states (Limit limit) = ⊥
RefusesSearches plan converse states States =
    HasManyBranches plan states ⊎ (HasFewBranches plan states × (¬ IsFulfillable plan) × HasManyBranches converse states)
RefusesSearches plan converse states Memory = Unit {0}
