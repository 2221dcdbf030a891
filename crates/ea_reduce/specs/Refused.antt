-- When a plan is not made.
use Rattle.std.specs.Prelude.{◌≡◌, ◌≢◌, ℕ, ◌<◌, ◌≤◌, Bool, true, false, List, length, All}
use Rattle.std.specs.List.{Contains}
use Rattle.hy_base.specs.declared.limit.Limit.{Limit as Past}
use Rattle.hy_base.specs.declared.limit.Kind.TheVariants.{Instances}
use Rattle.hy_formula.specs.Classes.{class_of}
use Rattle.hy_formula.specs.declared.classes.Class.{Class}
use Rattle.hy_formula.specs.declared.classes.Class.TheVariants as class
use Rattle.hy_formula.specs.declared.prefix.Quant.{Quant}
use Rattle.ea_reduce.specs.declared.reduce_error.ReduceError.{ReduceError}
use Rattle.ea_reduce.specs.declared.reduce_error.ReduceError.TheVariants.{Prefix, Limit, Memory}
use Rattle.ea_reduce.specs.Plans.{PlainPlan, PlainJob}
use Rattle.ea_reduce.specs.Fulfilled.{IsOfOneKind}

abbrev pub most_maps : ℕ
most_maps = 4096

abbrev pub instances_limit : Past
instances_limit = record { kind = Instances; limit = most_maps }

-- Each job has at most 4,096 maps.
abbrev pub HasFewMaps : PlainPlan → Type 0
HasFewMaps plan = All (λ job. length job.maps ≤ most_maps) plan.jobs

-- Some job has more.
abbrev pub HasManyMaps : PlainPlan → Type 0
HasManyMaps plan = (job : PlainJob) × Contains plan.jobs job × (most_maps < length job.maps)

-- Why a job is not made that would have these maps.
abbrev pub RefusesMaps : List (List ℕ) → ReduceError → Type 0
RefusesMaps maps (Prefix second found) = ⊥
RefusesMaps maps (Limit limit) = (limit ≡ instances_limit) × (most_maps < length maps)
RefusesMaps maps Memory = Unit {0}

-- Why a formula has no plan.
abbrev pub RefusesReduction : List Quant → PlainPlan → ReduceError → Type 0
RefusesReduction prefix plan (Prefix second found) = (second ≡ false) × (found ≡ class.Other) × (class_of prefix ≡ class.Other)
RefusesReduction prefix plan (Limit limit) = (class_of prefix ≢ class.Other) × (limit ≡ instances_limit) × HasManyMaps plan
RefusesReduction prefix plan Memory = Unit {0}

-- The class of the first of two formulas that is not of one kind.
abbrev pub RefusesClass : List Quant → List Quant → Bool → Class → Type 0
RefusesClass first other false found = (class_of first ≡ found) × (¬ IsOfOneKind first)
RefusesClass first other true found = IsOfOneKind first × (class_of other ≡ found) × (¬ IsOfOneKind other)

-- Why two formulas have no plan.
abbrev pub RefusesImplication : List Quant → List Quant → PlainPlan → ReduceError → Type 0
RefusesImplication first other plan (Prefix second found) = RefusesClass first other second found
RefusesImplication first other plan (Limit limit) = IsOfOneKind first × IsOfOneKind other × (limit ≡ instances_limit) × HasManyMaps plan
RefusesImplication first other plan Memory = Unit {0}
