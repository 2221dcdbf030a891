-- The refusals of the parts of a check, as refusals of the whole.
use Rattle.hy_base.specs.declared.limit.Kind.{Kind}
use Rattle.hy_base.specs.declared.limit.Kind.TheVariants.{Closure as ClosureKind}
use Rattle.hy_base.specs.declared.limit.Limit.{Limit as Past}
use Rattle.strat_compose.specs.declared.question.DriveError.{DriveError}
use Rattle.strat_compose.specs.declared.question.DriveError.TheVariants as drives
use Rattle.mc_core.specs.declared.mc_error.McError.{McError}
use Rattle.mc_core.specs.declared.mc_error.McError.TheVariants as checks
use Rattle.strat_core.specs.declared.refusal.StrategyError.{StrategyError}
use Rattle.strat_core.specs.declared.refusal.StrategyError.TheVariants.{Prefix, Shape, Names, Name, Closure, Facts, CnfLimit, Memory}

abbrev pub of_drive : DriveError → StrategyError
of_drive (drives.Prefix class) = Prefix class
of_drive (drives.Shape inputs outputs) = Shape inputs outputs
of_drive (drives.Limit limit) = Names limit
of_drive (drives.Name name twice) = Name name twice
of_drive drives.Memory = Memory

-- A closure is counted before any query.
abbrev pub of_limit : Kind → Past → StrategyError
of_limit ClosureKind limit = Closure limit
of_limit _ limit = Facts limit

abbrev pub of_check : McError → StrategyError
of_check (checks.Prefix class) = Prefix class
of_check (checks.Limit limit) = of_limit limit.kind limit
of_check (checks.CnfLimit kind limit kept) = CnfLimit kind limit kept
of_check (checks.Name name twice) = Name name twice
of_check checks.Memory = Memory

-- A refusal that the check of a driven net can give: it has one universal quantifier, and its names
-- are its own.
abbrev pub CanCome : McError → Type 0
CanCome (checks.Prefix class) = ⊥
CanCome (checks.Name name twice) = ⊥
CanCome _ = Unit {0}
