-- What is found of a plan.
use Rattle.std.specs.Prelude.{ℕ}
use Rattle.std.specs.List.{Contains}
use Rattle.ea_reduce.specs.Plans.{PlainPlan, PlainJob}
use Rattle.ea_reduce.specs.Fulfilled.{Fulfils, IsFulfillable}
use Rattle.ea_core.specs.declared.decision.Decision.{Decision}
use Rattle.ea_core.specs.declared.decision.Decision.TheVariants.{Sat, Unsat}
use Rattle.ea_core.specs.declared.decision.Both.{Both}
use Rattle.ea_core.specs.declared.decision.Both.TheVariants.{Same, First, Second}
use Rattle.ea_core.specs.Decided.{Mentions, IsShort}
use Rattle.ea_core.specs.Proofs.{IsProofOf}

-- Some body of the plan has an atom with the name.
abbrev pub PlanMentions : PlainPlan → ℕ → Type 0
PlanMentions plan name = (job : PlainJob) × Contains plan.jobs job × Mentions job.body name

-- a tuple that fulfils the plan, or a proof that there is none
abbrev pub Solves : PlainPlan → Decision → Type 0
Solves plan (Sat list) = Fulfils plan list × IsShort (PlanMentions plan) list
Solves plan (Unsat proof) = (¬ IsFulfillable plan) × IsProofOf plan proof

-- what is found of two plans: the second is looked at where nothing fulfils the first
abbrev pub SolvesBoth : PlainPlan → PlainPlan → Both → Type 0
SolvesBoth plan converse (Same proof back) = Solves plan (Unsat proof) × Solves converse (Unsat back)
SolvesBoth plan converse (First list) = Solves plan (Sat list)
SolvesBoth plan converse (Second list) = (¬ IsFulfillable plan) × Solves converse (Sat list)
