use Rattle.dominance.specs.Dominance.{Dominates}
use Rattle.dominance.proofs.Replacements.{over-itself, over-through, trace-leaders, trace-apart, leaders-step}
use Rattle.dominance.proofs.Leaderships.{none-kept}
use Rattle.dominance.proofs.Ascending.{leaders-one}
use Rattle.dominance.proofs.laws.leading.Goals as goal

pub returns-clause-none : goal.returns-clause-none
returns-clause-none c = λ lengths n body. none-kept (Dominates lengths n body)
    (over-itself lengths n body) (over-through lengths n body)

pub returns-clause-arrival : goal.returns-clause-arrival
returns-clause-arrival c = leaders-step

pub returns-clause-whole : goal.returns-clause-whole
returns-clause-whole c = trace-leaders

pub returns-clause-one : goal.returns-clause-one
returns-clause-one c = λ lengths n body. leaders-one (Dominates lengths n body)

pub returns-clause-apart : goal.returns-clause-apart
returns-clause-apart c = trace-apart
