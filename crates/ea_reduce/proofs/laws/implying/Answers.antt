use Rattle.ea_reduce.proofs.Reducing.{separated-model, separated-implication}
use Rattle.ea_reduce.proofs.laws.implying.Goals as goal

pub returns-clause-separates : goal.returns-clause-separates
returns-clause-separates c = separated-model

pub returns-clause-exactly : goal.returns-clause-exactly
returns-clause-exactly c first body second other bound below one two =
    (λ (tuple, f). (tuple, separated-model first body second other bound below tuple f), λ (list, s). separated-implication first body second other bound below one two list s)
