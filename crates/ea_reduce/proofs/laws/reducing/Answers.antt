use Rattle.ea_reduce.proofs.Reducing.{reduced-model, reduced-satisfiable, satisfiable-reduced}
use Rattle.ea_reduce.proofs.laws.reducing.Goals as goal

pub returns-clause-model : goal.returns-clause-model
returns-clause-model c = reduced-model

pub returns-clause-exactly : goal.returns-clause-exactly
returns-clause-exactly c prefix body bound taken = (reduced-satisfiable prefix body bound, satisfiable-reduced prefix body bound taken)
