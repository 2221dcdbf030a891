use Rattle.aig_order.proofs.Firsts.{first-found, first-none}
use Rattle.aiger_body.proofs.laws.first_right.Goals as goal

pub returns-clause-none : goal.returns-clause-none
returns-clause-none c = first-none

pub returns-clause-found : goal.returns-clause-found
returns-clause-found c = first-found
