use Rattle.sym_tableau.proofs.Sizes.{attached-fairs, attached-latches, attached-size}
use Rattle.sym_tableau.proofs.laws.attached_nets_are_small.Goals as goal

pub returns-clause-variables : goal.returns-clause-variables
returns-clause-variables c = attached-size

pub returns-clause-fairs : goal.returns-clause-fairs
returns-clause-fairs c = attached-fairs

pub returns-clause-latches : goal.returns-clause-latches
returns-clause-latches c = attached-latches
