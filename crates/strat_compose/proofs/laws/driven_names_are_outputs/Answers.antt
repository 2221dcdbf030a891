-- Why `driven_names_are_outputs` keeps its contract.
use Rattle.strat_compose.proofs.NamedOutputs.{only-output, seen-outputs}
use Rattle.strat_compose.proofs.NamesBelow.{driven-below}
use Rattle.strat_compose.proofs.laws.driven_names_are_outputs.Goals as goal

pub returns-clause-own : goal.returns-clause-own
returns-clause-own c = driven-below

pub returns-clause-only : goal.returns-clause-only
returns-clause-only c = only-output

pub returns-clause-seen : goal.returns-clause-seen
returns-clause-seen c = seen-outputs
