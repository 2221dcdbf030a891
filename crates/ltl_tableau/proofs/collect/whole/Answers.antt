use Rattle.ltl_tableau.proofs.Starting.{none-dead}
use Rattle.ltl_tableau.proofs.collect.whole.Goals as goal

pub returns-clause-dead : goal.returns-clause-dead
returns-clause-dead g c = none-dead c.args.c.now.nodes c.members_of.result c.empty-2.result c.empty-2.ensures
