-- Placed parts go along with the whole.
use Rattle.aig_net.proofs.Placing.{among-execution, below-through, obeys-through, recurs-through, start-through}
use Rattle.aig_net.proofs.laws.parts_go_along.Goals as goal

pub returns-clause-obeys : goal.returns-clause-obeys
returns-clause-obeys c part whole f word placed = obeys-through part whole f placed word

pub returns-clause-starts : goal.returns-clause-starts
returns-clause-starts c part whole f v placed = start-through part whole f placed v

pub returns-clause-recurs : goal.returns-clause-recurs
returns-clause-recurs c = recurs-through

pub returns-clause-execution : goal.returns-clause-execution
returns-clause-execution c part whole f word placed = among-execution part whole f placed word

pub returns-clause-below : goal.returns-clause-below
returns-clause-below c part whole f l placed = below-through part whole f placed l
