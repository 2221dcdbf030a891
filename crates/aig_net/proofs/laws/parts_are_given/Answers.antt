-- Placed parts are the words that they are given.
use Rattle.aig_net.proofs.Placing.{execution-through, given-alike, same-through, says-through}
use Rattle.aig_net.proofs.laws.parts_are_given.Goals as goal

pub returns-clause-same : goal.returns-clause-same
returns-clause-same c part whole f word own good placed obeys obeys' alike =
    same-through part whole f word own good placed obeys alike obeys'

pub returns-clause-says : goal.returns-clause-says
returns-clause-says c part whole f word own good placed obeys obeys' alike =
    says-through part whole f word own good placed obeys alike obeys'

pub returns-clause-execution : goal.returns-clause-execution
returns-clause-execution c part whole f word own good placed obeys is alike =
    execution-through part whole f word own good placed obeys alike is

pub returns-clause-alike : goal.returns-clause-alike
returns-clause-alike c = given-alike
