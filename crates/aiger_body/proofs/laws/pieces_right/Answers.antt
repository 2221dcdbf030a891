use Rattle.aiger_body.proofs.Pieces.{pieces-concat}
use Rattle.aiger_body.proofs.Places.{pieces-from}
use Rattle.aiger_body.proofs.laws.pieces_right.Goals as goal

pub returns-clause-whole : goal.returns-clause-whole
returns-clause-whole c = pieces-concat

pub returns-clause-from : goal.returns-clause-from
returns-clause-from c = pieces-from
