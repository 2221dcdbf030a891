use Rattle.self_compose.proofs.Rooms.{composed-fairs, composed-latches, composed-size}
use Rattle.self_compose.proofs.laws.copies_are_as_large.Goals as goal

pub returns-clause-variables : goal.returns-clause-variables
returns-clause-variables c = composed-size

pub returns-clause-fairs : goal.returns-clause-fairs
returns-clause-fairs c = composed-fairs

pub returns-clause-latches : goal.returns-clause-latches
returns-clause-latches c = composed-latches
