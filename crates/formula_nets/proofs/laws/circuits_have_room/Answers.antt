use Rattle.formula_nets.proofs.Rooms.{has-room}
use Rattle.formula_nets.proofs.laws.circuits_have_room.Goals as goal

pub returns : goal.returns
returns c = has-room c.safe_nets_over_are_small.ensures
