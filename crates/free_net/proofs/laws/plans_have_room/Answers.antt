use Rattle.free_net.proofs.Planning.{plan-fits}
use Rattle.free_net.proofs.laws.plans_have_room.Goals as goal

pub returns : goal.returns
returns c = plan-fits c.safe_nets_over_are_small.ensures
