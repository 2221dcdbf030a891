use Rattle.live_safe.proofs.Sizes.{safe-size}
use Rattle.live_safe.proofs.laws.safe_nets_are_small.Goals as goal

pub returns : goal.returns
returns c = safe-size
