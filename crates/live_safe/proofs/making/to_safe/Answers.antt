use Rattle.std.proofs.Common.{sym, subst}
use Rattle.aig_net.specs.declared.parts.NetParts.{NetParts}
use Rattle.aig_net.specs.Nets.{IsNet}
use Rattle.live_safe.specs.declared.places.Places.{Places}
use Rattle.live_safe.specs.Places.{HasRoom}
use Rattle.live_safe.proofs.SafeRange.{safe-net}
use Rattle.live_safe.proofs.Stages.{first-fits, has-room}
use Rattle.live_safe.proofs.making.to_safe.Goals as goal

pub of-places-requires-clause-room : goal.of-places-requires-clause-room
of-places-requires-clause-room c =
    first-fits c.args.net.now c.variables.ensures.net c.requires

pub first-requires : goal.first-requires
first-requires c =
    let P : Places → Type 0 = HasRoom in
    subst P (sym c.of-places.ensures) (has-room c.args.net.now c.variables.ensures.net c.requires)

pub new-requires-2-clause-net : goal.new-requires-2-clause-net
new-requires-2-clause-net c =
    let P : NetParts → Type 0 = IsNet in
    subst P (sym c.in_ok-parts.ensures) (safe-net c.args.net.now c.variables.ensures.net)
