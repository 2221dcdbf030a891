use Rattle.std.proofs.Common.{◌∙◌, ap}
use Rattle.self_compose.specs.Copies.{compose}
use Rattle.self_compose.proofs.Rooms.{composed_parts}
use Rattle.self_compose.proofs.composing.compose.Goals as goal

pub new-requires-clause-net : goal.new-requires-clause-net
new-requires-clause-net c =
    composed_parts c.args.net.now c.args.n c.requires.some c.variables.ensures.net _
    (c.in_ok-parts.ensures ∙ ap (compose c.args.net.now) c.from.ensures)
