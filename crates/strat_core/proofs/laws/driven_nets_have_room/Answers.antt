use Rattle.strat_core.proofs.Rooms.{has-room}
use Rattle.strat_core.proofs.laws.driven_nets_have_room.Goals as goal

pub returns : goal.returns
returns c =
    has-room (record {
      safe = c.safe_nets_are_small.ensures;
      attached = c.attached_nets_are_small.ensures.variables;
      latches = c.attached_nets_are_small.ensures.latches;
      fairs = c.attached_nets_are_small.ensures.fairs;
      copies = c.copies_are_as_large.ensures.variables;
      copied_latches = c.copies_are_as_large.ensures.latches;
      copied_fairs = c.copies_are_as_large.ensures.fairs;
      driven_variables = c.driven_nets_are_nets.ensures.variables;
      driven_latches = c.driven_nets_are_nets.ensures.latches;
      driven_fairs = c.driven_nets_are_nets.ensures.fairs;
    })
