use Rattle.formula_nets.proofs.Rooms.{over-small}
use Rattle.formula_nets.proofs.laws.safe_nets_over_are_small.Goals as goal

pub returns : goal.returns
returns c =
    over-small (record {
      safe = c.safe_nets_are_small.ensures;
      attached = c.attached_nets_are_small.ensures.variables;
      fairs = c.attached_nets_are_small.ensures.fairs;
      copies = c.copies_are_as_large.ensures.variables;
      copied_fairs = c.copies_are_as_large.ensures.fairs;
    })
