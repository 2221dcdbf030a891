use Rattle.std.proofs.Common.{refl, ◌∙◌}
use Rattle.self_compose.proofs.Rooms.{literal-rooms, and-rooms}
use Rattle.self_compose.proofs.composing.parts_of_copies.Goals as goal

pub copies-requires : goal.copies-requires
copies-requires c =
    literal-rooms c.args.net.now _ c.requires.room _ _ _ (c.as_slice.ensures
    ∙ c.latches.ensures) refl c.requires.net.latches

pub copies-requires-3 : goal.copies-requires-3
copies-requires-3 c =
    and-rooms c.args.net.now _ c.requires.room _ _ (c.as_slice-3.ensures
    ∙ c.ands.ensures) refl c.requires.net.ordered

pub copies-requires-4 : goal.copies-requires-4
copies-requires-4 c =
    literal-rooms c.args.net.now _ c.requires.room _ _ _ (c.as_slice-4.ensures
    ∙ c.outputs.ensures) refl c.requires.net.outputs

pub copies-requires-5 : goal.copies-requires-5
copies-requires-5 c =
    literal-rooms c.args.net.now _ c.requires.room _ _ _ (c.as_slice-5.ensures
    ∙ c.constraints.ensures) refl c.requires.net.constraints

pub copies-requires-6 : goal.copies-requires-6
copies-requires-6 c =
    literal-rooms c.args.net.now _ c.requires.room _ _ _ (c.as_slice-6.ensures
    ∙ c.fairs.ensures) refl c.requires.net.fairs
