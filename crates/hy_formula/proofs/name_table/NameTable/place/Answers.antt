use Rattle.std.proofs.Common.{position, ap, ◌∙◌}
use Rattle.hy_formula.specs.Names.{place_of}
use Rattle.hy_formula.specs.KeptNames.{is_named}
use Rattle.hy_formula.proofs.KeptNames.{position-kept, position-named}
use Rattle.hy_formula.proofs.name_table.NameTable.place.Goals as goal

pub returns-then-names-le-FEW_NAMES-clause-place : goal.returns-then-names-le-FEW_NAMES-clause-place
returns-then-names-le-FEW_NAMES-clause-place c =
    c.place_in.ensures.place
    ∙ ap (position (is_named c.args.name.now)) c.as_slice-names.ensures.keys
    ∙ position-named c.args.name.now c.self.inside.names.keys
    ∙ ap (place_of c.args.name.now) c.self.view_is

pub returns-clause-place : goal.returns-clause-place
returns-clause-place c =
    c.get_index_of.ensures.index
    ∙ position-kept c.args.name.now c.self.inside.names.keys
    ∙ ap (place_of c.args.name.now) c.self.view_is
