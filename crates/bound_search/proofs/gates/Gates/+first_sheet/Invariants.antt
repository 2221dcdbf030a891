use Rattle.bound_search.specs.Shapes.{body_shape, nodes}
use Rattle.bound_search.proofs.gates.Gates.+first_sheet.Given as goal

abbrev pub decreases-first_sheet : goal.decreases-first_sheet
decreases-first_sheet l = nodes (body_shape l.body.now)
