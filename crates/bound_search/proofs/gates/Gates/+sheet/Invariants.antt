use Rattle.bound_search.specs.Shapes.{body_shape, nodes}
use Rattle.bound_search.proofs.gates.Gates.+sheet.Given as goal

abbrev pub decreases-sheet : goal.decreases-sheet
decreases-sheet l = nodes (body_shape l.body.now)
