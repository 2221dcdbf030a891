use Rattle.bound_search.specs.Shapes.{body_shape, nodes}
use Rattle.bound_search.proofs.names.+add_names.Given as goal

abbrev pub decreases-add_names : goal.decreases-add_names
decreases-add_names l = nodes (body_shape l.body.now)
