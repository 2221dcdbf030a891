use Rattle.bound_search.specs.Shapes.{body_shape, nodes}
use Rattle.bound_search.proofs.counting.Counter.+count_first.Given as goal

abbrev pub decreases-count_first : goal.decreases-count_first
decreases-count_first l = nodes (body_shape l.body.now)
