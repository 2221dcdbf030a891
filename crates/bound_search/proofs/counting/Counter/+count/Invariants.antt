use Rattle.bound_search.specs.Shapes.{body_shape, nodes}
use Rattle.bound_search.proofs.counting.Counter.+count.Given as goal

abbrev pub decreases-count : goal.decreases-count
decreases-count l = nodes (body_shape l.body.now)
