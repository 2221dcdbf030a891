-- The height of the body goes down.
use Rattle.std.proofs.Common.{◌+◌, ◌*◌, max}
use Rattle.hy_formula.specs.Trees.{tree_of, height}
use Rattle.hy_read.proofs.print.+print.Given as goal

abbrev pub decreases-push_body : goal.decreases-push_body
decreases-push_body l = 2 * height (tree_of l.body.now)

abbrev pub decreases-push_before : goal.decreases-push_before
decreases-push_before l = 2 * height (tree_of l.f.now) + 1

abbrev pub decreases-push_between : goal.decreases-push_between
decreases-push_between l = 2 * max (height (tree_of l.f.now)) (height (tree_of l.g.now)) + 1
