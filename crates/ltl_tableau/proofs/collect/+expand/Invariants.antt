use Rattle.std.proofs.Common.{◌+◌, ◌*◌}
use Rattle.ltl_tableau.proofs.Measuring.{some_below}
use Rattle.ltl_tableau.proofs.collect.+expand.Given as goal

abbrev pub decreases-expand : goal.decreases-expand
decreases-expand g l = 2 * some_below l.start

abbrev pub decreases-split : goal.decreases-split
decreases-split g l = 2 * l.draft.now.work.below + 1
