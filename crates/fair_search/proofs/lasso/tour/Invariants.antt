use Rattle.std.proofs.Common.{get_or}
use Rattle.rank_check.specs.Graphs.{node_of}
use Rattle.fair_search.specs.Tours.{IsTour}
use Rattle.fair_search.proofs.lasso.tour.Given as goal

abbrev pub invariant-loop-i : goal.invariant-loop-i
invariant-loop-i g l =
    IsTour l.g l.nodes (node_of l.g (get_or l.nodes 0 0)).postponed l.i l.cycle l.at l.initial.steps
    l.steps
