-- Under a rank proof no walk is accepting, and no lassos fulfil the plan.
use Rattle.std.proofs.Common.{List}
use Rattle.hy_formula.specs.Lassos.{Lasso}
use Rattle.hy_lasso.specs.Words.{lasso_words}
use Rattle.hy_lasso.proofs.LassoWords.{decided-lassos}
use Rattle.ltl_closure.specs.Nodes.{Node}
use Rattle.ltl_tableau.specs.Branches.{Members, Branch}
use Rattle.ltl_tableau.specs.Ranks.{RankProof, IsRankProof}
use Rattle.ltl_tableau.specs.Walks.{gone, IsWalk, IsAccepting}
use Rattle.ltl_tableau.proofs.Gone.{accepting-fair}
use Rattle.ltl_tableau.proofs.Refuting.{no-fair_run}
use Rattle.ltl_tableau.proofs.TasksTogether.{never-together}
use Rattle.ea_reduce.specs.Plans.{PlainPlan, plan_tasks}
use Rattle.ea_reduce.specs.Fulfilled.{IsFulfillable}
use Rattle.rank_proofs.specs.Proofs.{plan_nodes, plan_roots}

pub no-accepting_walk : (nodes : List Node) (roots : Members) (proof : RankProof)
    → IsRankProof nodes roots proof → (walk : Lasso Branch) → IsWalk nodes roots walk
    → ¬ IsAccepting nodes walk
no-accepting_walk nodes roots proof is walk goes accepting =
    no-fair_run nodes roots proof is (gone walk) goes.goes
    (accepting-fair nodes roots walk goes accepting)

pub not-fulfilled : (plan : PlainPlan) (proof : RankProof)
    → IsRankProof (plan_nodes plan) (plan_roots plan) proof → ¬ IsFulfillable plan
not-fulfilled plan proof is (tuple, fulfils) =
    never-together (plan_tasks plan) proof is (lasso_words tuple)
    (decided-lassos tuple fulfils.lassos) fulfils.hold
