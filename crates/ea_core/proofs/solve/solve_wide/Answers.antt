use Rattle.std.proofs.Common.{arith}
use Rattle.ea_reduce.specs.Plans.{plain_plan}
use Rattle.ea_core.proofs.Solving.{found-walk, found-ranks, variables-there, few-there, stem-made, cycle-made, joined, solved, all-ranked, unsolved}
use Rattle.ea_core.proofs.solve.solve_wide.Goals as goal

pub joint-requires : goal.joint-requires
joint-requires g c =
    let plan = plain_plan c.args.plan.now in
    let t = c.in_ok-tableau.tableau in
    let walk = found-walk c.graph.result.now t.graph c.in_ok-found.found c.in-Lasso.walk c.in_ok-found.ensures c.in-Lasso.is c.graph.ensures.same in (
      omega arith,
      (
        c.requires.width,
        (
          c.requires.members,
          (
            variables-there plan c.args.c.now c.requires.closure c.requires.below t.branches.keys t.graph c.in_ok-tableau.ensures.tableau,
            (
              stem-made plan c.args.c.now c.requires.closure c.requires.below t.branches.keys t.graph c.in_ok-tableau.ensures.tableau c.in-Lasso.walk walk,
              cycle-made plan c.args.c.now c.requires.closure c.requires.below t.branches.keys t.graph c.in_ok-tableau.ensures.tableau c.in-Lasso.walk walk,
            ),
          ),
        ),
      ),
    )

pub back-requires : goal.back-requires
back-requires g c =
    let t = c.in_ok-tableau.tableau in
    let walk = found-walk c.graph.result.now t.graph c.in_ok-found.found c.in-Lasso.walk c.in_ok-found.ensures c.in-Lasso.is c.graph.ensures.same in
    joined (plain_plan c.args.plan.now) c.args.c.now c.requires.closure c.requires.below t.branches.keys t.graph c.in_ok-tableau.ensures.tableau c.in-Lasso.walk walk
    c.in_ok-joint-in-Lasso.joint c.in_ok-joint-in-Lasso.ensures.stem c.in_ok-joint-in-Lasso.ensures.cycle

pub returns-in-Lasso-clause-solves : goal.returns-in-Lasso-clause-solves
returns-in-Lasso-clause-solves g c =
    let t = c.in_ok-tableau.tableau in
    let walk = found-walk c.graph.result.now t.graph c.in_ok-found.found c.in-Lasso.walk c.in_ok-found.ensures c.in-Lasso.is c.graph.ensures.same in
    solved (plain_plan c.args.plan.now) c.args.c.now c.requires.closure c.requires.below t.branches.keys t.graph c.in_ok-tableau.ensures.tableau c.in-Lasso.walk walk
    c.in_ok-joint-in-Lasso.joint c.in_ok-joint-in-Lasso.ensures.stem c.in_ok-joint-in-Lasso.ensures.cycle c.in_ok-back-in-Lasso.field-0 c.in_ok-back-in-Lasso.ensures

pub returns-in-Lasso-clause-few : goal.returns-in-Lasso-clause-few
returns-in-Lasso-clause-few g c =
    let t = c.in_ok-tableau.tableau in
    few-there (plain_plan c.args.plan.now) c.args.c.now c.requires.closure c.requires.below t.branches.keys t.graph c.in_ok-tableau.ensures.tableau
    c.args.states c.in_ok-tableau.ensures.few

pub rank_proof-requires : goal.rank_proof-requires
rank_proof-requires g c =
    let t = c.in_ok-tableau.tableau in
    let ranks = found-ranks c.graph.result.now t.graph c.in_ok-found.found c.in-Ranks.ranks c.in_ok-found.ensures c.in-Ranks.is c.graph.ensures.same in (
      omega arith,
      (
        c.requires.width,
        all-ranked (plain_plan c.args.plan.now) c.args.c.now c.requires.closure c.requires.below t.branches.keys t.graph c.in_ok-tableau.ensures.tableau
            (rw c.graph.ensures.same at c.graph.ensures.whole) c.in-Ranks.ranks ranks,
      ),
    )

pub returns-clause-solves : goal.returns-clause-solves
returns-clause-solves g c =
    let t = c.in_ok-tableau.tableau in
    let ranks = found-ranks c.graph.result.now t.graph c.in_ok-found.found c.in-Ranks.ranks c.in_ok-found.ensures c.in-Ranks.is c.graph.ensures.same in
    unsolved (plain_plan c.args.plan.now) c.args.c.now c.requires.closure c.requires.below t.branches.keys t.graph c.in_ok-tableau.ensures.tableau
    (rw c.graph.ensures.same at c.graph.ensures.whole) c.in-Ranks.ranks ranks c.in_ok-rank_proof-in-Ranks.field-0 c.in_ok-rank_proof-in-Ranks.ensures

pub returns-clause-few : goal.returns-clause-few
returns-clause-few g c =
    let t = c.in_ok-tableau.tableau in
    few-there (plain_plan c.args.plan.now) c.args.c.now c.requires.closure c.requires.below t.branches.keys t.graph c.in_ok-tableau.ensures.tableau
    c.args.states c.in_ok-tableau.ensures.few
