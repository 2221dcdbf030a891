-- What the tableau of a plan's closure gives.
use Rattle.std.proofs.Common.{◌≡◌, ℕ, ◌<◌, ◌≤◌, List, length, IsSome, sym, ap, subst}
use Rattle.std.specs.List.{All}
use Rattle.hy_bits.specs.Letter.{Letter}
use Rattle.hy_formula.specs.Lassos.{Lasso}
use Rattle.rank_check.specs.declared.ranks.Ranks.{Ranks}
use Rattle.rank_check.specs.Graphs.{Shape, IsWhole}
use Rattle.rank_check.specs.Ranking.{rank_of}
use Rattle.fair_search.specs.declared.found.Found.{Found}
use Rattle.fair_search.specs.declared.found.Found.TheVariants as found
use Rattle.fair_search.specs.declared.found.FairLasso.{FairLasso}
use Rattle.fair_search.specs.Answers.{Answers}
use Rattle.ltl_closure.specs.Jobs.{Rooted, Task, closure_of, tasks_of, AreMappedBelow}
use Rattle.ltl_tableau.specs.Branches.{Branch}
use Rattle.ltl_tableau.specs.Reached.{IsTableau}
use Rattle.ltl_tableau.specs.Tasks.{set_of}
use Rattle.ltl_tableau.specs.WalkWords.{VariablesBelow}
use Rattle.ltl_tableau.proofs.Bounded.{variables-below}
use Rattle.ltl_tableau.proofs.GraphWalking.{each-ranked}
use Rattle.ea_reduce.specs.declared.joint.Joint.{Joint}
use Rattle.ea_reduce.specs.declared.plan.Plan.{Plan}
use Rattle.ea_reduce.specs.Plans.{PlainPlan, plain_plan, plan_tasks}
use Rattle.ea_reduce.specs.Joints.{lassos_from, IsJoint, AreShortened}
use Rattle.ea_reduce.proofs.Jobs.{plain-tasks}
use Rattle.rank_proofs.specs.declared.rank_proof.RankProof.{RankProof}
use Rattle.rank_proofs.specs.Proofs.{plan_nodes, plan_roots}
use Rattle.ea_core.specs.declared.decision.Decision.TheVariants.{Sat, Unsat}
use Rattle.ea_core.specs.Shown.{rows_of, Shows}
use Rattle.ea_core.specs.Solved.{Solves}
use Rattle.ea_core.specs.Undecided.{HasFewBranches}
use Rattle.ea_core.proofs.Proving.{unsat-solves}
use Rattle.ea_core.proofs.Satisfying.{stem-there, cycle-there, is-joint, sat-solves}
use Rattle.ea_core.proofs.Searching.{few-branches}

-- the tasks of a plan, which lead to its lassos
pub plain-below : (plan : Plan) → AreMappedBelow plan.vars (tasks_of plan.jobs) →
    AreMappedBelow plan.vars (plan_tasks (plain_plan plan))
plain-below plan below =
    let P : List Task → Type 0 = AreMappedBelow plan.vars in subst P (plain-tasks plan.jobs) below

-- which of both was found
pub found-walk : (g h : Shape) (f : Found) (walk : FairLasso) → Answers g f → f ≡ found.Lasso walk → g ≡ h → Answers h (found.Lasso walk)
found-walk g h f walk answers is same = let P : Found → Type 0 = Answers g in let Q : Shape → Type 0 = λ s. Answers s (found.Lasso walk) in subst Q same (subst P is answers)

pub found-ranks : (g h : Shape) (f : Found) (ranks : Ranks) → Answers g f → f ≡ found.Ranks ranks → g ≡ h → Answers h (found.Ranks ranks)
found-ranks g h f ranks answers is same = let P : Found → Type 0 = Answers g in let Q : Shape → Type 0 = λ s. Answers s (found.Ranks ranks) in subst Q same (subst P is answers)

module _ (plan : PlainPlan) (closure : Rooted) (same : closure ≡ closure_of (plan_tasks plan)) (below : AreMappedBelow plan.vars (plan_tasks plan))
    (list : List Branch) (graph : Shape) (tableau : IsTableau closure.nodes (set_of closure.roots) list graph) where
  is-tableau : IsTableau (plan_nodes plan) (plan_roots plan) list graph
  is-tableau = let P : Rooted → Type 0 = λ x. IsTableau x.nodes (set_of x.roots) list graph in subst P same tableau

  same-nodes : closure.nodes ≡ plan_nodes plan
  same-nodes = ap (λ (x : Rooted). x.nodes) same

  pub variables-there : VariablesBelow plan.vars closure.nodes
  variables-there = subst (VariablesBelow plan.vars) (sym same-nodes) (variables-below plan.vars (plan_tasks plan) below)

  pub few-there : (n : ℕ) → length list ≤ n → HasFewBranches plan n
  few-there n le = few-branches plan n list graph is-tableau le

  module _ (walk : FairLasso) (answers : Answers graph (found.Lasso walk)) where
    pub stem-made : All (λ k. k < length list) walk.stem
    stem-made = subst (λ n. All (λ k. k < n) walk.stem) tableau.count (stem-there graph walk.stem walk.cycle answers.0)

    pub cycle-made : All (λ k. k < length list) walk.cycle
    cycle-made = subst (λ n. All (λ k. k < n) walk.cycle) tableau.count (cycle-there graph walk.stem walk.cycle answers.0)

    module _ (joint : Joint) (stem-is : joint.stem ≡ rows_of closure.nodes plan.vars list walk.stem) (cycle-is : joint.cycle ≡ rows_of closure.nodes plan.vars list walk.cycle) where
      pub joined : IsJoint plan.vars joint
      joined = is-joint closure.nodes plan.vars list joint walk.stem walk.cycle stem-is cycle-is answers.0.some

      pub solved : (made : List (Lasso Letter)) → AreShortened (lassos_from joint 0 plan.vars) made → Solves plan (Sat made)
      solved made short =
          sat-solves plan below list graph is-tableau walk.stem walk.cycle answers.0 answers.1 joint
          (subst (λ ns. joint.stem ≡ rows_of ns plan.vars list walk.stem) same-nodes stem-is)
          (subst (λ ns. joint.cycle ≡ rows_of ns plan.vars list walk.cycle) same-nodes cycle-is) made short

  module _ (whole : IsWhole graph) (ranks : Ranks) (answers : Answers graph (found.Ranks ranks)) where
    pub all-ranked : (v : ℕ) → v < length list → IsSome (rank_of ranks v)
    all-ranked = each-ranked closure.nodes (set_of closure.roots) list graph tableau whole ranks answers

    pub unsolved : (proof : RankProof) → Shows closure.nodes list ranks proof → Solves plan (Unsat proof)
    unsolved proof shows = unsat-solves plan list graph is-tableau whole ranks answers proof (subst (λ ns. Shows ns list ranks proof) same-nodes shows)
