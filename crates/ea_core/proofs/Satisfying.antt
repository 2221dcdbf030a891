-- A fair walk gives lassos that fulfil a plan.
use Rattle.std.proofs.Common.{◌≡◌, ℕ, zero, suc, ◌+◌, ◌-◌, ◌%◌, ◌<◌, ◌≤◌, true, List, [], ◌∷◌, length, map, get_or, refl, sym, ap, ◌∙◌, subst, arith, zero-add, IsTrue}
use Rattle.std.specs.List.{All}
use Rattle.std.specs.FinSet.{empty}
use Rattle.std.proofs.Math.Nat.{mod-eq_of_lt}
use Rattle.std.proofs.lemmas.List.{length-map}
use Rattle.std.proofs.lemmas.List.Elements.{All-from_get_or}
use Rattle.std.proofs.lemmas.List.FromFn.{length-map-range_with_len, get_or-map-range_with_len}
use Rattle.hy_base.proofs.Truths.{cond-below, cond-above}
use Rattle.hy_bits.specs.Letter.{Letter}
use Rattle.hy_formula.specs.Temporal.{Words}
use Rattle.hy_formula.specs.Lassos.{Lasso}
use Rattle.hy_lasso.specs.Words.{lasso_words}
use Rattle.rank_check.specs.Graphs as graphs
use Rattle.rank_check.specs.Graphs.{Shape}
use Rattle.ltl_closure.specs.Nodes.{Node, node_at}
use Rattle.ltl_closure.specs.Jobs.{AreMappedBelow}
use Rattle.ltl_tableau.specs.Branches.{Branch}
use Rattle.ltl_tableau.specs.GraphWalks.{walk_of}
use Rattle.ltl_tableau.specs.Reached.{branch_at, IsTableau}
use Rattle.ltl_tableau.specs.WalkWords as walks
use Rattle.ltl_tableau.specs.WalkWords.{letter_of, lassos_of}
use Rattle.ltl_tableau.specs.Walks.{gone, IsWalk}
use Rattle.ltl_tableau.proofs.Bounded.{variables-below}
use Rattle.ltl_tableau.proofs.Choosing.{literal-some}
use Rattle.ltl_tableau.proofs.Saturating.{literal-node}
use Rattle.ltl_tableau.proofs.GraphWalking.{accepting}
use Rattle.ltl_tableau.proofs.Gone.{are-lassos, same-words}
use Rattle.ltl_tableau.proofs.TasksTogether.{tuple-of}
use Rattle.ea_reduce.specs.declared.joint.Joint.{Joint}
use Rattle.ea_reduce.specs.Plans.{PlainPlan, plan_tasks}
use Rattle.ea_reduce.specs.Fulfilled.{Fulfils}
use Rattle.ea_reduce.specs.Joints.{column, lasso_of, lassos_from, IsJoint, AreShortened}
use Rattle.ea_reduce.proofs.Reducing.{shortened-fulfils}
use Rattle.ea_reduce.proofs.Same.{shortened-words, lasso-parts}
use Rattle.rank_proofs.specs.Proofs.{plan_nodes, plan_roots}
use Rattle.ea_core.specs.declared.decision.Decision.TheVariants.{Sat}
use Rattle.ea_core.specs.Shown.{letters_of, rows_of}
use Rattle.ea_core.specs.Solved.{PlanMentions, Solves}
use Rattle.ea_core.proofs.Named.{plan-named}

-- The nodes of a walk are there.
module _ (g : Shape) (stem cycle : List ℕ) (walk : graphs.IsWalk g stem cycle) where
  pub stem-there : All (λ k. k < length g.nodes) stem
  stem-there = All-from_get_or (λ k. k < length g.nodes) stem 0 (λ i lt.
      subst (λ k. k < length g.nodes) (cond-below i (length stem) _ _ lt) (walk.goes i).0)

  pub cycle-there : All (λ k. k < length g.nodes) cycle
  cycle-there = All-from_get_or (λ k. k < length g.nodes) cycle 0 (λ i lt.
      let past : length stem + i - length stem ≡ i = omega arith in
      let at : (length stem + i - length stem) % length cycle ≡ i = ap (λ x. x % length cycle) past ∙ mod-eq_of_lt lt in
      subst (λ k. k < length g.nodes) (cond-above (length stem + i) (length stem) _ _ (omega arith) ∙ ap (λ j. get_or cycle j 0) at) (walk.goes (length stem + i)).0)

module _ (nodes : List Node) (vars : ℕ) (list : List Branch) where
  column-rows : (v : ℕ) → v < vars → (walk : List ℕ) → column v (rows_of nodes vars list walk) ≡ map (letter_of nodes v) (map (branch_at list) walk)
  column-rows v lt [] = refl
  column-rows v lt (k ∷ ks) =
      ap (λ x. x ∷ column v (rows_of nodes vars list ks)) (get_or-map-range_with_len (λ u. letter_of nodes u (branch_at list k)) 0 vars v v empty lt (zero-add v))
      ∙ ap (λ xs. letter_of nodes v (branch_at list k) ∷ xs) (column-rows v lt ks)

  module _ (joint : Joint) (stem cycle : List ℕ) (stem-is : joint.stem ≡ rows_of nodes vars list stem) (cycle-is : joint.cycle ≡ rows_of nodes vars list cycle) where
    one-lasso : (v : ℕ) → v < vars → lasso_of joint v ≡ walks.lasso_of nodes (walk_of list stem cycle) v
    one-lasso v lt = lasso-parts (lasso_of joint v) _ _ (ap (column v) stem-is ∙ column-rows v lt stem) (ap (column v) cycle-is ∙ column-rows v lt cycle)

    same-lassos : (v n : ℕ) → v + n ≤ vars → lassos_from joint v n ≡ walks.lassos_from nodes (walk_of list stem cycle) v n
    same-lassos v zero le = refl
    same-lassos v (suc n) le =
        ap (λ l. l ∷ lassos_from joint (suc v) n) (one-lasso v (omega arith))
        ∙ ap (λ ls. walks.lasso_of nodes (walk_of list stem cycle) v ∷ ls) (same-lassos (suc v) n (omega arith))

  -- each row has a letter for each variable
  rows-full : (walk : List ℕ) → All (λ (row : List Letter). length row ≡ vars) (rows_of nodes vars list walk)
  rows-full walk = All-from_get_or (λ (row : List Letter). length row ≡ vars) (rows_of nodes vars list walk) [] (λ i lt. full walk i lt)
    where
      full : (ks : List ℕ) (i : ℕ) → i < length (rows_of nodes vars list ks) → length (get_or (rows_of nodes vars list ks) i []) ≡ vars
      full [] i lt = absurd (omega arith)
      full (k ∷ ks) zero lt = length-map-range_with_len (λ u. letter_of nodes u (branch_at list k)) 0 vars
      full (k ∷ ks) (suc i) lt = full ks i (omega arith)

  pub is-joint : (joint : Joint) (stem cycle : List ℕ) → joint.stem ≡ rows_of nodes vars list stem → joint.cycle ≡ rows_of nodes vars list cycle → 0 < length cycle → IsJoint vars joint
  is-joint joint stem cycle s c some =
      let Full : List (List Letter) → Type 0 = All (λ row. length row ≡ vars) in
      record {
        some = omega (arith, ap length c, length-map cycle (λ k. letters_of nodes vars (branch_at list k)));
        stem = subst Full (sym s) (rows-full stem);
        cycle = subst Full (sym c) (rows-full cycle);
      }

lassos-count : (nodes : List Node) (walk : Lasso Branch) (v n : ℕ) → length (walks.lassos_from nodes walk v n) ≡ n
lassos-count nodes walk v zero = refl
lassos-count nodes walk v (suc n) = ap suc (lassos-count nodes walk (suc v) n)

module _ (plan : PlainPlan) (below : AreMappedBelow plan.vars (plan_tasks plan)) (list : List Branch) (graph : Shape)
    (tableau : IsTableau (plan_nodes plan) (plan_roots plan) list graph)
    (stem cycle : List ℕ) (walk : graphs.IsWalk graph stem cycle) (fair : graphs.IsFair graph cycle) where
  abbrev nodes : List Node
  nodes = plan_nodes plan

  abbrev along : Lasso Branch
  along = walk_of list stem cycle

  is-walk : IsWalk nodes (plan_roots plan) along
  is-walk = (accepting nodes (plan_roots plan) list graph tableau stem cycle walk fair).0

  fulfilled : Fulfils plan (lassos_of nodes along plan.vars)
  fulfilled =
      record {
        count = lassos-count nodes along 0 plan.vars;
        lassos = are-lassos nodes along plan.vars is-walk.some;
        hold = tuple-of (plan_tasks plan) plan.vars below along is-walk (accepting nodes (plan_roots plan) list graph tableau stem cycle walk fair).1;
      }

  -- each name in the letters is one of the plan
  named : (name v i : ℕ) → IsTrue (lasso_words (lassos_of nodes along plan.vars) name v i) → PlanMentions plan name
  named name v i h =
      let P : Words → Type 0 = λ w. IsTrue (w name v i) in
      let there = subst P (same-words nodes along is-walk.some plan.vars (variables-below plan.vars (plan_tasks plan) below)) h in
      let (k, lt, has, is) = literal-some nodes (gone along i).now true name v (length nodes) there in
      plan-named plan k name v true lt (literal-node true name v (node_at nodes k) is)

  pub sat-solves : (joint : Joint) → joint.stem ≡ rows_of nodes plan.vars list stem → joint.cycle ≡ rows_of nodes plan.vars list cycle
      → (made : List (Lasso Letter)) → AreShortened (lassos_from joint 0 plan.vars) made → Solves plan (Sat made)
  sat-solves joint s c made short =
      let same : lassos_from joint 0 plan.vars ≡ lassos_of nodes along plan.vars = same-lassos nodes plan.vars list joint stem cycle s c 0 plan.vars (omega arith) in
      let Q : List (Lasso Letter) → Type 0 = λ t. AreShortened t made in
      let short' : AreShortened (lassos_of nodes along plan.vars) made = subst Q same short in
      let P : Words → Type 0 = λ w. (name v i : ℕ) → IsTrue (w name v i) → PlanMentions plan name in (
        shortened-fulfils plan (lassos_of nodes along plan.vars) made short' fulfilled,
        record { normal = short.normal; names = subst P (shortened-words (lassos_of nodes along plan.vars) made short') named },
      )
