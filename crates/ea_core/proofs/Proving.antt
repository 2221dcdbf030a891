-- Ranks that pass are a rank proof of a plan.
use Rattle.std.proofs.Common.{◌≡◌, ℕ, ◌<◌, List, [], length, get_or, Some, sym, ap, ◌∙◌, subst, arith}
use Rattle.std.specs.List.{Contains}
use Rattle.std.proofs.lemmas.List.{get_or-map, length-map}
use Rattle.std.proofs.lemmas.List.Elements.{All-map}
use Rattle.hy_lasso.proofs.LassoWords.{decided-lassos}
use Rattle.hy_lasso.specs.Words.{lasso_words}
use Rattle.rank_check.specs.declared.ranks.Ranks.{Ranks}
use Rattle.rank_check.specs.Graphs.{Shape, IsWhole}
use Rattle.rank_check.specs.Ranking.{IsRanked}
use Rattle.ltl_closure.specs.Nodes.{Node}
use Rattle.ltl_closure.specs.Jobs.{forms_of}
use Rattle.ltl_closure.proofs.Closing.{closure-numbers}
use Rattle.ltl_tableau.specs.Branches.{Branch}
use Rattle.ltl_tableau.specs.GraphWalks.{no_entry, entry_at, HasRanks}
use Rattle.ltl_tableau.specs.Ranks.{Ranked, IsRankProof}
use Rattle.ltl_tableau.specs.Reached.{IsReachable, AreDistinct, branch_at, IsTableau}
use Rattle.ltl_tableau.specs.Walks.{no_branch}
use Rattle.ltl_tableau.proofs.GraphWalking.{rank-proof}
use Rattle.ltl_tableau.proofs.TasksTogether.{never-together}
use Rattle.ea_reduce.specs.Plans.{PlainPlan, plan_tasks}
use Rattle.rank_proofs.specs.declared.rank_proof.RankProof.{RankProof}
use Rattle.rank_proofs.specs.declared.rank_proof.ProofBranch.{ProofBranch}
use Rattle.rank_proofs.specs.Proofs.{plan_nodes, plan_roots, branch_of, ranked_of, plain_proof}
use Rattle.ea_core.specs.declared.decision.Decision.TheVariants.{Unsat}
use Rattle.ea_core.specs.Proofs.{IsProofOf}
use Rattle.ea_core.specs.Shown.{Shows}
use Rattle.ea_core.specs.Solved.{Solves}

no_entry_kept : ProofBranch
no_entry_kept = record { rank = 0; now = []; next = [] }

module _ (plan : PlainPlan) (list : List Branch) (graph : Shape) (tableau : IsTableau (plan_nodes plan) (plan_roots plan) list graph) (whole : IsWhole graph)
    (ranks : Ranks) (ranked : IsRanked graph ranks) (proof : RankProof) (shows : Shows (plan_nodes plan) list ranks proof) where
  abbrev nodes : List Node
  nodes = plan_nodes plan

  abbrev entries : List Ranked
  entries = (plain_proof proof).entries

  count : length proof.branches ≡ length list
  count = sym (length-map proof.branches branch_of) ∙ ap length shows.entries.branches

  at-entry : (v : ℕ) → v < length list → entry_at entries v ≡ ranked_of (get_or proof.branches v no_entry_kept)
  at-entry v lt = get_or-map ranked_of proof.branches v no_entry_kept no_entry (omega (arith, count))

  at-branch : (v : ℕ) → v < length list → branch_of (get_or proof.branches v no_entry_kept) ≡ branch_at list v
  at-branch v lt =
      sym (get_or-map branch_of proof.branches v no_entry_kept no_branch (omega (arith, count))) ∙ ap (λ bs. get_or bs v no_branch) shows.entries.branches

  has-ranks : HasRanks nodes list ranks (plain_proof proof)
  has-ranks =
      record {
        count = length-map proof.branches ranked_of ∙ count;
        branches = λ v lt. ap (λ (e : Ranked). e.branch) (at-entry v lt) ∙ at-branch v lt;
        ranked = λ v lt. shows.entries.ranked v no_entry_kept lt ∙ ap (λ (e : Ranked). Some e.rank) (sym (at-entry v lt));
        below = All-map (λ (e : Ranked). e.rank < length proof.reasons) ranked_of proof.branches shows.below;
        reasons = shows.reasons;
      }

  right : IsRankProof nodes (plan_roots plan) (plain_proof proof)
  right = rank-proof nodes (plan_roots plan) list graph tableau whole ranks ranked (plain_proof proof) has-ranks (closure-numbers (forms_of (plan_tasks plan))).parts

  is-proof : IsProofOf plan proof
  is-proof =
      let D : List Branch → Type 0 = AreDistinct in
      let R : List Branch → Type 0 = λ bs. (b : Branch) → (Contains bs b → IsReachable nodes (plan_roots plan) b) × (IsReachable nodes (plan_roots plan) b → Contains bs b) in
      record {
        right = right;
        least = shows.least;
        distinct = subst D (sym shows.entries.branches) tableau.distinct;
        reachable = subst R (sym shows.entries.branches) (λ b. tableau.reachable b);
        ascending = shows.entries.ascending;
      }

  pub unsat-solves : Solves plan (Unsat proof)
  unsat-solves =
      (λ (tuple, f). never-together (plan_tasks plan) (plain_proof proof) right (lasso_words tuple) (decided-lassos tuple f.lassos) f.hold, is-proof)
