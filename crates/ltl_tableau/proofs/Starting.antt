-- The branches of a set, from the beginning.
use Rattle.std.proofs.Common.{◌≡◌, ℕ, ◌<◌, ◌≤◌, false, List, length, Some, None, sym, ap, ◌∙◌, subst, arith}
use Rattle.std.specs.FinSet.{empty, contains}
use Rattle.ltl_closure.specs.Nodes.{Node, node_at, PartsBelow}
use Rattle.ltl_tableau.specs.declared.settle.Draft.{Draft}
use Rattle.ltl_tableau.specs.Branches.{Members, branches_below}
use Rattle.ltl_tableau.specs.Ways.{ways, AreDead}
use Rattle.ltl_tableau.specs.Drafts.{Settles, HasNone, Begins}
use Rattle.ltl_tableau.proofs.Sets.{has-none}
use Rattle.ltl_tableau.proofs.WaysLemmas.{within-itself}
use Rattle.ltl_tableau.proofs.OneSet.{from-start}

pub none-dead : (nodes : List Node) (held dead : Members) → dead ≡ empty → AreDead nodes held dead
none-dead nodes held dead e =
    let P : Members → Type 0 = AreDead nodes held in
    subst P (sym e) (record { each = λ k h. absurd (has-none k h) })

module _ (nodes : List Node) (parts : (k : ℕ) → k < length nodes → PartsBelow k (node_at nodes k)) (set : Members) {w : ℕ}
    (draft : Draft w) (below : draft.work.below ≡ length nodes) (next : draft.work.next ≡ empty)
    (same : (k : ℕ) → k < length nodes → contains draft.work.held k ≡ contains set k)
    (none : (k : ℕ) → length nodes ≤ k → contains draft.work.held k ≡ false) where
  all-ways : ways nodes draft.work.below draft.work.held empty ≡ branches_below nodes (length nodes) set empty empty
  all-ways =
      ap (λ n. ways nodes n draft.work.held empty) below ∙ sym (from-start nodes parts set draft.work.held same none)

  pub begins-none : HasNone nodes draft → Begins {w = w} nodes set None
  begins-none h = record { ready = tt; same = sym (h.none empty) ∙ all-ways }

  pub begins-some : (new : Draft w) → Settles nodes draft new → Begins nodes set (Some new)
  begins-some new s =
      let P : Members → Type 0 = λ l. ways nodes new.work.below new.work.held l ≡ branches_below nodes (length nodes) set empty empty in
      let Q : ℕ → Type 0 = λ n. ways nodes n new.work.held empty ≡ branches_below nodes (length nodes) set empty empty in
      record {
        ready = (omega (arith, s.below, below), s.dead, within-itself new.work.held);
        same = subst P (sym (s.next ∙ next)) (subst Q (sym s.below) (sym (s.same empty) ∙ all-ways));
      }
