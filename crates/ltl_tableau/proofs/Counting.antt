-- Branches that are all in a list, each once, are no more than the list has.
use Rattle.std.proofs.Common.{◌≡◌, ℕ, ◌<◌, ◌≤◌, List, length, sym, ◌∙◌, arith}
use Rattle.std.specs.List.{Contains}
use Rattle.std.proofs.lemmas.List.Elements.{Contains-get_or}
use Rattle.hy_base.proofs.RowNumbers.{no-more as each-place}
use Rattle.ltl_closure.specs.Nodes.{Node}
use Rattle.ltl_tableau.specs.Branches.{Members, Branch, branches, IsBranch}
use Rattle.ltl_tableau.specs.Reached.{branch_at, AreDistinct}
use Rattle.ltl_tableau.specs.Walks.{no_branch}
use Rattle.ltl_tableau.proofs.Exploring.{place-of, branches-distinct}

module _ (some list : List Branch) (distinct : AreDistinct some)
    (within : (b : Branch) → Contains some b → Contains list b) where
  found : (i : ℕ) → i < length some
      → (k : ℕ) × (k < length list) × (branch_at list k ≡ branch_at some i)
  found i lt =
      place-of no_branch list (branch_at some i) (within _ (Contains-get_or some i no_branch lt))

  pub no-more : length some ≤ length list
  no-more =
      each-place (length some) (length list) (λ i q. branch_at list q ≡ branch_at some i) found
      (λ i j q lt few here there.
      let clash : i ≡ j = distinct i j (omega arith) few (sym here ∙ there) in omega arith)

pub few-branches : (nodes : List Node) (set : Members) (list : List Branch)
    → ((b : Branch) → IsBranch nodes set b → Contains list b)
    → length (branches nodes set) ≤ length list
few-branches nodes set list within =
    no-more (branches nodes set) list (branches-distinct nodes set) within
