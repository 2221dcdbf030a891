-- Where a set has more branches than there are branches with entries, one of them has none.
use Rattle.std.proofs.Common.{◌≡◌, ℕ, ◌<◌, List, length, Option, Some, None, IsSome, refl, arith}
use Rattle.std.specs.Map.{lookup, keys_of}
use Rattle.std.proofs.lemmas.List.{length-map}
use Rattle.std.proofs.lemmas.Map.Views.{Contains-keys_from_lookup}
use Rattle.ltl_closure.specs.Nodes.{Node}
use Rattle.ltl_tableau.specs.Branches.{Members, Branch, branches}
use Rattle.ltl_tableau.specs.Ranks.{Ranked, HasAll}
use Rattle.ltl_tableau.proofs.Collecting.{equal-same}
use Rattle.rank_proofs.specs.Edges.{IsGreatest, IsOf}
use Rattle.rank_proofs.specs.Tops.{same_branch, AreGreatest}
use Rattle.ltl_tableau.proofs.Counting.{few-branches}

has-rank : (entries : List Ranked) (b : Branch) (e : Ranked) → IsOf entries b e → (o : Option ℕ)
    → IsGreatest (IsOf entries b) o → IsSome o
has-rank entries b e of None none = absurd (none e of)
has-rank entries b e of (Some r) greatest = refl

pub too-many : (nodes : List Node) (entries : List Ranked) (s : Members) (es : List (Branch × ℕ))
    → AreGreatest entries (λ b. lookup (same_branch b) es)
    → length es < length (branches nodes s) → ¬ HasAll nodes entries s
too-many nodes entries s es are over all =
    let le =
    few-branches nodes s (keys_of es) (λ b is.
    let (e, there, of) = all b is in
    Contains-keys_from_lookup equal-same b es (has-rank entries b e (there, of) _ (are b))) in
    let count : length (keys_of es) ≡ length es = length-map es (λ e. e.0) in
    omega arith
