-- What the check of a rank proof finds.
use Rattle.std.proofs.Common.{◌≡◌, ◌↔◌, ℕ, ◌≤◌, Bool, true, false, List, length, Option, Some, None, slice_get, is_some, IsTrue, sym, ◌∙◌, subst, arith}
use Rattle.std.proofs.lemmas.Bool.{false≢true}
use Rattle.std.proofs.lemmas.Option.{slice_get_within, get_or_from_slice_get}
use Rattle.ltl_closure.specs.Nodes.{Node}
use Rattle.ltl_tableau.specs.Branches.{Members, branches}
use Rattle.ltl_tableau.specs.Ranks.{Ranked, RankProof, IsOfMembers, HasAll}
use Rattle.rank_proofs.specs.Edges.{IsTop, Follows, Allows, IsPlaced}
use Rattle.rank_proofs.specs.Tops.{IsTopFound}
use Rattle.rank_proofs.proofs.Edges.{allows-follows}

pub refused : {P : Type 0} (b : Bool) → b ≡ false → ¬ P → IsTrue b ↔ P
refused b not-so none = (λ so. absurd (false≢true (sym not-so ∙ so)), λ p. absurd (none p))

module _ (nodes : List Node) (proof : RankProof) (d : Ranked) where
  pub rank-past : length proof.reasons ≤ d.rank → ¬ IsPlaced nodes proof d
  rank-past past is = let lt = is.ranked in omega arith

  pub placed-by : (top reason : Option ℕ) (b : Bool) → slice_get proof.reasons d.rank ≡ Some reason
      → IsOfMembers nodes d.branch → IsTop proof.entries (branches nodes d.branch.later) top
      → IsTrue b ↔ Allows nodes d top reason → IsTrue b ↔ IsPlaced nodes proof d
  placed-by top reason b at members is allowed =
      let same = get_or_from_slice_get proof.reasons d.rank reason None at in
      let F : Option ℕ → Type 0 = Follows nodes proof.entries d in
      let (to, back) = allows-follows nodes proof.entries d top is.greatest reason in (
        (λ so. record {
          members = members;
          ranked = slice_get_within proof.reasons d.rank reason at;
          closed = is.listed;
          follows = subst F (sym same) (to (allowed.0 so));
        }),
        (λ placed. allowed.1 (back (subst F same placed.follows))),
      )

-- ---- a set

module _ (nodes : List Node) (entries : List Ranked) (s : Members) where
  pub found-all : (found : Option (Option ℕ)) → is_some found ≡ true
      → IsTopFound nodes entries s found → HasAll nodes entries s
  found-all (Some top) some is = is.listed
  found-all None some is = absurd (cc)

  pub found-missing : (found : Option (Option ℕ)) → is_some found ≡ false
      → IsTopFound nodes entries s found → ¬ HasAll nodes entries s
  found-missing (Some top) none is = absurd (cc)
  found-missing None none is = is
