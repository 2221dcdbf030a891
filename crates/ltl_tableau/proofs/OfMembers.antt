-- The sets of branches are sets of members.
use Rattle.std.proofs.Common.{ℕ, zero, suc, ◌<◌, ◌≤◌, Bool, true, false, cond, List, [], ◌++◌, length, inl, inr, subst, arith}
use Rattle.std.specs.List.{Contains}
use Rattle.std.specs.FinSet.{empty, insert, contains}
use Rattle.std.proofs.lemmas.List.Elements.{Contains-append_cases}
use Rattle.hy_base.proofs.Members.{contains-none, contains-one}
use Rattle.hy_bits.specs.Sets.{AreBelow}
use Rattle.ltl_closure.specs.Nodes.{Node, always, never, literal, and, or, next, weak_next, until, release, node_at, PartsBelow}
use Rattle.ltl_tableau.specs.Branches.{Members, Branch, has_literal, expand, branches_below, IsBranch}
use Rattle.ltl_tableau.specs.Ranks.{IsOfMembers}
use Rattle.ltl_tableau.specs.Reached.{IsReachable, first, after}
use Rattle.ltl_tableau.proofs.Distinct.{branch-from}
use Rattle.ltl_tableau.proofs.Sets.{has-cases, has-none}

module _ (nodes : List Node)
    (parts : (k : ℕ) → k < length nodes → PartsBelow k (node_at nodes k)) where
  AreInside : Members → Type 0
  AreInside s = AreBelow (length nodes) s

  AreGood : List Branch → Type 0
  AreGood list = (b : Branch) → Contains list b → IsOfMembers nodes b

  none-inside : AreInside empty
  unfolding AreInside
  none-inside k has = absurd (has-none k has)

  one-inside : (s : Members) (k : ℕ) → AreInside s → k < length nodes → AreInside (insert s k)
  unfolding AreInside
  one-inside s k below lt q has =
      elim (has-cases s k q has) [ inl same ↦ omega arith | inr old ↦ below q old ]

  none-good : AreGood []
  unfolding AreGood
  none-good b h = absurd (contains-none b h)

  both-good : (xs ys : List Branch) → AreGood xs → AreGood ys → AreGood (xs ++ ys)
  unfolding AreGood
  both-good xs ys p q b h =
      elim (Contains-append_cases xs ys b h) [ inl x ↦ p b x | inr y ↦ q b y ]

  cond-good : (c : Bool) (xs ys : List Branch) → AreGood xs → AreGood ys → AreGood (cond c xs ys)
  cond-good true xs ys p q = p
  cond-good false xs ys p q = q

  -- What comes of a member is good where all is that goes on with what is for later.
  module _ (now : Members) (f : ℕ) (rest : Members → Members → List Branch) (later : Members)
      (lt : f < length nodes) (inside : AreInside later)
      (good : (t l : Members) → AreInside l → AreGood (rest t l)) where
    with-itself : AreInside (insert later f)
    with-itself = one-inside later f inside lt

    expanded : (todo : Members) (node : Node) → PartsBelow f node
        → AreGood (expand nodes now f rest todo later node)
    expanded todo always p = good todo later inside
    expanded todo never p = none-good
    expanded todo (literal c name variable) p =
        cond-good (has_literal nodes now _ name variable (length nodes)) [] _ none-good
        (good todo later inside)
    expanded todo (and g h) p = good _ later inside
    expanded todo (or g h) p = both-good _ _ (good _ later inside) (good _ later inside)
    expanded todo (next g) p = good todo _ (one-inside later g inside (omega arith))
    expanded todo (weak_next g) p = good todo _ (one-inside later g inside (omega arith))
    expanded todo (until g h) p = both-good _ _ (good _ later inside) (good _ _ with-itself)
    expanded todo (release g h) p = both-good _ _ (good _ later inside) (good _ _ with-itself)

  built : (n : ℕ) → n ≤ length nodes → (todo now later : Members) → AreInside now
      → AreInside later → AreGood (branches_below nodes n todo now later)
  unfolding AreGood AreInside
  built zero le todo now later p q = λ b h.
      subst (IsOfMembers nodes) (contains-one (record { now = now; later = later }) b h) (p, q)
  built (suc f) le todo now later p q =
      let lt : f < length nodes = omega arith in
      let le' : f ≤ length nodes = omega arith in
      let rest : Members → Members → List Branch =
      λ t l. branches_below nodes f t (insert now f) l in
      cond-good (contains todo f) _ _
      (expanded now f rest later lt q
      (λ t l inside. built f le' t (insert now f) l (one-inside now f p lt) inside)
      todo (node_at nodes f) (parts f lt))
      (built f le' todo now later p q)

  branch-members : (set : Members) (b : Branch) → IsBranch nodes set b → IsOfMembers nodes b
  unfolding AreGood
  branch-members set b is =
      built (length nodes) (omega arith) set empty empty none-inside none-inside b
      (branch-from nodes set b is)

  pub reachable-members : (roots : Members) (b : Branch) → IsReachable nodes roots b
      → IsOfMembers nodes b
  reachable-members roots b (first is) = branch-members roots b is
  reachable-members roots b (after a reached is) = branch-members a.later b is
