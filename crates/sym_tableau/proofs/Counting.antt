-- How many members have oracles.
use Rattle.std.proofs.Common.{◌≡◌, ℕ, zero, suc, ◌+◌, ◌≤◌, Bool, true, false, cond, List, inl, inr, sym, ap, ◌∙◌, arith}
use Rattle.std.proofs.lemmas.Bool.{cases_eq}
use mir.Val.{bool_byte}
use Rattle.hy_base.proofs.Truths.{more-if}
use Rattle.ltl_closure.specs.Nodes.{Node, node_at}
use Rattle.sym_tableau.specs.Oracles.{is_temporal, oracles_below}

pub oracles-upto : (nodes : List Node) (n k : ℕ) → k ≤ n →
    oracles_below nodes k ≤ oracles_below nodes n
oracles-upto nodes zero k le =
    let e : k ≡ 0 = omega arith in
    let same = ap (oracles_below nodes) e in
    omega (arith, same)
oracles-upto nodes (suc n) k le =
    elim (cases_eq k (suc n)) [
      | inl e ↦ let same = ap (oracles_below nodes) e in omega (arith, same)
      | inr apart ↦ omega (
        arith,
        oracles-upto nodes n k (omega arith),
        more-if (is_temporal (node_at nodes n)) (oracles_below nodes n),
      )
    ]

pub oracles-few : (nodes : List Node) (n : ℕ) → oracles_below nodes n ≤ n
oracles-few nodes zero = omega arith
oracles-few nodes (suc n) =
    omega (
      arith,
      oracles-few nodes n,
      more (is_temporal (node_at nodes n)) (oracles_below nodes n),
    )
  where
    more : (b : Bool) (a : ℕ) → cond b (suc a) a ≤ suc a
    more true a = omega arith
    more false a = omega arith

pub oracles-next : (nodes : List Node) (k c d : ℕ) (b : Bool) (node : Node) →
    c ≡ oracles_below nodes k → d ≡ bool_byte b → b ≡ is_temporal node →
    node ≡ node_at nodes k → c + d ≡ oracles_below nodes (k + 1)
oracles-next nodes k c d b node ec ed eb en =
    let up : k + 1 ≡ suc k = omega arith in
    let is : b ≡ is_temporal (node_at nodes k) = eb ∙ ap is_temporal en in
    ap (λ c. c + d) ec ∙ ap (λ d. oracles_below nodes k + d) ed
    ∙ at b (oracles_below nodes k)
    ∙ ap (λ b. cond b (suc (oracles_below nodes k)) (oracles_below nodes k)) is
    ∙ ap (oracles_below nodes) (sym up)
  where
    at : (b : Bool) (a : ℕ) → a + bool_byte b ≡ cond b (suc a) a
    at true a = omega arith
    at false a = omega arith
