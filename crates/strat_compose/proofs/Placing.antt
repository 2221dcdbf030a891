-- What stands for the variables of a copy: its inputs, latches and ands.
use Rattle.std.proofs.Common.{◌≡◌, ℕ, zero, suc, ◌+◌, ◌-◌, ◌*◌, ◌<◌, ◌≤◌, List, length, inl, inr, sym, ap, ◌∙◌, subst, arith}
use Rattle.std.proofs.lemmas.Bool.{cases_lt, cond-true, cond-false, lt-ltb, le-ltb}
use Rattle.std.proofs.lemmas.Nat.{mul-add-lt}
use Rattle.std.proofs.lemmas.List.{get_or_past}
use Rattle.aig_net.specs.Nets.{Net, AllBelow, Below, and_at, first_and, latch_variable, literal_at, no_and, variables}
use Rattle.aig_net.proofs.Literals.{below-even, below-under}
use Rattle.aig_net.proofs.Wiring.{below-max, below-min}
use Rattle.aig_net.proofs.Copying.{each-copied, length-copied}
use Rattle.strat_compose.specs.declared.group.Group.{Group}
use Rattle.strat_compose.specs.Groups.{and_in, ands_in, literal_in, literals_in, placed}

pub below-at : (n : ℕ) (literals : List ℕ) → 0 < n → AllBelow n literals → (k : ℕ) →
    Below n (literal_at literals k)
below-at n literals some all k =
    elim (cases_lt k (length literals)) [
      | inl lt ↦ all k lt
      | inr past ↦ let P : ℕ → Type 0 = Below n in
          subst P (sym (get_or_past literals k 0 past)) (omega arith)
    ]

module _ (net : Net) (group : Group) where
  abbrev n : ℕ
  n = group.copies

  pub placed-input : (c j : ℕ) → j < net.inputs →
      placed net group c (suc j) ≡ literal_at group.inputs (j * n + c)
  placed-input c j lt = cond-true _ _ _ (lt-ltb j net.inputs lt)

  pub placed-latch : (c j : ℕ) → j < length net.latches →
      placed net group c (latch_variable net j) ≡ 2 * (group.latch + (j * n + c))
  placed-latch c j lt =
      let back : net.inputs + j - net.inputs ≡ j = omega arith in
      cond-false _ _ _ (le-ltb (net.inputs + j) net.inputs (omega arith))
      ∙ cond-true _ _ _ (lt-ltb (net.inputs + j) (net.inputs + length net.latches) (omega arith))
      ∙ ap (λ x. 2 * (group.latch + (x * n + c))) back

  pub placed-gate : (c j : ℕ) →
      placed net group c (first_and net + j) ≡ 2 * (group.gate + (j * n + c))
  placed-gate c j =
      let up : first_and net + j ≡ suc (net.inputs + length net.latches + j) = omega arith in
      let back : net.inputs + length net.latches + j - (net.inputs + length net.latches) ≡ j =
      omega arith in
      ap (placed net group c) up
      ∙ cond-false _ _ _ (le-ltb (net.inputs + length net.latches + j) net.inputs (omega arith))
      ∙ cond-false _ _ _ (le-ltb (net.inputs + length net.latches + j)
      (net.inputs + length net.latches) (omega arith))
      ∙ ap (λ x. 2 * (group.gate + (x * n + c))) back

  -- The literals of the inputs, and the latches, stand before the ands.
  pub record Stands : Type 0 where
    pub some : 0 < group.gate
    pub inputs : AllBelow group.gate group.inputs
    pub latches : group.latch + length net.latches * n ≤ group.gate

  module _ (stands : Stands) where
    -- what stands for a variable before and j stands before the ands j of all copies
    pub placed-below : (c j v : ℕ) → c < n → v < first_and net + j →
        Below (group.gate + j * n) (placed net group c v)
    placed-below c j zero few lt = omega (arith, stands.some)
    placed-below c j (suc v) few lt =
        let P : ℕ → Type 0 = Below (group.gate + j * n) in
        elim (cases_lt v net.inputs) [
          | inl input ↦
              let own = below-at group.gate group.inputs stands.some stands.inputs (v * n + c) in
              subst P (sym (placed-input c v input)) (omega (arith, own))
          | inr other ↦ elim (cases_lt v (net.inputs + length net.latches)) [
            | inl latch ↦
                let k : ℕ = v - net.inputs in
                let at : suc v ≡ latch_variable net k = omega arith in
                let row = mul-add-lt k n c (length net.latches) (omega arith) few in
                let here : placed net group c (suc v) ≡ 2 * (group.latch + (k * n + c)) =
                ap (placed net group c) at ∙ placed-latch c k (omega arith) in
                subst P (sym here) (below-even _ (group.latch + (k * n + c))
                (omega (arith, row, stands.latches)))
            | inr gate ↦
                let k : ℕ = v - (net.inputs + length net.latches) in
                let at : suc v ≡ first_and net + k = omega arith in
                let row = mul-add-lt k n c j (omega arith) few in
                let here : placed net group c (suc v) ≡ 2 * (group.gate + (k * n + c)) =
                ap (placed net group c) at ∙ placed-gate c k in
                subst P (sym here) (below-even _ (group.gate + (k * n + c)) (omega (arith, row)))
          ]
        ]

    pub literal-below : (c j l : ℕ) → c < n → Below (first_and net + j) l →
        Below (group.gate + j * n) (literal_in net group c l)
    literal-below c j l few below =
        below-under (group.gate + j * n) (first_and net + j) (placed net group c) l
        (λ x lt. placed-below c j x few lt) below

    -- Each literal of the copies is one of a variable up to their last and.
    pub literals-below : (literals : List ℕ) → AllBelow (variables net) literals →
        AllBelow (group.gate + length net.ands * n) (literals_in net group literals)
    literals-below literals good =
        each-copied n (literal_in net group) literals 0 0
        (λ _ l. Below (group.gate + length net.ands * n) l)
        (λ c j few row. literal-below c (length net.ands) (literal_at literals j) few
        (good j row))

    pub ands-ordered : ((j : ℕ) → j < length net.ands →
        Below (first_and net + j) (and_at net.ands j).left
        × Below (first_and net + j) (and_at net.ands j).right) → (u : ℕ) →
        u < length (ands_in net group) →
        Below (group.gate + u) (and_at (ands_in net group) u).left
        × Below (group.gate + u) (and_at (ands_in net group) u).right
    ands-ordered good =
        each-copied n (and_in net group) net.ands no_and no_and
        (λ u a. Below (group.gate + u) a.left × Below (group.gate + u) a.right)
        (λ c j few row.
        let (l, r) = good j row in
        let a = literal_in net group c (and_at net.ands j).left in
        let b = literal_in net group c (and_at net.ands j).right in
        let p = literal-below c j (and_at net.ands j).left few l in
        let q = literal-below c j (and_at net.ands j).right few r in
        let p' : Below (group.gate + (j * n + c)) a = omega (arith, p) in
        let q' : Below (group.gate + (j * n + c)) b = omega (arith, q) in
        (below-max _ a b p' q', below-min _ a b p' q'))

  pub ands-turned : (u : ℕ) → u < length (ands_in net group) →
      (and_at (ands_in net group) u).right ≤ (and_at (ands_in net group) u).left
  ands-turned =
      each-copied n (and_in net group) net.ands no_and no_and (λ _ a. a.right ≤ a.left)
      (λ c j few row. omega arith)

  pub many-literals : (literals : List ℕ) →
      length (literals_in net group literals) ≡ length literals * n
  many-literals literals = length-copied n (literal_in net group) literals

  pub many-ands : length (ands_in net group) ≡ length net.ands * n
  many-ands = length-copied n (and_in net group) net.ands
