-- One more and filled in, and the rows that are given first.
use Rattle.std.proofs.Common.{◌≡◌, ℕ, ◌+◌, ◌/◌, ◌<◌, ◌≤◌, ◌&&◌, Bool, false, List, length, set, take, inl, inr, sym, ap, ◌∙◌, arith, get_or-set_same, get_or-set_other}
use Rattle.std.proofs.lemmas.Bool.{cases_eq}
use Rattle.std.proofs.lemmas.List.{take-set-le}
use Rattle.aig_net.specs.declared.parts.And.{And}
use Rattle.aig_net.proofs.Literals.{value-same}
use Rattle.aig_net.specs.Nets.{and_at, Valuation, Below, literal_value, and_value, AreOrdered}
use Rattle.hy_base.specs.Rows.{row}

pub and-same : (v w : Valuation) (a : And) → v (a.left / 2) ≡ w (a.left / 2) →
    v (a.right / 2) ≡ w (a.right / 2) → and_value v a ≡ and_value w a
and-same v w a l r =
    ap (λ b. b && literal_value v a.right) (value-same v w a.left l)
    ∙ ap (λ b. literal_value w a.left && b) (value-same v w a.right r)

-- The first i ands have their values.
abbrev pub RightBelow : ℕ → ℕ → List And → List Bool → Type 0
RightBelow i first ands values = (j : ℕ) → j < i →
    row values (first + j) ≡ and_value (row values) (and_at ands j)

-- the literals of an and are in the row
pub in-row : (ands : List And) (first i n : ℕ) → AreOrdered first ands → i < length ands →
    first + length ands ≤ n → Below n (and_at ands i).left × Below n (and_at ands i).right
in-row ands first i n ordered lt room = let (l, r) = ordered i lt in
    (omega (arith, l), omega (arith, r))

pub one-more : (ands : List And) (values : List Bool) (first i : ℕ) (b : Bool) →
    AreOrdered first ands → i < length ands → first + length ands ≤ length values →
    RightBelow i first ands values → b ≡ and_value (row values) (and_at ands i) →
    RightBelow (i + 1) first ands (set values (first + i) b)
one-more ands values first i b ordered lt room right e j below =
    elim (cases_eq j i) [
      | inl here ↦
          let at : first + j ≡ first + i = omega (arith, here) in
          ap (row (set values (first + i) b)) at
          ∙ get_or-set_same values (first + i) b false (omega arith) ∙ e
          ∙ sym (same i lt (omega arith))
          ∙ ap (λ x. and_value (row (set values (first + i) b)) (and_at ands x)) (sym here)
      | inr apart ↦ other (first + j) (omega arith) ∙ right j (omega arith)
          ∙ sym (same j (omega arith) (omega arith))
    ]
  where
    other : (u : ℕ) → u < first + i → row (set values (first + i) b) u ≡ row values u
    other u lt = get_or-set_other values (first + i) u b false (λ e. omega (arith, e))

    same : (k : ℕ) → k < length ands → k ≤ i →
        and_value (row (set values (first + i) b)) (and_at ands k) ≡ and_value (row values)
        (and_at ands k)
    same k lt le =
        let (l, r) = ordered k lt in
        and-same (row (set values (first + i) b)) (row values) (and_at ands k)
        (other _ (omega (arith, l))) (other _ (omega (arith, r)))

pub first-same : (values : List Bool) (first i : ℕ) (b : Bool) →
    take first (set values (first + i) b) ≡ take first values
first-same values first i b = take-set-le first values (first + i) b (omega arith)
