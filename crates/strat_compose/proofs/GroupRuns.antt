-- What a copy in a larger net does: it starts and goes as its net says, where the copies' latches
-- and ands do.
use Rattle.std.proofs.Common.{◌≡◌, ℕ, ◌+◌, ◌*◌, ◌<◌, Bool, false, ◌&&◌, length, sym, ap, ◌∙◌, subst, arith}
use Rattle.aig_net.specs.declared.parts.And.{And}
use Rattle.aig_net.specs.declared.parts.Reset.TheVariants.{Zero}
use Rattle.aig_net.specs.Nets.{IsRight, IsStart, IsStep, Net, ResetTo, Valuation, and_at, and_value, latch_variable, literal_at, literal_value, no_and, reset_at}
use Rattle.aig_net.proofs.Literals.{value-even, value-under}
use Rattle.aig_net.proofs.Wiring.{and-of-value}
use Rattle.aig_net.specs.Copies.{copied}
use Rattle.aig_net.proofs.Copying.{copied-each}
use Rattle.strat_compose.specs.declared.group.Group.{Group}
use Rattle.strat_compose.specs.Driving.{same_reset}
use Rattle.strat_compose.specs.Groups.{and_in, ands_in, literal_in, literals_in, placed}
use Rattle.strat_compose.proofs.Placing.{placed-gate, placed-latch}

module _ (net : Net) (group : Group) (c : ℕ) (few : c < group.copies) where
  abbrev n : ℕ
  n = group.copies

  -- the valuation of the copy
  abbrev pub shown : Valuation → Valuation
  shown v u = literal_value v (placed net group c u)

  latch-shown : (v : Valuation) (j : ℕ) → j < length net.latches →
      shown v (latch_variable net j) ≡ v (group.latch + (j * n + c))
  latch-shown v j row =
      ap (literal_value v) (placed-latch net group c j row)
      ∙ value-even v (group.latch + (j * n + c))

  and-shown : (v : Valuation) (a : And) →
      and_value v (and_in net group c a) ≡ and_value (shown v) a
  and-shown v a =
      and-of-value v (literal_in net group c a.left) (literal_in net group c a.right)
      ∙ ap (λ x. x && literal_value v (literal_in net group c a.right))
      (value-under v (placed net group c) a.left)
      ∙ ap (λ x. literal_value (shown v) a.left && x) (value-under v (placed net group c) a.right)

  pub group-right : (v : Valuation) → v 0 ≡ false → ((u : ℕ) → u < length (ands_in net group) →
      v (group.gate + u) ≡ and_value v (and_at (ands_in net group) u)) → IsRight net (shown v)
  group-right v constant gates = record {
    constant = constant;
    gates = λ j row.
        ap (literal_value v) (placed-gate net group c j)
        ∙ value-even v (group.gate + (j * n + c))
        ∙ copied-each n (and_in net group) net.ands no_and no_and
        (λ u a. v (group.gate + u) ≡ and_value v a) gates c j few row
        ∙ and-shown v (and_at net.ands j);
  }

  pub group-starts : (v : Valuation) → length net.resets ≡ length net.latches →
      ((u : ℕ) → u < length (copied n same_reset net.resets) →
      ResetTo (reset_at (copied n same_reset net.resets) u) (v (group.latch + u))) →
      IsStart net (shown v)
  group-starts v same starts j row =
      let P : Bool → Type 0 = ResetTo (reset_at net.resets j) in
      subst P (sym (latch-shown v j row)) (copied-each n same_reset net.resets Zero Zero
      (λ u r. ResetTo r (v (group.latch + u))) starts c j few (omega (arith, row, same)))

  pub group-steps : (v w : Valuation) →
      ((u : ℕ) → u < length (literals_in net group net.latches) →
      w (group.latch + u) ≡ literal_value v (literal_at (literals_in net group net.latches) u)) →
      IsStep net (shown v) (shown w)
  group-steps v w steps j row =
      latch-shown w j row
      ∙ copied-each n (literal_in net group) net.latches 0 0
      (λ u l. w (group.latch + u) ≡ literal_value v l) steps c j few row
      ∙ value-under v (placed net group c) (literal_at net.latches j)
