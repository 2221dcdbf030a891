-- What the gates of a safe net say.
use Rattle.std.proofs.Common.{◌≡◌, ℕ, suc, ◌+◌, ◌-◌, ◌*◌, ◌<◌, ◌≤◌, Bool, true, false, not, ◌&&◌, cond, List, [], ◌∷◌, ◌++◌, map, length, refl, sym, ap, ◌∙◌, subst, arith, length-append}
use Rattle.hy_base.proofs.Truths.{cond-below, cond-above}
use Rattle.aig_net.specs.declared.parts.And.{And}
use Rattle.aig_net.specs.Nets.{Net, no_and, Valuation, literal_value, and_value, reset_at, and_at, literal_at, latch_variable, first_and, AreRight, IsRight}
use Rattle.aig_net.specs.Wires.{Wire, literal, wire_value, wire_at}
use Rattle.hy_base.specs.Rows.{listed}
use Rattle.live_safe.specs.Safe.{effective_at, begun_nexts, has_begun, safe_inputs, take, saved, safe_first, effective, effectives, safe_variable, safe_literal, safe_and, safe_ands, saving_wires, saving, grab, next_saved, seen_wire, copy_wire, bad_wire, closing_wires, closing, safe_latches, to_safe, shown}
use Rattle.aig_net.proofs.Literals.{value-under, value-even}
use Rattle.hy_base.proofs.Listed.{length-listed, append-each, map-each, listed-each, listed-append}
use Rattle.aig_net.proofs.Wiring.{all-right, right-first, and-of-value}
use Rattle.live_safe.proofs.Shapes.{length-shape}

-- ---- the variables of the net

module _ (net : Net) where
  pub begun-length : length (begun_nexts (has_begun net)) ≡ cond (has_begun net) 1 0
  begun-length = at (has_begun net)
    where
      at : (b : Bool) → length (begun_nexts b) ≡ cond b 1 0
      at true = refl
      at false = refl

  pub many-safe-latches : length (safe_latches net) ≡ suc
      (length net.fairs + (length net.latches + (length net.latches + cond (has_begun net) 1 0)))
  many-safe-latches =
      let l = length-shape 0 net (next_saved net) (literal_at (closing net).literals)
      (λ j. safe_literal net (literal_at net.latches j))
      (λ j. literal_at (closing net).literals (length net.fairs + j))
      (begun_nexts (has_begun net)) in
      let b = begun-length in
      l ∙ ap (λ x. suc (length net.fairs + (length net.latches + (length net.latches + x)))) b

  pub first-safe : first_and (to_safe net).net ≡ safe_first net
  first-safe = ap (λ x. suc (safe_inputs net + x)) many-safe-latches

  pub variable-early : (u : ℕ) → u ≤ net.inputs → safe_variable net u ≡ 2 * u
  variable-early u le = cond-above net.inputs u _ _ le

  pub variable-latch : (j : ℕ) → j < length net.latches →
      safe_variable net (latch_variable net j) ≡ literal_at (effectives net).literals j
  variable-latch j lt =
      let at : latch_variable net j - suc net.inputs ≡ j = omega arith in
      cond-below net.inputs (latch_variable net j) _ _ (omega arith)
      ∙ cond-above (net.inputs + length net.latches) (latch_variable net j) _ _ (omega arith)
      ∙ ap (literal_at (effectives net).literals) at

  pub variable-and : (j : ℕ) → safe_variable net (first_and net + j) ≡ 2 *
      (safe_first net + (length (effectives net).ands + j))
  variable-and j =
      let at : first_and net + j - suc (net.inputs + length net.latches) ≡ j = omega arith in
      cond-below net.inputs (first_and net + j) _ _ (omega arith)
      ∙ cond-below (net.inputs + length net.latches) (first_and net + j) _ _ (omega arith)
      ∙ ap (λ x. 2 * (safe_first net + (length (effectives net).ands + x))) at

  pub safe-value : (v : Valuation) (l : ℕ) →
      literal_value v (safe_literal net l) ≡ literal_value (shown net v) l
  safe-value v l = value-under v (safe_variable net) l

  safe-and-value : (v : Valuation) (a : And) →
      and_value v (safe_and net a) ≡ and_value (shown net v) a
  safe-and-value v a =
      and-of-value v (safe_literal net a.left) (safe_literal net a.right)
      ∙ ap (λ b. b && literal_value v (safe_literal net a.right)) (safe-value v a.left)
      ∙ ap (λ b. literal_value (shown net v) a.left && b) (safe-value v a.right)

  pub many-wires : length (closing_wires net) ≡ length net.fairs + suc (length net.latches)
  many-wires =
      let a = length-listed 0 (length net.fairs) (seen_wire net) in
      let b = length-listed 0 (length net.latches) (copy_wire net) in
      let c = length-append (listed 0 (length net.latches) (copy_wire net)) (bad_wire net ∷ []) in
      let d = length-append (listed 0 (length net.fairs) (seen_wire net))
      (listed 0 (length net.latches) (copy_wire net) ++ bad_wire net ∷ []) in
      omega (arith, a, b, c, d)

  -- ---- the gates, from the last to the first

  module _ (v : Valuation) (right : IsRight (to_safe net).net v) where
    closing-right : AreRight (safe_first net) (closing net).ands v
    closing-right = let P : ℕ → Type 0 = λ first. AreRight first (closing net).ands v in
        subst P first-safe right.gates

    saving-right : AreRight (safe_first net) (saving net).ands v
    saving-right = (all-right (safe_first net) (saving net).ands
        (closing_wires net) v closing-right).0

    base-right : AreRight (safe_first net) (safe_ands net) v
    base-right = (all-right (safe_first net) (safe_ands net) (saving_wires net) v saving-right).0

    ands-right : (j : ℕ) → j < length net.ands →
        v (safe_first net + (length (effectives net).ands + j)) ≡ and_value v
        (safe_and net (and_at net.ands j))
    ands-right j lt =
        let P : ℕ → And → Type 0 = λ j a. v (safe_first net + j) ≡ and_value v a in
        let (_, more) = append-each no_and (effectives net).ands
        (map (safe_and net) net.ands) P base-right in
        map-each (safe_and net) no_and no_and net.ands
        (λ j. P (length (effectives net).ands + j)) more j lt

    pub shown-right : IsRight net (shown net v)
    shown-right = record {
      constant = ap (literal_value v) (variable-early 0 (omega arith)) ∙ right.constant;
      gates = λ j lt.
          ap (literal_value v) (variable-and j)
          ∙ value-even v (safe_first net + (length (effectives net).ands + j))
          ∙ ands-right j lt ∙ safe-and-value v (and_at net.ands j);
    }

    pub effective-value : (j : ℕ) → j < length net.latches →
        literal_value v (literal_at (effectives net).literals j) ≡ wire_value v
        (effective net j (reset_at net.resets j))
    effective-value j lt =
        let wires : List Wire = listed 0 (length net.latches)
        (effective_at net) in
        let eff : AreRight (safe_first net) (effectives net).ands v =
        right-first (safe_first net) (effectives net).ands
        (map (safe_and net) net.ands) v base-right in
        listed-each (literal 0) (length net.latches) (effective_at net)
        (λ j w. literal_value v (literal_at (effectives net).literals j) ≡ wire_value v w)
        (all-right (safe_first net) [] wires v eff).1 j lt

    pub shown-latch : (j : ℕ) → j < length net.latches →
        shown net v (latch_variable net j) ≡ wire_value v (effective net j (reset_at net.resets j))
    shown-latch j lt = ap (literal_value v) (variable-latch j lt) ∙ effective-value j lt

    pub grab-value : literal_value v (grab net) ≡
        (literal_value v (take net) && not (literal_value v (saved net)))
    grab-value = (all-right (safe_first net) (safe_ands net) (saving_wires net) v saving-right).1 0
        (omega arith)

    pub next_saved-value : literal_value v (next_saved net) ≡ not
        (not (literal_value v (saved net)) && not (literal_value v (take net)))
    next_saved-value = (all-right (safe_first net) (safe_ands net)
        (saving_wires net) v saving-right).1 1 (omega arith)

    closing-values : ((j : ℕ) → j < length net.fairs →
        literal_value v (literal_at (closing net).literals j) ≡ wire_value v (seen_wire net j))
        × ((j : ℕ) → j < length (listed 0 (length net.latches) (copy_wire net)
        ++ bad_wire net ∷ []) → literal_value v
        (literal_at (closing net).literals (length net.fairs + j)) ≡ wire_value v
        (wire_at (listed 0 (length net.latches) (copy_wire net) ++ bad_wire net ∷ []) j))
    closing-values =
        listed-append (literal 0) (length net.fairs) (seen_wire net)
        (listed 0 (length net.latches) (copy_wire net) ++ bad_wire net ∷ [])
        (λ j w. literal_value v (literal_at (closing net).literals j) ≡ wire_value v w)
        (all-right (safe_first net) (saving net).ands (closing_wires net) v closing-right).1

    later-values : ((j : ℕ) → j < length net.latches →
        literal_value v (literal_at (closing net).literals (length net.fairs + j)) ≡ wire_value v
        (copy_wire net j)) × ((j : ℕ) → j < 1 →
        literal_value v (literal_at (closing net).literals
        (length net.fairs + (length net.latches + j))) ≡ wire_value v
        (wire_at (bad_wire net ∷ []) j))
    later-values =
        listed-append (literal 0) (length net.latches) (copy_wire net) (bad_wire net ∷ [])
        (λ j w. literal_value v (literal_at (closing net).literals
        (length net.fairs + j)) ≡ wire_value v w) closing-values.1

    pub seen-value : (j : ℕ) → j < length net.fairs →
        literal_value v (literal_at (closing net).literals j) ≡ wire_value v (seen_wire net j)
    seen-value = closing-values.0

    pub copy-value : (j : ℕ) → j < length net.latches →
        literal_value v (literal_at (closing net).literals (length net.fairs + j)) ≡ wire_value v
        (copy_wire net j)
    copy-value = later-values.0

    pub bad-value : literal_value v (to_safe net).bad ≡ wire_value v (bad_wire net)
    bad-value =
        let e : length net.fairs +
        (length net.latches + 0) ≡ length net.fairs + length net.latches = omega arith in
        ap (λ x. literal_value v (literal_at (closing net).literals x)) (sym e)
        ∙ later-values.1 0 (omega arith)
