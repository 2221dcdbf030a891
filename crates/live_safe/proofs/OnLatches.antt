-- `bad` depends on latches alone.
use Rattle.std.proofs.Common.{◌≡◌, ℕ, suc, ◌+◌, ◌*◌, ◌<◌, Bool, not, ◌&&◌, cond, List, [], ◌∷◌, length, sym, ap, ◌∙◌, arith}
use Rattle.aig_net.specs.Nets.{Net, Valuation, literal_value, latch_variable, IsRight}
use Rattle.aig_net.specs.Wires.{Wire, literal, both, equal, all_of, wire_at, wire_value}
use Rattle.hy_base.specs.Rows.{listed}
use Rattle.aig_net.proofs.Literals.{value-even}
use Rattle.hy_base.proofs.Listed.{append-listed, each-listed}
use Rattle.live_safe.specs.Safe.{bad_wires, copied_latch, has_begun, raw, safe_inputs, safe_latches, saved, seen, to_safe}
use Rattle.live_safe.proofs.SafeGates.{bad-value, many-safe-latches}

abbrev equal_of : Bool → Bool → Bool
equal_of x y = not (not (not (x && not y) && not (not x && y)))

module _ (v w : Valuation) where
  both-same : (x y : Wire) → wire_value v x ≡ wire_value w x → wire_value v y ≡ wire_value w y →
      wire_value v (both x y) ≡ wire_value w (both x y)
  both-same x y e h = ap (λ b. b && wire_value v y) e ∙ ap (λ b. wire_value w x && b) h

  equal-same : (a b : ℕ) → literal_value v a ≡ literal_value w a →
      literal_value v b ≡ literal_value w b →
      wire_value v (equal (literal a) (literal b)) ≡ wire_value w (equal (literal a) (literal b))
  equal-same a b e h =
      ap (λ x. equal_of x (literal_value v b)) e ∙ ap (equal_of (literal_value w a)) h

  all-same : (x : Wire) (ws : List Wire) → wire_value v x ≡ wire_value w x →
      ((j : ℕ) → j < length ws → wire_value v (wire_at ws j) ≡ wire_value w (wire_at ws j)) →
      wire_value v (all_of x ws) ≡ wire_value w (all_of x ws)
  all-same x [] e all = e
  all-same x (y ∷ ws) e all =
      all-same (both x y) ws (both-same x y e (all 0 (omega arith)))
      (λ j lt. all (suc j) (omega arith))

pub bad-on-latches : (net : Net) (v w : Valuation) → IsRight (to_safe net).net v →
    IsRight (to_safe net).net w → ((j : ℕ) → j < length (to_safe net).net.latches →
    v (latch_variable (to_safe net).net j) ≡ w (latch_variable (to_safe net).net j)) →
    literal_value v (to_safe net).bad ≡ literal_value w (to_safe net).bad
bad-on-latches net v w rv right same =
    bad-value net v rv
    ∙ all-same v w (literal (saved net)) (bad_wires net) (latch 0 (omega (arith, many)))
    (append-listed (literal 0) (length net.fairs) (λ j. literal (seen net j))
    (listed 0 (length net.latches)
    (λ j. equal (literal (raw net j)) (literal (copied_latch net j))))
    (λ _ x. wire_value v x ≡ wire_value w x)
    (λ j lt. latch (suc j) (omega (arith, many, lt)))
    (each-listed (literal 0) (length net.latches)
    (λ j. equal (literal (raw net j)) (literal (copied_latch net j)))
    (λ _ x. wire_value v x ≡ wire_value w x)
    (λ j lt. equal-same v w (raw net j) (copied_latch net j)
    (latch (suc (length net.fairs + j)) (omega (arith, many, lt)))
    (latch (suc (length net.fairs + (length net.latches + j))) (omega (arith, many, lt))))))
    ∙ sym (bad-value net w right)
  where
    many : length (safe_latches net) ≡ suc (length net.fairs + (length net.latches
        + (length net.latches + cond (has_begun net) 1 0)))
    many = many-safe-latches net

    latch : (k : ℕ) → k < length (safe_latches net) →
        literal_value v (2 * suc (safe_inputs net + k)) ≡ literal_value w
        (2 * suc (safe_inputs net + k))
    latch k lt =
        value-even v (suc (safe_inputs net + k)) ∙ same k lt
        ∙ sym (value-even w (suc (safe_inputs net + k)))
