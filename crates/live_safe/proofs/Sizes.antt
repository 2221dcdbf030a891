-- How large a safe net is.
use Rattle.std.proofs.Common.{◌≡◌, ℕ, zero, suc, ◌+◌, ◌*◌, ◌<◌, ◌≤◌, Bool, true, false, cond, List, [], ◌∷◌, ◌++◌, map, length, refl, ap, arith, length-append}
use Rattle.std.proofs.lemmas.List.{length-map}
use Rattle.aig_net.specs.declared.parts.And.{And}
use Rattle.aig_net.specs.declared.parts.Reset.{Reset}
use Rattle.aig_net.specs.declared.parts.Reset.TheVariants.{Zero, One, Free}
use Rattle.aig_net.specs.Nets.{Net, variables, reset_at}
use Rattle.aig_net.specs.Wires.{Wire, literal, both, equal, all_of, made_all, wire_at}
use Rattle.hy_base.specs.Rows.{listed}
use Rattle.aig_net.proofs.Costs.{all-cost, cost, many-made}
use Rattle.hy_base.proofs.Listed.{each-listed, length-listed}
use Rattle.live_safe.specs.Safe.{bad_wire, copied_latch, copy_wire, effective, effective_at, effectives, free_at, has_begun, raw, safe_and, safe_ands, safe_first, saved, saving, saving_wires, seen, seen_wire, to_safe}
use Rattle.live_safe.proofs.Counting.{count-upto}
use Rattle.live_safe.proofs.SafeGates.{first-safe}
use Rattle.live_safe.proofs.Stages.{closing-ands, copy_stage, seen_stage}

all-of-cost : (w : Wire) (ws : List Wire) (c : ℕ) →
    ((j : ℕ) → j < length ws → cost (wire_at ws j) ≤ c) →
    cost (all_of w ws) ≤ cost w + (c + 1) * length ws
all-of-cost w [] c few = omega arith
all-of-cost w (x ∷ ws) c few =
    let here = few 0 (omega arith) in
    let rest = all-of-cost (both w x) ws c (λ j lt. few (suc j) (omega arith)) in
    omega (arith, here, rest)

pub all-of-append : (w : Wire) (xs ys : List Wire) → all_of w (xs ++ ys) ≡ all_of (all_of w xs) ys
all-of-append w [] ys = refl
all-of-append w (x ∷ xs) ys = all-of-append (both w x) xs ys

-- n wires that need at most c ands each
listed-cost : (first : ℕ) (ands : List And) (n c : ℕ) (f : ℕ → Wire) →
    ((j : ℕ) → cost (f j) ≤ c) →
    length (made_all first ands (listed 0 n f)).ands ≤ length ands + c * n
listed-cost first ands n c f few =
    let all = all-cost first ands (listed 0 n f) c
    (each-listed (literal 0) n f (λ _ w. cost w ≤ c) (λ j lt. few j)) in
    let many = length-listed 0 n f in
    let same = ap (λ n. c * n) many in
    omega (arith, all, same)

module _ (net : Net) where
  effective-cost : (j : ℕ) (r : Reset) → cost (effective net j r) ≤ 3
  effective-cost j Zero = omega arith
  effective-cost j One = omega arith
  effective-cost j Free = omega arith

  effectives-cost : length (effectives net).ands ≤ 3 * length net.latches
  effectives-cost =
      let all = listed-cost (safe_first net) [] (length net.latches) 3 (effective_at net)
      (λ j. effective-cost j (reset_at net.resets j)) in
      omega (arith, all)

  base-cost : length (safe_ands net) ≤ 3 * length net.latches + length net.ands
  base-cost =
      let a = length-append (effectives net).ands (map (safe_and net) net.ands) in
      let b = length-map net.ands (safe_and net) in
      omega (arith, a, b, effectives-cost)

  saving-cost : length (saving net).ands ≤ length (safe_ands net) + 2
  saving-cost =
      let all = all-cost (safe_first net) (safe_ands net) (saving_wires net) 1 each in
      omega (arith, all)
    where
      each : (j : ℕ) → j < 2 → cost (wire_at (saving_wires net) j) ≤ 1
      each zero lt = omega arith
      each (suc zero) lt = omega arith
      each (suc (suc j)) lt = absurd (omega arith)

  seens-cost : length (seen_stage net).ands ≤ length (saving net).ands + 3 * length net.fairs
  seens-cost =
      listed-cost (safe_first net) (saving net).ands (length net.fairs) 3 (seen_wire net)
      (λ j. omega arith)

  copies-cost : length (copy_stage net).ands ≤ length (seen_stage net).ands
      + 3 * length net.latches
  copies-cost =
      listed-cost (safe_first net) (seen_stage net).ands (length net.latches) 3 (copy_wire net)
      (λ j. omega arith)

  bad-cost : cost (bad_wire net) ≤ length net.fairs + 4 * length net.latches
  bad-cost =
      let xs : List Wire = listed 0 (length net.fairs) (λ j. literal (seen net j)) in
      let ys : List Wire = listed 0 (length net.latches)
      (λ j. equal (literal (raw net j)) (literal (copied_latch net j))) in
      let parts = ap cost (all-of-append (literal (saved net)) xs ys) in
      let a = all-of-cost (literal (saved net)) xs 0 (each-listed (literal 0)
      (length net.fairs) (λ j. literal (seen net j)) (λ _ w. cost w ≤ 0) (λ j lt. omega arith)) in
      let b = all-of-cost (all_of (literal (saved net)) xs) ys 3 (each-listed (literal 0)
      (length net.latches) (λ j. equal (literal (raw net j)) (literal (copied_latch net j)))
      (λ _ w. cost w ≤ 3) (λ j lt. omega arith)) in
      let m = length-listed 0 (length net.fairs) (λ j. literal (seen net j)) in
      let n = length-listed 0 (length net.latches)
      (λ j. equal (literal (raw net j)) (literal (copied_latch net j))) in
      omega (arith, parts, a, b, m, n)

  pub safe-size : variables (to_safe net).net
      ≤ variables net + 12 * length net.latches + 5 * length net.fairs + 5
  safe-size =
      let all = ap length (closing-ands net) in
      let last = many-made (safe_first net) (copy_stage net).ands (bad_wire net) in
      let free = count-upto (free_at net) (length net.latches) in
      omega (
        arith,
        all,
        last,
        bad-cost,
        copies-cost,
        seens-cost,
        saving-cost,
        base-cost,
        free,
        first-safe net,
        begun (has_begun net),
      )
    where
      begun : (b : Bool) → cond b 1 0 ≤ 1
      begun true = omega arith
      begun false = omega arith
