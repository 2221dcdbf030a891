-- How large the driven net is.
use Rattle.std.proofs.Common.{◌≡◌, ℕ, ◌+◌, ◌-◌, ◌*◌, ◌<◌, ◌≤◌, ◌^◌, List, [], ◌∷◌, map, length, arith}
use Rattle.std.proofs.Math.Nat.{mul-le-mul_left}
use Rattle.aig_net.specs.Nets.{Net, variables}
use Rattle.aig_net.specs.Wires.{Wire, all_of, both, literal}
use Rattle.aig_net.proofs.Costs.{cost, many-made}
use Rattle.strat_compose.specs.declared.parts.Parts.{Parts}
use Rattle.hy_formula.specs.Atoms.{IndexedAtom}
use Rattle.strat_compose.specs.Driving.{IsSmall, conjunction, driven, driven_ands, first_gate, name_count, owed_literals, parts_of}
use Rattle.strat_compose.proofs.Fitting.{many-driven_ands, many-driven_latches}
use Rattle.strat_compose.proofs.Placing.{many-literals}

pub all-of-cost : (w : Wire) (literals : List ℕ) →
    cost (all_of w (map literal literals)) ≡ cost w + length literals
all-of-cost w [] = omega arith
all-of-cost w (l ∷ literals) = let rest = all-of-cost (both w (literal l)) literals in
    omega (arith, rest)

-- one and less than there are literals
pub conjunction-cost : (literals : List ℕ) → cost (conjunction literals) ≡ length literals - 1
conjunction-cost [] = omega arith
conjunction-cost (l ∷ literals) =
    let rest = all-of-cost (literal l) literals in omega (arith, rest)

module _ (net strategy : Net) (m e : ℕ) (signal : ℕ → ℕ) (atoms : List IndexedAtom) where
  abbrev parts : Parts
  parts = parts_of net strategy m e

  abbrev all : Net
  all = driven net strategy parts signal atoms

  abbrev owed : List ℕ
  owed = owed_literals net parts

  pub driven-size : variables all ≤ 1 + net.inputs * m + length net.latches * m
      + length net.latches * e + length strategy.latches + length net.ands * m
      + length strategy.ands + length net.ands * e + length net.constraints * e
  driven-size =
      let latches = many-driven_latches net strategy m e in
      let ands = many-driven_ands net strategy m e in
      let more = many-made (first_gate net strategy m e) (driven_ands net strategy parts)
      (conjunction owed) in
      let each = conjunction-cost owed in
      let many = many-literals net parts.existential net.constraints in
      omega (arith, latches, ands, more, each, many)

  pub few-variables : IsSmall net → IsSmall strategy → 0 < m → 0 < e → m + e ≤ 4 →
      variables all ≤ 2 ^ 28
  few-variables small slight some other few =
      let size = driven-size in
      let i = mul-le-mul_left {m = m} {n = 3} net.inputs (omega arith) in
      let l = mul-le-mul_left {m = m + e} {n = 4} (length net.latches) few in
      let a = mul-le-mul_left {m = m + e} {n = 4} (length net.ands) few in
      let c = mul-le-mul_left {m = e} {n = 3} (length net.constraints) (omega arith) in
      let v = small.variables in
      let w = slight.variables in
      let k = small.literals in
      omega (arith, size, i, l, a, c, v, w, k)

  pub few-latches : IsSmall net → IsSmall strategy → m + e ≤ 4 → length all.latches ≤ 2 ^ 23
  few-latches small slight few =
      let size = many-driven_latches net strategy m e in
      let l = mul-le-mul_left {m = m + e} {n = 4} (length net.latches) few in
      let v = small.variables in
      let w = slight.variables in
      omega (arith, size, l, v, w)

  pub few-fairs : 0 < e → m + e ≤ 4 → name_count net e atoms ≤ 64 →
      length all.fairs ≤ 2 ^ 8
  few-fairs some few names =
      let size = many-literals net parts.universal net.fairs in
      let one = mul-le-mul_left {m = 1} {n = e} (length net.fairs) (omega arith) in
      let most = mul-le-mul_left {m = m} {n = 3} (length net.fairs) (omega arith) in
      omega (arith, size, one, most, names)
