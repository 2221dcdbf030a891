-- There is room for each part of a driven net.
use Rattle.std.proofs.Common.{◌≡◌, ℕ, suc, ◌+◌, ◌*◌, ◌<◌, ◌≤◌, List, length, arith}
use Rattle.std.proofs.Math.Nat.{mul-le-mul_left}
use Rattle.aig_net.specs.Nets.{Net}
use Rattle.aig_net.specs.Wires.{Fits}
use Rattle.hy_base.proofs.Listed.{length-listed}
use Rattle.strat_compose.specs.declared.parts.Parts.{Parts}
use Rattle.hy_formula.specs.Atoms.{IndexedAtom}
use Rattle.strat_compose.specs.Groups.{HasRoom}
use Rattle.strat_compose.specs.Driving.{HaveRoom, IsSmall, IsStrategy, conjunction, driven_ands, owed_literals, parts_of}
use Rattle.strat_compose.proofs.Fitting.{many-driven_latches}
use Rattle.strat_compose.proofs.Placing.{many-literals}
use Rattle.strat_compose.proofs.Sizes.{few-variables}

module _ (net strategy : Net) (m e : ℕ) (small : IsSmall net) (slight : IsSmall strategy)
    (shape : IsStrategy net strategy m e) (some : 0 < m) (other : 0 < e)
    (few : m + e ≤ 4) where
  abbrev parts : Parts
  parts = parts_of net strategy m e

  many-inputs : length parts.universal.inputs ≡ net.inputs * m
  many-inputs = length-listed 0 (net.inputs * m) (λ i. 2 * suc i)

  pub few-inputs : net.inputs * m + net.inputs * e ≤ 4194304
  few-inputs =
      let i = mul-le-mul_left {m = m + e} {n = 4} net.inputs few in
      omega (arith, i, small.variables)

  pub few-items : net.inputs * m + net.inputs * e + length net.latches * m
      + length net.latches * e + length net.ands * m + length net.ands * e ≤ 4194304
  few-items =
      let i = mul-le-mul_left {m = m + e} {n = 4} net.inputs few in
      let l = mul-le-mul_left {m = m + e} {n = 4} (length net.latches) few in
      let a = mul-le-mul_left {m = m + e} {n = 4} (length net.ands) few in
      omega (arith, i, l, a, small.variables)

  room-universal : HasRoom net parts.universal
  room-universal = record {
    variables_fit = omega (arith, small.variables);
    few = omega (arith, few-items);
    inputs = omega (arith, many-inputs);
    latches = omega (arith, few-items);
    gates = omega (arith, few-items, slight.variables);
  }

  pub room-player : HasRoom strategy parts.player
  room-player = record {
    variables_fit = omega (arith, slight.variables);
    few = omega (arith, slight.variables);
    inputs = omega (arith, many-inputs, shape.inputs);
    latches = omega (arith, few-items, slight.variables);
    gates = omega (arith, few-items, slight.variables);
  }

  room-existential : HasRoom net parts.existential
  room-existential = record {
    variables_fit = omega (arith, small.variables);
    few = omega (arith, few-items);
    inputs = omega (arith, many-literals strategy parts.player strategy.outputs, shape.outputs);
    latches = omega (arith, few-items);
    gates = omega (arith, few-items, slight.variables);
  }

  pub have-room : HaveRoom net strategy parts
  have-room = record {
    universal = room-universal;
    player = room-player;
    existential = room-existential;
  }

  pub ands-fit : (signal : ℕ → ℕ) (atoms : List IndexedAtom) →
      Fits parts.universal.gate (driven_ands net strategy parts)
      (conjunction (owed_literals net parts))
  ands-fit signal atoms =
      let size = few-variables net strategy m e signal atoms small slight some other few in
      let latches = many-driven_latches net strategy m e in
      omega (arith, size, latches)
