-- How large the safe net of a closure over copies of a net is; and that there is room for that of a formula of at most
-- four quantifiers on a circuit that was read.
use Rattle.std.proofs.Common.{◌≡◌, ℕ, ◌+◌, ◌*◌, ◌<◌, ◌≤◌, List, length, arith}
use Rattle.std.proofs.Math.Nat.{mul-le-mul_right}
use Rattle.hy_base.specs.declared.reading.TheConstants.{BYTES_LIMIT}
use Rattle.hy_formula.specs.Trees.{Tree}
use Rattle.hy_formula.specs.declared.prefix.Quant.{Quant}
use Rattle.aig_net.specs.declared.signals.Signal.{Signal}
use Rattle.aig_net.specs.Nets.{Net, variables}
use Rattle.ltl_closure.specs.Bodies.{body_closure}
use Rattle.ltl_closure.specs.Jobs.{Rooted}
use Rattle.ltl_closure.specs.Nodes.{Node}
use Rattle.self_compose.specs.Copies.{compose}
use Rattle.sym_tableau.specs.Oracles.{attach, signal_in}
use Rattle.live_safe.specs.Safe.{to_safe}
use Rattle.wit_lasso.specs.FormulaNets.{copy_signals}
use Rattle.formula_nets.specs.Posed.{HasRoom, is_existential}
use Rattle.formula_nets.specs.SafeNets.{net_over, safe_over}

-- what is known of the sizes of safe nets, of nets with oracles, and of copies
pub record AreSmall : Type 0 where
  pub safe : (net : Net) → variables (to_safe net).net
      ≤ variables net + 12 * length net.latches + 5 * length net.fairs + 5
  pub attached : (net : Net) (nodes : List Node) (signals : ℕ → ℕ → ℕ) (roots : List ℕ)
      → variables (attach net nodes signals roots) ≤ variables net + 6 * length nodes + length roots + 1
  pub fairs : (net : Net) (nodes : List Node) (signals : ℕ → ℕ → ℕ) (roots : List ℕ)
      → length (attach net nodes signals roots).fairs ≤ length net.fairs + length nodes
  pub copies : (net : Net) (n : ℕ) → 0 < n → variables (compose net n) ≤ n * variables net
  pub copied_fairs : (net : Net) (n : ℕ) → length (compose net n).fairs ≡ n * length net.fairs

-- how many variables the safe net has at most
abbrev most_over : Net → ℕ → Rooted → ℕ
most_over net n closure =
    13 * (n * variables net + 6 * length closure.nodes + length closure.roots)
    + 5 * (n * length net.fairs + length closure.nodes) + 18

abbrev OverAreSmall : Type 0
OverAreSmall = (net : Net) (signals : List Signal) (n : ℕ) (closure : Rooted) → 0 < n →
    variables (safe_over net signals n closure).net ≤ most_over net n closure

pub over-small : AreSmall → OverAreSmall
over-small small net signals n closure some =
    let lit : ℕ → ℕ → ℕ = signal_in (copy_signals n signals) in
    let s = small.safe (net_over net signals n closure) in
    let a = small.attached (compose net n) closure.nodes lit closure.roots in
    let f = small.fairs (compose net n) closure.nodes lit closure.roots in
    let c = small.copies net n some in
    let g = small.copied_fairs net n in
    omega (arith, s, a, f, c, g)

pub has-room : OverAreSmall → (net : Net) (names : List (List ℕ)) (prefix : List Quant) (body : Tree)
    → net.inputs + length net.latches + length net.ands ≤ 1048576
    → length net.outputs + length net.constraints + length net.fairs ≤ BYTES_LIMIT
    → 0 < length prefix → length prefix ≤ 4 → HasRoom net names prefix body
has-room small net names prefix body few literals some short signals posed =
    let n : ℕ = length prefix in
    let closure : Rooted = body_closure body (is_existential prefix) in
    let s = small net signals n closure some in
    let v : n * variables net ≤ 4 * variables net = mul-le-mul_right (variables net) short in
    let w : n * length net.fairs ≤ 4 * length net.fairs = mul-le-mul_right (length net.fairs) short in
    let m : length closure.nodes ≤ 1024 = posed.few in
    omega (arith, s, v, w, m, few, literals)
