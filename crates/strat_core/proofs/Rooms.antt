-- There is room for the safe net of a driven formula.
use Rattle.std.proofs.Common.{◌≡◌, ℕ, ◌+◌, ◌*◌, ◌<◌, ◌≤◌, ◌^◌, false, List, [], ◌∷◌, length, arith}
use Rattle.hy_formula.specs.Atoms.{IndexedAtom, atoms_of}
use Rattle.hy_formula.specs.Trees.{Tree}
use Rattle.aig_net.specs.declared.signals.Signal.{Signal}
use Rattle.aig_net.specs.Nets.{Net, variables}
use Rattle.ltl_closure.specs.Bodies.{body_nodes, body_root}
use Rattle.ltl_closure.specs.Nodes.{Node}
use Rattle.self_compose.specs.Copies.{compose}
use Rattle.sym_tableau.specs.Oracles.{attach, signal_in}
use Rattle.live_safe.specs.Safe.{to_safe}
use Rattle.wit_lasso.specs.FormulaNets.{copy_signals, formula_net}
use Rattle.strat_compose.specs.Driving.{IsSmall, driven, name_count, parts_of, signal_of}
use Rattle.strat_compose.specs.Formulas.{driven_body}
use Rattle.formula_nets.specs.Posed.{HasRoom}
use Rattle.strat_core.specs.Questions.{driven_by, driven_names, one_forall}

-- what is known of the sizes of safe nets, of nets with oracles, of copies, and of driven nets
pub record AreSmall : Type 0 where
  pub safe : (net : Net) → variables (to_safe net).net
      ≤ variables net + 12 * length net.latches + 5 * length net.fairs + 5
  pub attached : (net : Net) (nodes : List Node) (signals : ℕ → ℕ → ℕ) (roots : List ℕ)
      → variables (attach net nodes signals roots) ≤ variables net + 6 * length nodes + length roots + 1
  pub latches : (net : Net) (nodes : List Node) (signals : ℕ → ℕ → ℕ) (roots : List ℕ)
      → length (attach net nodes signals roots).latches ≤ length net.latches + length nodes + 1
  pub fairs : (net : Net) (nodes : List Node) (signals : ℕ → ℕ → ℕ) (roots : List ℕ)
      → length (attach net nodes signals roots).fairs ≤ length net.fairs + length nodes
  pub copies : (net : Net) (n : ℕ) → 0 < n → variables (compose net n) ≤ n * variables net
  pub copied_latches : (net : Net) (n : ℕ) → length (compose net n).latches ≡ n * length net.latches
  pub copied_fairs : (net : Net) (n : ℕ) → length (compose net n).fairs ≡ n * length net.fairs
  pub driven_variables : (net strategy : Net) (m e : ℕ) (signal : ℕ → ℕ)
      (atoms : List IndexedAtom) → IsSmall net → IsSmall strategy → 0 < m → 0 < e → m + e ≤ 4
      → variables (driven net strategy (parts_of net strategy m e) signal atoms) ≤ 2 ^ 28
  pub driven_latches : (net strategy : Net) (m e : ℕ) (signal : ℕ → ℕ)
      (atoms : List IndexedAtom) → IsSmall net → IsSmall strategy → m + e ≤ 4
      → length (driven net strategy (parts_of net strategy m e) signal atoms).latches ≤ 2 ^ 23
  pub driven_fairs : (net strategy : Net) (m e : ℕ) (signal : ℕ → ℕ)
      (atoms : List IndexedAtom) → 0 < e → m + e ≤ 4 → name_count net e atoms ≤ 64
      → length (driven net strategy (parts_of net strategy m e) signal atoms).fairs ≤ 2 ^ 8

pub has-room : AreSmall → (net strategy : Net) (m e : ℕ) (signals : List Signal) (body : Tree)
    → IsSmall net → IsSmall strategy → 0 < m → 0 < e → m + e ≤ 4
    → name_count net e (atoms_of body) ≤ 64
    → HasRoom (driven_by net strategy m e signals body) (driven_names net e body) one_forall
    (driven_body net e body)
has-room small net strategy m e signals body little slight some more short few own posed =
    let all : Net = driven_by net strategy m e signals body in
    let signal : ℕ → ℕ = signal_of signals in
    let atoms : List IndexedAtom = atoms_of body in
    let asked : Tree = driven_body net e body in
    let nodes : List Node = body_nodes asked false in
    let lit : ℕ → ℕ → ℕ = signal_in (copy_signals 1 own) in
    let whole : Net = formula_net all own 1 asked false in
    let s = small.safe whole in
    let a = small.attached (compose all 1) nodes lit (body_root asked false ∷ []) in
    let l = small.latches (compose all 1) nodes lit (body_root asked false ∷ []) in
    let f = small.fairs (compose all 1) nodes lit (body_root asked false ∷ []) in
    let c = small.copies all 1 (omega arith) in
    let k = small.copied_latches all 1 in
    let g = small.copied_fairs all 1 in
    let v = small.driven_variables net strategy m e signal atoms little slight some more short in
    let w = small.driven_latches net strategy m e signal atoms little slight short in
    let x = small.driven_fairs net strategy m e signal atoms more short few in
    let n : length nodes ≤ 1024 = posed.few in
    omega (arith, s, a, l, f, c, k, g, v, w, x, n)
