-- The safe net of a formula on a net: the safe net of the copies of the net, one for each variable,
-- with the oracles of the body, or of its negation.
use Rattle.std.specs.Prelude.{◌≡◌, ℕ, Bool, List, [], ◌∷◌, All}
use Rattle.hy_formula.specs.Trees.{Tree}
use Rattle.aig_net.specs.declared.signals.Signal.{Signal}
use Rattle.aig_net.specs.Copies.{copied}
use Rattle.aig_net.specs.Nets.{Net, variables}
use Rattle.self_compose.specs.Copies.{compose, copy_literal}
use Rattle.ltl_closure.specs.Nodes.{Node}
use Rattle.ltl_closure.specs.Bodies.{body_nodes, body_root}
use Rattle.sym_tableau.specs.Oracles.{attach, signal_in}
use Rattle.sym_tableau.specs.Places.{AreWithin}
use Rattle.live_safe.specs.declared.safe_net.SafeNet.{SafeNet}
use Rattle.live_safe.specs.Safe.{to_safe}

-- the signal of variable c, in copy c
abbrev pub copy_signal : ℕ → ℕ → Signal → Signal
copy_signal n c s =
    record { name = s.name; var = c; literal = copy_literal n c s.literal }

abbrev pub copy_signals : ℕ → List Signal → List Signal
copy_signals n signals = copied n (copy_signal n) signals

-- the members of a closure, the literals of its atoms in the copies, and its roots
pub record Tableau : Type 0 where
  pub nodes : List Node
  pub signals : ℕ → ℕ → ℕ
  pub roots : List ℕ

-- n copies of a net, with the oracles of a closure
abbrev pub tableau_net : Net → ℕ → Tableau → Net
tableau_net net n t = attach (compose net n) t.nodes t.signals t.roots

abbrev pub formula_tableau : List Signal → ℕ → Tree → Bool → Tableau
formula_tableau signals n body positive = record {
  nodes = body_nodes body positive;
  signals = signal_in (copy_signals n signals);
  roots = body_root body positive ∷ [];
}

abbrev pub formula_net : Net → List Signal → ℕ → Tree → Bool → Net
formula_net net signals n body positive =
    tableau_net net n (formula_tableau signals n body positive)

abbrev pub formula_safe : Net → List Signal → ℕ → Tree → Bool → SafeNet
formula_safe net signals n body positive = to_safe (formula_net net signals n body positive)

-- The signals are those of variable 0, for literals of the net.
pub record AreOwn (net : Net) (signals : List Signal) : Type 0 where
  pub own : All (λ s. s.var ≡ 0) signals
  pub within : AreWithin (variables net) signals
