-- Copies of a net with the oracles of any closure, and the safe net of these.
use Rattle.std.specs.Prelude.{ℕ, List}
use Rattle.aig_net.specs.declared.signals.Signal.{Signal}
use Rattle.aig_net.specs.Nets.{Net}
use Rattle.ltl_closure.specs.Jobs.{Rooted}
use Rattle.sym_tableau.specs.Oracles.{signal_in}
use Rattle.live_safe.specs.declared.safe_net.SafeNet.{SafeNet}
use Rattle.live_safe.specs.Safe.{to_safe}
use Rattle.wit_lasso.specs.FormulaNets.{Tableau, copy_signals, tableau_net}

-- the members and roots of a closure, whose variables are the copies
abbrev pub tableau_over : List Signal → ℕ → Rooted → Tableau
tableau_over signals n closure = record {
  nodes = closure.nodes;
  signals = signal_in (copy_signals n signals);
  roots = closure.roots;
}

abbrev pub net_over : Net → List Signal → ℕ → Rooted → Net
net_over net signals n closure = tableau_net net n (tableau_over signals n closure)

abbrev pub safe_over : Net → List Signal → ℕ → Rooted → SafeNet
safe_over net signals n closure = to_safe (net_over net signals n closure)
