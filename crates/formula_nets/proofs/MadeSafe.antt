-- The safe net of a closure over copies of a net is one, and that of a formula: its latches start false, and bad looks
-- at latches alone.
use Rattle.std.proofs.Common.{◌≡◌, ℕ, ◌<◌, Bool, List, [], ◌∷◌, length, refl}
use Rattle.hy_formula.specs.Trees.{Tree}
use Rattle.hy_formula.specs.Normals.{normal_form}
use Rattle.aig_net.specs.declared.signals.Signal.{Signal}
use Rattle.aig_net.specs.Nets.{IsNet, IsRight, Net, Valuation, latch_variable, literal_value}
use Rattle.ltl_closure.specs.Bodies.{body_closure}
use Rattle.ltl_closure.specs.Jobs.{Rooted}
use Rattle.ltl_closure.specs.Nodes.{PartsBelow, node_at}
use Rattle.ltl_closure.proofs.Closing.{closure-numbers}
use Rattle.self_compose.specs.Copies.{compose}
use Rattle.self_compose.proofs.Tuples.{composed-net}
use Rattle.sym_tableau.specs.Oracles.{signal_in}
use Rattle.sym_tableau.proofs.AttachedRange.{attached-net}
use Rattle.live_safe.specs.Safe.{safe_latches, to_safe}
use Rattle.live_safe.proofs.SafeRange.{bad-in-range, safe-net}
use Rattle.live_safe.proofs.Starts.{zero-at}
use Rattle.cnf_frames.specs.Facts.{IsSafe}
use Rattle.wit_lasso.specs.FormulaNets.{AreOwn, copy_signals, formula_safe}
use Rattle.wit_lasso.proofs.CopySignals.{copies-below}
use Rattle.formula_nets.specs.SafeNets.{net_over, safe_over}

-- The bad literals of safe nets look at latches alone.
abbrev pub OnLatches : Type 0
OnLatches = (net : Net) (v w : Valuation) → IsRight (to_safe net).net v →
    IsRight (to_safe net).net w → ((j : ℕ) → j < length (to_safe net).net.latches →
    v (latch_variable (to_safe net).net j) ≡ w (latch_variable (to_safe net).net j)) →
    literal_value v (to_safe net).bad ≡ literal_value w (to_safe net).bad

module _ (net : Net) (signals : List Signal) (n : ℕ) (good : IsNet net) (are : AreOwn net signals)
    (some : 0 < n) where
  pub over-net : (closure : Rooted) →
      ((k : ℕ) → k < length closure.nodes → PartsBelow k (node_at closure.nodes k)) →
      IsNet (net_over net signals n closure)
  over-net closure parts =
      attached-net (compose net n) closure.nodes (composed-net net n some good)
      (signal_in (copy_signals n signals)) closure.roots (copies-below net n some signals are) parts

  pub over-safe : (closure : Rooted) →
      ((k : ℕ) → k < length closure.nodes → PartsBelow k (node_at closure.nodes k)) → OnLatches →
      IsSafe (safe_over net signals n closure)
  over-safe closure parts on-latches =
      let whole : Net = net_over net signals n closure in
      let is : IsNet whole = over-net closure parts in
      record {
        net = safe-net whole is;
        fairs = refl;
        zero = zero-at (safe_latches whole);
        bad = bad-in-range whole is;
        latches = on-latches whole;
      }

pub formula-safe-is : (net : Net) (signals : List Signal) (n : ℕ) (body : Tree) (b : Bool) →
    IsNet net → AreOwn net signals → 0 < n → OnLatches →
    IsSafe (formula_safe net signals n body b)
formula-safe-is net signals n body b good are some on-latches =
    over-safe net signals n good are some (body_closure body b)
    (closure-numbers (normal_form b body ∷ [])).parts on-latches
