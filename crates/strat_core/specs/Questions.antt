-- The question whether a strategy wins, and the formula that is checked for it on the driven net.
use Rattle.std.specs.Prelude.{ℕ, ◌≤◌, List, [], ◌∷◌}
use Rattle.hy_formula.specs.declared.prefix.Quant.{Quant}
use Rattle.hy_formula.specs.declared.prefix.Quant.TheVariants.{Forall}
use Rattle.hy_formula.specs.Atoms.{atoms_of}
use Rattle.hy_formula.specs.Trees.{Tree}
use Rattle.aig_net.specs.declared.signals.Signal.{Signal}
use Rattle.aig_net.specs.Nets.{Net}
use Rattle.net_names.specs.Names.{AreSignals}
use Rattle.live_safe.specs.declared.safe_net.SafeNet.{SafeNet}
use Rattle.strat_compose.specs.Driving.{fresh_names, name_count, signal_of}
use Rattle.strat_compose.specs.Formulas.{driven_body}
use Rattle.strat_compose.specs.Refusals.{AreShaped}
use Rattle.strat_compose.specs.Winning.{driven_for}
use Rattle.formula_nets.specs.Posed.{IsPosed, checked_safe, members}

-- Prefix and strategy have the shape for m universal and e existential copies, the driven formula
-- has few names, and the names of the body stand for these signals of the circuit.
pub record IsAsked (net strategy : Net) (prefix : List Quant) (body : Tree) (names : List (List ℕ))
    (m e : ℕ) (signals : List Signal) : Type 0 where
  pub shaped : AreShaped net strategy prefix m e
  pub few : name_count net e (atoms_of body) ≤ 64
  pub named : AreSignals net names body signals

-- ---- the driven formula, which has one universal quantifier, and the driven net

abbrev pub one_forall : List Quant
one_forall = Forall ∷ []

abbrev pub driven_members : Net → ℕ → Tree → ℕ
driven_members net e body = members one_forall (driven_body net e body)

abbrev pub driven_names : Net → ℕ → Tree → List (List ℕ)
driven_names net e body = fresh_names (name_count net e (atoms_of body))

abbrev pub driven_by : Net → Net → ℕ → ℕ → List Signal → Tree → Net
driven_by net strategy m e signals body = driven_for net strategy m e (signal_of signals) body

-- The driven formula is one that is checked on the driven net, and its names stand for `own` there.
abbrev pub IsPut : Net → Net → ℕ → ℕ → List Signal → Tree → List Signal → Type 0
IsPut net strategy m e signals body own =
    IsPosed (driven_by net strategy m e signals body) (driven_names net e body) one_forall
    (driven_body net e body) own

-- the safe net in which a path is looked for
abbrev pub driven_safe : Net → Net → ℕ → ℕ → List Signal → Tree → List Signal → SafeNet
driven_safe net strategy m e signals body own =
    checked_safe (driven_by net strategy m e signals body) own one_forall (driven_body net e body)
