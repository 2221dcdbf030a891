-- Which questions are refused, and what comes of the others.
use Rattle.std.specs.Prelude.{◌≡◌, ℕ, ◌*◌, ◌<◌, ◌≤◌, List, [], ◌∷◌}
use Rattle.hy_base.specs.declared.limit.Kind.TheVariants.{StrategyNames}
use Rattle.hy_base.specs.declared.limit.Limit.{Limit as Past}
use Rattle.hy_formula.specs.declared.prefix.Quant.{Quant}
use Rattle.hy_formula.specs.declared.prefix.Quant.TheVariants.{Forall}
use Rattle.hy_formula.specs.Classes.{class_of}
use Rattle.hy_formula.specs.Trees.{Tree, tree_of}
use Rattle.aig_net.specs.declared.signals.Signal.{Signal}
use Rattle.aig_net.specs.Nets.{Net}
use Rattle.net_names.specs.Names.{AreSignals, IsFirstBad}
use Rattle.strat_compose.specs.declared.question.DriveError.{DriveError}
use Rattle.strat_compose.specs.declared.question.DriveError.TheVariants.{Limit, Memory, Name, Prefix, Shape}
use Rattle.strat_compose.specs.declared.question.Driven.{Driven}
use Rattle.hy_formula.specs.Atoms.{atoms_of}
use Rattle.strat_compose.specs.Driving.{IsStrategy, driven, fresh_names, name_count, parts_of, signal_of}
use Rattle.strat_compose.specs.Formulas.{driven_body}
use Rattle.strat_compose.specs.Prefixes.{IsForallExists}

-- Prefix and strategy are of the right shape, for m universal and e existential copies.
pub record AreShaped (net strategy : Net) (prefix : List Quant) (m e : ℕ) : Type 0 where
  pub prefix_is : IsForallExists prefix m e
  pub strategy_is : IsStrategy net strategy m e

-- the driven net, the driven formula and its names
pub record IsMade (net strategy : Net) (m e : ℕ) (signals : List Signal) (body : Tree)
    (made : Driven) : Type 0 where
  pub net_is : made.net ≡ driven net strategy (parts_of net strategy m e) (signal_of signals)
      (atoms_of body)
  pub prefix_is : made.formula.prefix ≡ Forall ∷ []
  pub body_is : tree_of made.formula.body ≡ driven_body net e body
  pub names_are : made.names ≡ fresh_names (name_count net e (atoms_of body))

-- What is made, where nothing is refused.
pub record IsDriven (net strategy : Net) (prefix : List Quant) (body : Tree)
    (names : List (List ℕ)) (made : Driven) : Type 0 where
  pub universal : ℕ
  pub existential : ℕ
  pub signals : List Signal
  pub shaped : AreShaped net strategy prefix universal existential
  pub few : name_count net existential (atoms_of body) ≤ 64
  pub named : AreSignals net names body signals
  pub is : IsMade net strategy universal existential signals body made

abbrev pub names_limit : Past
names_limit = record { kind = StrategyNames; limit = 64 }

-- Why nothing is made: the first cause in this order, but for memory.
abbrev pub IsRefusal : Net → Net → List Quant → Tree → List (List ℕ) → DriveError → Type 0
IsRefusal net strategy prefix body names (Prefix class) =
    ((m e : ℕ) → ¬ IsForallExists prefix m e) × (class ≡ class_of prefix)
IsRefusal net strategy prefix body names (Shape inputs outputs) =
    (m e : ℕ) × IsForallExists prefix m e × (¬ IsStrategy net strategy m e)
    × (inputs ≡ net.inputs * m) × (outputs ≡ net.inputs * e)
IsRefusal net strategy prefix body names (Limit limit) =
    (limit ≡ names_limit) × (m e : ℕ) × AreShaped net strategy prefix m e
    × (64 < name_count net e (atoms_of body))
IsRefusal net strategy prefix body names (Name name twice) =
    (m e : ℕ) × AreShaped net strategy prefix m e
    × (name_count net e (atoms_of body) ≤ 64) × IsFirstBad net names body name twice
IsRefusal net strategy prefix body names Memory = Unit {0}
