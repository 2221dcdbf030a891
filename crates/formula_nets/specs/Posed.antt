-- A formula that is posed to a circuit: what its names stand for, and the safe net in which a path
-- is looked for.
use Rattle.std.specs.Prelude.{◌≡◌, ℕ, ◌^◌, ◌≤◌, ◌⊎◌, Bool, List, length}
use Rattle.hy_base.specs.Limits.{most}
use Rattle.hy_base.specs.declared.limit.Kind.TheVariants.{Closure}
use Rattle.hy_formula.specs.Classes.{class_of, has_only}
use Rattle.hy_formula.specs.Trees.{Tree}
use Rattle.hy_formula.specs.declared.classes.Class.TheVariants as class
use Rattle.hy_formula.specs.declared.prefix.Quant.{Quant}
use Rattle.hy_formula.specs.declared.prefix.Quant.TheVariants.{Exists}
use Rattle.aig_net.specs.declared.signals.Signal.{Signal}
use Rattle.aig_net.specs.Nets.{Net, variables}
use Rattle.net_names.specs.Names.{AreSignals}
use Rattle.live_safe.specs.declared.safe_net.SafeNet.{SafeNet}
use Rattle.ltl_closure.specs.Bodies.{body_nodes}
use Rattle.wit_lasso.specs.FormulaNets.{formula_safe}

-- whether all quantifiers are existential
abbrev pub is_existential : List Quant → Bool
is_existential prefix = has_only Exists prefix

-- The class of the prefix is checked.
abbrev pub IsTaken : List Quant → Type 0
IsTaken prefix = (class_of prefix ≡ class.Exists) ⊎ (class_of prefix ≡ class.Forall)

-- the members of the closure: of the body where all quantifiers are existential, else of its
-- negation
abbrev pub members : List Quant → Tree → ℕ
members prefix body = length (body_nodes body (is_existential prefix))

-- the safe net in which a path is looked for
abbrev pub checked_safe : Net → List Signal → List Quant → Tree → SafeNet
checked_safe net signals prefix body =
    formula_safe net signals (length prefix) body (is_existential prefix)

-- The formula is one that is checked, and its names stand for these signals.
pub record IsPosed (net : Net) (names : List (List ℕ)) (prefix : List Quant) (body : Tree)
    (signals : List Signal) : Type 0 where
  pub taken : IsTaken prefix
  pub few : members prefix body ≤ most Closure
  pub signals_are : AreSignals net names body signals

-- There is room for the safe net.
abbrev pub HasRoom : Net → List (List ℕ) → List Quant → Tree → Type 0
HasRoom net names prefix body =
    (signals : List Signal) → IsPosed net names prefix body signals →
    variables (checked_safe net signals prefix body).net ≤ 2 ^ 31
