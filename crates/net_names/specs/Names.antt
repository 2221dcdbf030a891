-- What the names of a formula stand for in a net: the literals of the inputs, latches and outputs
-- that have the name. An empty name is none.
use Rattle.std.specs.Prelude.{◌≡◌, ◌≢◌, ℕ, ◌+◌, ◌*◌, ◌<◌, ◌⊎◌, Bool, true, false, IsTrue, List, [], length, slice_index_or, Contains, All}
use Rattle.hy_formula.specs.Trees.{Tree}
use Rattle.hy_formula.specs.Atoms.{has_name}
use Rattle.aig_net.specs.declared.signals.Signal.{Signal}
use Rattle.aig_net.specs.Nets.{Net, literal_at}
use Rattle.aig_net.specs.Signals.{are_signals, has_signal}
use Rattle.net_names.specs.declared.name_error.NameError.{NameError}
use Rattle.net_names.specs.declared.name_error.NameError.TheVariants.{Bad, Memory}

-- the name with a number
abbrev pub name_at : List (List ℕ) → ℕ → List ℕ
name_at names k = slice_index_or names k []

-- The name stands at this place.
abbrev pub StandsAt : List (List ℕ) → List ℕ → ℕ → Type 0
StandsAt names name j = (j < length names) × (name_at names j ≡ name)

-- A variable of these, the first of which has this number, has the name: its literal.
abbrev pub NamesVariable : List (List ℕ) → List ℕ → ℕ → ℕ → Type 0
NamesVariable names name first l = (j : ℕ) × StandsAt names name j × (l ≡ 2 * (first + j))

-- A literal of these has the name.
abbrev pub NamesLiteral : List (List ℕ) → List ℕ → List ℕ → ℕ → Type 0
NamesLiteral names name literals l =
    (j : ℕ) × StandsAt names name j × (l ≡ literal_at literals j)

-- An input, a latch or an output with this literal has the name.
abbrev pub HasLiteral : Net → List ℕ → ℕ → Type 0
HasLiteral net name l =
    (name ≢ []) × (NamesVariable net.input_names name 1 l
    ⊎ (NamesVariable net.latch_names name (1 + net.inputs) l
    ⊎ NamesLiteral net.output_names name net.outputs l))

-- The name stands for this literal alone.
pub record IsOnly (net : Net) (name : List ℕ) (l : ℕ) : Type 0 where
  pub has : HasLiteral net name l
  pub only : (m : ℕ) → HasLiteral net name m → m ≡ l

-- Nothing has the name, or two literals do.
abbrev pub IsBadName : Net → List ℕ → Bool → Type 0
IsBadName net name false = (l : ℕ) → ¬ HasLiteral net name l
IsBadName net name true =
    (l m : ℕ) × HasLiteral net name l × HasLiteral net name m × (l ≢ m)

-- The signals are those of the names of a body: one for variable 0 for each.
pub record AreSignals (net : Net) (names : List (List ℕ)) (body : Tree)
    (signals : List Signal) : Type 0 where
  pub distinct : IsTrue (are_signals signals)
  pub own : All (λ s. s.var ≡ 0) signals
  pub each : (s : Signal) → Contains signals s →
      IsTrue (has_name body s.name) × IsOnly net (name_at names s.name) s.literal
  pub every : (k : ℕ) → IsTrue (has_name body k) → IsTrue (has_signal signals k 0)

-- The name is the first of the body that is missing, or stands for two literals.
pub record IsFirstBad (net : Net) (names : List (List ℕ)) (body : Tree) (name : ℕ)
    (twice : Bool) : Type 0 where
  pub there : IsTrue (has_name body name)
  pub bad : IsBadName net (name_at names name) twice
  pub first : (k : ℕ) → k < name → IsTrue (has_name body k) →
      (l : ℕ) × IsOnly net (name_at names k) l

-- why a body has no signals; want of memory needs no cause
abbrev pub IsNameRefusal : Net → List (List ℕ) → Tree → NameError → Type 0
IsNameRefusal net names body (Bad name twice) = IsFirstBad net names body name twice
IsNameRefusal net names body Memory = Unit {0}
