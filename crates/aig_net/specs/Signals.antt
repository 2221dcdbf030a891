-- What the names of a formula stand for in a net, and what is seen of a word.
use Rattle.std.specs.Prelude.{ℕ, Bool, true, cond, not, ◌&&◌, nat_eq, nat_lt, List, [], ◌∷◌, Option, Some, None, is_some, unwrap_or}
use Rattle.aig_net.specs.declared.signals.Signal.{Signal}
use Rattle.aig_net.specs.Nets.{Valuation, literal_value}
use Rattle.aig_net.specs.Executions.{Word}

abbrev pub is_for : ℕ → ℕ → Signal → Bool
is_for name var s = nat_eq s.name name && nat_eq s.var var

-- the literal of a name and a variable, by the first that is for them
abbrev pub literal_of : List Signal → ℕ → ℕ → Option ℕ
literal_of [] name var = None
literal_of (s ∷ signals) name var =
    cond (is_for name var s) (Some s.literal) (literal_of signals name var)

abbrev pub has_signal : List Signal → ℕ → ℕ → Bool
has_signal signals name var = is_some (literal_of signals name var)

-- Names are below 64, and no pair of a name and a variable stands there twice.
abbrev pub are_signals : List Signal → Bool
are_signals [] = true
are_signals (s ∷ signals) = nat_lt s.name 64 && not
    (has_signal signals s.name s.var) && are_signals signals

-- whether the name of the variable is true; a literal that is missing is false
abbrev pub shown : List Signal → Valuation → ℕ → ℕ → Bool
shown signals v name var = literal_value v (unwrap_or (literal_of signals name var) 0)

-- the visible trace of a word: what its one variable shows at each position
abbrev pub visible : List Signal → Word → ℕ → ℕ → Bool
visible signals word name i = shown signals (word i) name 0
