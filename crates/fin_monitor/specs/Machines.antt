-- A monitor as a machine: states by numbers, and for each state and code of a joint letter the state that follows.
use Rattle.std.specs.Prelude.{◌≡◌, ℕ, zero, suc, ◌+◌, ◌*◌, ◌-◌, ◌^◌, ◌<◌, ◌≤◌, Bool, true, false, IsTrue, List, length, slice_index_or}
use Rattle.hy_formula.specs.Trees.{Tree, vars_below}
use Rattle.hy_formula.specs.Temporal.{Words}
use Rattle.hy_formula.specs.Atoms.{IndexedAtom, atoms_of}
use Rattle.fin_monitor.specs.Codes.{code_of}
use Rattle.fin_monitor.specs.Duties.{residual_after, accepts}
use Rattle.ltl_closure.specs.Bodies.{body_nodes, body_root}

pub record Machine : Type 0 where
  pub body : Tree
  pub variables : ℕ
  pub atoms : List IndexedAtom
  -- state by state, and for each state code by code
  pub table : List ℕ
  -- whether each state accepts
  pub accepting : List Bool

-- how many codes of joint letters there are
abbrev pub codes : Machine → ℕ
codes m = 2 ^ length m.atoms

abbrev pub states_of : Machine → ℕ
states_of m = length m.accepting

abbrev pub next_state : Machine → ℕ → ℕ → ℕ
next_state m q code = slice_index_or m.table (q * codes m + code) 0

abbrev pub is_accepting : Machine → ℕ → Bool
is_accepting m q = slice_index_or m.accepting q false

-- the code of the joint letter at a position of words
abbrev pub code_at : Machine → Words → ℕ → ℕ
code_at m words i = code_of (λ name variable. words name variable i) m.atoms

-- the state after the first letters of words
abbrev pub state_after : Machine → Words → ℕ → ℕ
state_after m words zero = 0
state_after m words (suc i) = next_state m (state_after m words i) (code_at m words i)

-- From the last state on nothing is rejected.
abbrev pub settled_state : Machine → ℕ
settled_state m = states_of m - 1

-- The machine accepts as the residuals of its body do.
pub record IsMonitor (m : Machine) : Type 0 where
  pub bound : IsTrue (vars_below m.variables m.body)
  pub few : m.variables ≤ 4
  pub atoms : m.atoms ≡ atoms_of m.body
  pub few_atoms : length m.atoms ≤ 16
  pub some : 0 < states_of m
  pub long : length m.table ≡ states_of m * codes m
  pub small : length m.table ≤ 4259840
  pub inside : (p : ℕ) → p < length m.table → slice_index_or m.table p 0 < states_of m
  pub stays : (code : ℕ) → code < codes m → next_state m (settled_state m) code ≡ settled_state m
  pub settled : is_accepting m (settled_state m) ≡ true
  pub right : (words : Words) (i : ℕ) → 0 < i
      → is_accepting m (state_after m words i)
      ≡ accepts (residual_after (body_nodes m.body true) (body_root m.body true) words i)
