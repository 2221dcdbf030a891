-- The residuals of a body as a table, while it is filled and after.
use Rattle.std.specs.Prelude.{◌≡◌, ℕ, ◌+◌, ◌*◌, ◌/◌, ◌%◌, ◌^◌, ◌<◌, ◌≤◌, Bool, true, false, cond, List, [], ◌∷◌, ◌++◌, length, map, replicate, slice_index, slice_index_or}
use Rattle.hy_base.specs.declared.limit.Kind.TheVariants.{Table}
use Rattle.ltl_closure.specs.Nodes.{Node}
use Rattle.fin_monitor.specs.declared.automaton.Automaton.{Automaton}
use Rattle.fin_monitor.specs.declared.monitor_error.MonitorError.{MonitorError}
use Rattle.fin_monitor.specs.declared.monitor_error.MonitorError.TheVariants.{Limit, Memory}
use Rattle.hy_formula.specs.Atoms.{IndexedAtom}
use Rattle.fin_monitor.specs.Codes.{letter_of}
use Rattle.fin_monitor.specs.Duties.{Duty, strongly, residual_step, accepts, Same, SomeReached, residual_at}
use Rattle.fin_monitor.specs.Lefts.{IsFamily, AreLefts}

-- how many codes of joint letters there are
abbrev pub row_of : List IndexedAtom → ℕ
row_of atoms = 2 ^ length atoms

-- The residual r is put last where it is new, and n is its place.
pub record Puts (old : List (List Duty)) (r : List Duty) (new : List (List Duty)) (n : ℕ) : Type 0 where
  pub is_new : Bool
  pub within : n < length new
  pub at : residual_at new n ≡ r
  pub list : new ≡ cond is_new (old ++ r ∷ []) old
  pub was : is_new ≡ true → (q : ℕ) → q < length old → ¬ (residual_at old q ≡ r)

-- Entry p of the table is the number of the residual that follows: that of its row, after the letter of its column.
pub record IsEntry (nodes : List Node) (atoms : List IndexedAtom) (list : List (List Duty)) (table : List ℕ) (p : ℕ) : Type 0 where
  pub inside : slice_index table p < length list
  pub follows : Same (residual_step nodes (letter_of atoms (p % row_of atoms)) (residual_at list (p / row_of atoms)))
      (residual_at list (slice_index table p))

-- The residuals are families that are reached, the starting one first, and the entries so far are right.
pub record IsExplored (nodes : List Node) (root : ℕ) (atoms : List IndexedAtom) (list : List (List Duty)) (table : List ℕ) : Type 0 where
  pub some : 0 < length list
  pub first : Same (strongly root ∷ []) (residual_at list 0)
  pub families : (q : ℕ) → q < length list → IsFamily (residual_at list q)
  pub reached : SomeReached nodes root list
  pub entries : (p : ℕ) → p < length table → IsEntry nodes atoms list table p
  pub filled : length table ≤ length list * row_of atoms
  pub few : length list * row_of atoms ≤ 4194304

-- The lists say what all members leave.
pub record AreAllLefts (nodes : List Node) (atoms : List IndexedAtom) (code : ℕ) (lists : List (List Duty)) : Type 0 where
  pub long : length lists ≡ length nodes
  pub lefts : AreLefts nodes atoms code lists (length lists)

-- With the residual that follows the one of a row after a code the residuals are still explored, and this is its number.
pub record Follows (nodes : List Node) (root : ℕ) (atoms : List IndexedAtom) (old new : List (List Duty)) (table : List ℕ) (row code next : ℕ) : Type 0 where
  pub explored : IsExplored nodes root atoms new table
  pub more : length old ≤ length new
  pub stays : (q : ℕ) → q < length old → residual_at new q ≡ residual_at old q
  pub inside : next < length new
  pub follows : Same (residual_step nodes (letter_of atoms code) (residual_at new row)) (residual_at new next)

-- More residuals are reached, times the joint letters, than 4,194,304; or memory ran out.
abbrev pub IsTableRefusal : List Node → ℕ → List IndexedAtom → MonitorError → Type 0
IsTableRefusal nodes root atoms (Limit kind) =
    (kind ≡ Table) × (list : List (List Duty)) × SomeReached nodes root list × (4194304 < length list * row_of atoms)
IsTableRefusal nodes root atoms Memory = Unit {0}

-- The residual is too many where it is put; or memory ran out.
abbrev pub IsPutRefusal : List (List Duty) → List Duty → ℕ → MonitorError → Type 0
IsPutRefusal old r bits (Limit kind) =
    (kind ≡ Table) × (new : List (List Duty)) × (n : ℕ) × Puts old r new n × (4194304 < length new * 2 ^ bits)
IsPutRefusal old r bits Memory = Unit {0}

-- The automaton has all residuals that are reached.
pub record IsAutomaton (nodes : List Node) (root : ℕ) (atoms : List IndexedAtom) (a : Automaton) : Type 0 where
  pub list : List (List Duty)
  pub explored : IsExplored nodes root atoms list a.table
  pub whole : length a.table ≡ length list * row_of atoms
  pub accepting : a.accepting ≡ map accepts list

-- ---- settled states

abbrev pub flag_at : List Bool → ℕ → Bool
flag_at flags q = slice_index_or flags q false

-- The table has a row for each state, and each entry is a state; there are at most 4,194,304 entries.
pub record IsTableOf (a : Automaton) (row : ℕ) : Type 0 where
  pub long : length a.table ≡ length a.accepting * row
  pub few : length a.table ≤ 4194304
  pub states : (p : ℕ) → p < length a.table → slice_index a.table p < length a.accepting

-- State q leads to settled states alone.
abbrev pub Stays : Automaton → ℕ → List Bool → ℕ → Type 0
Stays a row settled q =
    (code : ℕ) → code < row → flag_at settled (slice_index a.table (q * row + code)) ≡ true

-- A settled state accepts, and leads to settled states alone.
pub record AreSettled (a : Automaton) (row : ℕ) (settled : List Bool) : Type 0 where
  pub long : length settled ≡ length a.accepting
  pub accept : (q : ℕ) → flag_at settled q ≡ true → flag_at a.accepting q ≡ true
  pub closed : (q : ℕ) → q < length settled → flag_at settled q ≡ true → Stays a row settled q

-- the state that stands for another one, where the last stands for the settled ones
abbrev pub standing : List Bool → ℕ → ℕ → ℕ
standing settled last q = cond (flag_at settled q) last q

-- The machine with one state more, which stands for settled ones.
pub record IsSettling (a : Automaton) (row : ℕ) (b : Automaton) : Type 0 where
  pub settled : List Bool
  pub right : AreSettled a row settled
  pub table : b.table ≡ map (standing settled (length a.accepting)) a.table ++ replicate row (length a.accepting)
  pub accepting : b.accepting ≡ a.accepting ++ true ∷ []
