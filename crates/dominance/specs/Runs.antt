-- Two runs of a monitor side by side: one beside each of two columns of codes, with the same
-- choices for the rest.
use Rattle.std.specs.Prelude.{◌≡◌, ◌⊎◌, ℕ, zero, suc, ◌<◌, ◌≤◌, min, max, Bool, true, false, cond, nat_lt, List, [], length, slice_index, Option, Some, None}
use Rattle.std.specs.Int.RustNames.{bit_or}
use Rattle.hy_formula.specs.Quantifiers.{Each}
use Rattle.hy_finite.specs.declared.lengths.Lengths.{Lengths}
use Rattle.hy_finite.specs.declared.lengths.Lengths.TheVariants.{Min, Pad}
use Rattle.hy_finite.specs.Traces.{of_two}
use Rattle.fin_monitor.specs.Machines.{Machine, codes, states_of, next_state, is_accepting}
use Rattle.dominance.specs.declared.reached.Node.{Node}

-- the state after the first codes
abbrev pub state_on : Machine → (ℕ → ℕ) → ℕ → ℕ
state_on m code zero = 0
state_on m code (suc i) = next_state m (state_on m code i) (code i)

-- the codes of a column and of the rest together; past its end a column says 0
abbrev pub joint : List ℕ → (ℕ → ℕ) → ℕ → ℕ
joint column code i = bit_or (slice_index column i) (code i)

-- the codes up to a position, and 0 from there on
abbrev pub ended : (ℕ → ℕ) → ℕ → ℕ → ℕ
ended code n i = cond (nat_lt i n) (code i) 0

-- the state where the tuple is judged, if the rest has n positions
abbrev pub judged_state : Machine → Lengths → List ℕ → (ℕ → ℕ) → ℕ → ℕ
judged_state m rule column code n =
    state_on m (joint column (ended code n)) (of_two rule (length column) n)

-- the first positions of the rest that a run has made: on the least length it stops where its
-- column ends
abbrev pub made : Lengths → ℕ → ℕ → ℕ
made Min l n = min l n
made Pad l n = n

-- the state after n positions of the rest
abbrev pub state_beside : Machine → Lengths → List ℕ → (ℕ → ℕ) → ℕ → ℕ
state_beside m rule column code n = state_on m (joint column code) (made rule (length column) n)

-- one position more, from a state at position i
abbrev pub moved : Machine → Lengths → List ℕ → ℕ → ℕ → ℕ → ℕ
moved m Min column i q code =
    cond (nat_lt i (length column)) (next_state m q (bit_or (slice_index column i) code)) q
moved m Pad column i q code = next_state m q (bit_or (slice_index column i) code)

-- What two runs go by: for each choice the code that the upper one takes, and the one that the
-- lower takes.
pub record Pairing : Type 0 where
  pub machine : Machine
  pub rule : Lengths
  pub upper : List ℕ
  pub lower : List ℕ
  pub upper_codes : List ℕ
  pub lower_codes : List ℕ

-- two runs with no column, over all lengths of the rest
abbrev pub even_pairing : Machine → List ℕ → List ℕ → Pairing
even_pairing m upper lower =
    record {
      machine = m;
      rule = Pad;
      upper = [];
      lower = [];
      upper_codes = upper;
      lower_codes = lower;
    }

-- Each is the code of a joint letter.
abbrev pub AreCodesOf : Machine → List ℕ → Type 0
AreCodesOf m list = (i : ℕ) → slice_index list i < codes m

pub record IsPairing (s : Pairing) : Type 0 where
  pub upper : AreCodesOf s.machine s.upper
  pub lower : AreCodesOf s.machine s.lower
  pub upper_codes : AreCodesOf s.machine s.upper_codes
  pub lower_codes : AreCodesOf s.machine s.lower_codes
  pub same : length s.lower_codes ≡ length s.upper_codes

abbrev pub longest : Pairing → ℕ
longest s = max (length s.upper) (length s.lower)

-- the codes of choices
abbrev pub codes_by : List ℕ → (ℕ → ℕ) → ℕ → ℕ
codes_by list choice i = slice_index list (choice i)

abbrev pub start_node : Node
start_node = record { at = 0; upper = 0; lower = 0 }

-- the node that follows by a choice
abbrev pub next_node : Pairing → Node → ℕ → Node
next_node s x choice = record {
  at = min (suc x.at) (longest s);
  upper = moved s.machine s.rule s.upper x.at x.upper (slice_index s.upper_codes choice);
  lower = moved s.machine s.rule s.lower x.at x.lower (slice_index s.lower_codes choice);
}

-- The node is one of states at positions.
pub record IsInside (s : Pairing) (x : Node) : Type 0 where
  pub at : x.at ≤ longest s
  pub upper : x.upper < states_of s.machine
  pub lower : x.lower < states_of s.machine

-- The node is where the runs stand after n choices.
pub record Stands (s : Pairing) (choice : ℕ → ℕ) (n : ℕ) (x : Node) : Type 0 where
  pub at : x.at ≡ min n (longest s)
  pub upper : x.upper ≡ state_beside s.machine s.rule s.upper (codes_by s.upper_codes choice) n
  pub lower : x.lower ≡ state_beside s.machine s.rule s.lower (codes_by s.lower_codes choice) n

-- From so many positions of the rest on the tuples are told apart: on the greatest length a shorter
-- rest is as if filled up to the shorter column.
abbrev pub told_from : Lengths → ℕ → ℕ → ℕ
told_from Min l k = 0
told_from Pad l k = min l k

abbrev pub first_told : Pairing → ℕ
first_told s = told_from s.rule (length s.upper) (length s.lower)

-- The upper run ends in a state that accepts, and the lower one in a state that does not.
pub record Differ (s : Pairing) (choice : ℕ → ℕ) (n : ℕ) : Type 0 where
  pub upper : is_accepting s.machine
      (judged_state s.machine s.rule s.upper (codes_by s.upper_codes choice) n) ≡ true
  pub lower : is_accepting s.machine
      (judged_state s.machine s.rule s.lower (codes_by s.lower_codes choice) n) ≡ false

-- the choices of a list, one after another
abbrev pub chosen : List ℕ → ℕ → ℕ
chosen path i = slice_index path i

-- what some choices may do from so many positions on
abbrev pub Deed : Type 1
Deed = (ℕ → ℕ) → ℕ → Type 0

-- What is found: choices that do it, or none where there are none.
abbrev pub IsFoundFor : Pairing → Deed → Option (List ℕ) → Type 0
IsFoundFor s Does (Some path) =
    Each (λ (k : ℕ). k < length s.upper_codes) path × (first_told s ≤ length path)
    × Does (chosen path) (length path)
IsFoundFor s Does None =
    (choice : ℕ → ℕ) → ((i : ℕ) → choice i < length s.upper_codes) → (n : ℕ) → first_told s ≤ n
    → ¬ Does choice n

-- What is found: choices by which the runs differ, or none where there are none.
abbrev pub IsFound : Pairing → Option (List ℕ) → Type 0
IsFound s found = IsFoundFor s (Differ s) found

-- From the state of a run at its position, where the rest has n positions, the run ends in the
-- other state.
abbrev pub EndsIn : Machine → Lengths → List ℕ → (ℕ → ℕ) → (n most at q end : ℕ) → Type 0
EndsIn m rule column code n most at q end =
    at ≡ min n most → q ≡ state_beside m rule column code n
    → end ≡ judged_state m rule column code n

-- the same runs, the lower one first
abbrev pub exchanged : Pairing → Pairing
exchanged s = record {
  machine = s.machine;
  rule = s.rule;
  upper = s.lower;
  lower = s.upper;
  upper_codes = s.lower_codes;
  lower_codes = s.upper_codes;
}

-- A claim that no choices do something, after all of them: it is left where it stood and none do.
abbrev pub IsLeft : Pairing → Deed → Bool → Bool → Type 0
IsLeft s Does claimed true = (claimed ≡ true) × IsFoundFor s Does None
IsLeft s Does claimed false = (claimed ≡ false) ⊎ ((path : List ℕ) × IsFoundFor s Does (Some path))

-- The same after those choices by which the runs stand at a node.
abbrev pub IsLeftAt : Pairing → Deed → Node → Bool → Bool → Type 0
IsLeftAt s Does x claimed true =
    (claimed ≡ true)
    × ((choice : ℕ → ℕ) (n : ℕ) → Stands s choice n x → first_told s ≤ n → ¬ Does choice n)
IsLeftAt s Does x claimed false =
    (claimed ≡ false)
    ⊎ ((choice : ℕ → ℕ) (n : ℕ) → Stands s choice n x → (first_told s ≤ n) × Does choice n)

-- Whether some choices are found by which the runs differ.
abbrev pub IsFoundOrNot : Pairing → Bool → Type 0
IsFoundOrNot s true = (path : List ℕ) × IsFound s (Some path)
IsFoundOrNot s false = IsFound s None
