-- Names whose difference shows that neither of two traces dominates the other.
use Rattle.std.specs.Prelude.{◌≡◌, ℕ, ◌<◌, Bool, false, IsTrue, List, length, map, slice_index, slice_index_or}
use Rattle.std.specs.Coded.{Π_prop, →_prop, le_prop}
use Rattle.std.specs.Int.RustNames.{bit_or}
use Rattle.std.specs.List.{Contains}
use Rattle.std.specs.FinSet.{empty, contains}
use Rattle.hy_bits.specs.Binary.{has_one}
use Rattle.hy_bits.specs.Letter.{Letter}
use Rattle.hy_formula.specs.Atoms.{IndexedAtom}
use Rattle.hy_formula.specs.Quantifiers.{Each}
use Rattle.hy_formula.specs.Trees.{Tree}
use Rattle.hy_finite.specs.declared.lengths.Lengths.{Lengths}
use Rattle.hy_finite.specs.Traces.{Trace}
use Rattle.fin_monitor.specs.Codes.{part_of}
use Rattle.fin_monitor.specs.Tables.{flag_at}
use Rattle.fin_monitor.specs.Machines.{Machine, codes, states_of, next_state, is_accepting, settled_state}
use Rattle.dominance.specs.Choices.{Row, AreRows, row_code}
use Rattle.dominance.specs.Dominance.{IsTrace, Dominates}
use Rattle.dominance.specs.Runs.{state_on, joint, codes_by, chosen}

-- The traces differ in the name at a position of both.
abbrev pub DifferIn : ℕ → Trace → Trace → Type 0
DifferIn name t u =
    (i : ℕ) × (i < length t) × (i < length u)
    × (¬ (contains (slice_index_or t i empty) name ≡ contains (slice_index_or u i empty) name))

abbrev pub AreNames : List ℕ → Type 0
AreNames names = (k : ℕ) → k < length names → slice_index names k < 64

-- Of two traces that differ in one of the names neither dominates the other.
pub record AreTelling (n : ℕ) (body : Tree) (names : List ℕ) : Type 0 where
  pub small : AreNames names
  pub tell : (name : ℕ) → Contains names name → (rule : Lengths) (t u : Trace) → IsTrace t
      → IsTrace u → DifferIn name t u → ¬ Dominates rule n body t u

pub AreTelling-prop : (n : ℕ) (body : Tree) (names : List ℕ) → IsProp (AreTelling n body names)
AreTelling-prop n body names x y = λ i. record {
  small = Π_prop (λ k. →_prop le_prop) x.small y.small i;
  tell = Π_prop (λ name. →_prop (Π_prop (λ rule. Π_prop (λ t. Π_prop (λ u.
      →_prop (→_prop (→_prop (→_prop (λ a b. absurd a)))))))))
      x.tell y.tell i;
}

-- ---- what the monitor of the body shows

-- From a state nothing is rejected once two atoms have differed.
abbrev pub MustAgreeFrom : Machine → ℕ → ℕ → ℕ → Type 0
MustAgreeFrom m i j q =
    (code : ℕ) → code < codes m → ¬ (has_one code i ≡ has_one code j)
    → next_state m q code ≡ settled_state m

abbrev pub MustAgree : Machine → ℕ → ℕ → Type 0
MustAgree m i j = (q : ℕ) → q < states_of m → MustAgreeFrom m i j q

abbrev pub atom_at : Machine → ℕ → IndexedAtom
atom_at m i = slice_index_or m.atoms i (record { name = 0; variable = 0 })

-- The atom must agree with one of another place.
abbrev pub IsTold : Machine → ℕ → Type 0
IsTold m i =
    (j : ℕ) × (j < length m.atoms) × (¬ ((atom_at m j).variable ≡ (atom_at m i).variable))
    × MustAgree m i j

-- Each name is one of an atom of the place that must agree with one of another place.
pub record AreTold (m : Machine) (place : ℕ) (names : List ℕ) : Type 0 where
  pub small : AreNames names
  pub told : (name : ℕ) → Contains names name → (i : ℕ) × (i < length m.atoms)
      × ((atom_at m i).name ≡ name) × ((atom_at m i).variable ≡ place) × IsTold m i

-- Of each state it is said whether it is one of some that do not accept.
pub record AreRejecting (m : Machine) (among : List Bool) : Type 0 where
  pub long : length among ≡ states_of m
  pub reject : (q : ℕ) → IsTrue (flag_at among q) → is_accepting m q ≡ false

-- From a state some code beside the part leads to one of the states.
abbrev pub MayStayBy : Machine → List ℕ → List Bool → ℕ → ℕ → Type 0
MayStayBy m choices among q part =
    (k : ℕ) × (k < length choices)
    × IsTrue (flag_at among (next_state m q (bit_or part (slice_index choices k))))

abbrev pub MayStay : Machine → List ℕ → List ℕ → List Bool → ℕ → Type 0
MayStay m parts choices among q = (part : ℕ) → Contains parts part → MayStayBy m choices among q part

-- Each letter's part at the place is one of these.
abbrev pub HasParts : Machine → ℕ → List ℕ → Type 0
HasParts m place parts = (letter : Letter) → Contains parts (part_of m.atoms place letter)

-- From each of the states each part has a code by which it stays among them.
abbrev pub AreClosed : Machine → List ℕ → List ℕ → List Bool → Type 0
AreClosed m parts choices among =
    (q : ℕ) → q < states_of m → IsTrue (flag_at among q) → MayStay m parts choices among q

-- The choices lead beside the trace to a state that does not accept.
pub record IsRejected (m : Machine) (place : ℕ) (rows : List Row) (t : Trace) (path : List ℕ)
    : Type 0 where
  pub choices : Each (λ (k : ℕ). k < length rows) path
  pub long : length path ≡ length t
  pub rejects : is_accepting m (state_on m (joint (map (part_of m.atoms place) t)
      (codes_by (map (row_code m) rows) (chosen path))) (length t)) ≡ false

-- Beside each trace at the place there are such choices.
pub record IsRejectable (m : Machine) (place : ℕ) : Type 0 where
  pub rows : List Row
  pub are : AreRows m.atoms place rows
  pub paths : (t : Trace) → IsTrace t → (path : List ℕ) × IsRejected m place rows t path
