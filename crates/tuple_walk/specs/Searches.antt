-- What a walk finds from a state of the monitor on.
use Rattle.std.specs.Prelude.{◌≡◌, ◌⊎◌, ℕ, zero, suc, ◌<◌, ◌≤◌, Bool, true, false, List, [], ◌∷◌, length, map, set, slice_get, slice_index_or, Option, Some, None}
use Rattle.std.specs.List.{Contains}
use Rattle.hy_bits.specs.Letter.{Letter}
use Rattle.hy_formula.specs.Quantifiers.{Each}
use Rattle.hy_finite.specs.declared.lengths.Lengths.{Lengths}
use Rattle.hy_finite.specs.declared.lengths.Lengths.TheVariants.{Min, Pad}
use Rattle.hy_finite.specs.Traces.{Trace, judged, trace_words}
use Rattle.fin_monitor.specs.Machines.{Machine, next_state, is_accepting, code_at}
use Rattle.trace_trie.specs.Numbered.{Numbered, tail}
use Rattle.tuple_walk.specs.Finds.{numbers_of, traces_of}
use Rattle.tuple_walk.specs.Places.{HasEnded, AreSome}
use Rattle.tuple_walk.specs.JointPrefixes.{Row, entry, IsPrefixOf}

-- the state after the first letters of a tuple
abbrev pub state_over : Machine → ℕ → List Trace → ℕ → ℕ
state_over m q tuple zero = q
state_over m q tuple (suc k) =
    state_over m (next_state m q (code_at m (trace_words tuple) 0)) (map tail tuple) k

-- The monitor accepts the tuple on its judged length.
abbrev pub IsAccepted : Machine → Lengths → ℕ → List Trace → Type 0
IsAccepted m lengths q tuple =
    is_accepting m (state_over m q tuple (judged lengths tuple)) ≡ true

abbrev pub IsRejected : Machine → Lengths → ℕ → List Trace → Type 0
IsRejected m lengths q tuple =
    is_accepting m (state_over m q tuple (judged lengths tuple)) ≡ false

-- one member of each list
abbrev pub AreFrom : {A : Type 0} → List (List A) → List A → Type 0
AreFrom [] [] = Unit {0}
AreFrom [] (x ∷ xs) = ⊥
AreFrom (list ∷ lists) [] = ⊥
AreFrom (list ∷ lists) (x ∷ xs) = Contains list x × AreFrom lists xs

-- one trace of each list
abbrev pub IsTupleOf : List (List Numbered) → List Trace → Type 0
IsTupleOf wholes tuple = AreFrom (map traces_of wholes) tuple

-- ---- the tuples that are sought

-- The list has this one at a place that is marked.
abbrev pub HasAt : {A : Type 0} → List Bool → A → List A → Type 0
HasAt marks x xs = (i : ℕ) × (slice_get marks i ≡ Some true) × (slice_get xs i ≡ Some x)

-- A trace with its number, and the places at one of which it has to be.
pub record Sought : Type 0 where
  pub marks : List Bool
  pub given : Numbered

-- one trace of each list, and the given one at a marked place
abbrev pub IsTupleIn : Sought → List (List Numbered) → List Trace → Type 0
IsTupleIn s wholes tuple = IsTupleOf wholes tuple × HasAt s.marks s.given.1 tuple

-- Members with these numbers are rejected, of which the given one is one.
pub record AreRejected (s : Sought) (m : Machine) (lengths : Lengths) (q : ℕ)
    (wholes : List (List Numbered)) (numbers : List ℕ) : Type 0 where
  pub pairs : List Numbered
  pub members : AreFrom wholes pairs
  pub has : HasAt s.marks s.given pairs
  pub same : numbers_of pairs ≡ numbers
  pub rejected : IsRejected m lengths q (traces_of pairs)

-- The tuples with so many positions at least are accepted.
abbrev pub AreAccepted : Sought → Machine → Lengths → ℕ → ℕ → List (List Numbered) → Type 0
AreAccepted s m lengths q least wholes = (tuple : List Trace) → IsTupleIn s wholes tuple
    → least ≤ judged lengths tuple → IsAccepted m lengths q tuple

abbrev pub IsSearch : Sought → Machine → Lengths → ℕ → ℕ → List (List Numbered)
    → Option (List ℕ) → Type 0
IsSearch s m lengths q least wholes (Some numbers) = AreRejected s m lengths q wholes numbers
IsSearch s m lengths q least wholes None = AreAccepted s m lengths q least wholes

-- The tuples that begin with one of the letters at a place are accepted.
abbrev pub AreAcceptedBy : Sought → Machine → Lengths → ℕ → ℕ → List Letter
    → List (List Numbered) → Type 0
AreAcceptedBy s m lengths q i letters wholes = (tuple : List Trace) → IsTupleIn s wholes tuple
    → 1 ≤ judged lengths tuple → (a : Letter) → Contains letters a
    → entry (slice_index_or tuple i []) ≡ Some a → IsAccepted m lengths q tuple

abbrev pub IsSearchBy : Sought → Machine → Lengths → ℕ → ℕ → List Letter
    → List (List Numbered) → Option (List ℕ) → Type 0
IsSearchBy s m lengths q i letters wholes (Some numbers) = AreRejected s m lengths q wholes numbers
IsSearchBy s m lengths q i letters wholes None = AreAcceptedBy s m lengths q i letters wholes

-- Something is left at each place, and the given trace at each that is marked, of which there is one.
pub record AreReady (s : Sought) (lists : List (List Numbered)) : Type 0 where
  pub some : AreSome lists
  pub there : (i : ℕ) → slice_get s.marks i ≡ Some true → i < length lists
      → Contains (slice_index_or lists i []) s.given
  pub place : (i : ℕ) × (slice_get s.marks i ≡ Some true) × (i < length lists)

-- The place alone is marked.
abbrev pub IsOnly : List Bool → ℕ → Type 0
IsOnly marks i = (slice_get marks i ≡ Some true)
    × ((j : ℕ) → slice_get marks j ≡ Some true → j ≡ i)

-- Where one place alone is marked the given trace alone may be left there.
abbrev pub IsNarrowed : Sought → List (List Numbered) → List (List Numbered) → Type 0
IsNarrowed s old new =
    (new ≡ old) ⊎ ((i : ℕ) × IsOnly s.marks i × (new ≡ set old i (s.given ∷ [])))

-- ---- where tuples are judged

-- Some tuple has no position left.
abbrev pub CanStop : Lengths → List (List Numbered) → Type 0
CanStop Min wholes = (rests : List Numbered) × Contains wholes rests × HasEnded rests
CanStop Pad wholes = Each HasEnded wholes

-- A member of each list, that has ended where one of the list has.
abbrev pub AreEnded : List (List Numbered) → List Numbered → Type 0
AreEnded [] [] = Unit {0}
AreEnded [] (p ∷ ps) = ⊥
AreEnded (rests ∷ lists) [] = ⊥
AreEnded (rests ∷ lists) (p ∷ ps) =
    Contains rests p × (HasEnded rests → p.1 ≡ []) × AreEnded lists ps

-- Members with these numbers, of which the given one is one, have no position left.
pub record AreStopped (s : Sought) (lengths : Lengths) (lists : List (List Numbered))
    (numbers : List ℕ) : Type 0 where
  pub pairs : List Numbered
  pub members : AreFrom lists pairs
  pub has : HasAt s.marks s.given pairs
  pub same : numbers_of pairs ≡ numbers
  pub over : judged lengths (traces_of pairs) ≡ 0

-- ---- steps

-- The rows differ from one another.
abbrev pub AreApart : {A : Type 0} → List A → Type 0
AreApart [] = Unit {0}
AreApart (x ∷ xs) = (¬ Contains xs x) × AreApart xs

-- The rows are a joint prefix of a tuple.
abbrev pub IsPrefixIn : Sought → Lengths → List (List Numbered) → List Row → Type 0
IsPrefixIn s lengths wholes rows =
    (tuple : List Trace) × IsTupleIn s wholes tuple × IsPrefixOf lengths tuple rows

-- So many steps are at most one for each of some joint prefixes.
pub record AreSteps (s : Sought) (lengths : Lengths) (wholes : List (List Numbered))
    (made : ℕ) : Type 0 where
  pub visited : List (List Row)
  pub apart : AreApart visited
  pub inside : Each (IsPrefixIn s lengths wholes) visited
  pub many : made ≤ length visited

-- the letter or none of a place in the first row
abbrev pub entry_in : ℕ → List Row → Option Letter
entry_in i [] = None
entry_in i (row ∷ rows) = slice_index_or row i None

abbrev pub BeginsBy : ℕ → List Letter → List Row → Type 0
BeginsBy i letters rows = (a : Letter) × Contains letters a × (entry_in i rows ≡ Some a)

-- The same, for joint prefixes that begin with one of the letters at a place.
pub record AreStepsBy (s : Sought) (lengths : Lengths) (i : ℕ) (letters : List Letter)
    (wholes : List (List Numbered)) (made : ℕ) : Type 0 where
  pub visited : List (List Row)
  pub apart : AreApart visited
  pub inside : Each (IsPrefixIn s lengths wholes) visited
  pub begin : Each (BeginsBy i letters) visited
  pub many : made ≤ length visited
