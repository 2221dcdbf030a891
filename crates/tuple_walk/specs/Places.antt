-- What may still come at the places of the tuples on a walk.
use Rattle.std.specs.Prelude.{◌≡◌, ℕ, ◌<◌, Bool, true, false, List, [], ◌∷◌, length, Option, Some, None}
use Rattle.std.specs.List.{Contains}
use Rattle.std.specs.FinSet.{empty}
use Rattle.hy_bits.specs.Letter.{Letter as NameSet}
use Rattle.hy_formula.specs.Quantifiers.{Each}
use Rattle.hy_finite.specs.declared.lengths.Lengths.{Lengths}
use Rattle.hy_finite.specs.declared.lengths.Lengths.TheVariants.{Min, Pad}
use Rattle.hy_finite.specs.Traces.{Trace}
use Rattle.trace_trie.specs.Numbered.{Numbered, led_by}
use Rattle.trace_trie.specs.Cursors.{letters_of, rests_at}
use Rattle.tuple_walk.specs.declared.spot.Spot.{Spot}
use Rattle.tuple_walk.specs.declared.spot.Spot.TheVariants.{Alone, Node}
use Rattle.tuple_walk.specs.declared.place.Taken.{Taken}
use Rattle.tuple_walk.specs.declared.place.Taken.TheVariants.{Nothing, Letter, Gap}
use Rattle.tuple_walk.specs.declared.place.Place.{Place}
use Rattle.tuple_walk.specs.Finds.{traces_of}
use Rattle.tuple_walk.specs.JointPrefixes.{entry}

-- what is left of the traces, with their numbers
abbrev pub rests_of : Spot → List Numbered
rests_of (Alone number rest) = (number, rest.now) ∷ []
rests_of (Node cursor) = rests_at cursor

abbrev pub first_letter : Trace → List NameSet
first_letter [] = []
first_letter (a ∷ t) = a ∷ []

-- the letters that may come next
abbrev pub letters_at : Spot → List NameSet
letters_at (Alone number rest) = first_letter rest.now
letters_at (Node cursor) = letters_of cursor

abbrev pub whole_behind : Taken → List Numbered → List Numbered
whole_behind Nothing rests = rests
whole_behind (Letter a) rests = led_by a rests
whole_behind Gap rests = rests

-- the same, with what is taken of them
abbrev pub whole_of : Place → List Numbered
whole_of p = whole_behind p.taken (rests_of p.spot)

abbrev pub HasEnded : List Numbered → Type 0
HasEnded rests = (number : ℕ) × Contains rests (number, [])

-- Nothing is taken yet.
abbrev pub IsOpen : Place → Type 0
IsOpen p = p.taken ≡ Nothing

abbrev pub IsMovedTo : Lengths → Taken → List Numbered → Type 0
IsMovedTo lengths Nothing rests = ⊥
IsMovedTo lengths (Letter a) rests = Unit {0}
IsMovedTo lengths Gap rests = (lengths ≡ Pad) × Each (λ (p : Numbered). p.1 ≡ []) rests

-- A letter is taken; or nothing is left, and tuples are judged there.
abbrev pub IsMoved : Lengths → Place → Type 0
IsMoved lengths p = IsMovedTo lengths p.taken (rests_of p.spot)

-- Some are left at each place.
abbrev pub AreSome : List (List Numbered) → Type 0
AreSome wholes = Each (λ (rests : List Numbered). 0 < length rests) wholes

-- Those of the rests that begin so, each number with one trace for each different trace.
pub record IsWay (rests : List Numbered) (e : Option NameSet) (way : List Numbered) : Type 0 where
  pub some : 0 < length way
  pub part : (p : Numbered) → Contains way p → Contains rests p
  pub first : (p : Numbered) → Contains way p → entry p.1 ≡ e
  pub whole : (t : Trace) → Contains (traces_of rests) t → entry t ≡ e → Contains (traces_of way) t

-- Under the greatest length none has ended.
abbrev pub HasNoGap : Lengths → List Numbered → Type 0
HasNoGap Min rests = Unit {0}
HasNoGap Pad rests = ¬ HasEnded rests

-- what is taken at a place: a letter, or none
abbrev pub taken_entry : Taken → Option NameSet
taken_entry Nothing = None
taken_entry (Letter a) = Some a
taken_entry Gap = None

abbrev pub taken_of : Place → Option NameSet
taken_of p = taken_entry p.taken

abbrev pub letter_or : Option NameSet → NameSet
letter_or None = empty
letter_or (Some a) = a

abbrev pub is_letter : Option NameSet → Bool
is_letter None = false
is_letter (Some a) = true

abbrev pub letter_taken : Place → NameSet
letter_taken p = letter_or (taken_of p)

abbrev pub has_taken : Place → Bool
has_taken p = is_letter (taken_of p)

-- the place with nothing taken
abbrev pub open_at : Place → Place
open_at p = record { taken = Nothing; spot = p.spot }
