-- A walk as contracts see it.
use Rattle.std.specs.Prelude.{◌≡◌, ℕ, ◌<◌, ◌≤◌, true, List, map, take, drop, slice_get, Some}
use Rattle.std.specs.List.{list_any}
use Rattle.hy_formula.specs.Quantifiers.{Each}
use Rattle.fin_monitor.specs.Codes.{code_of, joint_letter}
use Rattle.fin_monitor.specs.Machines.{Machine, states_of}
use Rattle.trace_trie.specs.Numbered.{Numbered}
use Rattle.tuple_walk.specs.declared.choice.Choice.{Choice}
use Rattle.tuple_walk.specs.declared.given.Given.{Given}
use Rattle.tuple_walk.specs.declared.place.Place.{Place}
use Rattle.tuple_walk.specs.declared.places.Places.{Places}
use Rattle.tuple_walk.specs.declared.walk.Walk.{Walk}
use Rattle.tuple_walk.specs.Counted.{machine_on}
use Rattle.tuple_walk.specs.Four.{first_places, rests, wholes}
use Rattle.tuple_walk.specs.Places.{whole_of, taken_of, letter_or, is_letter, IsOpen, IsMoved, AreSome}
use Rattle.tuple_walk.specs.Serving.{sought_of, MayServe, AreServing, MayElsewhere}

abbrev pub machine_in : {L : Type 0} → Walk L → Machine
machine_in w = machine_on w.monitor

-- the places of its variables
abbrev pub places_in : {L : Type 0} → Walk L → Places → List Place
places_in w places = first_places (machine_in w).variables places

-- what may still come at these
abbrev pub wholes_in : {L : Type 0} → Walk L → Places → List (List Numbered)
wholes_in w places = wholes (machine_in w).variables places

-- the same without what is taken
abbrev pub rests_in : {L : Type 0} → Walk L → Places → List (List Numbered)
rests_in w places = rests (machine_in w).variables places

-- what may still come at the places of its variables, of these
abbrev pub wholes_at : {L : Type 0} → Walk L → List Place → List (List Numbered)
wholes_at w places = map whole_of (take (machine_in w).variables places)

-- At the first places so far is chosen what a step takes, and the next ones are open; and the given
-- trace may come at a place.
pub record AreChosen {L : Type 0} (w : Walk L) (places : List Place) (given : Given) (i : ℕ) : Type 0 where
  pub within : i ≤ (machine_in w).variables
  pub moved : Each (IsMoved w.lengths) (take i places)
  pub opens : Each IsOpen (drop i (take (machine_in w).variables places))
  pub members : AreSome (wholes_at w places)
  pub serving : AreServing (sought_of given) (take (machine_in w).variables places)
  pub may : (j : ℕ) × MayServe (sought_of given) (take (machine_in w).variables places) j

-- The code is that of the letters that are taken at the first places, from a state.
pub record IsChoice {L : Type 0} (w : Walk L) (places : List Place) (choice : Choice) : Type 0 where
  pub state : choice.q < states_of (machine_in w)
  pub code : choice.code
      ≡ code_of (joint_letter (map letter_or (map taken_of (take choice.count places)))) (machine_in w).atoms
  pub letter : choice.some_letter ≡ list_any is_letter (map taken_of (take choice.count places))

-- The given trace has to come at the place: it may come at no other.
pub record IsLast {L : Type 0} (w : Walk L) (places : Places) (given : Given) (i : ℕ) : Type 0 where
  pub within : i < (machine_in w).variables
  pub marked : slice_get (sought_of given).marks i ≡ Some true
  pub last : ¬ MayElsewhere (sought_of given) (places_in w places) i

-- It need not come there, and may come elsewhere.
pub record IsFree {L : Type 0} (w : Walk L) (places : Places) (given : Given) (i : ℕ) : Type 0 where
  pub within : i < (machine_in w).variables
  pub other : MayElsewhere (sought_of given) (places_in w places) i
