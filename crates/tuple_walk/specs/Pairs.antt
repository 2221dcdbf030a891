-- Pairs of traces, one of which is given.
use Rattle.std.specs.Prelude.{ℕ, ◌<◌, Bool, true, false, ◌||◌, ◌&&◌, List, [], ◌∷◌, length, Option, Some, None}
use Rattle.hy_finite.specs.declared.lengths.Lengths.{Lengths}
use Rattle.hy_finite.specs.declared.lengths.Lengths.TheVariants.{Min, Pad}
use Rattle.hy_finite.specs.Traces.{Trace}
use Rattle.trace_trie.specs.Numbered.{Numbered}
use Rattle.tuple_walk.specs.Searches.{Sought}

-- what is of the given one and what of the other, in the order of their places
abbrev pub pair_of : {A : Type 0} → Bool → A → A → List A
pair_of true given other = given ∷ other ∷ []
pair_of false given other = other ∷ given ∷ []

-- what may come at the two places
abbrev pub beside : Bool → Numbered → List Numbered → List (List Numbered)
beside first given rests = pair_of first (given ∷ []) rests

-- the given trace is sought where it stands
abbrev pub sought_beside : Bool → Numbered → Sought
sought_beside first given = record { marks = pair_of first true false; given = given }

-- the numbers of the pair, where one is found beside the given
abbrev pub found : Bool → ℕ → Option ℕ → Option (List ℕ)
found first number None = None
found first number (Some other) = Some (pair_of first number other)

-- Under the least length a trace that has ended can't go on.
abbrev pub MayGoOn : Lengths → Trace → Type 0
MayGoOn Min t = 0 < length t
MayGoOn Pad t = Unit {0}

-- whether a pair has no position left, by which of the two have ended
abbrev pub stops_of : Lengths → Bool → Bool → Bool
stops_of Min given other = given || other
stops_of Pad given other = given && other

-- whether none has a position left, by whether the given trace has ended
abbrev pub over_of : Lengths → Bool → Bool
over_of Min given = given
over_of Pad given = false
