-- Places at which one trace alone is left.
use Rattle.std.specs.Prelude.{true, List, [], ◌∷◌, map}
use Rattle.std.specs.Borrow.{Bor}
use Rattle.hy_finite.specs.Traces.{Trace}
use Rattle.trace_trie.specs.Numbered.{Numbered}
use Rattle.tuple_walk.specs.Searches.{Sought}
use Rattle.tuple_walk.specs.declared.spot.Spot.{Spot}
use Rattle.tuple_walk.specs.declared.spot.Spot.TheVariants.{Alone, Node}
use Rattle.tuple_walk.specs.declared.place.Place.{Place}

abbrev pub IsAloneAt : Spot → Type 0
IsAloneAt (Alone number rest) = Unit {0}
IsAloneAt (Node cursor) = ⊥

abbrev pub IsAlone : Place → Type 0
IsAlone p = IsAloneAt p.spot

-- what is left of the traces
abbrev pub left_of : List (Bor Trace) → List Trace
left_of rests = map (λ (r : Bor Trace). r.now) rests

-- the given trace is sought as the one trace of a tuple
abbrev pub sought_alone : Numbered → Sought
sought_alone given = record { marks = true ∷ []; given = given }
