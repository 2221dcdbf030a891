-- The given trace among what comes at the places of a walk.
use Rattle.std.specs.Prelude.{◌≡◌, ◌≢◌, ◌↔◌, ℕ, Bool, true, IsTrue, List, [], slice_get, Some}
use Rattle.std.specs.List.{Contains}
use Rattle.hy_finite.specs.Traces.{Trace}
use Rattle.trace_trie.specs.Numbered.{tail}
use Rattle.tuple_walk.specs.declared.given.Given.{Given}
use Rattle.tuple_walk.specs.declared.place.Taken.{Taken}
use Rattle.tuple_walk.specs.declared.place.Taken.TheVariants.{Nothing, Letter, Gap}
use Rattle.tuple_walk.specs.declared.place.Place.{Place}
use Rattle.tuple_walk.specs.JointPrefixes.{entry}
use Rattle.tuple_walk.specs.Places.{whole_of}
use Rattle.tuple_walk.specs.Searches.{Sought}

abbrev pub sought_of : Given → Sought
sought_of g = record { marks = g.stands; given = (g.number, g.rest.now) }

-- What is taken may be what the trace has next.
abbrev pub Agrees : Taken → Trace → Type 0
Agrees Nothing t = Unit {0}
Agrees (Letter a) t = entry t ≡ Some a
Agrees Gap t = t ≡ []

-- The given trace may come at the place.
pub record MayServe (s : Sought) (places : List Place) (i : ℕ) : Type 0 where
  pub marked : slice_get s.marks i ≡ Some true
  pub place : Place
  pub at : slice_get places i ≡ Some place
  pub agrees : Agrees place.taken s.given.1

-- It does at each place where it may.
abbrev pub AreServing : Sought → List Place → Type 0
AreServing s places = (i : ℕ) → (may : MayServe s places i) → Contains (whole_of may.place) s.given

-- It may at another place than this one.
abbrev pub MayElsewhere : Sought → List Place → ℕ → Type 0
MayElsewhere s places i = (j : ℕ) × (j ≢ i) × MayServe s places j

-- the same trace behind one step, marked where it may have come
pub record IsBehind (s next : Sought) (places : List Place) : Type 0 where
  pub number : next.given.0 ≡ s.given.0
  pub rest : next.given.1 ≡ tail s.given.1
  pub kept : (i : ℕ) → MayServe s places i → slice_get next.marks i ≡ Some true
  pub only : (i : ℕ) (p : Place) → slice_get next.marks i ≡ Some true
      → slice_get places i ≡ Some p → (slice_get s.marks i ≡ Some true) × Agrees p.taken s.given.1

-- whether it may come at the place, and what is taken there may be what it has next
abbrev pub Stays : Sought → List Place → ℕ → Bool → Type 0
Stays s places i stays = (p : Place) → slice_get places i ≡ Some p
    → (IsTrue stays ↔ ((slice_get s.marks i ≡ Some true) × Agrees p.taken s.given.1))
