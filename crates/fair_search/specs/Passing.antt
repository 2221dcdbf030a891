-- What one pass over the components of a graph keeps.
--
-- The open nodes stand on a stack in the order in which they were first seen. Its components begin at
-- the places in `starts`: the nodes of one component lead to one another, and each node leads to the
-- later ones. Done nodes are those of finished components, ranked in the order in which they ended.
use Rattle.std.specs.Prelude.{◌≡◌, ◌≢◌, ℕ, ◌+◌, ◌-◌, ◌*◌, ◌<◌, ◌≤◌, Bool, true, false, List, [], ◌∷◌, ◌++◌, drop, length, slice_index, slice_index_or, slice_set, sum, count_by, Option, Some, None}
use Rattle.std.specs.List.{Contains, sum_by}
use Rattle.rank_check.specs.Graphs.{Shape, members_of, successors_of, IsEdge, Postpones}
use Rattle.fair_search.specs.declared.pass.Place.{Place}
use Rattle.fair_search.specs.declared.pass.Place.TheVariants.{New, Open, Done}
use Rattle.fair_search.specs.declared.pass.Pass.{Pass}
use Rattle.fair_search.specs.Paths.{Leads}

abbrev pub place_of : Pass → ℕ → Place
place_of p v = slice_index_or p.places v New

abbrev pub is_seen : Place → Bool
is_seen New = false
is_seen (Open i) = true
is_seen (Done r) = true

-- the rank of a done node
abbrev pub rank_at : Place → Option ℕ
rank_at New = None
rank_at (Open i) = None
rank_at (Done r) = Some r

abbrev pub degree_of : Shape → ℕ → ℕ
degree_of g v = length (successors_of g v)

-- how many members of what a node leads to were looked at
abbrev pub looks_of : Pass → ℕ → ℕ
looks_of p v = slice_index p.explored v

-- how many members were looked at
abbrev pub looks : Pass → ℕ
looks p = p.begun + sum p.explored

-- The members of the starting group, and the pairs of a node and a node that it leads to.
abbrev pub edges : Shape → ℕ
edges g = length (members_of g 0) + sum_by (λ n. length (members_of g n.next_group)) g.nodes

abbrev pub IsUp : List ℕ → Type 0
IsUp xs = (i j : ℕ) → i < j → j < length xs → slice_index xs i < slice_index xs j

-- no component begins after place i up to place j
abbrev pub NoStart : Pass → ℕ → ℕ → Type 0
NoStart p i j = (b : ℕ) → Contains p.starts b → i < b → b ≤ j → ⊥

-- a place to which a node at place i of the stack may lead: done, or not of an earlier component
abbrev pub SettledAt : Pass → ℕ → Place → Type 0
SettledAt p i New = ⊥
SettledAt p i (Open j) = NoStart p j i
SettledAt p i (Done r) = Unit {0}

abbrev pub IsSettled : Pass → ℕ → ℕ → Type 0
IsSettled p i w = SettledAt p i (place_of p w)

-- what a reason says of the done nodes of rank r
abbrev pub ExplainsDone : Shape → Pass → ℕ → Option ℕ → Type 0
ExplainsDone g p r (Some until) = (v : ℕ) → place_of p v ≡ Done r → Postpones g v until
ExplainsDone g p r None = (v w : ℕ) → IsEdge g v w → place_of p v ≡ Done r
    → ¬ (place_of p w ≡ Done r)

pub record IsPass (g : Shape) (p : Pass) : Type 0 where
  pub places_long : length p.places ≡ length g.nodes
  pub explored_long : length p.explored ≡ length g.nodes
  pub loops_long : length p.loops ≡ length g.nodes
  -- the stack, and where its nodes stand
  pub stacked : (i : ℕ) → i < length p.stack → place_of p (slice_index p.stack i) ≡ Open i
  pub opened : (v i : ℕ) → place_of p v ≡ Open i
      → (i < length p.stack) × (slice_index p.stack i ≡ v)
  pub few : length p.stack + length p.reasons ≤ count_by is_seen p.places
  pub rooted : 0 < length p.stack → Contains (members_of g 0) (slice_index p.stack 0)
  -- components
  pub starts_up : IsUp p.starts
  pub starts_open : (b : ℕ) → Contains p.starts b → b < length p.stack
  pub first_start : 0 < length p.stack → Contains p.starts 0
  pub up : (i j : ℕ) → i < j → j < length p.stack
      → Leads g (slice_index p.stack i) (slice_index p.stack j)
  pub down : (i j : ℕ) → i < j → j < length p.stack → NoStart p i j
      → Leads g (slice_index p.stack j) (slice_index p.stack i)
  -- what was looked at
  pub fresh : (v : ℕ) → place_of p v ≡ New → looks_of p v ≡ 0
  pub within : (v : ℕ) → looks_of p v ≤ degree_of g v
  pub looked : (v i k : ℕ) → place_of p v ≡ Open i → k < looks_of p v
      → IsSettled p i (slice_index (successors_of g v) k)
  pub loop_seen : (v i k : ℕ) → place_of p v ≡ Open i → k < looks_of p v
      → slice_index (successors_of g v) k ≡ v → slice_index_or p.loops v false ≡ true
  pub loop_there : (v : ℕ) → slice_index_or p.loops v false ≡ true → IsEdge g v v
  pub waiting : (v i : ℕ) → place_of p v ≡ Open i → looks_of p v < degree_of g v
      → Contains p.pending i
  pub pending_up : IsUp p.pending
  pub pending_open : (i : ℕ) → Contains p.pending i → i < length p.stack
  -- the starting group, as far as it was looked at
  pub begun_within : p.begun ≤ length (members_of g 0)
  pub begun_seen : (k : ℕ) → k < p.begun → place_of p (slice_index (members_of g 0) k) ≢ New
  -- finished components
  pub closed : (v w r : ℕ) → place_of p v ≡ Done r → IsEdge g v w
      → (s : ℕ) × (place_of p w ≡ Done s) × (s ≤ r)
  pub ranked : (v r : ℕ) → place_of p v ≡ Done r → r < length p.reasons
  pub explained : (r : ℕ) → r < length p.reasons
      → ExplainsDone g p r (slice_index_or p.reasons r None)

-- the pass with one more node on the stack, as a component of its own
abbrev pub opened_at : Pass → ℕ → Pass
opened_at p v = record p {
  places = slice_set p.places v (Open (length p.stack));
  stack = p.stack ++ v ∷ [];
  pending = p.pending ++ length p.stack ∷ [];
  starts = p.starts ++ length p.stack ∷ [];
}

-- Place i is in the last component.
abbrev pub IsLast : Pass → ℕ → Type 0
IsLast p i = (i < length p.stack) × ((b : ℕ) → Contains p.starts b → b ≤ i)

-- The nodes are done at the rank, and the others stand where they stood.
pub record AreDone (nodes : List ℕ) (rank : ℕ) (old new : List Place) : Type 0 where
  pub long : length new ≡ length old
  pub count : count_by is_seen new ≡ count_by is_seen old
  pub seen : (v : ℕ) → is_seen (slice_index_or new v New) ≡ is_seen (slice_index_or old v New)
  pub done : (v : ℕ) → Contains nodes v → slice_index_or new v New ≡ Done rank
  pub kept : (v : ℕ) → ¬ Contains nodes v → slice_index_or new v New ≡ slice_index_or old v New

-- what a reason says of the nodes of a component
abbrev pub ExplainsAll : Shape → List ℕ → Option ℕ → Type 0
ExplainsAll g nodes (Some until) = (v : ℕ) → Contains nodes v → Postpones g v until
ExplainsAll g nodes None = (v w : ℕ) → IsEdge g v w → Contains nodes v → ¬ Contains nodes w

-- Which node a step made known: the pass holds still, and the node is settled for the one at the place.
pub record HasReached (g : Shape) (old new : Pass) (i w : ℕ) : Type 0 where
  pub pass : IsPass g new
  pub settled : IsSettled new i w
  pub explored : new.explored ≡ old.explored
  pub begun : new.begun ≡ old.begun
  pub standing : i < length new.stack
  pub node : slice_index new.stack i ≡ slice_index old.stack i
  pub size : length new.pending + length new.stack ≤ length old.pending + length old.stack + 2

-- The work that is left.
abbrev pub left : Shape → Pass → ℕ
left g p = 3 * (edges g - looks p) + (length p.pending + length p.stack)

-- A component is fair: it has an edge within, and each until that its first node postpones is
-- somewhere not postponed.
pub record IsFairPart (g : Shape) (nodes : List ℕ) : Type 0 where
  pub inner : (length nodes ≡ 1) → IsEdge g (slice_index nodes 0) (slice_index nodes 0)
  pub free : (until : ℕ) → Postpones g (slice_index nodes 0) until
      → (v : ℕ) × Contains nodes v × ¬ Postpones g v until

-- A step of the pass: it holds still, less is left, and the steps count the looks.
pub record Goes (g : Shape) (old new : Pass) (before after : ℕ) : Type 0 where
  pub pass : IsPass g new
  pub falls : left g new < left g old
  pub counted : after + looks old ≡ before + looks new

-- The pass has come to its end.
pub record IsOver (g : Shape) (p : Pass) : Type 0 where
  pub pass : IsPass g p
  pub idle : p.starts ≡ []
  pub all : p.begun ≡ length (members_of g 0)

-- The last component, which begins at a place, is fair.
pub record IsFairAt (g : Shape) (p : Pass) (start : ℕ) : Type 0 where
  pub pass : IsPass g p
  pub ends : (front : List ℕ) × (p.starts ≡ front ++ start ∷ [])
  pub part : IsFairPart g (drop start p.stack)
