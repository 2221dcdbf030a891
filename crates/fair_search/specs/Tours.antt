-- A closed path through one component, by way of nodes that do not postpone the untils of its first.
use Rattle.std.specs.Prelude.{◌≡◌, ℕ, ◌+◌, ◌*◌, ◌<◌, ◌≤◌, ◌⊎◌, List, length, slice_index, take, nat_eq}
use Rattle.std.specs.List.{Contains, IsDistinct}
use Rattle.rank_check.specs.Graphs.{Shape, node_of, Postpones}
use Rattle.fair_search.specs.Passing.{edges}
use Rattle.fair_search.specs.Paths.{Leads, first_or, IsPath}

-- The nodes of a component lead to one another, and its first one's untils are somewhere free.
pub record IsJoined (g : Shape) (nodes : List ℕ) : Type 0 where
  pub some : 0 < length nodes
  pub made : (v : ℕ) → Contains nodes v → v < length g.nodes
  pub leads : (v w : ℕ) → Contains nodes v → Contains nodes w → Leads g v w
  pub free : (until : ℕ) → Postpones g (slice_index nodes 0) until
      → (v : ℕ) × Contains nodes v × ¬ Postpones g v until

-- the untils that the first node postpones
abbrev pub root_untils : Shape → List ℕ → List ℕ
root_untils g nodes = (node_of g (slice_index nodes 0)).postponed

-- How far a tour from the first node has come: where it is, that the first untils are free at one of
-- its nodes, and what it cost.
pub record IsTour (g : Shape) (nodes untils : List ℕ) (i : ℕ) (cycle : List ℕ) (at before after : ℕ)
    : Type 0 where
  pub goes : IsPath g cycle at
  pub starts : first_or cycle at ≡ slice_index nodes 0
  pub here : Contains nodes at
  pub free : (k : ℕ) → k < i → (v : ℕ) × (Contains cycle v ⊎ (v ≡ at)) × ¬ Postpones g v
      (slice_index untils k)
  pub paid : (met : List ℕ) × IsDistinct nat_eq met ×
      ((x : ℕ) → Contains met x → Contains (take i untils) x) ×
      (after ≤ before + length met * edges g)
