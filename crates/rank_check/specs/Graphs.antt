-- Graphs whose nodes lead to groups of nodes and postpone untils, and walks through them.
use Rattle.std.specs.Prelude.{ℕ, ◌+◌, ◌-◌, ◌%◌, ◌^◌, ◌<◌, cond, nat_lt, List, [], length, slice_index, slice_index_or}
use Rattle.std.specs.List.{Contains}
use Rattle.rank_check.specs.declared.graph.Node.{Node}

-- The members of each group, of which group 0 is the starting one, and the nodes, each with the
-- group that it leads to and the untils that it postpones.
pub record Shape : Type 0 where
  pub groups : List (List ℕ)
  pub nodes : List Node

abbrev pub members_of : Shape → ℕ → List ℕ
members_of g group = slice_index_or g.groups group []

abbrev pub no_node : Node
no_node = record { next_group = 0; postponed = [] }

abbrev pub node_of : Shape → ℕ → Node
node_of g v = slice_index_or g.nodes v no_node

-- the nodes that a node leads to
abbrev pub successors_of : Shape → ℕ → List ℕ
successors_of g v = members_of g (node_of g v).next_group

abbrev pub IsEdge : Shape → ℕ → ℕ → Type 0
IsEdge g v w = (v < length g.nodes) × Contains (successors_of g v) w

abbrev pub Postpones : Shape → ℕ → ℕ → Type 0
Postpones g v until = Contains (node_of g v).postponed until

-- What each graph keeps: its groups and members are there, and all counts fit in 32 bits.
pub record IsWhole (g : Shape) : Type 0 where
  pub start : 0 < length g.groups
  pub few_groups : length g.groups < 2 ^ 32
  pub few_nodes : length g.nodes < 2 ^ 32
  pub few_members : (group : ℕ) → length (members_of g group) < 2 ^ 32
  pub made : (group v : ℕ) → Contains (members_of g group) v → v < length g.nodes
  pub named : (v : ℕ) → (node_of g v).next_group < length g.groups

-- ---- walks

-- the node at a place of a stem and a cycle that is gone round for ever
abbrev pub place_of : List ℕ → List ℕ → ℕ → ℕ
place_of stem cycle i =
    cond (nat_lt i (length stem)) (slice_index stem i)
    (slice_index cycle ((i - length stem) % length cycle))

-- A walk: from the starting group along edges, with a cycle that is not empty.
pub record IsWalk (g : Shape) (stem cycle : List ℕ) : Type 0 where
  pub some : 0 < length cycle
  pub starts : Contains (members_of g 0) (place_of stem cycle 0)
  pub goes : (i : ℕ) → IsEdge g (place_of stem cycle i) (place_of stem cycle (i + 1))

-- Each until is somewhere in the cycle not postponed.
abbrev pub IsFair : Shape → List ℕ → Type 0
IsFair g cycle = (until : ℕ) → (v : ℕ) × Contains cycle v × ¬ Postpones g v until
