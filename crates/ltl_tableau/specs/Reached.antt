-- The reachable branches of a set of roots, and the graph that they are.
use Rattle.std.specs.Prelude.{◌≡◌, ◌↔◌, ℕ, suc, ◌<◌, ◌≤◌, Bool, true, cond, List, [], ◌∷◌, ◌++◌, map, length, slice_index_or}
use Rattle.std.specs.List.{Contains}
use Rattle.std.specs.FinSet.{empty}
use Rattle.rank_check.specs.declared.graph.Node.{Node as Vertex}
use Rattle.rank_check.specs.Graphs.{Shape, members_of, no_node, successors_of, Postpones}
use Rattle.ltl_closure.specs.Nodes.{Node}
use Rattle.ltl_tableau.specs.Branches.{Members, Branch, branches, IsBranch, postpones}
use Rattle.ltl_tableau.specs.Walks.{no_branch}

-- the branches of the roots, and with each branch those of what it leaves for later
pub data IsReachable : List Node → Members → Branch → Type 0 where
  first : {nodes : List Node} {roots : Members} {b : Branch} → IsBranch nodes roots b → IsReachable nodes roots b
  after : {nodes : List Node} {roots : Members} {b : Branch} → (a : Branch) → IsReachable nodes roots a → IsBranch nodes a.later b → IsReachable nodes roots b

abbrev pub branch_at : List Branch → ℕ → Branch
branch_at list v = slice_index_or list v no_branch

abbrev pub set_at : List Members → ℕ → Members
set_at sets j = slice_index_or sets j empty

abbrev pub group_at : List (List ℕ) → ℕ → List ℕ
group_at groups j = slice_index_or groups j []

-- No branch stands at two places.
abbrev pub AreDistinct : List Branch → Type 0
AreDistinct list =
    (v w : ℕ) → v < length list → w < length list → branch_at list v ≡ branch_at list w → v ≡ w

-- More than n branches are reachable.
pub record HasMore (nodes : List Node) (roots : Members) (n : ℕ) : Type 0 where
  pub some : List Branch
  pub distinct : AreDistinct some
  pub reachable : (b : Branch) → Contains some b → IsReachable nodes roots b
  pub more : n < length some

-- The list has exactly the reachable branches, each once. In the graph group 0 are the branches of the roots
-- in their order, each node leads to the branches of what its branch leaves for later, and postpones the
-- untils that its branch does.
pub record IsTableau (nodes : List Node) (roots : Members) (list : List Branch) (graph : Shape) : Type 0 where
  pub distinct : AreDistinct list
  pub reachable : (b : Branch) → Contains list b ↔ IsReachable nodes roots b
  pub count : length graph.nodes ≡ length list
  pub starts : map (branch_at list) (members_of graph 0) ≡ branches nodes roots
  pub leads : (v : ℕ) → v < length list
      → map (branch_at list) (successors_of graph v) ≡ branches nodes (branch_at list v).later
  pub postponed : (v k : ℕ) → v < length list
      → Postpones graph v k ↔ (postpones nodes (branch_at list v) k ≡ true)

-- ---- on the way

-- What each branch leaves for later is one of the sets.
abbrev pub AreLeft : List Members → List Branch → Type 0
AreLeft sets list = (b : Branch) → Contains list b → Contains sets b.later

-- Sets whose branches are to be found, and branches that were found, of the first set and of what they leave for
-- later. There is at most one set more than there are branches.
pub record Explores (nodes : List Node) (sets : List Members) (list : List Branch) : Type 0 where
  pub some : 0 < length sets
  pub few : length sets ≤ suc (length list)
  pub distinct : AreDistinct list
  pub asked : (s : Members) → Contains sets s → (b : Branch) → IsBranch nodes s b → IsReachable nodes (set_at sets 0) b
  pub reached : (b : Branch) → Contains list b → IsReachable nodes (set_at sets 0) b
  pub leaves : AreLeft sets list

-- The groups are the branches of the first sets, each in their order, at most n of each set.
pub record AreGroups (nodes : List Node) (n : ℕ) (sets : List Members) (list : List Branch) (groups : List (List ℕ)) : Type 0 where
  pub inside : (j v : ℕ) → Contains (group_at groups j) v → v < length list
  pub few : (j : ℕ) → length (group_at groups j) ≤ n
  pub right : (j : ℕ) → j < length groups → map (branch_at list) (group_at groups j) ≡ branches nodes (set_at sets j)

-- The sets and branches of before keep their places.
pub record Grows (sets : List Members) (list : List Branch) (sets' : List Members) (list' : List Branch) : Type 0 where
  pub more_sets : length sets ≤ length sets'
  pub more : length list ≤ length list'
  pub sets_stay : (j : ℕ) → j < length sets → set_at sets' j ≡ set_at sets j
  pub stays : (v : ℕ) → v < length list → branch_at list' v ≡ branch_at list v

-- A branch is put last where it is new, and n is its place.
pub record PutsBranch (old : List Branch) (b : Branch) (new : List Branch) (n : ℕ) : Type 0 where
  pub is_new : Bool
  pub within : n < length new
  pub at : branch_at new n ≡ b
  pub list : new ≡ cond is_new (old ++ b ∷ []) old
  pub was : is_new ≡ true → ¬ Contains old b

-- A set is put last where it is new.
pub record PutsSet (old : List Members) (s : Members) (new : List Members) : Type 0 where
  pub is_new : Bool
  pub there : Contains new s
  pub list : new ≡ cond is_new (old ++ s ∷ []) old
  pub was : is_new ≡ true → ¬ Contains old s

-- The node leads to the set that its branch leaves for later, and postpones what its branch does.
pub record IsNodeOf (nodes : List Node) (sets : List Members) (b : Branch) (node : Vertex) : Type 0 where
  pub named : node.next_group < length sets
  pub leads : set_at sets node.next_group ≡ b.later
  pub postponed : (k : ℕ) → Contains node.postponed k ↔ (postpones nodes b k ≡ true)

-- The nodes are those of the branches.
pub record AreNodes (nodes : List Node) (sets : List Members) (list : List Branch) (drawn : List Vertex) : Type 0 where
  pub count : length drawn ≡ length list
  pub each : (v : ℕ) → v < length list → IsNodeOf nodes sets (branch_at list v) (slice_index_or drawn v no_node)
