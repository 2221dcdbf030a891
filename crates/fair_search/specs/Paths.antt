-- Paths of a graph, and what a search for one keeps.
use Rattle.std.specs.Prelude.{◌≡◌, ◌≢◌, ℕ, ◌+◌, ◌<◌, ◌++◌, Bool, true, false, cond, List, [], ◌∷◌, length, slice_index_or, slice_set, count_by}
use Rattle.std.specs.List.{sum_by}
use Rattle.rank_check.specs.declared.graph.Node.{Node}
use Rattle.rank_check.specs.Graphs.{Shape, members_of, successors_of, IsEdge}
use Rattle.fair_search.specs.declared.path.Reached.{Reached}
use Rattle.fair_search.specs.declared.path.Spread.{Spread}

-- along one or more edges
pub data Leads (g : Shape) : ℕ → ℕ → Type 0 where
  one : {v w : ℕ} → IsEdge g v w → Leads g v w
  more : {v w z : ℕ} → IsEdge g v w → Leads g w z → Leads g v z

-- the first of the nodes, or this one
abbrev pub first_or : List ℕ → ℕ → ℕ
first_or [] z = z
first_or (x ∷ xs) z = x

-- Each of the nodes leads to the next, and the last to this one.
abbrev pub IsPath : Shape → List ℕ → ℕ → Type 0
IsPath g [] z = Unit {0}
IsPath g (x ∷ xs) z = IsEdge g x (first_or xs z) × IsPath g xs z

-- a path from one node to another, of which it has all nodes but the last
pub record IsPathFrom (g : Shape) (from to : ℕ) (nodes : List ℕ) : Type 0 where
  pub some : 0 < length nodes
  pub starts : first_or nodes to ≡ from
  pub goes : IsPath g nodes to

abbrev pub no_reached : Reached
no_reached = record { node = 0; from = 0 }

abbrev pub reached_at : List Reached → ℕ → Reached
reached_at reached j = slice_index_or reached j no_reached

abbrev pub outgoing : Shape → Reached → ℕ
outgoing g r = length (successors_of g r.node)

-- how many edges leave the nodes that were seen
abbrev pub leaving : Shape → List Bool → List Node → ℕ
leaving g [] ns = 0
leaving g (b ∷ bs) [] = 0
leaving g (b ∷ bs) (n ∷ ns) = cond b (length (members_of g n.next_group)) 0 + leaving g bs ns

-- What was reached from the first node: the nodes that were seen, each once, and each along an edge
-- from an earlier one.
pub record IsSpread (g : Shape) (seen : List Bool) (reached : List Reached) : Type 0 where
  pub long : length seen ≡ length g.nodes
  pub some : 0 < length reached
  pub tree : (j : ℕ) → 0 < j → j < length reached
      → ((reached_at reached j).from < j) × IsEdge g
      (reached_at reached (reached_at reached j).from).node (reached_at reached j).node
  pub marked : (j : ℕ) → j < length reached → slice_index_or seen (reached_at reached j).node false
      ≡ true
  pub listed : (v : ℕ) → slice_index_or seen v false ≡ true
      → (j : ℕ) × (j < length reached) × ((reached_at reached j).node ≡ v)
  pub counted : length reached ≡ count_by (λ b. b) seen
  pub weighed : sum_by (outgoing g) reached ≡ leaving g seen g.nodes

-- Each node that this one leads to was seen, and is not the one that is sought.
abbrev pub IsSpent : Shape → ℕ → List Bool → ℕ → Type 0
IsSpent g to seen v = (w : ℕ) → IsEdge g v w → (w ≢ to) × (slice_index_or seen w false ≡ true)

-- More was reached.
pub record Grows (seen : List Bool) (reached : List Reached) (seen' : List Bool)
    (reached' : List Reached) : Type 0 where
  pub longer : (rest : List Reached) × (reached' ≡ reached ++ rest)
  pub still : (v : ℕ) → slice_index_or seen v false ≡ true → slice_index_or seen' v false ≡ true

-- What comes of reaching one node from the one at a place.
pub record IsAdded (old new : Spread) (node from : ℕ) : Type 0 where
  pub was_seen : slice_index_or old.seen node false ≡ true → new ≡ old
  pub was_new : slice_index_or old.seen node false ≡ false
      → new ≡ record {
        seen = slice_set old.seen node true;
        reached = old.reached ++ record
            { node = node; from = from } ∷ [];
      }
