-- Nodes that two runs reach, each with the one that it was first reached from, and the choice.
use Rattle.std.specs.Prelude.{◌≡◌, ℕ, ◌<◌, List, [], ◌∷◌, ◌++◌, length, slice_index_or}
use Rattle.std.specs.List.{Contains}
use Rattle.hy_formula.specs.Quantifiers.{Each}
use Rattle.dominance.specs.declared.reached.Node.{Node}
use Rattle.dominance.specs.declared.reached.Link.{Link}
use Rattle.dominance.specs.Runs.{Pairing, IsInside, start_node, next_node}

abbrev pub node_at : List Node → ℕ → Node
node_at nodes k = slice_index_or nodes k start_node

abbrev pub link_at : List Link → ℕ → Link
link_at links k = slice_index_or links k (record { from = 0; choice = 0 })

-- There is a link for each node, and but for the first it goes to an earlier one.
pub record AreLinked (nodes : List Node) (links : List Link) : Type 0 where
  pub some : 0 < length nodes
  pub long : length links ≡ length nodes
  pub back : (k : ℕ) → 0 < k → k < length nodes → (link_at links k).from < k

-- Node k follows the one of its link by the choice of the link.
pub record FollowsBy (s : Pairing) (nodes : List Node) (k : ℕ) (link : Link) : Type 0 where
  pub choice : link.choice < length s.upper_codes
  pub next : node_at nodes k ≡ next_node s (node_at nodes link.from) link.choice

-- The first node is where the runs begin, and each other one follows that of its link.
pub record AreReached (s : Pairing) (nodes : List Node) (links : List Link) : Type 0 where
  pub first : node_at nodes 0 ≡ start_node
  pub inside : (k : ℕ) → k < length nodes → IsInside s (node_at nodes k)
  pub follow : (k : ℕ) → 0 < k → k < length nodes → FollowsBy s nodes k (link_at links k)

-- Nodes may have been added last.
abbrev pub Grows : List Node → List Node → Type 0
Grows old new = (more : List Node) × (new ≡ old ++ more)

-- the node to which choices lead from a node
abbrev pub led : Pairing → Node → List ℕ → Node
led s x [] = x
led s x (c ∷ cs) = led s (next_node s x c) cs

-- The choices lead from where the runs begin to node k.
abbrev pub IsPath : Pairing → List Node → ℕ → List ℕ → Type 0
IsPath s nodes k path =
    Each (λ (c : ℕ). c < length s.upper_codes) path × (led s start_node path ≡ node_at nodes k)

-- By each of the first choices node k leads to one of the nodes.
abbrev pub LeadsOn : Pairing → List Node → ℕ → ℕ → Type 0
LeadsOn s nodes k choices =
    (choice : ℕ) → choice < choices → Contains nodes (next_node s (node_at nodes k) choice)
