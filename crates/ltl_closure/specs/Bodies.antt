-- The closure of one body, or of its negation, and the number of the body in it.
use Rattle.std.specs.Prelude.{ℕ, Bool, List, [], ◌∷◌}
use Rattle.hy_formula.specs.Trees.{Tree}
use Rattle.hy_formula.specs.Normals.{normal_form}
use Rattle.ltl_closure.specs.Nodes.{Node}
use Rattle.ltl_closure.specs.Closures.{closure, nodes_of, number_in}
use Rattle.ltl_closure.specs.Jobs.{Rooted}

-- the closure of the body, negated where the value is false
abbrev pub body_nodes : Tree → Bool → List Node
body_nodes body positive = nodes_of (closure (normal_form positive body ∷ []))

-- the number of the body in it, or of its negation
abbrev pub body_root : Tree → Bool → ℕ
body_root body positive =
    number_in (closure (normal_form positive body ∷ [])) (normal_form positive body)

-- both, the body as the only root
abbrev pub body_closure : Tree → Bool → Rooted
body_closure body positive =
    record { nodes = body_nodes body positive; roots = body_root body positive ∷ [] }
