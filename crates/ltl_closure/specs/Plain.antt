-- A node as it is kept, seen as a plain node.
use Rattle.std.specs.Prelude.{Bool, true, false, ◌&&◌, nat_eq, ℕ}
use Rattle.std.specs.Bool.{beq}
use Rattle.ltl_closure.specs.declared.node.Node.{Node as Kept}
use Rattle.ltl_closure.specs.declared.node.Node.TheVariants.{True, False, Lit, And, Or, Next, WeakNext, Until, Release}
use Rattle.ltl_closure.specs.Nodes.{Node, always, never, literal, and, or, next, weak_next, until, release}

abbrev pub plain_node : Kept → Node
plain_node True = always
plain_node False = never
plain_node (Lit atom b) = literal b atom.name atom.var
plain_node (And g h) = and g h
plain_node (Or g h) = or g h
plain_node (Next g) = next g
plain_node (WeakNext g) = weak_next g
plain_node (Until g h) = until g h
plain_node (Release g h) = release g h

-- a constant, a conjunction, a next and an until; what their negations are where the value is false
abbrev pub constant : Bool → Node
constant true = always
constant false = never

abbrev pub conjunction : Bool → ℕ → ℕ → Node
conjunction true g h = and g h
conjunction false g h = or g h

abbrev pub next_of : Bool → ℕ → Node
next_of true g = next g
next_of false g = weak_next g

abbrev pub until_of : Bool → ℕ → ℕ → Node
until_of true g h = until g h
until_of false g h = release g h

-- whether two nodes are one
abbrev pub same_node : Node → Node → Bool
same_node always always = true
same_node never never = true
same_node (literal b n v) (literal c m u) = (nat_eq n m && nat_eq v u) && beq b c
same_node (and g h) (and k l) = nat_eq g k && nat_eq h l
same_node (or g h) (or k l) = nat_eq g k && nat_eq h l
same_node (next g) (next k) = nat_eq g k
same_node (weak_next g) (weak_next k) = nat_eq g k
same_node (until g h) (until k l) = nat_eq g k && nat_eq h l
same_node (release g h) (release k l) = nat_eq g k && nat_eq h l
same_node _ _ = false
