-- Shapes of bodies: a case for all operators of one part, and one for all operators of two.
use Rattle.std.specs.Prelude.{ℕ, suc, ◌+◌, Bool, true, false}
use Rattle.hy_formula.specs.Trees as tree
use Rattle.hy_formula.specs.Trees.{Tree, tree_of}
use Rattle.hy_formula.specs.declared.body.Body.{Body}
use Rattle.bound_search.specs.declared.connectives.Binary.{Binary}
use Rattle.bound_search.specs.declared.connectives.Binary.TheVariants.{And, Or, Implies, Iff, Until, Release, Weak}
use Rattle.bound_search.specs.declared.connectives.Unary.{Unary}
use Rattle.bound_search.specs.declared.connectives.Unary.TheVariants.{Not, Next, Finally, Globally}
use Rattle.bound_search.specs.declared.parts.Parts.{Parts}
use Rattle.bound_search.specs.declared.parts.Parts.TheVariants as parts

pub data Shape : Type 0 where
  -- whether it holds
  constant : Bool → Shape
  -- the number of a name, and that of a variable
  atom : ℕ → ℕ → Shape
  one : Unary → Shape → Shape
  two : Binary → Shape → Shape → Shape

abbrev pub shape_of : Tree → Shape
shape_of tree.always = constant true
shape_of tree.never = constant false
shape_of (tree.atom name variable) = atom name variable
shape_of (tree.not f) = one Not (shape_of f)
shape_of (tree.next f) = one Next (shape_of f)
shape_of (tree.finally f) = one Finally (shape_of f)
shape_of (tree.globally f) = one Globally (shape_of f)
shape_of (tree.and f g) = two And (shape_of f) (shape_of g)
shape_of (tree.or f g) = two Or (shape_of f) (shape_of g)
shape_of (tree.implies f g) = two Implies (shape_of f) (shape_of g)
shape_of (tree.iff f g) = two Iff (shape_of f) (shape_of g)
shape_of (tree.until f g) = two Until (shape_of f) (shape_of g)
shape_of (tree.release f g) = two Release (shape_of f) (shape_of g)
shape_of (tree.weak f g) = two Weak (shape_of f) (shape_of g)

abbrev pub body_shape : Body → Shape
body_shape body = shape_of (tree_of body)

-- the shape that has these parts
abbrev pub parts_shape : Parts → Shape
parts_shape (parts.Constant value) = constant value
parts_shape (parts.Atom a) = atom a.name a.var
parts_shape (parts.One op f) = one op (body_shape f.now)
parts_shape (parts.Two op f g) = two op (body_shape f.now) (body_shape g.now)

-- how many nodes a body has
abbrev pub nodes : Shape → ℕ
nodes (constant value) = 1
nodes (atom name variable) = 1
nodes (one op f) = suc (nodes f)
nodes (two op f g) = suc (nodes f + nodes g)

-- whether the operator speaks of more than one position
abbrev pub is_temporal_one : Unary → Bool
is_temporal_one Not = false
is_temporal_one _ = true

abbrev pub is_temporal_two : Binary → Bool
is_temporal_two Until = true
is_temporal_two Release = true
is_temporal_two Weak = true
is_temporal_two _ = false
