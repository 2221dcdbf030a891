-- The trees of shapes.
use Rattle.std.proofs.Common.{◌≡◌, ℕ, true, false, ◌&&◌, ◌||◌, refl, ap, ap₂}
use Rattle.hy_formula.specs.Atoms.{has_name}
use Rattle.hy_formula.specs.Trees as tree
use Rattle.hy_formula.specs.Trees.{Tree, vars_below}
use Rattle.bound_search.specs.declared.connectives.Binary.{Binary}
use Rattle.bound_search.specs.declared.connectives.Binary.TheVariants.{And, Or, Implies, Iff, Until, Release, Weak}
use Rattle.bound_search.specs.declared.connectives.Unary.{Unary}
use Rattle.bound_search.specs.declared.connectives.Unary.TheVariants.{Not, Next, Finally, Globally}
use Rattle.bound_search.specs.Shapes.{Shape, constant, atom, one, two, shape_of}

abbrev pub one_tree : Unary → Tree → Tree
one_tree Not f = tree.not f
one_tree Next f = tree.next f
one_tree Finally f = tree.finally f
one_tree Globally f = tree.globally f

abbrev pub two_tree : Binary → Tree → Tree → Tree
two_tree And f g = tree.and f g
two_tree Or f g = tree.or f g
two_tree Implies f g = tree.implies f g
two_tree Iff f g = tree.iff f g
two_tree Until f g = tree.until f g
two_tree Release f g = tree.release f g
two_tree Weak f g = tree.weak f g

-- the tree that has the shape
abbrev pub shape_tree : Shape → Tree
shape_tree (constant true) = tree.always
shape_tree (constant false) = tree.never
shape_tree (atom name variable) = tree.atom name variable
shape_tree (one op f) = one_tree op (shape_tree f)
shape_tree (two op f g) = two_tree op (shape_tree f) (shape_tree g)

pub tree-shaped : (f : Tree) → shape_tree (shape_of f) ≡ f
tree-shaped tree.always = refl
tree-shaped tree.never = refl
tree-shaped (tree.atom name variable) = refl
tree-shaped (tree.not f) = ap tree.not (tree-shaped f)
tree-shaped (tree.next f) = ap tree.next (tree-shaped f)
tree-shaped (tree.finally f) = ap tree.finally (tree-shaped f)
tree-shaped (tree.globally f) = ap tree.globally (tree-shaped f)
tree-shaped (tree.and f g) = ap₂ tree.and (tree-shaped f) (tree-shaped g)
tree-shaped (tree.or f g) = ap₂ tree.or (tree-shaped f) (tree-shaped g)
tree-shaped (tree.implies f g) = ap₂ tree.implies (tree-shaped f) (tree-shaped g)
tree-shaped (tree.iff f g) = ap₂ tree.iff (tree-shaped f) (tree-shaped g)
tree-shaped (tree.until f g) = ap₂ tree.until (tree-shaped f) (tree-shaped g)
tree-shaped (tree.release f g) = ap₂ tree.release (tree-shaped f) (tree-shaped g)
tree-shaped (tree.weak f g) = ap₂ tree.weak (tree-shaped f) (tree-shaped g)

-- ---- the atoms of an operator's tree are those of its parts

pub one-atoms : (op : Unary) (f : Tree) → ((n : ℕ) → vars_below n (one_tree op f) ≡ vars_below n f)
    × ((x : ℕ) → has_name (one_tree op f) x ≡ has_name f x)
one-atoms Not f = (λ n. refl, λ x. refl)
one-atoms Next f = (λ n. refl, λ x. refl)
one-atoms Finally f = (λ n. refl, λ x. refl)
one-atoms Globally f = (λ n. refl, λ x. refl)

pub two-atoms : (op : Binary) (f g : Tree) →
    ((n : ℕ) → vars_below n (two_tree op f g) ≡ (vars_below n f && vars_below n g))
    × ((x : ℕ) → has_name (two_tree op f g) x ≡ (has_name f x || has_name g x))
two-atoms And f g = (λ n. refl, λ x. refl)
two-atoms Or f g = (λ n. refl, λ x. refl)
two-atoms Implies f g = (λ n. refl, λ x. refl)
two-atoms Iff f g = (λ n. refl, λ x. refl)
two-atoms Until f g = (λ n. refl, λ x. refl)
two-atoms Release f g = (λ n. refl, λ x. refl)
two-atoms Weak f g = (λ n. refl, λ x. refl)
