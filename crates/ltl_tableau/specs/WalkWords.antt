-- The lassos of letters along a walk.
use Rattle.std.specs.Prelude.{ℕ, zero, suc, ◌<◌, true, cond, nat_eq, List, [], ◌∷◌, map, length}
use Rattle.std.specs.FinSet.{empty, insert, contains}
use Rattle.hy_formula.specs.Lassos.{Lasso}
use Rattle.hy_bits.specs.Letter.{Letter}
use Rattle.ltl_closure.specs.Nodes.{Node, literal, node_at}
use Rattle.ltl_tableau.specs.Branches.{Members, Branch}

-- the name that a node says of a variable is added to the letter
abbrev pub with_literal : ℕ → Node → Letter → Letter
with_literal variable (literal true name v) letter = cond (nat_eq v variable) (insert letter name) letter
with_literal variable _ letter = letter

-- the names whose literals for the variable are among the members below k
abbrev pub letter_below : List Node → Members → ℕ → ℕ → Letter
letter_below nodes now variable zero = empty
letter_below nodes now variable (suc k) =
    cond (contains now k) (with_literal variable (node_at nodes k) (letter_below nodes now variable k)) (letter_below nodes now variable k)

abbrev pub letter_of : List Node → ℕ → Branch → Letter
letter_of nodes variable branch = letter_below nodes branch.now variable (length nodes)

-- the lasso of a variable, and those of the variables from v on
abbrev pub lasso_of : List Node → Lasso Branch → ℕ → Lasso Letter
lasso_of nodes walk v = record { stem = map (letter_of nodes v) walk.stem; cycle = map (letter_of nodes v) walk.cycle }

abbrev pub lassos_from : List Node → Lasso Branch → ℕ → ℕ → List (Lasso Letter)
lassos_from nodes walk v zero = []
lassos_from nodes walk v (suc n) = lasso_of nodes walk v ∷ lassos_from nodes walk (suc v) n

-- the lassos of n variables
abbrev pub lassos_of : List Node → Lasso Branch → ℕ → List (Lasso Letter)
lassos_of nodes walk n = lassos_from nodes walk 0 n

-- The variable of a literal is below a number.
abbrev pub VariableBelow : ℕ → Node → Type 0
VariableBelow n (literal b name v) = v < n
VariableBelow n _ = Unit {0}

abbrev pub VariablesBelow : ℕ → List Node → Type 0
VariablesBelow n nodes = (k : ℕ) → k < length nodes → VariableBelow n (node_at nodes k)
