-- The closure of normal forms: their parts, each once, numbered by first visits.
use Rattle.std.specs.Prelude.{ℕ, suc, ◌&&◌, Bool, true, false, cond, nat_eq, List, [], ◌∷◌, ◌++◌, map, slice_index_or}
use Rattle.std.specs.Bool.{beq}
use Rattle.std.specs.List.{list_any}
use Rattle.hy_formula.specs.Normals.{Normal, always, never, literal, and, or, next, weak_next, until, release}
use Rattle.ltl_closure.specs.Nodes as node
use Rattle.ltl_closure.specs.Nodes.{Node}

abbrev pub same_form : Normal → Normal → Bool
same_form always always = true
same_form never never = true
same_form (literal b n v) (literal c m u) = beq b c && (nat_eq n m && nat_eq v u)
same_form (and f g) (and h k) = same_form f h && same_form g k
same_form (or f g) (or h k) = same_form f h && same_form g k
same_form (next f) (next h) = same_form f h
same_form (weak_next f) (weak_next h) = same_form f h
same_form (until f g) (until h k) = same_form f h && same_form g k
same_form (release f g) (release h k) = same_form f h && same_form g k
same_form _ _ = false

-- the form last, where it is new
abbrev pub with_new : Normal → List Normal → List Normal
with_new f members = cond (list_any (same_form f) members) members (members ++ f ∷ [])

-- A form is visited after its parts, the left one first.
abbrev pub with_form : Normal → List Normal → List Normal
with_form (and f g) members = with_new (and f g) (with_form g (with_form f members))
with_form (or f g) members = with_new (or f g) (with_form g (with_form f members))
with_form (next f) members = with_new (next f) (with_form f members)
with_form (weak_next f) members = with_new (weak_next f) (with_form f members)
with_form (until f g) members = with_new (until f g) (with_form g (with_form f members))
with_form (release f g) members = with_new (release f g) (with_form g (with_form f members))
with_form f members = with_new f members

abbrev pub with_forms : List Normal → List Normal → List Normal
with_forms [] members = members
with_forms (f ∷ fs) members = with_forms fs (with_form f members)

-- the closure of the forms
abbrev pub closure : List Normal → List Normal
closure forms = with_forms forms []

-- the number of a form: the place at which it stands first
abbrev pub number_in : List Normal → Normal → ℕ
number_in [] f = 0
number_in (x ∷ xs) f = cond (same_form f x) 0 (suc (number_in xs f))

abbrev pub form_in : List Normal → ℕ → Normal
form_in members k = slice_index_or members k always

-- a form by the numbers of its parts
abbrev pub node_of : List Normal → Normal → Node
node_of members always = node.always
node_of members never = node.never
node_of members (literal b n v) = node.literal b n v
node_of members (and f g) = node.and (number_in members f) (number_in members g)
node_of members (or f g) = node.or (number_in members f) (number_in members g)
node_of members (next f) = node.next (number_in members f)
node_of members (weak_next f) = node.weak_next (number_in members f)
node_of members (until f g) = node.until (number_in members f) (number_in members g)
node_of members (release f g) = node.release (number_in members f) (number_in members g)

abbrev pub nodes_of : List Normal → List Node
nodes_of members = map (node_of members) members
