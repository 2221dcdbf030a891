-- What a numbering under way stands for: the forms that have been visited.
use Rattle.std.specs.Prelude.{◌≡◌, ◌↔◌, ℕ, ◌<◌, ◌≤◌, Bool, true, false, not, ◌&&◌, ◌||◌, nat_eq, List, map, length, Option, Some, None, All}
use Rattle.std.specs.List.{list_any}
use Rattle.hy_formula.specs.Normals.{Normal, and, or, next, weak_next, until, release}
use Rattle.ltl_closure.specs.declared.node.Node.{Node as Kept}
use Rattle.ltl_closure.specs.declared.numbering.Numbering.{Numbering}
use Rattle.ltl_closure.specs.declared.numbering.Operands.{Operands}
use Rattle.ltl_closure.specs.declared.numbering.Sides.{Sides}
use Rattle.ltl_closure.specs.Nodes as node
use Rattle.ltl_closure.specs.Nodes.{Node, node_at, PartsBelow}
use Rattle.ltl_closure.specs.Closures.{with_new, with_form, closure, number_in, form_in, node_of, nodes_of}
use Rattle.ltl_closure.specs.Jobs.{Task, forms_of, task_roots}
use Rattle.ltl_closure.specs.Plain.{plain_node, same_node}

-- The form stands below a place.
abbrev pub Below : List Normal → ℕ → Normal → Type 0
Below members k f = (p : ℕ) × (p < k) × (p < length members) × (form_in members p ≡ f)

-- The parts of a form stand below a place.
abbrev pub PartsIn : List Normal → ℕ → Normal → Type 0
PartsIn members k (and f g) = Below members k f × Below members k g
PartsIn members k (or f g) = Below members k f × Below members k g
PartsIn members k (next f) = Below members k f
PartsIn members k (weak_next f) = Below members k f
PartsIn members k (until f g) = Below members k f × Below members k g
PartsIn members k (release f g) = Below members k f × Below members k g
PartsIn members k _ = Unit {0}

-- Each member stands after its parts.
abbrev pub Closed : List Normal → Type 0
Closed members = (k : ℕ) → k < length members → PartsIn members k (form_in members k)

-- The numbering has the nodes of the forms; it is full where these are too many.
pub record Stands (forms : List Normal) (numbering : Numbering) : Type 0 where
  pub closed : Closed forms
  pub full : numbering.full ≡ true → 1024 < length forms
  pub nodes : numbering.full ≡ false → map plain_node numbering.members.keys ≡ nodes_of forms

-- The form stands among the others, with this number unless the numbering is full.
pub record IsNumber (forms : List Normal) (numbering : Numbering) (k : ℕ) (f : Normal) : Type 0 where
  pub there : Below forms (length forms) f
  pub number : numbering.full ≡ false → k ≡ number_in forms f

-- It is the number of the form, where there is one.
abbrev pub IsKnown : List Normal → Numbering → Option ℕ → Normal → Type 0
IsKnown forms numbering None f = Unit {0}
IsKnown forms numbering (Some k) f = IsNumber forms numbering k f

-- whether a node finds no room: it is new, and 1,024 are there or one was refused before
abbrev pub refuses_node : Numbering → Kept → Bool
refuses_node numbering kept =
    numbering.full || (nat_eq (length numbering.members.keys) 1024
    && not (list_any (λ k. same_node (plain_node kept) (plain_node k)) numbering.members.keys))

-- It is the number of the node, where that is one of the nodes.
abbrev pub IsNumberOf : List Node → Node → Option ℕ → Type 0
IsNumberOf nodes node None = (k : ℕ) → k < length nodes → ¬ (node_at nodes k ≡ node)
IsNumberOf nodes node (Some i) =
    (i < length nodes) × ((k : ℕ) → k < length nodes → (node_at nodes k ≡ node) ↔ (k ≡ i))

-- `new` goes on from `old` by one form, whose parts are there.
abbrev pub Inserts : Numbering → Kept → Numbering → ℕ → Type 0
Inserts old kept new k =
    (forms : List Normal) (f : Normal) → Stands forms old → PartsIn forms (length forms) f
    → (old.full ≡ false → plain_node kept ≡ node_of forms f)
    → Stands (with_new f forms) new × IsNumber (with_new f forms) new k f

-- `new` goes on from `old` by a visit of the form f, where `other` may be the number of g.
abbrev pub Visits : Numbering → Normal → Option ℕ → Normal → Numbering → ℕ → Type 0
Visits old f other g new k =
    (forms : List Normal) → Stands forms old → IsKnown forms old other g
    → Stands (with_form f forms) new × IsNumber (with_form f forms) new k f

-- the operands of a node
abbrev pub operands_of : Node → Operands
operands_of (node.and g h) = record { first = Some g; second = Some h }
operands_of (node.or g h) = record { first = Some g; second = Some h }
operands_of (node.next g) = record { first = Some g; second = None }
operands_of (node.weak_next g) = record { first = Some g; second = None }
operands_of (node.until g h) = record { first = Some g; second = Some h }
operands_of (node.release g h) = record { first = Some g; second = Some h }
operands_of _ = record { first = None; second = None }

-- the operands of the member with a number
abbrev pub operands_at : List Node → Option ℕ → Operands
operands_at nodes None = record { first = None; second = None }
operands_at nodes (Some k) = operands_of (node_at nodes k)

-- They are the operands of these operands.
pub record AreSides (nodes : List Node) (known : Operands) (sides : Sides) : Type 0 where
  pub left : operands_at nodes known.first ≡ record { first = Some sides.left.0; second = Some sides.left.1 }
  pub right : operands_at nodes known.second ≡ record { first = Some sides.right.0; second = Some sides.right.1 }

-- `new` goes on from `old` by a visit of two conjunctions of forms with these numbers, and of their disjunction.
abbrev pub VisitsSides : Numbering → ℕ × ℕ → ℕ × ℕ → Numbering → ℕ → Type 0
VisitsSides old left right new k =
    (forms : List Normal) (f g h l : Normal) → Stands forms old
    → IsNumber forms old left.0 f → IsNumber forms old left.1 g
    → IsNumber forms old right.0 h → IsNumber forms old right.1 l
    → Stands (with_form (or (and f g) (and h l)) forms) new
    × IsNumber (with_form (or (and f g) (and h l)) forms) new k (or (and f g) (and h l))

-- The tasks are visited, their roots are these numbers, and there is room.
pub record Visited (tasks : List Task) (numbering : Numbering) (roots : List ℕ) : Type 0 where
  pub stands : Stands (closure (forms_of tasks)) numbering
  pub room : numbering.full ≡ false
  pub roots_are : roots ≡ task_roots tasks

-- Each node stands after its operands, each root is the number of a node, and there are at most 1,024.
pub record IsClosure (nodes : List Node) (roots : List ℕ) : Type 0 where
  pub few : length nodes ≤ 1024
  pub operands : (k : ℕ) → k < length nodes → PartsBelow k (node_at nodes k)
  pub within : All (λ k. k < length nodes) roots
