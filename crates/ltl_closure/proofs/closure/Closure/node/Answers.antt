use Rattle.std.proofs.Common.{◌≡◌, ◌<◌, ℕ, List, length, map, get_or, sym, ap, ◌∙◌, subst, arith}
use Rattle.std.proofs.lemmas.List.{get_or-map, length-map}
use Rattle.ltl_closure.specs.declared.node.Node.{Node as Kept}
use Rattle.ltl_closure.specs.Jobs.{Rooted}
use Rattle.ltl_closure.specs.Nodes as node
use Rattle.ltl_closure.specs.Nodes.{Node, node_at, PartsBelow}
use Rattle.ltl_closure.specs.Plain.{plain_node}
use Rattle.ltl_closure.proofs.closure.Closure.node.Goals as goal

operands-at : (keys items : List Kept) (i j : ℕ) (r : Kept) → items ≡ keys → j ≡ i → r ≡ get_or items j r → i < length (map plain_node keys)
    → ((k : ℕ) → k < length (map plain_node keys) → PartsBelow k (node_at (map plain_node keys) k)) → PartsBelow i (plain_node r)
operands-at keys items i j r is at here lt all =
    let inside : i < length keys = omega (arith, length-map keys plain_node) in
    let same : r ≡ get_or keys i r = cc in
    let P : Node → Type 0 = PartsBelow i in
    subst P (get_or-map plain_node keys i r node.always inside ∙ ap plain_node (sym same)) (all i lt)

pub returns-clause-operands : goal.returns-clause-operands
returns-clause-operands c =
    operands-at c.self.inside.members.keys _ c.args.i _ c.index-as_slice-from.result c.as_slice.ensures.keys c.from.ensures c.index-as_slice-from.is
    (let P : Rooted → Type 0 = λ r. c.args.i < length r.nodes in subst P (sym c.self.view_is) c.requires) c.self.invariant.operands
