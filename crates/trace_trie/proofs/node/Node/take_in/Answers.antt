use Rattle.std.proofs.Common.{◌<◌, Option, subst}
use Rattle.trace_trie.specs.Numbered.{Numbered, in_order}
use Rattle.trace_trie.specs.Forests.{passing}
use Rattle.trace_trie.specs.Newests.{IsLast}
use Rattle.trace_trie.specs.declared.newest.Newest.{Newest}
use Rattle.trace_trie.proofs.Ordering.{each-unorder}
use Rattle.trace_trie.proofs.node.Node.take_in.Goals as goal

pub plant-requires-clause-above : goal.plant-requires-clause-above
plant-requires-clause-above c =
    let held = in_order (passing c.args.self.now.ends c.args.self.now.children) in
    let P : Option Newest → Type 0 = λ newest. IsLast newest held in
    each-unorder (λ (p : Numbered). p.0 < c.in-Some.newest.number) _
    (subst P c.in-Some.is c.requires)
