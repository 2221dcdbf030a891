use Rattle.std.proofs.Common.{◌≡◌, ◌<◌, List, [], length, length-drop, drop, ap, ◌∙◌, arith}
use Rattle.trace_trie.specs.Numbered.{Numbered}
use Rattle.trace_trie.specs.Kids.{Kid}
use Rattle.trace_trie.specs.Forests.{passing}
use Rattle.trace_trie.proofs.Alone.{alone-goes}
use Rattle.trace_trie.proofs.node.Node.alone.Goals as goal

pub returns-then-at-len : goal.returns-then-at-len
returns-then-at-len c =
    let len : c.len.result ≡ length c.args.trace.value =
    c.len.ensures.len ∙ ap length c.deref.ensures in
    let lt : 0 < length (drop c.args.at c.args.trace.value) =
    omega (arith, len, c.if-at-len.true, length-drop c.args.at c.args.trace.value) in
    ap (λ (q : List Numbered). passing q c.tail.result) c.new.ensures
    ∙ ap (λ (q : List Kid). passing [] q) c.tail.ensures ∙ alone-goes c.args.number _ lt
