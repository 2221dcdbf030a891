use Rattle.std.proofs.Common.{◌≡◌, ◌-◌, List, length, slice_get, Some, sym, ap, ◌∙◌, arith}
use Rattle.hy_bits.specs.Letter.{Letter}
use Rattle.trace_trie.specs.Kids.{Kid}
use Rattle.trace_trie.proofs.Alone.{at_tail, tail_child, child-get, slice_get-left, slice_get-right}
use Rattle.trace_trie.proofs.Forked.{at_fork}
use Rattle.trace_trie.proofs.forest.Forest.+at.Goals as goal

pub returns-in-Tail : goal.returns-in-Tail
returns-in-Tail t c =
    let tail = at_tail c.self.view_is c.self.invariant c.in-Tail.is in
    let e : slice_get c.in-Tail.trace.value c.in-Tail.at ≡ Some c.at.result =
    ap (λ (q : List Letter). slice_get q c.in-Tail.at) (sym c.deref-in-Tail-2.ensures)
    ∙ c.at.ensures in
    child-get (tail_child tail e) c.args.i c.requires

pub returns-then-i-before : goal.returns-then-i-before
returns-then-i-before t c =
    let at = at_fork c.self.view_is c.self.invariant c.in-Fork.is in
    let len : c.len-before.result ≡ length c.in-Fork.first.value =
    c.len-before.ensures ∙ ap length c.deref-in-Fork.ensures in
    ap (λ (q : List Kid). slice_get q c.args.i) at.is
    ∙ slice_get-left c.in-Fork.first.value c.in-Fork.second.value c.args.i
    (omega (arith, len, c.if-i-before.true))
    ∙ ap (λ (q : List Kid). slice_get q c.args.i) (sym c.deref-then-i-before.ensures)
    ∙ c.at-then-i-before.ensures

pub returns-else-i-before : goal.returns-else-i-before
returns-else-i-before t c =
    let at = at_fork c.self.view_is c.self.invariant c.in-Fork.is in
    let len : length c.in-Fork.first.value ≡ c.len-before.result =
    sym (c.len-before.ensures ∙ ap length c.deref-in-Fork.ensures) in
    ap (λ (q : List Kid). slice_get q c.args.i) at.is
    ∙ slice_get-right c.in-Fork.first.value c.in-Fork.second.value c.args.i
    (omega (arith, len, c.if-i-before.false))
    ∙ ap (λ k. slice_get c.in-Fork.second.value (c.args.i - k)) len
    ∙ ap (λ (q : List Kid). slice_get q (c.args.i - c.len-before.result))
    (sym c.deref-else-i-before.ensures) ∙ c.at-else-i-before.ensures
