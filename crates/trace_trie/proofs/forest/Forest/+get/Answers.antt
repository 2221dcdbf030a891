use Rattle.std.proofs.Common.{◌≡◌, List, slice_get, Some, sym, ap, ◌∙◌}
use Rattle.hy_bits.specs.Letter.{Letter}
use Rattle.trace_trie.proofs.Alone.{at_tail, tail_child, child-here, child-other}
use Rattle.trace_trie.proofs.Forked.{at_fork, behind-have, behind-lack}
use Rattle.trace_trie.proofs.forest.Forest.+get.Goals as goal

pub returns-then-has-clause-some : goal.returns-then-has-clause-some
returns-then-has-clause-some t c =
    let at = at_fork c.self.view_is c.self.invariant c.in-Fork.is in
    rw (behind-have c.args.letter at (sym c.has.ensures ∙ c.if-has.true), sym c.deref-then-has.ensures) c.get.ensures.some

pub returns-then-has-clause-none : goal.returns-then-has-clause-none
returns-then-has-clause-none t c =
    let at = at_fork c.self.view_is c.self.invariant c.in-Fork.is in
    rw (behind-have c.args.letter at (sym c.has.ensures ∙ c.if-has.true), sym c.deref-then-has.ensures) c.get.ensures.none

pub returns-else-has-clause-some : goal.returns-else-has-clause-some
returns-else-has-clause-some t c =
    let at = at_fork c.self.view_is c.self.invariant c.in-Fork.is in
    rw (behind-lack c.args.letter at (sym c.has.ensures ∙ c.if-has.false), sym c.deref-else-has.ensures) c.get-else-has.ensures.some

pub returns-else-has-clause-none : goal.returns-else-has-clause-none
returns-else-has-clause-none t c =
    let at = at_fork c.self.view_is c.self.invariant c.in-Fork.is in
    rw (behind-lack c.args.letter at (sym c.has.ensures ∙ c.if-has.false), sym c.deref-else-has.ensures) c.get-else-has.ensures.none

pub returns-then-same-2-clause-some : goal.returns-then-same-2-clause-some
returns-then-same-2-clause-some t c =
    let tail = at_tail c.self.view_is c.self.invariant c.in-Tail.is in
    let e : slice_get c.in-Tail.trace.value c.in-Tail.at ≡ Some c.at.result =
    ap (λ (q : List Letter). slice_get q c.in-Tail.at) (sym c.deref-in-Tail-2.ensures)
    ∙ c.at.ensures in
    child-here (tail_child tail e) c.args.letter (sym c.same-in-Tail.ensures ∙ c.if-same-2.true)

pub returns-else-same-2-clause-none : goal.returns-else-same-2-clause-none
returns-else-same-2-clause-none t c =
    let tail = at_tail c.self.view_is c.self.invariant c.in-Tail.is in
    let e : slice_get c.in-Tail.trace.value c.in-Tail.at ≡ Some c.at.result =
    ap (λ (q : List Letter). slice_get q c.in-Tail.at) (sym c.deref-in-Tail-2.ensures)
    ∙ c.at.ensures in
    child-other (tail_child tail e) c.args.letter (sym c.same-in-Tail.ensures ∙ c.if-same-2.false)
