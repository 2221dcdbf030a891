use Rattle.std.proofs.Common.{sym}
use Rattle.trace_trie.proofs.Parts.{at_two, with-below, with-above}
use Rattle.trace_trie.proofs.numbers.Numbers.+get.Goals as goal

pub returns-then-number-split-clause-some : goal.returns-then-number-split-clause-some
returns-then-number-split-clause-some t c =
    let at = at_two c.self.view_is c.self.invariant c.in-Two.is in
    rw (with-below c.args.number at c.if-number-split.true, sym c.deref-then-number-split.ensures) c.get-then-number-split.ensures.some

pub returns-then-number-split-clause-none : goal.returns-then-number-split-clause-none
returns-then-number-split-clause-none t c =
    let at = at_two c.self.view_is c.self.invariant c.in-Two.is in
    rw (with-below c.args.number at c.if-number-split.true, sym c.deref-then-number-split.ensures) c.get-then-number-split.ensures.none

pub returns-else-number-split-clause-some : goal.returns-else-number-split-clause-some
returns-else-number-split-clause-some t c =
    let at = at_two c.self.view_is c.self.invariant c.in-Two.is in
    rw (with-above c.args.number at c.if-number-split.false, sym c.deref-else-number-split.ensures) c.get-else-number-split.ensures.some

pub returns-else-number-split-clause-none : goal.returns-else-number-split-clause-none
returns-else-number-split-clause-none t c =
    let at = at_two c.self.view_is c.self.invariant c.in-Two.is in
    rw (with-above c.args.number at c.if-number-split.false, sym c.deref-else-number-split.ensures) c.get-else-number-split.ensures.none
