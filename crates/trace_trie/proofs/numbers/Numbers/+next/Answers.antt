use Rattle.std.proofs.Common.{[], ◌≡◌, ◌++◌, sym, ap, ◌∙◌}
use Rattle.trace_trie.specs.Numbered.{rest_from}
use Rattle.trace_trie.proofs.Parts.{at_two}
use Rattle.trace_trie.proofs.Following.{rest-second, rest-first, rest-later}
use Rattle.trace_trie.proofs.numbers.Numbers.+next.Goals as goal

pub returns-then-split-from-clause-some : goal.returns-then-split-from-clause-some
returns-then-split-from-clause-some t c =
    let at = at_two c.self.view_is c.self.invariant c.in-Two.is in
    rw (rest-second c.args.from at c.if-split-from.true, sym c.deref.ensures) c.next-then-split-from.ensures.some

pub returns-then-split-from-clause-none : goal.returns-then-split-from-clause-none
returns-then-split-from-clause-none t c =
    let at = at_two c.self.view_is c.self.invariant c.in-Two.is in
    rw (rest-second c.args.from at c.if-split-from.true, sym c.deref.ensures) c.next-then-split-from.ensures.none

pub returns-in-Some-clause-some : goal.returns-in-Some-clause-some
returns-in-Some-clause-some t c =
    let at = at_two c.self.view_is c.self.invariant c.in-Two.is in
    let (more, e) = c.in-Some.ensures.some in (
      more ++ c.in-Two.second.value,
      rest-first c.args.from at (c.in-Some.found.0, c.in-Some.found.1.now) more
          (ap (rest_from c.args.from) (sym c.deref-in-Two.ensures) ∙ e),
    )

pub returns-in-None-clause-some : goal.returns-in-None-clause-some
returns-in-None-clause-some t c =
    let at = at_two c.self.view_is c.self.invariant c.in-Two.is in
    let none : rest_from c.args.from c.in-Two.first.value ≡ [] =
    ap (rest_from c.args.from) (sym c.deref-in-Two.ensures) ∙ c.in-None.ensures.none in
    rw (rest-later c.args.from at none, sym c.deref-in-None.ensures) c.next-in-None.ensures.some

pub returns-in-None-clause-none : goal.returns-in-None-clause-none
returns-in-None-clause-none t c =
    let at = at_two c.self.view_is c.self.invariant c.in-Two.is in
    let none : rest_from c.args.from c.in-Two.first.value ≡ [] =
    ap (rest_from c.args.from) (sym c.deref-in-Two.ensures) ∙ c.in-None.ensures.none in
    rw (rest-later c.args.from at none, sym c.deref-in-None.ensures) c.next-in-None.ensures.none
