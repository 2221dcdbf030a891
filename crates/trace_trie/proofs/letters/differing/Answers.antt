use Rattle.std.proofs.Common.{sym, ◌∙◌, arith}
use Rattle.trace_trie.proofs.Lettering.{equal-letter, same-below}
use Rattle.trace_trie.proofs.letters.differing.Goals as goal

pub returns-then-same-clause-none : goal.returns-then-same-clause-none
returns-then-same-clause-none c = equal-letter c.args.a c.args.b (sym c.same.ensures ∙ c.if-same.true)

pub returns-clause-none : goal.returns-clause-none
returns-clause-none c =
    same-below c.args.a c.args.b c.names_below.ensures c.names_below-2.ensures
    (λ k lt. c.loop-name.invariant k (omega (arith, lt, c.loop-name-test.false)))
