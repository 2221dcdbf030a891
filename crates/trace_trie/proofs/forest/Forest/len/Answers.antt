use Rattle.std.proofs.Common.{length, sym, ap, ◌∙◌}
use Rattle.trace_trie.proofs.Alone.{at_tail, alone-one}
use Rattle.trace_trie.proofs.forest.Forest.len.Goals as goal

pub returns-in-Tail : goal.returns-in-Tail
returns-in-Tail c =
    let tail = at_tail c.self.view_is c.self.invariant c.in-Tail.is in
    sym (ap length tail.is ∙ alone-one c.in-Tail.field-0 _ tail.some)
