use Rattle.std.proofs.Common.{◌≡◌, length, take, vec_len}
use Rattle.chain_check.specs.Store.{AreMarks, IsFresh}
use Rattle.chain_check.proofs.partial.Partial.truncate.Given as goal

abbrev pub invariant-loop-self : goal.invariant-loop-self
invariant-loop-self l =
    (length l.self-inside.marks.items ≡ length l.initial.self-inside.marks.items) ×
    AreMarks l.self-inside.marks.items l.self-inside.literals.items ×
    IsFresh l.self-inside.literals.items ×
    (take l.n l.self-inside.literals.items ≡ take l.n l.initial.self-inside.literals.items)

abbrev pub decreases-loop-self : goal.decreases-loop-self
decreases-loop-self l = vec_len l.self-inside.literals
