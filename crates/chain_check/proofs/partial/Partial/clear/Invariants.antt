use Rattle.std.proofs.Common.{◌≡◌, length, vec_len}
use Rattle.chain_check.proofs.Marking.{AreListed}
use Rattle.chain_check.proofs.partial.Partial.clear.Given as goal

abbrev pub invariant-loop-l : goal.invariant-loop-l
invariant-loop-l l = (length l.self-inside.marks.items ≡ length l.initial.self-inside.marks.items) ×
    AreListed l.self-inside.marks.items l.self-inside.literals.items

abbrev pub decreases-loop-l : goal.decreases-loop-l
decreases-loop-l l = vec_len l.self-inside.literals
