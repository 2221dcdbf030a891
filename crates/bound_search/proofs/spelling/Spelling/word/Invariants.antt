use Rattle.std.proofs.Common.{◌≡◌}
use Rattle.hy_base.specs.Rows.{listed, row}
use Rattle.bound_search.specs.Spelling.{letter_read}
use Rattle.bound_search.proofs.spelling.Spelling.word.Given as goal

abbrev pub invariant-loop-i : goal.invariant-loop-i
invariant-loop-i l = l.word ≡ listed l.from l.i
    (letter_read (row l.self.values.now) l.self.names.now l.self.bound l.t)
