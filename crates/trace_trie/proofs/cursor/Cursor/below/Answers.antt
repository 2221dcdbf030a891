use Rattle.trace_trie.specs.Points.{rests_of}
use Rattle.trace_trie.proofs.Beside.{newest-passes}
use Rattle.trace_trie.proofs.cursor.Cursor.below.Goals as goal

pub returns-in-Some-newest-clause-some : goal.returns-in-Some-newest-clause-some
returns-in-Some-newest-clause-some c = (
  c.in-Some-newest.field-0-1.now,
  newest-passes (rests_of c.args.self.now.point)
      c.in-Some-newest.is,
)
