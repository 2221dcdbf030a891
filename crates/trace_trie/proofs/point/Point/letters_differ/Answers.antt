use Rattle.std.proofs.Common.{sym, subst}
use Rattle.trace_trie.specs.Kids.{kid_letters}
use Rattle.trace_trie.specs.Numbered.{in_order}
use Rattle.trace_trie.specs.Forests.{passing}
use Rattle.trace_trie.specs.Points.{ends_at, kids_at}
use Rattle.trace_trie.specs.Cursors.{AreLetters}
use Rattle.trace_trie.specs.declared.point.Point.{Point}
use Rattle.trace_trie.proofs.Finding.{letters-right, alone-letters}
use Rattle.trace_trie.proofs.point.Point.letters_differ.Goals as goal

abbrev Seen : Point → Type 0
Seen q = AreLetters (kid_letters (kids_at q)) (in_order (passing (ends_at q) (kids_at q)))

pub returns-in-Node : goal.returns-in-Node
returns-in-Node c =
    subst Seen (sym c.in-Node.is)
    (letters-right c.in-Node.field-0.now c.in-Node.children.now c.kids_differ.ensures)

pub returns-in-Alone : goal.returns-in-Alone
returns-in-Alone c =
    subst Seen (sym c.in-Alone.is) (alone-letters c.in-Alone.field-0 c.in-Alone.field-1.now)
