use Rattle.trace_trie.proofs.Beside.{letters-beside}
use Rattle.trace_trie.proofs.cursor.Cursor.letters_differ.Goals as goal

pub returns : goal.returns
returns c = letters-beside c.letters_differ.ensures c.args.self.now.newest
