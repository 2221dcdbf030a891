-- What is known of the traces of a version.
use Rattle.std.specs.Prelude.{List}
use Rattle.trace_trie.specs.Numbered.{Numbered, IsAscending, AreTraces}

pub record IsVersion (all : List Numbered) : Type 0 where
  pub ascending : IsAscending all
  pub traces : AreTraces all
