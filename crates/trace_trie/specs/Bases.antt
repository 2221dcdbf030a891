-- What is kept of traces that are put together: by number, the last of which may wait, and their trie.
use Rattle.std.specs.Prelude.{◌≡◌, List, ◌++◌, Option}
use Rattle.trace_trie.specs.Numbered.{Numbered, in_order}
use Rattle.trace_trie.specs.Newests.{waiting, IsLast}
use Rattle.trace_trie.specs.declared.newest.Newest.{Newest}

pub record IsBase (numbers : List Numbered) (newest : Option Newest) (held : List Numbered) : Type 0 where
  pub last : IsLast newest numbers
  pub rests : in_order held ≡ numbers ++ waiting newest
