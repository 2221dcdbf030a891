-- What stands behind a letter.
use Rattle.std.specs.Prelude.{List, [], ◌∷◌, drop}
use Rattle.trace_trie.specs.Numbered.{Numbered}
use Rattle.trace_trie.specs.Forests.{passing}
use Rattle.trace_trie.specs.declared.grown.Grown.{Grown}
use Rattle.trace_trie.specs.declared.grown.Grown.TheVariants.{Node, Tail}

-- what is left of the traces that pass
abbrev pub left_in : Grown → List Numbered
left_in (Node ends children) = passing ends.now children.now
left_in (Tail n t at) = (n, drop at t.now.value) ∷ []
