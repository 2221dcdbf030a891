-- What a point of a trie is seen as.
use Rattle.std.specs.Prelude.{Bool, true, false, List}
use Rattle.hy_bits.specs.Letter.{Letter}
use Rattle.trace_trie.specs.Numbered.{Numbered, in_order}
use Rattle.trace_trie.specs.Kids.{Kid, kid_letters}
use Rattle.trace_trie.specs.Forests.{passing, ends_alone, kids_alone}
use Rattle.trace_trie.specs.declared.point.Point.{Point}
use Rattle.trace_trie.specs.declared.point.Point.TheVariants.{Node, Alone}

-- the traces that end there
abbrev pub ends_at : Point → List Numbered
ends_at (Node ends children) = ends.now
ends_at (Alone n rest) = ends_alone n rest.now

-- the children in their order
abbrev pub kids_at : Point → List Kid
kids_at (Node ends children) = children.now
kids_at (Alone n rest) = kids_alone n rest.now

-- the letters of the children in their order
abbrev pub kid_letters_of : Point → List Letter
kid_letters_of p = kid_letters (kids_at p)

-- what is left of the traces that pass, with their numbers, which ascend
abbrev pub rests_of : Point → List Numbered
rests_of p = in_order (passing (ends_at p) (kids_at p))

-- It is kept as the only trace that passes.
abbrev pub is_alone_at : Point → Bool
is_alone_at (Node ends children) = false
is_alone_at (Alone n rest) = true
