-- Each part of a tree has fewer traces than the tree.
use Rattle.std.specs.Prelude.{◌≤◌, max, length}
use Rattle.std.proofs.Common.{arith, length-append}
use Rattle.trace_trie.specs.declared.numbers.NumberTree.{NumberTree}
use Rattle.trace_trie.specs.declared.numbers.NumberTree.TheVariants.{Nothing, One, Few, Two}
use Rattle.trace_trie.specs.declared.numbers.Numbers.TheDeep.{deep-NumberTree}
use Rattle.trace_trie.specs.NumberTrees.{pairs, IsSplit}

-- no part is deeper than the tree has traces
pub depth_le-length-pairs : (n : NumberTree) → IsSplit n
    → max (deep-NumberTree n) 0 ≤ length (pairs n)
depth_le-length-pairs Nothing h = omega arith
depth_le-length-pairs (One n t) h = omega arith
depth_le-length-pairs (Few bucket) h = omega arith
depth_le-length-pairs (Two split count l r) h = omega (arith, length-append l.value r.value)
