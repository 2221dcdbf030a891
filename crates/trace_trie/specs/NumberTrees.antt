-- What a tree of traces by number is seen as.
use Rattle.std.specs.Prelude.{◌<◌, ◌≤◌, List, [], ◌∷◌, ◌++◌, length}
use Rattle.hy_formula.specs.Quantifiers.{Each}
use Rattle.trace_trie.specs.Numbered.{Numbered}
use Rattle.trace_trie.specs.declared.numbers.NumberTree.{NumberTree}
use Rattle.trace_trie.specs.declared.numbers.NumberTree.TheVariants.{Nothing, One, Few, Two}

-- the pairs in their order
abbrev pub pairs : NumberTree → List Numbered
pairs Nothing = []
pairs (One n t) = (n, t.value) ∷ []
pairs (Few bucket) = bucket
pairs (Two split count l r) = l.value ++ r.value

-- A bucket and both parts of a tree have some trace, and the split is between the numbers of the
-- parts.
abbrev pub IsSplit : NumberTree → Type 0
IsSplit Nothing = Unit {0}
IsSplit (One n t) = Unit {0}
IsSplit (Few bucket) = 0 < length bucket
IsSplit (Two split count l r) =
    (0 < length l.value) × (0 < length r.value)
    × Each (λ (p : Numbered). p.0 < split) l.value × Each (λ (p : Numbered). split ≤ p.0) r.value
