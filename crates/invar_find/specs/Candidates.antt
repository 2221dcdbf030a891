-- The facts that are tried.
use Rattle.std.specs.Prelude.{ℕ, List, [], ◌∷◌, ◌++◌, min}
use Rattle.cnf_frames.specs.declared.facts.Fact.{Fact}
use Rattle.cnf_frames.specs.declared.facts.Fact.TheVariants.{Zero, One, Same, Differ}
use Rattle.chain_check.specs.FewClauses.{for_each}

-- for each of n latches that it is 0, and that it is 1
abbrev pub single_facts : ℕ → List Fact
single_facts n = for_each (λ j. Zero j ∷ One j ∷ []) n

-- for each latch before j that both are equal, and that they differ
abbrev pub pairs_with : ℕ → List Fact
pairs_with j = for_each (λ i. Same i j ∷ Differ i j ∷ []) j

-- The first 512 latches are compared.
abbrev pub candidates : ℕ → List Fact
candidates n = single_facts n ++ for_each pairs_with (min n 512)
