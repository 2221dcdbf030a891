-- What a search answers, and in how many steps.
use Rattle.std.specs.Prelude.{ℕ, ◌+◌, ◌*◌, length, nat_eq}
use Rattle.std.specs.List.{flat_map}
use Rattle.std.specs.Set.{distinct_count}
use Rattle.rank_check.specs.Graphs.{Shape, IsWalk, IsFair}
use Rattle.rank_check.specs.Ranking.{IsRanked}
use Rattle.fair_search.specs.declared.found.Found.{Found}
use Rattle.fair_search.specs.declared.found.Found.TheVariants.{Lasso, Ranks}
use Rattle.fair_search.specs.Passing.{edges}

-- a fair walk, or ranks that pass
abbrev pub Answers : Shape → Found → Type 0
Answers g (Lasso lasso) = IsWalk g lasso.stem lasso.cycle × IsFair g lasso.cycle
Answers g (Ranks ranks) = IsRanked g ranks

-- the number of different untils that some node postpones
abbrev pub untils : Shape → ℕ
untils g = distinct_count nat_eq (flat_map (λ n. n.postponed) g.nodes)

-- the most steps of a search
abbrev pub most_steps : Shape → ℕ
most_steps g = (untils g + 4) * (length g.nodes + edges g)
