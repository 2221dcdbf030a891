use Rattle.std.proofs.Common.{ℕ, ◌<◌, get_or}
use Rattle.std.specs.List.{Contains}
use Rattle.rank_check.specs.Graphs.{Postpones, node_of}
use Rattle.fair_search.proofs.component.judge.Given as goal

abbrev pub invariant-loop-until : goal.invariant-loop-until
invariant-loop-until l =
    (k : ℕ) → k < l.until-index → (v : ℕ) × Contains l.nodes v × ¬ Postpones l.g v
    (get_or (node_of l.g (get_or l.nodes 0 0)).postponed k 0)
