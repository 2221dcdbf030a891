use Rattle.std.proofs.Common.{◌≡◌, ℕ, ◌<◌, length, get_or, None}
use Rattle.rank_check.specs.Ranking.{reason_of}
use Rattle.ltl_tableau.specs.GraphWalks.{until_reason}
use Rattle.ea_core.proofs.ranking.reasons.Given as goal

abbrev pub invariant-loop-r : goal.invariant-loop-r
invariant-loop-r l = record {
  count : length l.reasons ≡ l.r;
  right : (j : ℕ) → j < l.r → get_or l.reasons j None ≡ until_reason l.c.nodes (reason_of l.ranks j);
}
