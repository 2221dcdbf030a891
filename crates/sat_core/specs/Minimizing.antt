-- A learned clause on its way to the asserting one: below q it is settled of no place whether it stays.
use Rattle.std.specs.Prelude.{ℕ, ◌≤◌, ℤ, List, length}
use Rattle.sat_core.specs.declared.analysis.Analysis.{Analysis}
use Rattle.sat_core.specs.declared.minimizing.Asserting.{Asserting}
use Rattle.chain_check.specs.Clauses.{Clause}
use Rattle.sat_core.specs.Analyses.{IsAnalysis, IsRefuting}
use Rattle.sat_core.specs.Points.{IsTopped}

pub record IsMinimizing (clauses : List Clause) (trail : List ℤ) (start p q : ℕ) (a : Analysis)
    (it : Asserting) : Type 0 where
  pub below : q ≤ start
  pub is : IsAnalysis trail 0 q a.seen (length a.lower.items) a.unsettled
  pub topped : IsTopped trail start p it.clause it.highest
  pub refuting : IsRefuting clauses trail q it.clause a.seen a.chain.items
