use Rattle.std.proofs.Common.{◌≡◌, ℕ, ◌<◌, false}
use Rattle.hy_base.specs.Rows.{row}
use Rattle.bound_search.specs.Queries.{cycle_variable}
use Rattle.bound_search.proofs.spelling.Spelling.last_of_cycle.Given as goal

abbrev pub invariant-loop-d : goal.invariant-loop-d
invariant-loop-d l = (k : ℕ) → k < l.d →
    row l.self.values.now (cycle_variable l.self.names.now l.self.bound l.t k) ≡ false
