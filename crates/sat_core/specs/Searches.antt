-- A search: at its start, with all clauses watched, and on its way.
use Rattle.std.specs.Prelude.{◌≡◌, ℕ, ◌≤◌, ◌++◌, List, [], length}
use Rattle.chain_check.specs.declared.logs.Learned.{Learned}
use Rattle.chain_check.specs.Clauses.{Clause}
use Rattle.chain_check.specs.Logs.{clauses_of, IsPassed, AreNew}
use Rattle.sat_core.specs.declared.solver.Solver.{Solver}
use Rattle.sat_core.specs.declared.solving.Search.{Search}
use Rattle.sat_core.specs.Solvers.{IsReady}
use Rattle.sat_core.specs.Watches.{IsWatching}

pub record IsSound (s : Search) : Type 0 where
  pub ready : IsReady s.solver
  pub watching : IsWatching s.solver s.watches.done s.watches.pairs.items s.watches.lists
  pub long : length s.watches.pairs.items ≡ length s.solver.clauses

-- nothing is true or watched yet
pub record IsStart (s : Search) : Type 0 where
  pub ready : IsReady s.solver
  pub none : s.solver.partial.literals ≡ []
  pub no_limits : s.solver.limits.items ≡ []
  pub watching : IsWatching s.solver s.watches.done s.watches.pairs.items s.watches.lists
  pub no_pairs : s.watches.pairs.items ≡ []
  pub done : s.watches.done ≡ 0

-- The solver has the given clauses and those of a log of new ones.
pub record IsSearching (variables : ℕ) (given : List Clause) (conflicts : ℕ) (s : Solver)
    (log : List Learned) : Type 0 where
  pub ready : IsReady s
  pub same_variables : s.partial.variables ≡ variables
  pub clauses : s.clauses ≡ given ++ clauses_of log
  pub passed : IsPassed variables given log
  pub new : AreNew given log
  pub few : length log ≤ conflicts
