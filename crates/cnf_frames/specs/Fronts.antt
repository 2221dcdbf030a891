-- Keep queries in two parts: the clauses of the frames and of all facts, which those of the same facts
-- share, and the clauses that say where a fact of the group fails.
use Rattle.std.specs.Prelude.{◌≡◌, ℕ, ◌*◌, ◌^◌, ◌<◌, List, ◌++◌, length}
use Rattle.aig_net.specs.Nets.{variables}
use Rattle.chain_check.specs.Clauses.{Clause}
use Rattle.chain_check.specs.declared.clauses.Cnf.{Cnf}
use Rattle.live_safe.specs.declared.safe_net.SafeNet.{SafeNet}
use Rattle.cnf_frames.specs.Counts.{front_literals}
use Rattle.cnf_frames.specs.Queries.{IsWithin, clauses_of, facts_clauses, frames, variables_of}
use Rattle.cnf_frames.specs.declared.facts.Fact.{Fact}
use Rattle.cnf_frames.specs.declared.fronts.KeepFront.{KeepFront}
use Rattle.cnf_frames.specs.declared.queries.Asked.TheVariants.{Keep}

pub record IsKeepFront (safe : SafeNet) (facts : List Fact) (front : KeepFront) : Type 0 where
  pub clauses : front.cnf.clauses ≡ frames safe.net 1 ++ facts_clauses safe.net 0 facts
  pub variables : front.cnf.variables ≡ 2 * variables safe.net
  pub literals : front.literals ≡ front_literals safe.net facts

-- Behind the clauses of the front these make the keep query of the group.
pub record IsKeepRest (safe : SafeNet) (facts : List Fact) (group : ℕ) (front : List Clause)
    (rest : Cnf) : Type 0 where
  pub clauses : front ++ rest.clauses ≡ clauses_of safe (Keep facts group)
  pub variables : rest.variables ≡ variables_of safe (Keep facts group)
  pub within : IsWithin safe (Keep facts group)
  pub few : length (front ++ rest.clauses) < 2 ^ 31
