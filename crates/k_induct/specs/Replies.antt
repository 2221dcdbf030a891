-- What a query came to.
use Rattle.std.specs.Prelude.{◌≡◌, ℕ, List, length}
use Rattle.aig_net.specs.Executions.{Word}
use Rattle.live_safe.specs.declared.safe_net.SafeNet.{SafeNet}
use Rattle.live_safe.specs.declared.safe_net.Path.{Path}
use Rattle.sat_core.specs.declared.solving.Outcome.TheVariants.{Spent as SpentOutcome}
use Rattle.sat_core.specs.Outcomes.{IsOutcome}
use Rattle.cnf_frames.specs.declared.queries.Asked.{Asked}
use Rattle.cnf_frames.specs.Queries.{IsWithin, clauses_of, variables_of}
use Rattle.cnf_frames.specs.QueryPaths.{Answers, Shows, steps_of}
use Rattle.cnf_frames.specs.Proofs.{IsRefuted}
use Rattle.chain_check.specs.declared.logs.Learned.{Learned}
use Rattle.k_induct.specs.declared.asking.Reply.{Reply}
use Rattle.k_induct.specs.declared.asking.Reply.TheVariants.{Refuted, Answered, Spent}

-- as many new clauses as were allowed were learned
abbrev pub IsSpent : SafeNet → Asked → ℕ → List Learned → Type 0
IsSpent safe asked conflicts log =
    IsOutcome (variables_of safe asked) (clauses_of safe asked) conflicts (SpentOutcome log)

-- the path is that of a word that answers the query
abbrev pub IsAnswer : SafeNet → Asked → Path → Type 0
IsAnswer safe asked path = (word : Word) × Answers safe asked word × Shows safe path word
    × (length path.inputs ≡ steps_of asked)

abbrev pub IsReply : SafeNet → Asked → ℕ → Reply → Type 0
IsReply safe asked conflicts (Refuted log) = IsRefuted safe asked log
    × ((word : Word) → ¬ Answers safe asked word) × IsWithin safe asked
IsReply safe asked conflicts (Answered path) = IsAnswer safe asked path
IsReply safe asked conflicts (Spent log) = IsSpent safe asked conflicts log
