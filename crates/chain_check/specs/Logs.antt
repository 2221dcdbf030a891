-- Logs of learned clauses.
use Rattle.std.specs.Prelude.{◌≡◌, ◌≢◌, ℕ, List, [], ◌∷◌, ◌++◌, map}
use Rattle.chain_check.specs.declared.logs.Learned.{Learned}
use Rattle.chain_check.specs.Clauses.{Clause, IsNew}
use Rattle.chain_check.specs.Chains.{Follows}

abbrev pub clauses_of : List Learned → List Clause
clauses_of log = map (λ e. e.clause) log

-- each clause follows by its chain from those before it
abbrev pub IsPassed : ℕ → List Clause → List Learned → Type 0
IsPassed variables before [] = Unit {0}
IsPassed variables before (e ∷ log) = Follows variables before e.clause e.chain ×
    IsPassed variables (before ++ e.clause ∷ []) log

-- each clause is new and not empty
abbrev pub AreNew : List Clause → List Learned → Type 0
AreNew before [] = Unit {0}
AreNew before (e ∷ log) = (e.clause ≢ []) × IsNew before e.clause ×
    AreNew (before ++ e.clause ∷ []) log

-- the last clause is empty
pub record EndsEmpty (log : List Learned) : Type 0 where
  pub front : List Learned
  pub last : Learned
  pub parts : log ≡ front ++ last ∷ []
  pub empty : last.clause ≡ []

-- no assignment makes all clauses true, by this log
pub record IsRefutation (variables : ℕ) (clauses : List Clause) (log : List Learned) : Type 0 where
  pub passes : IsPassed variables clauses log
  pub ends : EndsEmpty log
