-- The queries of a proof by induction in the order of their logs: the keep query of each group, the
-- base queries from 0 on, the step query.
use Rattle.std.specs.Prelude.{ℕ, ◌+◌, ◌-◌, ◌<◌, nat_lt, nat_le, cond, List}
use Rattle.chain_check.specs.declared.logs.Learned.{Learned}
use Rattle.live_safe.specs.declared.safe_net.SafeNet.{SafeNet}
use Rattle.cnf_frames.specs.declared.facts.Fact.{Fact}
use Rattle.cnf_frames.specs.declared.queries.Asked.{Asked}
use Rattle.cnf_frames.specs.declared.queries.Asked.TheVariants.{Base, Step, Keep}
use Rattle.cnf_frames.specs.Proofs.{IsRefuted, log_at}
use Rattle.cnf_frames.specs.Queries.{groups}

-- how many there are
abbrev pub places : List Fact → ℕ → ℕ
places facts depth = groups facts + (depth + 2)

-- the one at this place behind the keep queries, counted from 0
abbrev pub path_at : List Fact → ℕ → ℕ → Asked
path_at facts depth i = cond (nat_le i depth) (Base i) (Step facts depth)

-- the one at this place, counted from 0
abbrev pub asked_at : List Fact → ℕ → ℕ → Asked
asked_at facts depth i =
    cond (nat_lt i (groups facts)) (Keep facts i) (path_at facts depth (i - groups facts))

-- The first n logs refute the queries at their places.
abbrev pub AreRefuted : SafeNet → List Fact → ℕ → List (List Learned) → ℕ → Type 0
AreRefuted safe facts depth logs n =
    (i : ℕ) → i < n → IsRefuted safe (asked_at facts depth i) (log_at logs i)
