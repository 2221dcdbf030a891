-- What stops the work is the limit of a query.
use Rattle.std.proofs.Common.{ℕ, List}
use Rattle.hy_base.specs.declared.limit.Kind.{Kind}
use Rattle.hy_base.specs.declared.limit.Kind.TheVariants.{CnfVariables, CnfLiterals}
use Rattle.hy_base.specs.declared.limit.Limit.{Limit as Past}
use Rattle.cnf_frames.specs.Queries.{IsPastBy}
use Rattle.cnf_frames.specs.declared.facts.Fact.{Fact}
use Rattle.cnf_frames.specs.declared.queries.FrameError.TheVariants as frame
use Rattle.invar_find.specs.Kepts as kepts
use Rattle.k_induct.specs.Verdicts.{IsStopped}
use Rattle.live_safe.specs.declared.safe_net.SafeNet.{SafeNet}
use Rattle.mc_core.specs.QueryLimits.{IsQueryLimit}

query_limit : (variables literals : ℕ) (kind : Kind) → IsPastBy variables literals kind → IsQueryLimit kind
query_limit variables literals CnfVariables past = tt
query_limit variables literals CnfLiterals past = tt
query_limit variables literals _ past = absurd past

pub stopped_facts : (safe : SafeNet) (limit : Past) → kepts.IsStopped safe (frame.Limit limit) → IsQueryLimit limit.kind
stopped_facts safe limit (facts, group, starting, among, past, is) = query_limit _ _ limit.kind past

pub stopped_paths : (safe : SafeNet) (facts : List Fact) (depth : ℕ) (kind : Kind) (limit : ℕ)
    → IsStopped safe facts depth (frame.Limit (record { kind = kind; limit = limit })) → IsQueryLimit kind
stopped_paths safe facts depth kind limit (k, step, asked, met, past, is) = query_limit _ _ kind past
