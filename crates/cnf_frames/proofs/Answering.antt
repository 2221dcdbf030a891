-- An assignment that makes all clauses of a query true is a path that answers it, and each such path has one.
use Rattle.std.proofs.Common.{◌≡◌, Bool, List, length}
use Rattle.hy_base.specs.Rows.{row, listed}
use Rattle.aig_net.specs.Executions.{Word}
use Rattle.hy_base.proofs.Listed.{length-listed}
use Rattle.chain_check.specs.Clauses.{SatisfiesAll}
use Rattle.live_safe.specs.declared.safe_net.SafeNet.{SafeNet}
use Rattle.cnf_frames.specs.declared.queries.Asked.{Asked}
use Rattle.cnf_frames.specs.declared.queries.Asked.TheVariants.{Base, Step, Keep}
use Rattle.cnf_frames.specs.Facts.{IsSafe}
use Rattle.cnf_frames.specs.Queries.{clauses_of, variables_of, base_clauses, step_clauses, keep_clauses, group_of}
use Rattle.cnf_frames.specs.QueryPaths.{Answers, CanAsk, word_of}
use Rattle.chain_check.proofs.Values.{satisfied-met, listed-met}
use Rattle.chain_check.specs.Values.{Assignment, AllMet}
use Rattle.cnf_frames.proofs.FramePaths.{base-met}
use Rattle.cnf_frames.proofs.Distinct.{step-right}
use Rattle.cnf_frames.proofs.Keeping.{keep-right}
use Rattle.cnf_frames.proofs.Choosing.{base-exists}
use Rattle.cnf_frames.proofs.DistinctChosen.{step-exists}
use Rattle.cnf_frames.proofs.KeepingChosen.{keep-exists}
use Rattle.cnf_frames.proofs.Groups.{group-in}
use Rattle.cnf_frames.proofs.Ranges.{in-range}

pub answered : (safe : SafeNet) (asked : Asked) (values : List Bool) → IsSafe safe →
    SatisfiesAll values (clauses_of safe asked) → Answers safe asked (word_of safe values)
unfolding clauses_of
answered safe (Base k) values good all =
    (base-met safe k (row values) good.zero).0 (satisfied-met values (base_clauses safe k) all)
answered safe (Step inv k) values good all =
    step-right safe inv (row values) k (satisfied-met values (step_clauses safe inv k) all)
answered safe (Keep inv group) values good all =
    keep-right safe.net inv (group_of inv group) (row values)
    (satisfied-met values (keep_clauses safe.net inv (group_of inv group)) all)

met-somehow : (safe : SafeNet) (asked : Asked) (word : Word) → IsSafe safe → CanAsk safe asked →
    Answers safe asked word → (a : Assignment) × AllMet a (clauses_of safe asked)
unfolding clauses_of
met-somehow safe (Base k) word good can is = base-exists safe k word good is
met-somehow safe (Step inv k) word good can is = step-exists safe good inv can k word is
met-somehow safe (Keep inv group) word good (inside, few) is =
    keep-exists safe.net good.net inv (group_of inv group) inside
    (group-in (length safe.net.latches) inv group inside) word is

pub asked-values : (safe : SafeNet) (asked : Asked) (word : Word) → IsSafe safe →
    CanAsk safe asked → Answers safe asked word →
    (values : List Bool) × (length values ≡ variables_of safe asked)
    × SatisfiesAll values (clauses_of safe asked)
asked-values safe asked word good can is =
    let (a, met) = met-somehow safe asked word good can is in (
      listed 0 (variables_of safe asked) a,
      length-listed 0 (variables_of safe asked) a,
      listed-met (variables_of safe asked) a (clauses_of safe asked)
          (in-range safe asked good can) met,
    )
