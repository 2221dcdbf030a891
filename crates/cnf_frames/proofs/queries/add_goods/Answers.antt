use Rattle.std.proofs.Common.{suc, arith}
use Rattle.cnf_frames.specs.Queries.{good_clauses}
use Rattle.cnf_frames.proofs.Adding.{all_added}
use Rattle.cnf_frames.proofs.queries.add_goods.Goals as goal

pub returns-clause-added : goal.returns-clause-added
returns-clause-added c = all_added _ _ (good_clauses c.args.safe.now c.args.facts.now)
    c.loop-frame.frame (suc c.args.k) c.loop-frame.invariant.1 (omega arith)
