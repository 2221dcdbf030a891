use Rattle.std.proofs.lemmas.Result.{on_ok_weaker}
use Rattle.cnf_frames.proofs.Adding.{same_added}
use Rattle.cnf_frames.proofs.writing.add_same_where.Goals as goal

pub returns-clause-added : goal.returns-clause-added
returns-clause-added c = on_ok_weaker c.add_three-2.result
    (same_added c.args.cnf.now.clauses _ _ c.args.d c.args.x c.args.y _ _ _ _
    c.opposite.ensures.number c.opposite-3.ensures.number c.opposite-4.ensures.number
    c.opposite-2.ensures.number c.in_ok-add_three.ensures.added)
    c.add_three-2.ensures.added
