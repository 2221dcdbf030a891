use Rattle.std.proofs.lemmas.Result.{on_ok_weaker}
use Rattle.cnf_frames.proofs.Adding.{and_added}
use Rattle.cnf_frames.proofs.writing.add_and.Goals as goal

pub returns-clause-added : goal.returns-clause-added
returns-clause-added c = on_ok_weaker c.add_three.result
    (and_added c.args.cnf.now.clauses _ _ _ c.args.l c.args.a c.args.b _ _ _ _
    c.opposite.ensures.number c.opposite-2.ensures.number c.opposite-3.ensures.number
    c.opposite-4.ensures.number c.in_ok-add_two.ensures.added c.in_ok-add_two-2.ensures.added)
    c.add_three.ensures.added
