use Rattle.hy_top.proofs.runs.run.Goals as goal

pub returns-in-EaHyper-clause-right : goal.returns-in-EaHyper-clause-right
returns-in-EaHyper-clause-right g c =
    rw c.in-EaHyper.is (c.run-done.result.answer, c.ea_answer.ensures, c.run-done.ensures.right)

pub returns-in-EaHyper-clause-status : goal.returns-in-EaHyper-clause-status
returns-in-EaHyper-clause-status g c =
    rw c.in-EaHyper.is (c.run-done.result.answer, c.ea_answer.ensures, c.run-done.ensures.status)

pub returns-in-EaHyper-clause-err : goal.returns-in-EaHyper-clause-err
returns-in-EaHyper-clause-err g c =
    rw c.in-EaHyper.is (c.run-done.result.answer, c.ea_answer.ensures, c.run-done.ensures.err)

pub returns-in-RvHyper-clause-right : goal.returns-in-RvHyper-clause-right
returns-in-RvHyper-clause-right g c =
    rw c.in-RvHyper.is (c.run-done-in-RvHyper.result.answer, c.rv_answer.ensures, c.run-done-in-RvHyper.ensures.right)

pub returns-in-RvHyper-clause-status : goal.returns-in-RvHyper-clause-status
returns-in-RvHyper-clause-status g c =
    rw c.in-RvHyper.is (c.run-done-in-RvHyper.result.answer, c.rv_answer.ensures, c.run-done-in-RvHyper.ensures.status)

pub returns-in-RvHyper-clause-err : goal.returns-in-RvHyper-clause-err
returns-in-RvHyper-clause-err g c =
    rw c.in-RvHyper.is (c.run-done-in-RvHyper.result.answer, c.rv_answer.ensures, c.run-done-in-RvHyper.ensures.err)

pub returns-in-McHyper-clause-right : goal.returns-in-McHyper-clause-right
returns-in-McHyper-clause-right g c =
    rw c.in-McHyper.is (c.run-done-in-McHyper.result.answer, c.mc_answer.ensures, c.run-done-in-McHyper.ensures.right)

pub returns-in-McHyper-clause-status : goal.returns-in-McHyper-clause-status
returns-in-McHyper-clause-status g c =
    rw c.in-McHyper.is (c.run-done-in-McHyper.result.answer, c.mc_answer.ensures, c.run-done-in-McHyper.ensures.status)

pub returns-in-McHyper-clause-err : goal.returns-in-McHyper-clause-err
returns-in-McHyper-clause-err g c =
    rw c.in-McHyper.is (c.run-done-in-McHyper.result.answer, c.mc_answer.ensures, c.run-done-in-McHyper.ensures.err)
