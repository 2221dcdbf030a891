use Rattle.std.proofs.Common.{inl}
use Rattle.hy_run.proofs.Silence.{gives_nothing, received}
use Rattle.rv_watch.proofs.runs.finish.Goals as goal
use Rattle.rv_watch.proofs.runs.finish.Goals.{in-Ok, in-Err}

pub returns-clause-err : goal.returns-clause-err
returns-clause-err g c = elim c.match-answer.branch [
  | in-Ok w ↦ rw (w.err-is, w.in-Ok.is) (inl (gives_nothing g.E.Sink c.args.err.now))
  | in-Err w ↦ rw (w.err-is, w.in-Err.is)
      (received g.E.Sink _ _ _ w.write_refusal.result w.write_refusal.ensures.given w.write_refusal.ensures.refused)
]
