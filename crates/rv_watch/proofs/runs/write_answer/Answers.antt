use Rattle.std.proofs.Common.{inl, refl}
use Rattle.hy_run.proofs.Silence.{gives_nothing}
use Rattle.rv_watch.proofs.runs.write_answer.Goals as goal

pub returns-in-Err-clause-written : goal.returns-in-Err-clause-written
returns-in-Err-clause-written g c = rw c.in-Err.is (inl (refl, gives_nothing g.O.Sink c.args.out.now))
