use Rattle.std.proofs.Common.{refl}
use Rattle.rv_watch.proofs.Feeding.{finished-stopped, finished-through, finished-short}
use Rattle.rv_watch.proofs.input.finish.Goals as goal

pub returns-in-Some-clause-finished : goal.returns-in-Some-clause-finished
returns-in-Some-clause-finished g c specs from bytes b =
    finished-stopped c.args.terms.now specs g.E.Sink from c.args.err.now c.args.watcher.now c.args.line.now bytes b c.take.new.err c.take.new.self
    c.in-Some.answer (c.in-Some.ensures.taken specs from b.course b.at)

pub returns-in-Ok-clause-finished : goal.returns-in-Ok-clause-finished
returns-in-Ok-clause-finished g c specs from bytes b =
    finished-through c.args.terms.now specs g.E.Sink from c.args.err.now c.args.watcher.now c.args.line.now bytes b c.take.new.err c.take.new.self
    (c.in_default.ensures.taken specs from b.course b.at) c.in-Ok.kept c.traces.result c.live.result _ c.in-Ok.ensures c.traces.ensures
    c.live.ensures refl

pub returns-in-Err-clause-finished : goal.returns-in-Err-clause-finished
returns-in-Err-clause-finished g c specs from bytes b =
    finished-short c.args.terms.now specs g.E.Sink from c.args.err.now c.args.watcher.now c.args.line.now bytes b c.take.new.err c.take.new.self
    (c.in_default.ensures.taken specs from b.course b.at) _ refl
