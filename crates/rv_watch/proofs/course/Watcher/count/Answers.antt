use Rattle.std.proofs.Common.{suc, ◌≤◌, ◌∙◌, arith}
use Rattle.rv_watch.proofs.Taking.{counted-now}
use Rattle.rv_watch.proofs.course.Watcher.count.Goals as goal

pub returns-clause-counted : goal.returns-clause-counted
returns-clause-counted g c from course h stands since heard =
    let reached : c.in-Some.every ≤ suc course.since = omega (arith, c.if-self-saturating_sub.false, c.saturating_sub.ensures, since) in
    rw c.in-Some.is
    (counted-now g.E.Sink from c.args.err.now c.write_counts.new.err course h c.in-Some.every c.traces.result c.live.result reached heard
    c.write_counts.ensures.received (c.traces.ensures ∙ stands.count) (c.live.ensures ∙ stands.sessions.count))
