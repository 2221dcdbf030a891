use Rattle.rank_judge.proofs.Keeping.{reason_none, reason_kept, reason_refused}
use Rattle.rank_judge.proofs.reasons.reason_of.Goals as goal

pub returns-in_default : goal.returns-in_default
returns-in_default c reason says = absurd (c.in_default.ensures (reason, says))

pub returns-in_default-reason : goal.returns-in_default-reason
returns-in_default-reason c reason says =
    reason_none c.args.line.now c.in-Some.reason reason c.in_default-reason.is c.in-Some.ensures says

pub returns-in-Some-read_until : goal.returns-in-Some-read_until
returns-in-Some-read_until c reason says =
    reason_kept c.args.line.now c.in-Some.reason reason c.in-Some-reason.number
    c.in-Some-read_until.until c.in-Some-reason.is c.in-Some-read_until.ensures.0 c.in-Some.ensures says

pub returns-in-None : goal.returns-in-None
returns-in-None c reason says =
    reason_refused c.args.c.now.nodes c.args.line.now c.in-Some.reason reason c.in-Some-reason.number
    c.in-Some-reason.is c.in-None.ensures c.in-Some.ensures says
