use Rattle.claim_check.proofs.Refuted.{head_starts}
use Rattle.claim_check.proofs.refuting.starts_free.Goals as goal

pub returns : goal.returns
returns c =
    head_starts c.args.text.now c.split_line.result.0.now _ c.free_head.result c.is_some.result
    c.split_line.ensures.lines c.is_some.ensures c.free_head.ensures.said
