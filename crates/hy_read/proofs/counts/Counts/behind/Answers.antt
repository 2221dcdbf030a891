use Rattle.hy_read.proofs.Passing.{counted_more}
use Rattle.hy_read.proofs.counts.Counts.behind.Goals as goal

pub returns-clause-counted : goal.returns-clause-counted
returns-clause-counted c = λ front t kind before.
    counted_more front t _ c.args.self _ kind before c.opened-parens.ensures.is c.max-2.ensures c.quantified-quantifiers.ensures.is c.max.ensures c.ended.ensures.is
