use Rattle.hy_lasso.proofs.choices.holds.Goals as goal

pub returns-clause-meaning : goal.returns-clause-meaning
returns-clause-meaning c = rw c.new.ensures at c.remain.ensures.meaning
