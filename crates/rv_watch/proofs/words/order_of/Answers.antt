use Rattle.hy_run.specs.Names.{texts}
use Rattle.rv_watch.proofs.Asking.{question_none}
use Rattle.rv_watch.proofs.words.order_of.Goals as goal

pub returns-in-Some-clause-none : goal.returns-in-Some-clause-none
returns-in-Some-clause-none c =
    question_none (texts c.args.words.now) c.in-Some.found c.ordered.result (rw c.in-Some.is at c.in_ok-found.ensures.told) c.ordered.ensures.none

pub returns-in-None-clause-none : goal.returns-in-None-clause-none
returns-in-None-clause-none c question file (items, are, orders) = (rw c.in-None.is at c.in_ok-found.ensures.none) items are
