use Rattle.hy_run.specs.Names.{texts}
use Rattle.ea_tool.proofs.Asking.{asks_found, asks_nothing, unworded}
use Rattle.ea_tool.proofs.words.order_of.Goals as goal

pub returns-in-Some-clause-some : goal.returns-in-Some-clause-some
returns-in-Some-clause-some c =
    asks_found (texts c.args.words.now) c.in-Some.found (rw c.in-Some.is at c.in_ok-found.ensures.told) c.ordered.result
    (rw c.in-Some.is at c.in_ok-found.ensures.some) c.ordered.ensures.some

pub returns-in-Some-clause-none : goal.returns-in-Some-clause-none
returns-in-Some-clause-none c =
    asks_nothing (texts c.args.words.now) c.in-Some.found (rw c.in-Some.is at c.in_ok-found.ensures.told) c.ordered.result c.ordered.ensures.none

pub returns-in-None-clause-none : goal.returns-in-None-clause-none
returns-in-None-clause-none c = unworded (texts c.args.words.now) (rw c.in-None.is at c.in_ok-found.ensures.none)
