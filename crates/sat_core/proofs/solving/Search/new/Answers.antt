use Rattle.std.proofs.Common.{ap}
use Rattle.sat_core.proofs.Holding.{watching-none}
use Rattle.sat_core.proofs.solving.Search.new.Goals as goal

pub returns-clause-start : goal.returns-clause-start
returns-clause-start c = record {
  ready = c.in_ok-new.ensures.ready;
  none = ap (λ t. t.literals) c.in_ok-new.ensures.none;
  no_limits = c.in_ok-new.ensures.no_limits;
  watching = watching-none c.in_ok-new.field-0 c.args.cnf.variables c.in_ok-new-2.field-0.done
      c.in_ok-new-2.field-0.pairs.items c.in_ok-new-2.field-0.lists c.in_ok-new.ensures.none
      c.in_ok-new.ensures.no_limits c.in_ok-new-2.ensures.pairs c.in_ok-new-2.ensures.lists
      c.in_ok-new-2.ensures.done;
  no_pairs = c.in_ok-new-2.ensures.pairs;
  done = c.in_ok-new-2.ensures.done;
}
