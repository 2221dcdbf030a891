use Rattle.std.proofs.Common.{length, ◌∙◌, sym, ap}
use Rattle.sat_core.proofs.Holding.{watching-decided}
use Rattle.sat_core.proofs.solving.Search.decide.Goals as goal

pub returns-in_ok-decide-in-Some : goal.returns-in_ok-decide-in-Some
returns-in_ok-decide-in-Some c = record {
  sound = (
    record {
      ready = c.in_ok-decide-in-Some.ensures.ready;
      watching = watching-decided c.args.self.now.solver c.decide.new.self
          c.args.self.now.watches.done c.args.self.now.watches.pairs.items
          c.args.self.now.watches.lists c.in-Some.l c.requires.sound.watching c.requires.done
          c.in_ok-decide-in-Some.ensures.clauses c.in_ok-decide-in-Some.ensures.limits
          c.in_ok-decide-in-Some.ensures.pushed;
      long = c.requires.sound.long ∙ sym (ap length c.in_ok-decide-in-Some.ensures.clauses);
    },
    c.in_ok-decide-in-Some.ensures.clauses,
    (c.in-Some.l, c.in_ok-decide-in-Some.ensures.pushed),
  );
}
