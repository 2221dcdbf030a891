use Rattle.std.proofs.Common.{inr, set, ap, ◌∙◌}
use Rattle.tuple_walk.specs.Four.{four}
use Rattle.tuple_walk.specs.Places.{IsOpen}
use Rattle.tuple_walk.specs.Walks.{machine_in, rests_in}
use Rattle.tuple_walk.proofs.Placing.{lists-set, open-set}
use Rattle.tuple_walk.proofs.Stepping.{left_at}
use Rattle.tuple_walk.proofs.walk.Walk.narrow.Goals as goal

pub returns-in-Some-clause-open : goal.returns-in-Some-clause-open
returns-in-Some-clause-open g c =
    open-set IsOpen (machine_in c.args.self.now).variables (four c.args.places.now) c.in-Some.i
    c.place.result (four c.put.new.self) c.put.ensures c.requires c.place.ensures.taken

pub returns-in-Some-clause-narrowed : goal.returns-in-Some-clause-narrowed
returns-in-Some-clause-narrowed g c =
    inr (
      c.in-Some.i,
      c.in-Some.ensures.only,
      lists-set left_at (machine_in c.args.self.now).variables (four c.args.places.now) c.in-Some.i
          c.place.result (four c.put.new.self) c.put.ensures
          ∙ ap (set (rests_in c.args.self.now c.args.places.now) c.in-Some.i) c.place.ensures.alone,
    )
