use Rattle.std.proofs.Common.{get_or, sym, ◌∙◌}
use Rattle.tuple_walk.specs.Places.{rests_of}
use Rattle.tuple_walk.specs.Serving.{sought_of}
use Rattle.tuple_walk.proofs.Coming.{first-is, given-way, given-serves, given-none}
use Rattle.tuple_walk.proofs.walk.Walk.given_place.Goals as goal

pub returns-then-not-is_empty-clause-way : goal.returns-then-not-is_empty-clause-way
returns-then-not-is_empty-clause-way g c =
    let t = c.args.given.now.rest.now in
    given-way (rests_of c.args.spot.now) (sought_of c.args.given.now).given c.requires
    (get_or t 0 c.index-given-0.result) (first-is c.index-given-0.result t
    (sym c.is_empty.ensures ∙ c.if-not-is_empty.true)) c.behind.result c.behind.ensures.way

pub returns-then-not-is_empty-clause-serves : goal.returns-then-not-is_empty-clause-serves
returns-then-not-is_empty-clause-serves g c =
    let t = c.args.given.now.rest.now in
    given-serves (rests_of c.args.spot.now) (sought_of c.args.given.now).given c.requires
    (get_or t 0 c.index-given-0.result) (first-is c.index-given-0.result t
    (sym c.is_empty.ensures ∙ c.if-not-is_empty.true)) c.behind.result c.behind.ensures.way

pub returns-then-not-is_empty-clause-none : goal.returns-then-not-is_empty-clause-none
returns-then-not-is_empty-clause-none g c =
    let t = c.args.given.now.rest.now in
    given-none (rests_of c.args.spot.now) (sought_of c.args.given.now).given c.requires
    (get_or t 0 c.index-given-0.result) (first-is c.index-given-0.result t
    (sym c.is_empty.ensures ∙ c.if-not-is_empty.true)) c.behind.result c.behind.ensures.none _
