use Rattle.std.proofs.Common.{◌≤◌, arith}
use Rattle.tuple_walk.specs.Four.{four}
use Rattle.tuple_walk.specs.Walks.{machine_in, rests_in}
use Rattle.tuple_walk.proofs.Nexts.{long-places}
use Rattle.tuple_walk.proofs.Scanning.{rejects-accepts}
use Rattle.tuple_walk.proofs.Stepping.{left_at}
use Rattle.tuple_walk.proofs.walk.Walk.rejects.Goals as goal

pub returns-else-accepts-clause-accepts : goal.returns-else-accepts-clause-accepts
returns-else-accepts-clause-accepts g c =
    let w = c.args.self.now in
    let few : (machine_in w).variables ≤ 4 = w.monitor.monitor.now.right.few in
    let long = long-places (machine_in w).variables left_at (four c.args.places.now) few in
    rejects-accepts (machine_in w) w.lengths c.args.q (rests_in w c.args.places.now)
    c.stops.result (omega (arith, long, c.requires.some)) c.stops.ensures.no
