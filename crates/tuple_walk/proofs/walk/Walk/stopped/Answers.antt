use Rattle.std.proofs.Common.{◌≡◌, List, true, slice_get, Some, arith, below_more}
use Rattle.std.proofs.lemmas.Option.{slice_get_within}
use Rattle.hy_finite.specs.Traces.{Trace, judged}
use Rattle.tuple_walk.specs.Four.{four}
use Rattle.tuple_walk.specs.Searches.{IsTupleOf}
use Rattle.tuple_walk.specs.Serving.{sought_of}
use Rattle.tuple_walk.specs.Walks.{machine_in, rests_in}
use Rattle.tuple_walk.proofs.Choosing.{length-tuple}
use Rattle.tuple_walk.proofs.Nexts.{long-places}
use Rattle.tuple_walk.proofs.Stepping.{left_at}
use Rattle.tuple_walk.proofs.walk.Walk.stopped.Goals as goal

pub loop-i-init : goal.loop-i-init
loop-i-init g c k lt = absurd (omega arith)

pub loop-i-preserved : goal.loop-i-preserved
loop-i-preserved g c =
    let s = sought_of c.args.given.now in
    below_more (λ k. (tuple : List Trace) → IsTupleOf (rests_in c.args.self.now c.args.places.now) tuple
    → slice_get s.marks k ≡ Some true → slice_get tuple k ≡ Some s.given.1
    → ¬ (judged c.args.self.now.lengths tuple ≡ 0)) _ c.loop-i.invariant c.in-None.ensures.none

pub returns-clause-none : goal.returns-clause-none
returns-clause-none g c tuple h over =
    let w = c.args.self.now in
    let s = sought_of c.args.given.now in
    let (k, marked, at) = h.1 in
    let ls = rests_in w c.args.places.now in
    let lt = slice_get_within tuple k s.given.1 at in
    let long = long-places (machine_in w).variables left_at (four c.args.places.now)
    w.monitor.monitor.now.right.few in
    absurd (c.loop-i.invariant k (omega (arith, lt, length-tuple ls tuple h.0, long, c.vars-i-end.ensures.vars))
    tuple h.0 marked at over)
