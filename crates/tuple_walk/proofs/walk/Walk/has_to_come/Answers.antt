use Rattle.std.proofs.Common.{◌≢◌, arith, below_more}
use Rattle.std.proofs.lemmas.List.{length-take-le}
use Rattle.std.proofs.lemmas.Option.{slice_get_within}
use Rattle.tuple_walk.specs.Four.{four}
use Rattle.tuple_walk.specs.Serving.{sought_of, MayServe}
use Rattle.tuple_walk.specs.Walks.{machine_in, places_in}
use Rattle.tuple_walk.proofs.Coming.{may-serve, may-not}
use Rattle.tuple_walk.proofs.walk.Walk.has_to_come.Goals as goal
use Rattle.tuple_walk.proofs.walk.Walk.has_to_come.Goals.{else-j-i-via-then-j-i+else-stays, else-j-i-via-else-j-i}

pub loop-j-init : goal.loop-j-init
loop-j-init g c k lt = absurd (omega arith)

pub returns-then-stays-clause-other : goal.returns-then-stays-clause-other
returns-then-stays-clause-other g c marked =
    let w = c.args.self.now in (
      c.loop-j.j,
      c.if-j-i.true,
      may-serve (sought_of c.args.given.now) c.args.places.now (machine_in w).variables c.loop-j.j
          c.stays.result c.stays.ensures (omega (arith, c.loop-j-test.true, c.vars-j-end.ensures.vars))
          w.monitor.monitor.now.right.few c.if-stays.true,
    )

pub loop-j-preserved : goal.loop-j-preserved
loop-j-preserved g c =
    let w = c.args.self.now in
    let s = sought_of c.args.given.now in
    below_more (λ k. k ≢ c.args.i → ¬ MayServe s (places_in w c.args.places.now) k) _ c.loop-j.invariant
    (elim c.else-j-i.branch [
      | else-j-i-via-then-j-i+else-stays v ↦ λ other. may-not s c.args.places.now (machine_in w).variables
          c.loop-j.j v.stays.result v.stays.ensures v.if-stays.false
      | else-j-i-via-else-j-i v ↦ λ other. absurd (other v.if-j-i.false)
    ])

pub returns-clause-last : goal.returns-clause-last
returns-clause-last g c (j, other, may) =
    let w = c.args.self.now in
    let lt = slice_get_within (places_in w c.args.places.now) j may.place may.at in
    let long = length-take-le (machine_in w).variables (four c.args.places.now)
    w.monitor.monitor.now.right.few in
    c.loop-j.invariant j (omega (arith, lt, long, c.loop-j-test.false, c.vars-j-end.ensures.vars))
    other may
