use Rattle.std.proofs.Common.{◌<◌, arith}
use Rattle.std.proofs.Math.Nat.{le-mul_of_pos_right}
use Rattle.wit_lasso.specs.PathParts.{free_before}
use Rattle.wit_lasso.proofs.Places.{byte-small, free_place, free_times, product}
use Rattle.wit_lasso.proofs.unfolding.start_latches.Goals as goal

pub overflow_mul-place : goal.overflow_mul-place
overflow_mul-place c =
    let e = product _ _ _ _ c.loop-reset.invariant.before c.from.ensures in
    let le = free_times c.args.resets.now c.args.n c.loop-reset.reset-index
    c.loop-reset.auto.reset-index-end in
    let small = c.requires.small in
    omega (arith, e, le, small)

pub overflow_add-place : goal.overflow_add-place
overflow_add-place c =
    let e = product _ _ _ _ c.loop-reset.invariant.before c.from.ensures in
    let le = free_times c.args.resets.now c.args.n c.loop-reset.reset-index
    c.loop-reset.auto.reset-index-end in
    let small = c.requires.small in
    let few = c.ranges.c.fits in
    let own = c.from-in-loop-reset.ensures in
    omega (arith, e, le, small, few, own)

pub start_value-requires : goal.start_value-requires
start_value-requires c is =
    let e = product _ _ _ _ c.loop-reset.invariant.before c.from.ensures in
    let lt = free_place c.args.resets.now c.args.n c.args.c c.loop-reset.reset-index
    c.loop-reset-test.true is c.requires.copy in
    let long = c.requires.long in
    let own = c.from-in-loop-reset.ensures in
    omega (arith, e, lt, long, own)

pub overflow_add-before : goal.overflow_add-before
overflow_add-before c =
    let le = free_times c.args.resets.now c.args.n c.loop-reset.reset-index
    c.loop-reset.auto.reset-index-end in
    let small = c.requires.small in
    let some : 0 < c.args.n = let few = c.requires.copy in omega (arith, few) in
    let more = le-mul_of_pos_right (free_before c.args.resets.now c.loop-reset.reset-index) some in
    let is = c.loop-reset.invariant.before in
    let one = byte-small c.is_free.result in
    let own = c.from-before.ensures in
    omega (arith, le, small, more, is, one, own)
