use Rattle.std.proofs.Common.{◌+◌, ◌∙◌, length, arith, ap}
use Rattle.live_safe.specs.Safe.{free_at, set_at, is_free, is_set}
use Rattle.aig_net.specs.Nets.{reset_at}
use Rattle.live_safe.proofs.Counting.{count-upto, count_more, some_more}
use Rattle.live_safe.proofs.places.Places.of.Goals as goal

pub overflow_add-free : goal.overflow_add-free
overflow_add-free c =
    let k = c.loop-reset.reset-index in
    let same = c.as_slice-resets.ensures ∙ c.resets.ensures in
    let many = ap length same in
    let more = count_more (free_at c.args.net.now) k _ _ _
    (c.is_free.ensures ∙ ap (λ rs. is_free (reset_at rs k)) same) c.from-free.ensures
    c.loop-reset.invariant.0 in
    omega (
      arith,
      more,
      count-upto (free_at c.args.net.now) (k + 1),
      c.loop-reset-test.true,
      many,
      c.requires.net.resets,
      c.requires.room,
    )

pub loop-reset-preserved : goal.loop-reset-preserved
loop-reset-preserved c =
    let k = c.loop-reset.reset-index in
    let same = c.as_slice-resets.ensures ∙ c.resets.ensures in (
      count_more (free_at c.args.net.now) k _ _ _
          (c.is_free.ensures ∙ ap (λ rs. is_free (reset_at rs k)) same) c.from-free.ensures
          c.loop-reset.invariant.0,
      some_more (set_at c.args.net.now) k _ _
          (c.is_set-has_begun.ensures ∙ ap (λ rs. is_set (reset_at rs k)) same)
          c.loop-reset.invariant.1,
    )
