use Rattle.std.proofs.Common.{List, ◌∙◌, subst}
use Rattle.hy_finite.specs.Traces.{Trace}
use Rattle.rv_core.specs.Held.{StandsFor}
use Rattle.rv_core.specs.Seen.{held}
use Rattle.step_counts.specs.Runs.{after}
use Rattle.step_counts.proofs.Arriving.{take-one}
use Rattle.step_counts.proofs.runs.seen_by.Goals as goal

pub loop-k-preserved : goal.loop-k-preserved
loop-k-preserved g c =
    let (stands, rule, specs) = c.loop-k.invariant in
    let next = take-one c.args.traces.now c.loop-k.k c.index-traces-k.result c.in_ok-trace.trace
    c.loop-k-test.true c.index-traces-k.is c.in_ok-trace.ensures in
    let P : List Trace → Type 0 = λ list. StandsFor (held c.arrive.new.rv) (after list) in (
      subst P next (c.in_ok-arrive.ensures.stands c.in-Arrived.trace c.in-Arrived.is),
      c.arrive.ensures.rule ∙ rule,
      c.arrive.ensures.specs ∙ specs,
    )
