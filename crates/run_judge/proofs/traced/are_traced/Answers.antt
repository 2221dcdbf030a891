use Rattle.std.proofs.Common.{◌+◌, ◌∷◌, ◌∙◌, drop, sym, ap}
use Rattle.std.specs.Option.{option_copied}
use Rattle.std.proofs.lemmas.List.{at_drop_all, drop_more}
use Rattle.hy_text.specs.Lines.{left_lines}
use Rattle.run_judge.proofs.TracedLines.{bad_here, more_here, end_here}
use Rattle.run_judge.proofs.traced.are_traced.Goals as goal

-- a line that is no run of its trace
pub returns-then-not-branch : goal.returns-then-not-branch
returns-then-not-branch c =
    let first = drop_more c.args.traces.now c.loop-trace.trace-index c.trace-item.result
    c.loop-trace-test.true
    ∙ ap (λ t. t ∷ drop (c.loop-trace.trace-index + 1) c.args.traces.now) (sym c.trace-item.is) in
    bad_here c.args.net.now c.args.signals.now c.args.text.now c.loop-trace.left.now
    c.args.traces.now (drop c.loop-trace.trace-index c.args.traces.now)
    (drop (c.loop-trace.trace-index + 1) c.args.traces.now) c.split_line.result.0.now
    (left_lines (option_copied c.split_line.result.1)) c.trace-item.result
    c.in_ok-is_traced.field-0 c.loop-trace.invariant first c.split_line.ensures.lines
    c.in_ok-is_traced.ensures c.if-not-branch.true

-- one line more
pub loop-trace-preserved : goal.loop-trace-preserved
loop-trace-preserved c =
    let first = drop_more c.args.traces.now c.loop-trace.trace-index c.trace-item.result
    c.loop-trace-test.true
    ∙ ap (λ t. t ∷ drop (c.loop-trace.trace-index + 1) c.args.traces.now) (sym c.trace-item.is) in
    let cut = c.split_line.ensures.lines
    ∙ ap (λ o. c.split_line.result.0.now ∷ left_lines (option_copied o)) c.in-Some.is in
    more_here c.args.net.now c.args.signals.now c.args.text.now c.loop-trace.left.now
    c.in-Some.rest.now c.args.traces.now (drop c.loop-trace.trace-index c.args.traces.now)
    (drop (c.loop-trace.trace-index + 1) c.args.traces.now) c.split_line.result.0.now
    c.trace-item.result c.in_ok-is_traced.field-0 c.loop-trace.invariant first cut
    c.in_ok-is_traced.ensures c.if-not-branch.false

-- All traces had their lines.
pub returns : goal.returns
returns c =
    end_here c.args.net.now c.args.signals.now c.args.text.now c.loop-trace.left.now
    c.args.traces.now (drop c.loop-trace.trace-index c.args.traces.now) c.is_empty.result
    c.loop-trace.invariant
    (at_drop_all (λ l. l) c.args.traces.now c.loop-trace.trace-index c.loop-trace-test.false)
    c.is_empty.ensures
