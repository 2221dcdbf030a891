use Rattle.std.proofs.Common.{◌≡◌, ◌∷◌, ◌∙◌, length, ap, arith}
use Rattle.std.specs.Option.{option_copied}
use Rattle.hy_formula.specs.Trees.{tree_of}
use Rattle.hy_text.specs.Lines.{left_lines}
use Rattle.run_judge.proofs.Witnessed.{untraced_judged, traced_judged}
use Rattle.run_judge.proofs.judging.judge_runs.Goals as goal

pub returns-then-not-branch : goal.returns-then-not-branch
returns-then-not-branch c =
    let cut = c.split_line.ensures.lines
    ∙ ap (λ o. c.split_line.result.0.now ∷ left_lines (option_copied o)) c.in-Some.is in
    let many : length c.args.traces.now ≡ length c.args.formula.now.prefix =
    omega (arith, c.len.ensures, c.if-len.false, c.len-2.ensures.len) in
    untraced_judged c.args.net.now c.args.signals.now (length c.args.formula.now.prefix)
    (tree_of c.args.formula.now.body) c.args.positive c.args.traces.now c.args.text.now
    c.split_line.result.0.now c.in-Some.rest.now c.as_slice.result.now
    c.in_ok-are_traced.field-0 cut many c.as_slice.ensures c.in_ok-are_traced.ensures
    c.if-not-branch.true

pub returns : goal.returns
returns c =
    let cut = c.split_line.ensures.lines
    ∙ ap (λ o. c.split_line.result.0.now ∷ left_lines (option_copied o)) c.in-Some.is in
    let many : length c.args.traces.now ≡ length c.args.formula.now.prefix =
    omega (arith, c.len.ensures, c.if-len.false, c.len-2.ensures.len) in
    traced_judged c.args.net.now c.args.signals.now (length c.args.formula.now.prefix)
    (tree_of c.args.formula.now.body) c.args.positive c.args.traces.now c.args.text.now
    c.split_line.result.0.now c.in-Some.rest.now c.as_slice.result.now
    c.in_ok-are_traced.field-0 c.say.result cut many c.as_slice.ensures
    c.in_ok-are_traced.ensures c.if-not-branch.false c.say.ensures
