use Rattle.cert_text.specs.RunLines.{SaysRun}
use Rattle.run_judge.proofs.TracedLines.{traced_answer}
use Rattle.run_judge.proofs.traced.is_traced.Goals as goal

pub returns-in-Some : goal.returns-in-Some
returns-in-Some c =
    let says : SaysRun c.args.line.now c.in-Some.run' = rw c.in-Some.is at c.in_ok-run.ensures in
    traced_answer c.args.net.now c.args.signals.now c.args.line.now c.in-Some.run'
    c.args.trace.now c.is_trace.result says c.is_trace.ensures
