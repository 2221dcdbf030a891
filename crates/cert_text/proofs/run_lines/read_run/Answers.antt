use Rattle.cert_text.proofs.Rows.{no_run}
use Rattle.cert_text.proofs.run_lines.read_run.Goals as goal

pub returns-in_default : goal.returns-in_default
returns-in_default c = no_run c.args.line.now c.in_default.ensures
