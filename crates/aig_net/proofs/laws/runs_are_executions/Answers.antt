use Rattle.aig_net.proofs.LassoRuns.{run-execution}
use Rattle.aig_net.proofs.laws.runs_are_executions.Goals as goal

pub returns : goal.returns
returns c = run-execution
