use Rattle.cnf_frames.proofs.Answering.{answered, asked-values}
use Rattle.cnf_frames.proofs.Ranges.{in-range}
use Rattle.cnf_frames.proofs.laws.queries_are_paths.Goals as goal

pub returns-clause-path : goal.returns-clause-path
returns-clause-path c = answered

pub returns-clause-assignment : goal.returns-clause-assignment
returns-clause-assignment c = asked-values

pub returns-clause-literals : goal.returns-clause-literals
returns-clause-literals c = in-range
