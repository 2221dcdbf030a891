use Rattle.aiger_body.proofs.LineTexts.{line-read, line-spelled}
use Rattle.aiger_body.proofs.laws.lines_right.Goals as goal

pub returns-clause-read : goal.returns-clause-read
returns-clause-read c = line-read

pub returns-clause-spelled : goal.returns-clause-spelled
returns-clause-spelled c = line-spelled
