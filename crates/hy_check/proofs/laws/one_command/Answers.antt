use Rattle.hy_check.proofs.Worded.{command_once}
use Rattle.hy_check.proofs.laws.one_command.Goals as goal

pub returns : goal.returns
returns c words files others question other one two = command_once words files others question other one two
