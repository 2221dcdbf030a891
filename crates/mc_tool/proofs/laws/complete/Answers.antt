use Rattle.mc_tool.proofs.Checking.{check_works}
use Rattle.mc_tool.proofs.Driving.{drive_works}
use Rattle.mc_tool.proofs.laws.complete.Goals as goal

pub returns-clause-files : goal.returns-clause-files
returns-clause-files c = c.complete.ensures c.settled.ensures

pub returns-clause-check : goal.returns-clause-check
returns-clause-check c net names f ask answer ready is = check_works net names f ask answer ready is

pub returns-clause-strategy : goal.returns-clause-strategy
returns-clause-strategy c net strategy names f ask answer ready is = drive_works net strategy names f ask answer ready is
