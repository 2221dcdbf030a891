-- What a run answers, in the checker's own terms.
use Rattle.std.specs.Prelude.{Ok, Err}
use Rattle.hy_run.specs.Runs.{Answer}
use Rattle.hy_check.specs.declared.answer.CertFault.{CertFault}
use Rattle.hy_check.specs.declared.answer.CheckAnswer.{CheckAnswer}
use Rattle.hy_check.specs.declared.answer.CheckAnswer.TheVariants.{Accepted, Rejected, Refused}
use Rattle.hy_check.specs.declared.answer.CheckVerdict.{CheckVerdict}
use Rattle.hy_check.specs.declared.answer.CheckVerdict.TheVariants as verdicts

-- what an answer says, as any run does
abbrev pub said_by : CheckAnswer → Answer CheckVerdict CertFault
said_by Accepted = Ok verdicts.Accepted
said_by Rejected = Ok verdicts.Rejected
said_by (Refused fault) = Err fault
