use Rattle.wit_lasso.proofs.Checking.{existential-right, universal-right}
use Rattle.wit_lasso.proofs.PathLassos.{traces-say}
use Rattle.wit_lasso.proofs.laws.checked.Goals as goal

pub returns-clause-universal : goal.returns-clause-universal
returns-clause-universal c = universal-right

pub returns-clause-existential : goal.returns-clause-existential
returns-clause-existential c = existential-right

pub returns-clause-traces : goal.returns-clause-traces
returns-clause-traces c net signals n body positive good are some small k word runs traces bad unf many =
    traces-say c.one_execution.ensures net signals n body positive good are some small k word runs
    traces bad unf
