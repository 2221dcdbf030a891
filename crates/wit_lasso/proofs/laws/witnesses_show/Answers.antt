use Rattle.wit_lasso.proofs.Witnessing.{refute-all, show-some}
use Rattle.wit_lasso.proofs.laws.witnesses_show.Goals as goal

pub returns-clause-existential : goal.returns-clause-existential
returns-clause-existential c net signals n body runs traces some small =
    show-some net signals n body some small runs traces

pub returns-clause-universal : goal.returns-clause-universal
returns-clause-universal c net signals n body runs traces some small =
    refute-all net signals n body some small runs traces
