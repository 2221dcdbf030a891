use Rattle.std.proofs.Common.{◌≡◌, ◌≤◌, IfOk, OnOk, List, length, subst}
use Rattle.ltl_closure.specs.Jobs.{Task, task_nodes, closure_of}
use Rattle.ea_reduce.proofs.Jobs.{plain-tasks}
use Rattle.rank_proofs.specs.Counts.{most_members}
use Rattle.rank_proofs.proofs.Planning.{closure-refused}
use Rattle.rank_proofs.proofs.closures.plan_closure.Goals as goal

pub returns-clause-closure : goal.returns-clause-closure
returns-clause-closure c =
    let P : List Task → Type 0 = λ ts. IfOk c.new.result (λ r. r ≡ closure_of ts) in
    subst P (plain-tasks c.args.plan.now.jobs) c.new.ensures.closure

pub returns-clause-few : goal.returns-clause-few
returns-clause-few c =
    let P : List Task → Type 0 =
    λ ts. OnOk c.new.result (length (task_nodes ts) ≤ most_members) in
    subst P (plain-tasks c.args.plan.now.jobs) c.new.ensures.few

pub returns-clause-refused : goal.returns-clause-refused
returns-clause-refused c = closure-refused c.args.plan.now c.new.result c.new.ensures.limit
