use Rattle.std.proofs.Common.{Err, refl, ap}
use Rattle.ltl_closure.specs.Jobs.{Rooted}
use Rattle.fin_monitor.proofs.building.closure_of.Goals as goal

pub returns-in-Ok-clause-nodes : goal.returns-in-Ok-clause-nodes
returns-in-Ok-clause-nodes c = ap (λ (r : Rooted). r.nodes) c.in-Ok.ensures.closure

pub returns-in-Ok-clause-roots : goal.returns-in-Ok-clause-roots
returns-in-Ok-clause-roots c = ap (λ (r : Rooted). r.roots) c.in-Ok.ensures.closure

pub returns-in-Err-Limit-clause-refused : goal.returns-in-Err-Limit-clause-refused
returns-in-Err-Limit-clause-refused c =
    (refl, c.in-Err-Limit.ensures.limit (ap (λ e. Err e) c.in-Err-Limit.field-0-is))
