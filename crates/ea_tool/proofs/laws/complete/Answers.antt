use Rattle.std.proofs.Common.{[], ◌∷◌}
use Rattle.hy_run.specs.Classes.{is_decided, is_of_one_kind}
use Rattle.ea_tool.specs.Deciding.{DecidesBy, Relates, plan_of, plans_between}
use Rattle.ea_tool.proofs.Agreements.{decided_where_ready, judged_where_ready}
use Rattle.ea_tool.proofs.laws.complete.Goals as goal

pub returns-clause-texts : goal.returns-clause-texts
returns-clause-texts c = c.complete.ensures c.settled.ensures

pub returns-clause-decided : goal.returns-clause-decided
returns-clause-decided c = λ f engine answer taken counted is.
    decided_where_ready is_decided (f ∷ []) (plan_of f ∷ []) (DecidesBy f engine) taken (counted, tt) answer is

pub returns-clause-related : goal.returns-clause-related
returns-clause-related c = λ relation f g engine answer taken counted is.
    decided_where_ready is_of_one_kind (f ∷ g ∷ []) (plans_between relation f g) (Relates relation f g engine) taken counted answer is

pub returns-clause-judged : goal.returns-clause-judged
returns-clause-judged c = λ prefix body list answer fits is. judged_where_ready prefix body list fits answer is
