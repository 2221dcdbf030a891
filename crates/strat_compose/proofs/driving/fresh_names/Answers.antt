-- Why `fresh_names` keeps its contract.
use Rattle.std.proofs.Common.{◌+◌, [], ◌∷◌, ◌++◌, ap, ◌∙◌}
use Rattle.hy_base.proofs.Listed.{listed_next}
use Rattle.strat_compose.specs.Driving.{fresh_name}
use Rattle.strat_compose.proofs.driving.fresh_names.Goals as goal

pub loop-k-preserved : goal.loop-k-preserved
loop-k-preserved c =
    listed_next fresh_name c.loop-k.k c.loop-k.made _ _ c.loop-k.invariant
    c.in_ok-push-2.ensures.added
    (c.in_ok-push.ensures.added ∙ ap (λ l. l ++ (48 + c.loop-k.k) ∷ []) c.new-name.ensures)
