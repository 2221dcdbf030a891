use Rattle.std.proofs.Common.{◌++◌, ◌∷◌, [], ap, ◌∙◌}
use Rattle.fin_monitor.proofs.Stepping.{of-single}
use Rattle.fin_monitor.proofs.lefts.obligation.Goals as goal

pub returns : goal.returns
returns g c = of-single c.push.new.self.items c.args.d (c.in_ok-push.ensures.items ∙ ap (λ l. l ++ c.args.d ∷ []) c.requires)
