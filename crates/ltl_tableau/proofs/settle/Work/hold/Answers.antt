use Rattle.std.proofs.Common.{sym, ap, ◌∙◌}
use Rattle.ltl_tableau.specs.declared.settle.Work.{Work}
use Rattle.std.specs.FinSet.{contains}
use Rattle.ltl_tableau.specs.Branches.{Members}
use Rattle.ltl_tableau.proofs.WaysLemmas.{known}
use Rattle.ltl_tableau.proofs.settle.Work.hold.Goals as goal

pub returns-else-not-has : goal.returns-else-not-has
returns-else-not-has g c =
    ap (λ (s : Members). let made : Work _ = record c.args.self.now { held = s } in made)
    (sym (known c.args.self.now.held c.args.g (ap (contains c.args.self.now.held) (sym c.from.ensures) ∙ sym c.has.ensures ∙ c.if-not-has.false)))
