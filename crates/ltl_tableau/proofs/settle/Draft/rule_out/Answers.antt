use Rattle.std.proofs.Common.{ap, ◌∙◌}
use Rattle.std.specs.FinSet.{insert}
use Rattle.ltl_tableau.proofs.Settling.{one-more_with}
use Rattle.ltl_tableau.proofs.settle.Draft.rule_out.Goals as goal

pub returns-in_err-add_users-clause-dead : goal.returns-in_err-add_users-clause-dead
returns-in_err-add_users-clause-dead g c =
    one-more_with c.args.self.now.dead c.with-self.result c.args.k (c.with-self.ensures ∙ ap (insert c.args.self.now.dead) c.from-f.ensures)

pub returns-in_ok-add_users-clause-dead : goal.returns-in_ok-add_users-clause-dead
returns-in_ok-add_users-clause-dead g c =
    one-more_with c.args.self.now.dead c.with-self.result c.args.k (c.with-self.ensures ∙ ap (insert c.args.self.now.dead) c.from-f.ensures)
