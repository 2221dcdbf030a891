use Rattle.std.proofs.Common.{sym, ◌∙◌, refl, arith}
use Rattle.ltl_tableau.proofs.Saying.{failing}
use Rattle.ltl_tableau.proofs.Settling.{ruled-out, if-ok}
use Rattle.ltl_tableau.proofs.settle.Draft.review.Goals as goal

pub returns-then-fails : goal.returns-then-fails
returns-then-fails g c =
    if-ok c.rule_out.result _ _ c.rule_out.ensures.verdict
    (λ ok verdict.
    ruled-out c.args.c.now.nodes c.args.self.now c.rule_out.new.self c.args.k ok
    (failing c.args.c.now.nodes c.args.self.now.work.held c.args.self.now.dead c.args.k _ c.requires.dead _ refl
    (c.len-members.ensures.operands c.args.k (omega arith)) (c.requires.links.each c.args.k (omega arith))
    (sym c.fails.ensures ∙ c.if-fails.true))
    c.requires.place c.requires.dead verdict c.rule_out.ensures.work c.rule_out.ensures.dead)
