use Rattle.std.proofs.Common.{Bool, subst}
use Rattle.ltl_tableau.specs.Drafts.{Settled}
use Rattle.ltl_tableau.proofs.Settling.{chosen-some}
use Rattle.ltl_tableau.proofs.settle.Draft.chosen.Goals as goal

pub returns-then-branch : goal.returns-then-branch
returns-then-branch g c =
    let P : Bool → Type 0 = Settled c.args.c.now.nodes c.taken-draft.result c.settle.new.self in
    chosen-some c.args.c.now.nodes c.args.skips.now.held c.args.self.now c.taken-draft.result c.settle.new.self c.args.side.now
    c.taken-draft.ensures.work c.requires.base (subst P c.if-branch.true c.in_ok-settle.ensures)
