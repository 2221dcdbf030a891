use Rattle.std.proofs.Common.{Bool, subst}
use Rattle.ltl_tableau.specs.Drafts.{Settled}
use Rattle.ltl_tableau.proofs.Starting.{begins-none, begins-some}
use Rattle.ltl_tableau.proofs.collect.begin.Goals as goal

pub returns-then-branch : goal.returns-then-branch
returns-then-branch g c =
    let start = c.whole-draft.ensures in
    let P : Bool → Type 0 = Settled c.args.c.now.nodes c.whole-draft.result c.settle.new.self in
    begins-some c.args.c.now.nodes c.len-members.ensures.operands c.args.s.now c.whole-draft.result start.below start.next start.held start.none
    c.settle.new.self (subst P c.if-branch.true c.in_ok-settle.ensures)

pub returns-else-branch : goal.returns-else-branch
returns-else-branch g c =
    let start = c.whole-draft.ensures in
    let P : Bool → Type 0 = Settled c.args.c.now.nodes c.whole-draft.result c.settle.new.self in
    begins-none c.args.c.now.nodes c.len-members.ensures.operands c.args.s.now c.whole-draft.result start.below start.next start.held start.none
    (subst P c.if-branch.false c.in_ok-settle.ensures)
