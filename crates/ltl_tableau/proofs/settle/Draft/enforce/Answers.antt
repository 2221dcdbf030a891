use Rattle.std.proofs.Common.{sym, ap, ◌∙◌, arith}
use Rattle.std.specs.FinSet.{contains}
use Rattle.ltl_tableau.proofs.Settling.{enforced}
use Rattle.ltl_tableau.proofs.settle.Draft.enforce.Goals as goal

pub returns : goal.returns
returns g c =
    enforced c.args.c.now.nodes c.args.self.now c.add.new.self c.add-2.new.self c.args.k c.forced-forced.result.first
    c.forced-forced.result.second c.requires.dead
    (ap (contains c.args.self.now.work.held) (sym c.from.ensures) ∙ sym c.has.ensures ∙ c.if-not-has.false)
    c.requires.place c.requires.within (c.len-members.ensures.operands c.args.k (omega arith))
    c.forced-forced.ensures.first c.forced-forced.ensures.second c.in_ok-add.ensures c.in_ok-add-2.ensures
