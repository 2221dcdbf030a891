use Rattle.std.proofs.Common.{◌++◌, sym, ap, ◌∙◌}
use Rattle.chain_check.proofs.Knowing.{ready-again, ready-more, ready-same}
use Rattle.chain_check.proofs.checker.Checker.next.Goals as goal

pub invariant_of-self : goal.invariant_of-self
invariant_of-self c = ready-again (c.self.inside.given.now ++ c.self.inside.learned) c.self.inside.partial
    c.follows-tried.new.partial c.clear.new.self c.self.invariant.0 c.follows-tried.ensures.variables
    c.clear.ensures

pub invariant_of-self-then-not-branch : goal.invariant_of-self-then-not-branch
invariant_of-self-then-not-branch c =
    ready-again (c.self.inside.given.now ++ c.self.inside.learned) c.self.inside.partial
    c.follows-tried.new.partial c.clear.new.self c.self.invariant.0 c.follows-tried.ensures.variables
    c.clear.ensures

pub invariant_of-self-in_err-add : goal.invariant_of-self-in_err-add
invariant_of-self-in_err-add c =
    ready-same c.self.inside.given.now c.self.inside.learned c.add.new.self c.clear.new.self
    (ready-again (c.self.inside.given.now ++ c.self.inside.learned) c.self.inside.partial
    c.follows-tried.new.partial c.clear.new.self c.self.invariant.0 c.follows-tried.ensures.variables
    c.clear.ensures)
    c.in_err-add.ensures.refused

pub invariant_of-self-2 : goal.invariant_of-self-2
invariant_of-self-2 c =
    ready-more c.self.inside.partial.variables c.self.inside.given.now c.self.inside.learned
    c.add.new.self c.args.clause.now c.clear.new.self
    (ready-again (c.self.inside.given.now ++ c.self.inside.learned) c.self.inside.partial
    c.follows-tried.new.partial c.clear.new.self c.self.invariant.0 c.follows-tried.ensures.variables
    c.clear.ensures)
    (c.in_ok-tried.ensures.exact.0 c.if-not-branch.false).literals
    (sym (ap (λ t. t.variables) c.clear.ensures ∙ c.follows-tried.ensures.variables))
    c.in_ok-add.ensures.added
