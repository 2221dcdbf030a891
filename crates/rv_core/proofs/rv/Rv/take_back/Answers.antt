use Rattle.std.proofs.Common.{◌≡◌, ◌++◌, ◌∷◌, [], reverse, sym, ap, ◌∙◌, length}
use Rattle.std.proofs.lemmas.Option.{MatchOption-at_some}
use Rattle.rv_core.specs.Seen.{held}
use Rattle.rv_core.proofs.Standing.{within-popped}
use Rattle.rv_core.proofs.Answering.{none-left, reverse-push, answered-back, no-back}
use Rattle.rv_core.proofs.rv.Rv.take_back.Goals as goal

pub returns-then-is_empty-clause-answers : goal.returns-then-is_empty-clause-answers
returns-then-is_empty-clause-answers c =
    no-back (held c.args.self.now)
    (none-left c.args.self.now.saves (sym c.is_empty.ensures ∙ c.if-is_empty.true))

pub invariant_of-self : goal.invariant_of-self
invariant_of-self c =
    let popped : c.args.self.now.saves ≡ c.pop.new.self ++ c.unwrap-arrived.result ∷ [] =
    MatchOption-at_some _
    (λ x. c.args.self.now.saves ≡ c.pop.new.self ++ x ∷ []) c.unwrap-arrived.result
    c.unwrap-arrived.ensures c.pop.ensures.taken in
    let within =
    within-popped (length c.args.self.now.watches) c.args.self.now.saves c.pop.new.self
    c.unwrap-arrived.result popped c.args.self.now.within in
    record { below = within.0; within = within.1; countable = c.args.self.now.countable }

pub returns-clause-answers : goal.returns-clause-answers
returns-clause-answers c =
    let popped : c.args.self.now.saves ≡ c.pop.new.self ++ c.unwrap-arrived.result ∷ [] =
    MatchOption-at_some _
    (λ x. c.args.self.now.saves ≡ c.pop.new.self ++ x ∷ []) c.unwrap-arrived.result
    c.unwrap-arrived.ensures c.pop.ensures.taken in
    answered-back (held c.args.self.now) c.unwrap-arrived.result
    (reverse c.pop.new.self)
    (ap reverse popped ∙ reverse-push c.pop.new.self c.unwrap-arrived.result)
