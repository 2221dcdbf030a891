use Rattle.std.proofs.Common.{List, ℕ, refl, reverse, ap, ◌∙◌, sym, subst}
use Rattle.chain_check.specs.Clauses.{Clause, IsNew}
use Rattle.chain_check.specs.Chains.{Follows}
use Rattle.sat_core.proofs.Pointing.{learned-follows, learned-is-new}
use Rattle.sat_core.proofs.Taught.{taught-ready, taught-step, taught-lesson}
use Rattle.sat_core.proofs.solver.Solver.learn.Goals as goal

pub imply-requires-clause-ready : goal.imply-requires-clause-ready
imply-requires-clause-ready c =
    let (level, back) = c.back.ensures.back in
    taught-ready c.args.self.now c.last_limit-start.result c.in_ok-place.place
    c.in_ok-asserting.asserting.clause c.in_ok-asserting.asserting.highest c.requires.ready
    c.requires.level c.last_limit-start.ensures c.in_ok-asserting.ensures.topped c.back.new.self
    c.back.ensures.ready level back _ c.as_slice.result.now c.requires.room
    (c.as_slice.ensures ∙ c.in_ok-entry.ensures.clause) c.in_ok-add.ensures.added refl refl refl
    refl

pub imply-requires-clause-step : goal.imply-requires-clause-step
imply-requires-clause-step c =
    let (level, back) = c.back.ensures.back in
    taught-step c.args.self.now c.last_limit-start.result c.in_ok-place.place
    c.in_ok-asserting.asserting.clause c.in_ok-asserting.asserting.highest c.requires.ready
    c.requires.level c.last_limit-start.ensures c.in_ok-asserting.ensures.topped
    c.back.new.self c.back.ensures.ready level back c.add.new.self c.as_slice.result.now
    c.opposite_at-top.result c.len-added.result
    (c.as_slice.ensures ∙ c.in_ok-entry.ensures.clause)
    c.opposite_at-top.ensures c.in_ok-add.ensures.added c.len-added.ensures

pub returns-clause-follows : goal.returns-clause-follows
returns-clause-follows c =
    let P : Clause → Type 0 = λ d. Follows c.args.self.now.partial.variables c.args.self.now.clauses
    d (reverse c.minimize.new.analysis.chain.items) in
    let Q : List ℕ → Type 0 = Follows c.args.self.now.partial.variables c.args.self.now.clauses
    c.in_ok-entry.entry.clause in
    subst Q (sym c.in_ok-entry.ensures.chain)
    (subst P (sym c.in_ok-entry.ensures.clause) (learned-follows c.args.self.now
    c.last_limit-start.result c.in_ok-place.place c.in_ok-asserting.asserting.clause
    c.in_ok-asserting.asserting.highest c.requires.ready c.requires.level
    c.last_limit-start.ensures c.in_ok-asserting.ensures.topped
    (reverse c.minimize.new.analysis.chain.items) c.in_ok-asserting.ensures.refuted))

pub returns-clause-is_new : goal.returns-clause-is_new
returns-clause-is_new c =
    let P : Clause → Type 0 = IsNew c.args.self.now.clauses in
    subst P (sym c.in_ok-entry.ensures.clause) (learned-is-new c.args.self.now
    c.last_limit-start.result c.in_ok-place.place c.in_ok-asserting.asserting.clause
    c.in_ok-asserting.asserting.highest c.requires.ready c.requires.level
    c.last_limit-start.ensures c.in_ok-asserting.ensures.topped)

pub returns-clause-taught : goal.returns-clause-taught
returns-clause-taught c =
    let (level, back) = c.back.ensures.back in (
      level,
      taught-lesson c.args.self.now c.last_limit-start.result c.in_ok-place.place
          c.in_ok-asserting.asserting.clause c.in_ok-asserting.asserting.highest c.requires.ready
          c.requires.level c.last_limit-start.ensures c.in_ok-asserting.ensures.topped
          c.back.new.self c.back.ensures.ready level back c.imply.new.self
          c.in_ok-entry.entry.clause c.opposite_at-top.result c.false_at-second.result
          c.in_ok-entry.ensures.clause c.opposite_at-top.ensures c.false_at-second.ensures
          c.in_ok-imply.ensures.goes_on.limits (ap (λ q. q.literals) c.in_ok-imply.ensures.pushed),
    )
