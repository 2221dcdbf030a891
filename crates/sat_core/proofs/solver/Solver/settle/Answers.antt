use Rattle.std.proofs.Common.{◌-◌, [], ◌∷◌, ◌++◌, refl, ◌∙◌, ap, arith}
use Rattle.sat_core.proofs.Propagating.{no-more-than}
use Rattle.sat_core.proofs.Shortening.{minimizing-resolves, minimizing-keeps}
use Rattle.sat_core.proofs.solver.Solver.settle.Goals as goal

pub resolve-requires-clause-implied : goal.resolve-requires-clause-implied
resolve-requires-clause-implied c = c.in_ok-removable.ensures c.if-removable.true

pub returns-then-removable : goal.returns-then-removable
returns-then-removable c start p is =
    minimizing-resolves c.args.self.now.clauses c.args.self.now.partial.literals start p c.args.q
    c.args.analysis.now c.resolve.new.analysis c.args.asserting.now c.in_ok-resolve.ensures.is
    c.in_ok-resolve.ensures.refuting is

pub returns : goal.returns
returns c start p is =
    minimizing-keeps c.args.self.now.clauses c.args.self.now.partial.literals start p c.args.q
    c.args.analysis.now
    (record c.args.analysis.now {
      implied = c.is_removable.new.implied;
      unsettled = c.args.analysis.now.unsettled - 1;
    })
    c.args.asserting.now c.keep.new.self c.requires.seen
    refl refl refl refl
    (c.in_ok-keep.ensures.clause ∙ ap (λ z. c.args.asserting.now.clause ++ z ∷ [])
    c.opposite_at.ensures) c.in_ok-keep.ensures.highest is

pub keep-requires : goal.keep-requires
keep-requires c = omega (
  arith,
  c.requires.inside,
  no-more-than c.args.self.now c.requires.ready,
  c.requires.ready.few_variables,
)
