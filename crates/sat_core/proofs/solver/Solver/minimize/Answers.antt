use Rattle.std.proofs.Common.{◌≡◌, ◌<◌, ◌-◌, suc, ℕ, [], ◌∷◌, length, ◌∙◌, sym, ap, subst, arith}
use Rattle.std.proofs.lemmas.List.{length-reverse}
use Rattle.sat_core.specs.Analyses.{IsAnalysis}
use Rattle.sat_core.specs.Minimizing.{IsMinimizing}
use Rattle.sat_core.proofs.Shortening.{minimizing-starts, minimizing-goes, minimizing-skips, minimized}
use Rattle.sat_core.proofs.solver.Solver.minimize.Goals as goal

pub places-init : goal.places-init
places-init c =
    minimizing-starts c.args.self.now.clauses c.args.self.now.partial.literals c.args.start c.args.p
    c.args.analysis.now c.descend.new.self c.in_ok-asserting.asserting c.requires.point
    c.descend.ensures.seen c.descend.ensures.lower c.descend.ensures.unsettled
    c.descend.ensures.chain
    (c.in_ok-asserting.ensures.clause ∙ ap (λ z. z ∷ []) c.opposite_at.ensures)
    c.in_ok-asserting.ensures.highest

pub overflow_sub-q : goal.overflow_sub-q
overflow_sub-q c =
    omega (arith, minimizing-goes _ _ _ _ _ _ _ c.places.invariant c.places-test.true)

pub is_marked-requires : goal.is_marked-requires
is_marked-requires c = omega (
  arith,
  minimizing-goes _ _ _ _ _ _ _ c.places.invariant c.places-test.true,
  c.places.invariant.is.below_end,
  c.places.invariant.is.long,
)

pub settle-requires-clause-inside : goal.settle-requires-clause-inside
settle-requires-clause-inside c = omega (
  arith,
  minimizing-goes _ _ _ _ _ _ _ c.places.invariant c.places-test.true,
  c.places.invariant.is.below_end,
)

pub settle-requires-clause-seen : goal.settle-requires-clause-seen
settle-requires-clause-seen c = sym c.is_marked.ensures ∙ c.if-is_marked.true

pub settle-requires-clause-is : goal.settle-requires-clause-is
settle-requires-clause-is c =
    let some : 0 < c.places.q =
    minimizing-goes _ _ _ _ _ _ _ c.places.invariant c.places-test.true in
    let same : c.places.q ≡ suc (c.places.q - 1) = omega (arith, some) in
    let P : ℕ → Type 0 = λ k. IsAnalysis c.args.self.now.partial.literals 0 k
    c.places.analysis.seen (length c.places.analysis.lower.items) c.places.analysis.unsettled in
    subst P same c.places.invariant.is

pub places-preserved-in-Continue-branch-2 : goal.places-preserved-in-Continue-branch-2
places-preserved-in-Continue-branch-2 c =
    let some : 0 < c.places.q =
    minimizing-goes _ _ _ _ _ _ _ c.places.invariant c.places-test.true in
    let same : c.places.q ≡ suc (c.places.q - 1) = omega (arith, some) in
    let P : ℕ → Type 0 = λ k. IsMinimizing c.args.self.now.clauses
    c.args.self.now.partial.literals c.args.start c.args.p k c.places.analysis
    c.places.asserting in
    c.in_ok-settle.ensures c.args.start c.args.p (subst P same c.places.invariant)

pub places-preserved : goal.places-preserved
places-preserved c =
    let some : 0 < c.places.q =
    minimizing-goes _ _ _ _ _ _ _ c.places.invariant c.places-test.true in
    minimizing-skips c.args.self.now.clauses c.args.self.now.partial.literals c.args.start c.args.p
    c.places.q c.places.analysis c.places.asserting some
    (sym c.is_marked.ensures ∙ c.if-is_marked.false) c.places.invariant

pub rotate_right-requires : goal.rotate_right-requires
rotate_right-requires c =
    let (k, lt, e) = c.places.invariant.topped.top in
    omega (arith, lt, ap length c.reverse.ensures, length-reverse c.places.asserting.clause)

pub returns : goal.returns
returns c =
    minimized c.args.self.now.clauses c.args.self.now.partial.literals c.args.start c.args.p
    c.places.q c.places.analysis c.places.asserting c.reverse.new.self c.rotate_right.new.self
    (length c.reverse.new.self - 1) c.reverse.ensures c.rotate_right.ensures
    (omega (arith, c.places-test.false)) c.places.invariant

pub places-smaller : goal.places-smaller
places-smaller c =
    omega (arith, minimizing-goes _ _ _ _ _ _ _ c.places.invariant c.places-test.true)
