use Rattle.std.proofs.Common.{refl, sym, ◌∙◌, ap}
use Rattle.hy_formula.specs.Trees as tree
use Rattle.hy_formula.specs.Trees.{tree_of}
use Rattle.hy_formula.specs.Renamed.{renamed}
use Rattle.ltl_closure.specs.declared.node.Node.TheVariants.{And, Or}
use Rattle.ltl_closure.specs.Jobs.{variable_in}
use Rattle.ltl_closure.proofs.Visiting.{full-visited, next-arm, and-arm, or-arm, implies-arm, until-arm, release-arm, finally-arm, globally-arm, weak-arm, iff-again, iff-arm}
use Rattle.ltl_closure.proofs.numbering.Numbering.+visit.Goals as goal

pub returns-then-self-clause-visited : goal.returns-then-self-clause-visited
returns-then-self-clause-visited t c = full-visited c.args.self.now c.if-self.true _ c.args.other _

pub returns-in-Some-clause-visited : goal.returns-in-Some-clause-visited
returns-in-Some-clause-visited t c =
    iff-again c.args.self.now c.either_both.new.self c.args.other c.operands-known.result c.operands-known.ensures c.in-Some.sides c.in-Some.ensures c.either_both.result
    c.either_both.ensures.visited c.args.positive _ _ _ (ap (λ b. renamed (variable_in c.args.map.now) (tree_of b)) c.in-Iff.is)

pub returns-in_ok-g-in-Next-clause-visited : goal.returns-in_ok-g-in-Next-clause-visited
returns-in_ok-g-in-Next-clause-visited t c =
    next-arm c.args.self.now _ c.args.other c.operands-known.result c.operands-known.ensures _ c.insert-in-Next.result _ c.in_ok-g-in-Next.g c.insert-in-Next.ensures.inserted
    c.args.positive _ _ (ap (λ b. renamed (variable_in c.args.map.now) (tree_of b)) c.in-Next.is ∙ ap (λ b. tree.next (renamed (variable_in c.args.map.now) (tree_of b))) (sym c.deref-in-Next.ensures)) c.in_ok-g-in-Next.ensures.visited c.next.ensures

pub returns-in_ok-g-in-Finally-clause-visited : goal.returns-in_ok-g-in-Finally-clause-visited
returns-in_ok-g-in-Finally-clause-visited t c =
    finally-arm c.args.self.now _ c.args.other c.operands-known.result c.operands-known.ensures c.until.result c.insert-in-Finally-2.result _ _ _ _ c.insert-in-Finally.ensures.keeps c.visit-in-Finally.ensures.keeps c.insert-in-Finally-2.ensures.inserted
    c.args.positive _ _ (ap (λ b. renamed (variable_in c.args.map.now) (tree_of b)) c.in-Finally.is ∙ ap (λ b. tree.finally (renamed (variable_in c.args.map.now) (tree_of b))) (sym c.deref-in-Finally.ensures)) c.constant-in-Finally.result c.in_ok-before-in-Finally.ensures.inserted c.constant-in-Finally.ensures
    c.in_ok-g-in-Finally.ensures.visited c.until.ensures

pub returns-in_ok-g-in-Globally-clause-visited : goal.returns-in_ok-g-in-Globally-clause-visited
returns-in_ok-g-in-Globally-clause-visited t c =
    globally-arm c.args.self.now _ c.args.other c.operands-known.result c.operands-known.ensures c.until-in-Globally.result c.insert-in-Globally-2.result _ _ _ _ c.insert-in-Globally.ensures.keeps c.visit-in-Globally.ensures.keeps c.insert-in-Globally-2.ensures.inserted
    c.args.positive _ _ (ap (λ b. renamed (variable_in c.args.map.now) (tree_of b)) c.in-Globally.is ∙ ap (λ b. tree.globally (renamed (variable_in c.args.map.now) (tree_of b))) (sym c.deref-in-Globally.ensures)) c.constant-in-Globally.result c.in_ok-before-in-Globally.ensures.inserted c.constant-in-Globally.ensures
    c.in_ok-g-in-Globally.ensures.visited c.until-in-Globally.ensures

pub returns-in_ok-y-in-And-clause-visited : goal.returns-in_ok-y-in-And-clause-visited
returns-in_ok-y-in-And-clause-visited t c =
    and-arm c.args.self.now _ c.args.other c.operands-known.result c.operands-known.ensures c.conjunction.result c.insert-in-And.result _ _ _ _ c.visit-in-And.ensures.keeps c.visit-in-And-2.ensures.keeps c.insert-in-And.ensures.inserted
    c.args.positive _ _ _
    (ap (λ b. renamed (variable_in c.args.map.now) (tree_of b)) c.in-And.is
    ∙ ap (λ b. tree.and (renamed (variable_in c.args.map.now) (tree_of b)) (renamed (variable_in c.args.map.now) (tree_of c.in-And.g.value))) (sym c.deref-in-And.ensures)
    ∙ ap (λ b. tree.and (renamed (variable_in c.args.map.now) (tree_of c.deref-in-And.result.now)) (renamed (variable_in c.args.map.now) (tree_of b))) (sym c.deref-in-And-2.ensures))
    c.in_ok-x-in-And.ensures.visited c.in_ok-y-in-And.ensures.visited c.conjunction.ensures

pub returns-in_ok-y-in-Or-clause-visited : goal.returns-in_ok-y-in-Or-clause-visited
returns-in_ok-y-in-Or-clause-visited t c =
    or-arm c.args.self.now _ c.args.other c.operands-known.result c.operands-known.ensures c.conjunction-in-Or.result c.insert-in-Or.result _ _ _ _ c.visit-in-Or.ensures.keeps c.visit-in-Or-2.ensures.keeps c.insert-in-Or.ensures.inserted
    c.args.positive _ _ _
    (ap (λ b. renamed (variable_in c.args.map.now) (tree_of b)) c.in-Or.is
    ∙ ap (λ b. tree.or (renamed (variable_in c.args.map.now) (tree_of b)) (renamed (variable_in c.args.map.now) (tree_of c.in-Or.g.value))) (sym c.deref-in-Or.ensures)
    ∙ ap (λ b. tree.or (renamed (variable_in c.args.map.now) (tree_of c.deref-in-Or.result.now)) (renamed (variable_in c.args.map.now) (tree_of b))) (sym c.deref-in-Or-2.ensures))
    c.in_ok-x-in-Or.ensures.visited c.in_ok-y-in-Or.ensures.visited c.conjunction-in-Or.ensures

pub returns-in_ok-y-in-Implies-clause-visited : goal.returns-in_ok-y-in-Implies-clause-visited
returns-in_ok-y-in-Implies-clause-visited t c =
    implies-arm c.args.self.now _ c.args.other c.operands-known.result c.operands-known.ensures c.conjunction-in-Implies.result c.insert-in-Implies.result _ _ _ _ c.visit-in-Implies.ensures.keeps c.visit-in-Implies-2.ensures.keeps c.insert-in-Implies.ensures.inserted
    c.args.positive _ _ _
    (ap (λ b. renamed (variable_in c.args.map.now) (tree_of b)) c.in-Implies.is
    ∙ ap (λ b. tree.implies (renamed (variable_in c.args.map.now) (tree_of b)) (renamed (variable_in c.args.map.now) (tree_of c.in-Implies.g.value))) (sym c.deref-in-Implies.ensures)
    ∙ ap (λ b. tree.implies (renamed (variable_in c.args.map.now) (tree_of c.deref-in-Implies.result.now)) (renamed (variable_in c.args.map.now) (tree_of b))) (sym c.deref-in-Implies-2.ensures))
    c.in_ok-x-in-Implies.ensures.visited c.in_ok-y-in-Implies.ensures.visited c.conjunction-in-Implies.ensures

pub returns-in_ok-y-in-Until-clause-visited : goal.returns-in_ok-y-in-Until-clause-visited
returns-in_ok-y-in-Until-clause-visited t c =
    until-arm c.args.self.now _ c.args.other c.operands-known.result c.operands-known.ensures c.until-in-Until.result c.insert-in-Until.result _ _ _ _ c.visit-in-Until.ensures.keeps c.visit-in-Until-2.ensures.keeps c.insert-in-Until.ensures.inserted
    c.args.positive _ _ _
    (ap (λ b. renamed (variable_in c.args.map.now) (tree_of b)) c.in-Until.is
    ∙ ap (λ b. tree.until (renamed (variable_in c.args.map.now) (tree_of b)) (renamed (variable_in c.args.map.now) (tree_of c.in-Until.g.value))) (sym c.deref-in-Until.ensures)
    ∙ ap (λ b. tree.until (renamed (variable_in c.args.map.now) (tree_of c.deref-in-Until.result.now)) (renamed (variable_in c.args.map.now) (tree_of b))) (sym c.deref-in-Until-2.ensures))
    c.in_ok-x-in-Until.ensures.visited c.in_ok-y-in-Until.ensures.visited c.until-in-Until.ensures

pub returns-in_ok-y-in-Release-clause-visited : goal.returns-in_ok-y-in-Release-clause-visited
returns-in_ok-y-in-Release-clause-visited t c =
    release-arm c.args.self.now _ c.args.other c.operands-known.result c.operands-known.ensures c.until-in-Release.result c.insert-in-Release.result _ _ _ _ c.visit-in-Release.ensures.keeps c.visit-in-Release-2.ensures.keeps c.insert-in-Release.ensures.inserted
    c.args.positive _ _ _
    (ap (λ b. renamed (variable_in c.args.map.now) (tree_of b)) c.in-Release.is
    ∙ ap (λ b. tree.release (renamed (variable_in c.args.map.now) (tree_of b)) (renamed (variable_in c.args.map.now) (tree_of c.in-Release.g.value))) (sym c.deref-in-Release.ensures)
    ∙ ap (λ b. tree.release (renamed (variable_in c.args.map.now) (tree_of c.deref-in-Release.result.now)) (renamed (variable_in c.args.map.now) (tree_of b))) (sym c.deref-in-Release-2.ensures))
    c.in_ok-x-in-Release.ensures.visited c.in_ok-y-in-Release.ensures.visited c.until-in-Release.ensures

pub returns-in_ok-either-in-Weak-clause-visited : goal.returns-in_ok-either-in-Weak-clause-visited
returns-in_ok-either-in-Weak-clause-visited t c =
    weak-arm c.args.self.now _ _ _ _ c.args.other c.operands-known.result c.operands-inner.result c.operands-known.ensures c.operands-inner.ensures _ _ _ c.conjunction-in-Weak.result c.until-in-Weak.result c.insert-in-Weak-2.result
    c.visit-in-Weak.ensures.keeps c.visit-in-Weak-2.ensures.keeps c.insert-in-Weak.ensures.keeps c.in_ok-either-in-Weak.ensures.inserted c.insert-in-Weak-2.ensures.inserted
    c.args.positive _ _ _
    (ap (λ b. renamed (variable_in c.args.map.now) (tree_of b)) c.in-Weak.is
    ∙ ap (λ b. tree.weak (renamed (variable_in c.args.map.now) (tree_of b)) (renamed (variable_in c.args.map.now) (tree_of c.in-Weak.g.value))) (sym c.deref-in-Weak-2.ensures)
    ∙ ap (λ b. tree.weak (renamed (variable_in c.args.map.now) (tree_of c.deref-in-Weak-2.result.now)) (renamed (variable_in c.args.map.now) (tree_of b))) (sym c.deref-in-Weak.ensures))
    c.in_ok-y-in-Weak.ensures.visited c.in_ok-x-in-Weak.ensures.visited c.conjunction-in-Weak.ensures c.until-in-Weak.ensures

pub returns-in_ok-right-in-Iff-clause-visited : goal.returns-in_ok-right-in-Iff-clause-visited
returns-in_ok-right-in-Iff-clause-visited t c =
    iff-arm c.args.self.now _ _ _ _ _ _ _ c.in_ok-x-in-Iff.x c.in_ok-y-in-Iff.y c.in_ok-left-in-Iff.left c.in_ok-x-in-Iff-2.x c.in_ok-y-in-Iff-2.y c.in_ok-right-in-Iff.right
    (And c.in_ok-x-in-Iff.x c.in_ok-y-in-Iff.y) (And c.in_ok-x-in-Iff-2.x c.in_ok-y-in-Iff-2.y) (Or c.in_ok-left-in-Iff.left c.in_ok-right-in-Iff.right) c.args.other c.insert-in-Iff-3.result
    c.visit-in-Iff-2.ensures.keeps c.insert-in-Iff.ensures.keeps c.visit-in-Iff-3.ensures.keeps c.visit-in-Iff-4.ensures.keeps c.insert-in-Iff-2.ensures.keeps
    c.in_ok-left-in-Iff.ensures.inserted c.in_ok-right-in-Iff.ensures.inserted c.insert-in-Iff-3.ensures.inserted refl refl refl
    c.args.positive _ _ _ _ _
    (ap (λ b. renamed (variable_in c.args.map.now) (tree_of b)) c.in-Iff.is
    ∙ ap (λ b. tree.iff (renamed (variable_in c.args.map.now) (tree_of b)) (renamed (variable_in c.args.map.now) (tree_of c.in-Iff.g.value))) (sym c.deref-in-Iff.ensures)
    ∙ ap (λ b. tree.iff (renamed (variable_in c.args.map.now) (tree_of c.deref-in-Iff.result.now)) (renamed (variable_in c.args.map.now) (tree_of b))) (sym c.deref-in-Iff-2.ensures))
    (ap (λ b. renamed (variable_in c.args.map.now) (tree_of b)) (c.deref-in-Iff-3.ensures ∙ sym c.deref-in-Iff.ensures))
    (ap (λ b. renamed (variable_in c.args.map.now) (tree_of b)) (c.deref-in-Iff-4.ensures ∙ sym c.deref-in-Iff-2.ensures))
    c.in_ok-x-in-Iff.ensures.visited c.in_ok-y-in-Iff.ensures.visited c.in_ok-x-in-Iff-2.ensures.visited c.in_ok-y-in-Iff-2.ensures.visited
