use Rattle.std.proofs.Common.{◌≡◌, ◌∙◌, ap, arith}
use Rattle.std.specs.FinSet.{contains}
use Rattle.hy_lasso.proofs.Periods.{picked-at}
use Rattle.hy_lasso.proofs.Bodies.{front-push, row-atom}
use Rattle.hy_lasso.proofs.meaning.Picked.atom_row.Goals as goal

pub loop-i-preserved : goal.loop-i-preserved
loop-i-preserved c =
    rw c.in_ok-push.ensures.added
    (front-push _ _ _ _ _ c.loop-i.invariant (c.has.ensures ∙ ap (λ letter. contains letter c.args.a.name) c.at.ensures))

pub returns : goal.returns
returns c =
    let e : c.loop-i.i ≡ c.args.self.now.places = omega (arith, c.loop-i-test.false) in
    row-atom _ _ _ _ _ _ _ c.args.self.now.some c.args.self.now.repeats (picked-at _ _ _ _ c.requires c.at-lasso.ensures) (rw e at c.loop-i.invariant)
