use Rattle.std.proofs.Common.{◌≡◌, ap, sym, ◌∙◌, ◌+◌, ◌++◌, ◌∷◌, [], List, subst, zero-add, ◌<◌, length}
use Rattle.hy_bits.specs.Letter.{Letter}
use Rattle.hy_formula.specs.Lassos.{Lasso}
use Rattle.hy_lasso.specs.Words.{letter_at}
use Rattle.ea_reduce.specs.Joints.{lasso_of, lassos_from, AreShortened}
use Rattle.ea_reduce.proofs.Same.{shortened-more, lassos-more, lasso-parts}
use Rattle.ea_reduce.proofs.joint.back.Goals as goal

pub loop-v-preserved : goal.loop-v-preserved
loop-v-preserved c =
    let joint = c.args.joint.now in
    let v = c.loop-v.v in
    let made : c.in-Some.lasso ≡ lasso_of joint v = lasso-parts c.in-Some.lasso _ _ (c.in-Some.ensures.made.0 ∙ c.in_ok-stem.ensures) (c.in-Some.ensures.made.1 ∙ c.in_ok-cycle.ensures) in
    let tuple : lassos_from joint 0 (v + 1) ≡ lassos_from joint 0 v ++ lasso_of joint v ∷ [] =
    lassos-more joint 0 v ∙ ap (λ j. lassos_from joint 0 v ++ lasso_of joint j ∷ []) (zero-add v)
    in
    let P : List (Lasso Letter) → Type 0 = λ t. AreShortened t c.push.new.self in
    let Q : List (Lasso Letter) → Type 0 = λ t. AreShortened (lassos_from joint 0 v ++ lasso_of joint v ∷ []) t in
    subst P (sym tuple) (subst Q (sym c.in_ok-push.ensures.added)
    (shortened-more (lassos_from joint 0 v) c.loop-v.list (lasso_of joint v) c.shorten-lasso.result c.loop-v.invariant
    (subst (λ xs. 0 < length xs) c.cycle.ensures.letters c.cycle.ensures.some) (λ i. c.shorten-lasso.ensures.word i ∙ ap (λ l. letter_at l i) made) c.shorten-lasso.ensures.normal))
