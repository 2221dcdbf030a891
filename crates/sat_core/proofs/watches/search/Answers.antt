use Rattle.std.proofs.Common.{◌≡◌, ◌+◌, inl, inr, List, sym, subst, ap, ◌∙◌, take, ◌++◌, ◌∷◌, []}
use Rattle.std.specs.Prelude.{ℤ}
use Rattle.std.proofs.lemmas.List.{take_more, take_all}
use Rattle.sat_core.specs.Watches.{AllFalseBut}
use Rattle.sat_core.proofs.Covering.{front-more}
use Rattle.sat_core.proofs.watches.search.Goals as goal
use Rattle.sat_core.proofs.watches.search.Goals.{else-not-is-via-then-not-is+else-not-is_false, else-not-is-via-else-not-is}

pub loop-l-preserved : goal.loop-l-preserved
loop-l-preserved c =
    let more : take (c.loop-l.l-index + 1) c.args.part.now ≡ take c.loop-l.l-index
    c.args.part.now ++ c.l-item.result ∷ [] =
    take_more c.args.part.now c.loop-l.l-index c.l-item.result c.loop-l-test.true ∙
    ap (λ z. take c.loop-l.l-index c.args.part.now ++ z ∷ []) (sym c.l-item.is) in
    let P : List ℤ → Type 0 = λ d. AllFalseBut c.args.partial.now.literals d c.args.other in
    subst P (sym more) (front-more c.args.partial.now.literals
    (take c.loop-l.l-index c.args.part.now) c.l-item.result c.args.other c.loop-l.invariant
    (elim c.else-not-is.branch [
      | else-not-is-via-then-not-is+else-not-is_false w ↦
          inr (w.is_false.ensures.0 w.if-not-is_false.false)
      | else-not-is-via-else-not-is w ↦ inl (c.is.ensures.0 w.if-not-is.false)
    ]))

pub returns : goal.returns
returns c =
    let P : List ℤ → Type 0 = λ d. AllFalseBut c.args.partial.now.literals d c.args.other in
    subst P (take_all c.loop-l.l-index c.args.part.now c.loop-l-test.false) c.loop-l.invariant
