use Rattle.std.proofs.Common.{◌≡◌, ◌+◌, suc, length, take, sym, ap, ◌∙◌, arith}
use Rattle.std.specs.Borrow.{Bor}
use Rattle.std.proofs.lemmas.List.{length-map, take_all}
use Rattle.hy_finite.specs.Traces.{Trace, of_two, judged}
use Rattle.tuple_walk.specs.Alone.{left_of}
use Rattle.tuple_walk.proofs.Following.{left-there, judged-first, judged-more}
use Rattle.tuple_walk.proofs.walk.Walk.judged.Goals as goal

pub loop-i-init : goal.loop-i-init
loop-i-init g c = judged-first c.args.self.now.lengths c.args.rests.now _ c.requires

pub loop-i-preserved : goal.loop-i-preserved
loop-i-preserved g c =
    let lengths = c.args.self.now.lengths in
    let lefts = left_of c.args.rests.now in
    let i = c.loop-i.i in
    let one : suc i ≡ i + 1 = omega arith in
    let r = c.index-rests-i.result in
    c.of_two-length.ensures
    ∙ ap (λ (q : Bor Trace). of_two lengths c.loop-i.length (length q.now))
    (sym c.index-rests-i.is)
    ∙ ap (λ k. of_two lengths k (length r.now)) c.loop-i.invariant
    ∙ sym (judged-more lengths lefts i r.now (omega arith)
    (left-there c.args.rests.now i r (omega arith) c.index-rests-i.is))
    ∙ ap (λ k. judged lengths (take k lefts)) one

pub returns : goal.returns
returns g c =
    let lefts = left_of c.args.rests.now in
    c.loop-i.invariant
    ∙ ap (judged c.args.self.now.lengths) (take_all c.loop-i.i lefts
    (omega (arith, length-map c.args.rests.now (λ (q : Bor Trace). q.now))))
