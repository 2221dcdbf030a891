use Rattle.std.proofs.Common.{◌≡◌, true, false, [], refl, arith}
use Rattle.hy_text.specs.Cuts.{cut_at}
use Rattle.cert_text.proofs.NumbersRead.{ascend_more, ascend_all, ascend_bad, ascend_below}
use Rattle.cert_text.proofs.numbers.are_ascending.Goals as goal

pub returns-in_default-number_from : goal.returns-in_default-number_from
returns-in_default-number_from c = (
  λ (yes : false ≡ true). absurd (cc),
  λ says. absurd
      (ascend_bad c.args.text.now (cut_at 44 c.loop-piece.left.now) (cut_at 44 c.in-Some.rest.now)
      c.in-Some.piece.now c.loop-piece.least c.loop-piece.invariant.left c.in-Some.ensures.pieces
      (ascend_below c.loop-piece.least c.in-Some.piece.now (cut_at 44 c.in-Some.rest.now)
      c.in_default-number_from.ensures.says) says),
)

pub loop-piece-preserved : goal.loop-piece-preserved
loop-piece-preserved c = record {
  left =
      ascend_more (cut_at 44 c.args.text.now) (cut_at 44 c.loop-piece.left.now)
      (cut_at 44 c.in-Some.rest.now) c.in-Some.piece.now c.loop-piece.least
      c.in-Some-number_from.n c.loop-piece.invariant.left c.in-Some.ensures.pieces
      c.in-Some-number_from.ensures.says.0 c.in-Some-number_from.ensures.says.1;
  least = omega (arith, c.in-Some-number_from.ensures.short);
}

pub returns-in-Some-number_from-2 : goal.returns-in-Some-number_from-2
returns-in-Some-number_from-2 c = (
  λ _. ascend_all c.args.text.now (cut_at 44 c.loop-piece.left.now) c.loop-piece.left.now
      c.loop-piece.least c.in-Some-number_from-2.field-0 c.loop-piece.invariant.left
      c.in_default.ensures.pieces c.in-Some-number_from-2.ensures.says.0
      c.in-Some-number_from-2.ensures.says.1,
  λ _. refl,
)

pub returns-in-None : goal.returns-in-None
returns-in-None c = (
  λ (yes : false ≡ true). absurd (cc),
  λ says. absurd
      (ascend_bad c.args.text.now (cut_at 44 c.loop-piece.left.now) [] c.loop-piece.left.now
      c.loop-piece.least c.loop-piece.invariant.left c.in_default.ensures.pieces
      (ascend_below c.loop-piece.least c.loop-piece.left.now [] c.in-None.ensures.says) says),
)
