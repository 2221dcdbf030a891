use Rattle.std.proofs.Common.{◌≡◌, true, false, [], refl, arith}
use Rattle.hy_text.specs.Cuts.{cut_at}
use Rattle.cert_text.proofs.MembersRead.{one_read, all_read}
use Rattle.cert_text.proofs.NumbersRead.{ascend_more, ascend_all, ascend_bad, ascend_below}
use Rattle.cert_text.proofs.members.read_ascending.Goals as goal

pub returns-in_default-number_from-clause-says : goal.returns-in_default-number_from-clause-says
returns-in_default-number_from-clause-says c = (
  λ (yes : false ≡ true). absurd (cc),
  λ says. absurd
      (ascend_bad c.args.text.now (cut_at 44 c.loop-piece.left.now) (cut_at 44 c.in-Some.rest.now)
      c.in-Some.piece.now c.loop-piece.least c.loop-piece.invariant.left c.in-Some.ensures.pieces
      (ascend_below c.loop-piece.least c.in-Some.piece.now (cut_at 44 c.in-Some.rest.now)
      c.in_default-number_from.ensures.says) says),
)

pub loop-piece-preserved : goal.loop-piece-preserved
loop-piece-preserved c = record {
  left =
      ascend_more (cut_at 44 c.args.text.now) (cut_at 44 c.loop-piece.left.now)
      (cut_at 44 c.in-Some.rest.now) c.in-Some.piece.now c.loop-piece.least
      c.in-Some-number_from.n c.loop-piece.invariant.left c.in-Some.ensures.pieces
      c.in-Some-number_from.ensures.says.0 c.in-Some-number_from.ensures.says.1;
  least = omega (arith, c.in-Some-number_from.ensures.short);
  read =
      one_read (cut_at 44 c.args.text.now) (cut_at 44 c.loop-piece.left.now)
      (cut_at 44 c.in-Some.rest.now) c.in-Some.piece.now c.loop-piece.list c.push.new.self
      c.in-Some-number_from.n c.loop-piece.invariant.read c.in-Some.ensures.pieces
      c.in-Some-number_from.ensures.says.0 c.in_ok-push.ensures.added;
}

pub returns-in_default-number_from-2-clause-says :
    goal.returns-in_default-number_from-2-clause-says
returns-in_default-number_from-2-clause-says c = (
  λ (yes : false ≡ true). absurd (cc),
  λ says. absurd
      (ascend_bad c.args.text.now (cut_at 44 c.loop-piece.left.now) [] c.loop-piece.left.now
      c.loop-piece.least c.loop-piece.invariant.left c.in_default.ensures.pieces
      (ascend_below c.loop-piece.least c.loop-piece.left.now []
      c.in_default-number_from-2.ensures.says) says),
)

pub returns-clause-says : goal.returns-clause-says
returns-clause-says c = (
  λ _. ascend_all c.args.text.now (cut_at 44 c.loop-piece.left.now) c.loop-piece.left.now
      c.loop-piece.least c.in-Some-number_from-2.n c.loop-piece.invariant.left
      c.in_default.ensures.pieces c.in-Some-number_from-2.ensures.says.0
      c.in-Some-number_from-2.ensures.says.1,
  λ _. refl,
)

-- all words are read, and ascend
pub returns-clause-numbers : goal.returns-clause-numbers
returns-clause-numbers c _ =
    let read =
    one_read (cut_at 44 c.args.text.now) (cut_at 44 c.loop-piece.left.now) []
    c.loop-piece.left.now c.loop-piece.list c.push-2.new.self c.in-Some-number_from-2.n
    c.loop-piece.invariant.read c.in_default.ensures.pieces
    c.in-Some-number_from-2.ensures.says.0 c.in_ok-push-2.ensures.added in
    all_read c.args.text.now c.push-2.new.self read
    (ascend_all c.args.text.now (cut_at 44 c.loop-piece.left.now) c.loop-piece.left.now
    c.loop-piece.least c.in-Some-number_from-2.n c.loop-piece.invariant.left
    c.in_default.ensures.pieces c.in-Some-number_from-2.ensures.says.0
    c.in-Some-number_from-2.ensures.says.1)
