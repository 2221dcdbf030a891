use Rattle.std.proofs.Common.{arith, rules, refl, sym, append-nil, ◌∙◌}
use Rattle.std.proofs.lemmas.Grind.{common_steps}
use Rattle.hy_base.specs.Pieces.{joined}
use Rattle.hy_base.specs.Sink.{FailsToGive, nothing}
use Rattle.hy_base.proofs.Pieces.{joined_more, pieces_less}
use Rattle.hy_base.proofs.Writings.{took_on, took_same, given_on}
use Rattle.hy_base.proofs.writing.write_pieces.Goals as goal

pub returns-in_err-write_all-clause-refused : goal.returns-in_err-write_all-clause-refused
returns-in_err-write_all-clause-refused g c =
    let fails = c.in_err-write_all.ensures.refused in
    let before = c.loop-piece.invariant.gives in
    let refused : FailsToGive g.O.Sink c.args.sink.now c.write_all.new.sink (joined c.args.pieces.now) = record {
      front = _;
      last = fails.last;
      less = pieces_less fails.front c.args.pieces.now c.loop-piece.piece-index _ (omega arith) fails.less;
      taken = took_on g.O.Sink _ _ _ _ _ before.taken fails.taken;
      refused = fails.refused;
      counted = grind (arith, common_steps, fails.counted, before.kept);
      given = λ t. given_on _ _ _ _ _ (before.given t) (fails.given (c.loop-piece.invariant.keeps.tells t));
    } in
    search rules

pub loop-piece-init : goal.loop-piece-init
loop-piece-init g c = record {
  keeps = record { tells = λ t. t; faults = omega arith };
  gives = record { taken = nothing; kept = refl; given = λ t. sym (append-nil _) };
}

pub loop-piece-preserved : goal.loop-piece-preserved
loop-piece-preserved g c =
    let gives = c.in_ok-write_all.ensures.given in
    let before = c.loop-piece.invariant.gives in
    let more = joined_more c.args.pieces.now c.loop-piece.piece-index _ (omega arith) in
    record {
      keeps = record { tells = grind (arith, common_steps); faults = grind (arith, common_steps) };
      gives = record {
        taken = took_same g.O.Sink _ _ _ _ (took_on g.O.Sink _ _ _ _ _ before.taken gives.taken) (sym more);
        kept = gives.kept ∙ before.kept;
        given = λ t. rw more (given_on _ _ _ _ _ (before.given t) (gives.given (c.loop-piece.invariant.keeps.tells t)));
      };
    }
