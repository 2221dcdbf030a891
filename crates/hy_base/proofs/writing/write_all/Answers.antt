use Rattle.std.proofs.Common.{arith, refl, sym, append-nil, ◌∙◌}
use Rattle.std.proofs.lemmas.Grind.{common_steps}
use Rattle.hy_base.specs.Sink.{nothing}
use Rattle.hy_base.proofs.Pieces.{front_more}
use Rattle.hy_base.proofs.Writings.{took_more, given_on}
use Rattle.hy_base.proofs.writing.write_all.Goals as goal

pub loop-sent-init : goal.loop-sent-init
loop-sent-init g c = record {
  within = omega arith;
  keeps = record { tells = λ t. t; faults = omega arith };
  gives = record { taken = nothing; kept = refl; given = λ t. sym (append-nil _) };
}

pub loop-sent-preserved : goal.loop-sent-preserved
loop-sent-preserved g c =
    let more = front_more c.args.bytes.now c.loop-sent.sent c.in_ok-sent.field-0 in
    record {
      within = grind (arith, common_steps);
      keeps = record { tells = grind (arith, common_steps); faults = grind (arith, common_steps) };
      gives = record {
        taken = took_more g.O.Sink _ _ _ _ _ _ c.loop-sent.invariant.gives.taken c.in_ok-sent.ensures.called more;
        kept = c.in_ok-sent.ensures.kept ∙ c.loop-sent.invariant.gives.kept;
        given = λ t. rw more (given_on _ _ _ _ _ (c.loop-sent.invariant.gives.given t)
            (c.in_ok-sent.ensures.given (c.loop-sent.invariant.keeps.tells t)));
      };
    }
