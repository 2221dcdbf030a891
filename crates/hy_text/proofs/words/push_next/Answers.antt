use Rattle.hy_text.specs.Sets.{printed_set}
use Rattle.hy_text.proofs.Fronts.{on_err, joint_front}
use Rattle.hy_text.proofs.words.push_next.Goals as goal

-- the byte before it
pub returns-in_err-push-clause-refused : goal.returns-in_err-push-clause-refused
returns-in_err-push-clause-refused c =
    on_err c.from_residual.result
    (joint_front 59 c.args.is_first c.args.out.now c.push.new.self (printed_set c.args.names.now c.args.letter.now)
    c.if-not-is_first.true c.in_err-push.ensures.refused)
