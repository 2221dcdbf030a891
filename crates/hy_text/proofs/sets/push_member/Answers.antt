use Rattle.hy_text.specs.Names.{spelled}
use Rattle.hy_text.proofs.Fronts.{on_err, joint_front}
use Rattle.hy_text.proofs.sets.push_member.Goals as goal

-- the byte before it
pub returns-in_err-push-clause-refused : goal.returns-in_err-push-clause-refused
returns-in_err-push-clause-refused c =
    on_err c.from_residual.result
    (joint_front 44 c.args.is_first c.args.out.now c.push.new.self (spelled c.args.name.now)
    c.if-not-is_first.true c.in_err-push.ensures.refused)
