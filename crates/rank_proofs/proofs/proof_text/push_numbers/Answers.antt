use Rattle.rank_proofs.proofs.Joining.{joined-all}
use Rattle.rank_proofs.proofs.proof_text.push_numbers.Goals as goal

pub returns : goal.returns
returns c =
    joined-all c.args.text.now c.push_number.new.text c.loop-number.text c.in-Some.first.now c.in-Some.others.now c.args.numbers.now c.loop-number.number-index
    c.in-Some.ensures.cases.0 c.in_ok-push_number.ensures c.loop-number.invariant c.loop-number-test.false
