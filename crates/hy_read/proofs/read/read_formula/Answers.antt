use Rattle.hy_read.proofs.Reading.{last_is_only}
use Rattle.hy_read.proofs.read.read_formula.Goals as goal

pub returns-clause-answer : goal.returns-clause-answer
returns-clause-answer c =
    last_is_only c.args.quantifiers c.args.names.now c.read_text.new.names c.args.bytes.now c.in_ok-formulas.formulas c.pop.new.self c.in-Some.formula c.in-Some.ensures.taken c.in_ok-formulas.ensures.answer
