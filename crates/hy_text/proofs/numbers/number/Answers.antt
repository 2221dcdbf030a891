use Rattle.std.proofs.Common.{◌<◌, length, None, sym, arith}
use Rattle.std.proofs.lemmas.Bool.{eqb-true, eqb-false}
use Rattle.hy_text.proofs.Digits.{no_number, digits_said, said_small, number_answer}
use Rattle.hy_text.proofs.numbers.number.Goals as goal
use Rattle.hy_text.proofs.numbers.number.Goals.{then-is_empty-via-then-is_empty, then-is_empty-via-else-is_empty+then-word-gt10, then-is_empty-via-else-is_empty+else-word-gt10+then-leads_with_zero}

pub returns-then-is_empty-clause-said : goal.returns-then-is_empty-clause-said
returns-then-is_empty-clause-said c = no_number c.args.word.now (λ is. elim c.then-is_empty.branch [
  | then-is_empty-via-then-is_empty w ↦ omega (arith, is.some, eqb-true _ 0 (sym w.if-is_empty.ensures))
  | then-is_empty-via-else-is_empty+then-word-gt10 w ↦ omega (arith, is.short)
  | then-is_empty-via-else-is_empty+else-word-gt10+then-leads_with_zero w ↦
      let (long, zero_first) = w.leads_with_zero.ensures.0 w.if-leads_with_zero.true in
      is.lead long zero_first
])

pub returns-clause-said : goal.returns-clause-said
returns-clause-said c =
    let apart = eqb-false _ 0 (sym c.if-is_empty.ensures) in
    let some : 0 < length c.args.word.now = omega (arith, apart) in
    digits_said c.args.word.now c.digits.result (omega arith) some (λ lead. (cc (c.leads_with_zero.ensures.1 lead, c.if-leads_with_zero.false))) c.digits.ensures.none c.digits.ensures.some

pub returns-clause-short : goal.returns-clause-short
returns-clause-short c = said_small c.args.word.now c.digits.result (returns-clause-said c)

pub returns-then-is_empty-clause-says : goal.returns-then-is_empty-clause-says
returns-then-is_empty-clause-says c =
    number_answer c.args.word.now None (returns-then-is_empty-clause-said c)

pub returns-clause-says : goal.returns-clause-says
returns-clause-says c =
    number_answer c.args.word.now c.digits.result (returns-clause-said c)
