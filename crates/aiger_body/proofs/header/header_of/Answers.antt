use Rattle.std.proofs.Common.{◌∙◌, ◌++◌, take, sym, ap, subst, rules, Option}
use Rattle.std.specs.Prelude.{IfSome}
use Rattle.aiger_body.specs.declared.header.Header.{Header}
use Rattle.aiger_body.specs.Texts.{numbers_of}
use Rattle.aiger_body.specs.Answers.{IsShort}
use Rattle.aiger_body.proofs.Headers.{header_said, short_of}
use Rattle.aiger_body.proofs.header.header_of.Goals as goal

pub returns-clause-said : goal.returns-clause-said
returns-clause-said c =
    let said = sym c.in-Some.is ∙ c.form_of.ensures in
    let row = c.as_slice.ensures ∙ c.in_ok-read_numbers.ensures ∙ ap (λ r. r ++ take 10 (numbers_of c.split_at.result.1.now)) c.new-row.ensures in
    c.header_with.ensures
    ∙ header_said c.args.line.now c.split_at.result.0.now c.split_at.result.1.now c.as_slice.result.now c.min.result c.in-Some.binary (search rules) c.split_at.ensures.front c.split_at.ensures.back said row

pub returns-clause-short : goal.returns-clause-short
returns-clause-short c = let P = λ (o : Option Header). IfSome o IsShort in subst P (sym (returns-clause-said c)) (short_of c.args.line.now)
