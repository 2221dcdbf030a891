use Rattle.std.proofs.Common.{sym, ap, ◌∙◌, Err, add-one}
use Rattle.std.proofs.lemmas.Result.{err_from_is_err_and}
use Rattle.hy_formula.specs.Formulas.{plain_formulas}
use Rattle.hy_read.proofs.Reading.{survey_refused, formulas_of, count_refused}
use Rattle.hy_read.proofs.read.read_text.Goals as goal

pub returns-in_err-counts-clause-answer : goal.returns-in_err-counts-clause-answer
returns-in_err-counts-clause-answer c =
    let p = err_from_is_err_and c.from_residual.result c.from_residual.ensures.1 in
    rw (p.1, p.2)
    (survey_refused plain_formulas c.args.many c.args.quantifiers c.args.names.now c.args.names.now c.args.bytes.now c.in_err-counts.field-0.0 (c.in_err-counts.ensures c.args.quantifiers c.args.names.now))

pub returns-in_err-judge_counts-clause-answer : goal.returns-in_err-judge_counts-clause-answer
returns-in_err-judge_counts-clause-answer c =
    let p = err_from_is_err_and c.from_residual-in_err-judge_counts.result c.from_residual-in_err-judge_counts.ensures.1 in
    let sound = c.in_ok-counts.ensures c.args.quantifiers c.args.names.now in
    let f = formulas_of c.args.many c.args.names.now c.args.bytes.now c.in_ok-counts.counts sound in
    rw (p.1, p.2)
    (count_refused c.args.many c.args.quantifiers c.args.names.now c.args.bytes.now c.in_ok-counts.counts sound f plain_formulas c.args.names.now c.in_err-judge_counts.field-0.0 c.in_err-judge_counts.ensures)

pub returns-in-Ok-clause-answer : goal.returns-in-Ok-clause-answer
returns-in-Ok-clause-answer c =
    c.build.ensures c.args.many c.args.quantifiers c.args.names.now (record {
      counts = c.in_ok-counts.counts;
      sound = c.in_ok-counts.ensures c.args.quantifiers c.args.names.now;
      within = c.in_ok-judge_counts.ensures;
      is = sym (add-one c.in_ok-counts.counts.semicolons);
      few = c.requires.few;
    }) c.in-Ok.ensures.collected

pub returns-in-Err-Limit-clause-answer : goal.returns-in-Err-Limit-clause-answer
returns-in-Err-Limit-clause-answer c =
    c.judge_heights.ensures c.args.many c.args.quantifiers c.args.names.now c.collect_names.new.names (record {
      counts = c.in_ok-counts.counts;
      sound = c.in_ok-counts.ensures c.args.quantifiers c.args.names.now;
      within = c.in_ok-judge_counts.ensures;
      is = sym (add-one c.in_ok-counts.counts.semicolons);
      few = c.requires.few;
    }) (c.collect_names.ensures.limit (c.in-Err-Limit.is ∙ ap Err c.in-Err-Limit.field-0-is))
