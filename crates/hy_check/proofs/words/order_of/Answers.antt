use Rattle.std.proofs.Common.{inr, sym, ◌∙◌}
use Rattle.hy_check.proofs.Worded.{is_command, is_no_command}
use Rattle.hy_check.proofs.words.order_of.Goals as goal

pub returns-then-not-are_file_names-clause-none : goal.returns-then-not-are_file_names-clause-none
returns-then-not-are_file_names-clause-none c =
    is_no_command c.args.words.now c.in_ok-first.names.now c.in_ok-first.first.now c.in_ok-question.question
    c.in_ok-first.ensures.cases.0 (sym c.as_str.ensures.value ∙ c.in_ok-question.ensures.some)
    (inr (sym c.are_file_names.ensures ∙ c.if-not-are_file_names.true))

pub returns-clause-some : goal.returns-clause-some
returns-clause-some c =
    is_command c.args.words.now c.in_ok-first.names.now c.in_ok-first.first.now c.in_ok-question.question
    c.in_ok-first.ensures.cases.0 (sym c.as_str.ensures.value ∙ c.in_ok-question.ensures.some) _
    c.in_ok-files.ensures.some.0 c.in_ok-files.ensures.some.1 (sym c.are_file_names.ensures ∙ c.if-not-are_file_names.false)
