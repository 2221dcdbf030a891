use Rattle.std.proofs.Common.{◌∷◌, ◌∙◌, Some, ap, arith}
use Rattle.std.specs.Option.{option_copied}
use Rattle.hy_text.specs.Lines.{left_lines}
use Rattle.rank_judge.proofs.Heading.{not_alone, head_said, ranks_fit, head_read}
use Rattle.rank_judge.proofs.head.read_head.Goals as goal

pub returns-in_default-clause-head : goal.returns-in_default-clause-head
returns-in_default-clause-head c proof rest some first =
    let cut = c.split_line.ensures.lines
    ∙ ap (λ o. c.split_line.result.0.now ∷ left_lines (option_copied o)) c.in_default.is in
    not_alone c.args.text.now proof rest c.split_line.result.0.now some first cut

pub returns-in_default-rank_head-clause-head : goal.returns-in_default-rank_head-clause-head
returns-in_default-rank_head-clause-head c proof rest some first =
    let cut = c.split_line.ensures.lines
    ∙ ap (λ o. c.split_line.result.0.now ∷ left_lines (option_copied o)) c.in-Some.is in
    c.in_default-rank_head.ensures _ _
    (head_said c.args.text.now proof rest c.split_line.result.0.now (Some c.in-Some.behind.now)
    first cut)

pub returns-then-ranks-from-clause-head : goal.returns-then-ranks-from-clause-head
returns-then-ranks-from-clause-head c proof rest some first =
    let cut = c.split_line.ensures.lines
    ∙ ap (λ o. c.split_line.result.0.now ∷ left_lines (option_copied o)) c.in-Some.is in
    let fit = ranks_fit c.args.text.now proof rest c.split_line.result.0.now
    (Some c.in-Some.behind.now) c.in-Some-rank_head.branches c.in-Some-rank_head.ranks first cut
    c.in-Some-rank_head.ensures in
    omega (arith, fit)

pub returns-clause-head : goal.returns-clause-head
returns-clause-head c proof rest some first =
    let cut = c.split_line.ensures.lines
    ∙ ap (λ o. c.split_line.result.0.now ∷ left_lines (option_copied o)) c.in-Some.is in
    head_read c.args.text.now proof rest c.split_line.result.0.now c.in-Some.behind.now
    c.in-Some-rank_head.branches c.in-Some-rank_head.ranks first cut c.in-Some-rank_head.ensures
