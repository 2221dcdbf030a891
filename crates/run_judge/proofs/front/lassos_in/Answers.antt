use Rattle.std.proofs.Common.{[], ◌∷◌, length, length-append, ◌∙◌, ap, arith, None, Some}
use Rattle.std.specs.Option.{option_copied}
use Rattle.hy_text.specs.Lines.{left_lines, left_len}
use Rattle.hy_lasso.specs.LassoLines.{IsLassoSaid}
use Rattle.run_judge.proofs.FrontLassos.{more_gathered, stopped, ended}
use Rattle.run_judge.proofs.front.lassos_in.Goals as goal

-- The last line has no line feed.
pub returns-in_default-clause-lassos : goal.returns-in_default-clause-lassos
returns-in_default-clause-lassos c =
    ended c.args.names.now c.args.text.now c.loop-rest.left.now c.loop-rest.list
    c.loop-rest.invariant.gathered c.split_line.result.0.now
    (c.split_line.ensures.lines
    ∙ ap (λ o. c.split_line.result.0.now ∷ left_lines (option_copied o)) c.in_default.is)

-- a line that says no lasso
pub returns-in_default-2-clause-lassos : goal.returns-in_default-2-clause-lassos
returns-in_default-2-clause-lassos c =
    let none : IsLassoSaid c.args.names.now c.split_line.result.0.now None =
    rw c.in_default-2.is at c.in_ok-lasso.ensures in
    stopped c.args.names.now c.args.text.now c.loop-rest.left.now c.loop-rest.list
    c.loop-rest.invariant.gathered c.split_line.result.0.now
    (left_lines (option_copied c.split_line.result.1)) c.split_line.ensures.lines none

-- one lasso more
pub loop-rest-preserved : goal.loop-rest-preserved
loop-rest-preserved c =
    let says : IsLassoSaid c.args.names.now c.split_line.result.0.now (Some c.in-Some-2.lasso) =
    rw c.in-Some-2.is at c.in_ok-lasso.ensures in
    let cut = c.split_line.ensures.lines
    ∙ ap (λ o. c.split_line.result.0.now ∷ left_lines (option_copied o)) c.in-Some.is in
    let shorter = ap (λ o. left_len (option_copied o)) c.in-Some.is in
    record {
      gathered =
          more_gathered c.args.names.now c.args.text.now c.loop-rest.left.now c.loop-rest.list
          c.loop-rest.invariant.gathered c.in-Some.rest.now c.split_line.result.0.now
          c.in-Some-2.lasso c.push.new.self cut says c.in_ok-push.ensures.added;
      countable =
          omega (
            arith,
            shorter,
            c.split_line.ensures.fewer,
            c.loop-rest.invariant.countable,
            ap length c.in_ok-push.ensures.added,
            length-append c.loop-rest.list (c.in-Some-2.lasso ∷ []),
          );
    }
