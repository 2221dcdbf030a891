use Rattle.std.proofs.Common.{◌<◌, Bool, ap, ◌∙◌, sym, subst, arith, length}
use Rattle.std.proofs.lemmas.Bool.{eqb-false}
use Rattle.std.specs.Option.{option_copied}
use Rattle.hy_text.specs.Lines.{lines_of, left_lines, left_len}
use Rattle.hy_lasso.specs.LineParts.{IsTaken}
use Rattle.hy_lasso.proofs.Gathering.{taken_few, gathered_more, gathered_all}
use Rattle.hy_lasso.proofs.read.read_lassos.Goals as goal

-- a line more
pub loop-left-preserved : goal.loop-left-preserved
loop-left-preserved c =
    let first = ap (λ o. left_lines (option_copied o)) c.in-Some.is ∙ c.split_line.ensures.lines in
    let P : Bool → Type 0 = IsTaken c.args.names.now c.split_line.result.0.now c.loop-left.list
    c.take_line.new.list in
    let shorter = ap (λ o. left_len (option_copied o)) c.in-Some.is in
    record {
      gathered =
          gathered_more c.args.names.now (lines_of c.args.bytes.now) c.loop-left.line
          (left_lines (option_copied c.loop-left.left)) c.loop-left.list c.take_line.new.list
          c.split_line.result.0.now (left_lines (option_copied c.split_line.result.1))
          c.loop-left.invariant.gathered first
          (subst P c.if-not-branch.false c.in_ok-take_line.ensures);
      few =
          omega (
            arith,
            c.loop-left.invariant.few,
            taken_few c.args.names.now c.split_line.result.0.now c.loop-left.list c.take_line.new.list
                (subst P c.if-not-branch.false c.in_ok-take_line.ensures),
          );
      countable =
          omega (arith, shorter, c.split_line.ensures.fewer, c.loop-left.invariant.countable);
    }

-- lassos, and no line is left
pub returns : goal.returns
returns c =
    let apart = eqb-false _ 0 (sym c.is_empty.ensures ∙ c.if-is_empty.false) in
    let some : 0 < length c.loop-left.list = omega (arith, apart) in
    record {
      answer =
          gathered_all c.args.names.now c.args.bytes.now c.loop-left.line
          (left_lines (option_copied c.loop-left.left)) c.loop-left.list
          c.loop-left.invariant.gathered
          (ap (λ o. left_lines (option_copied o)) c.in_default.is) some;
      some = some;
      countable =
          omega (arith, c.loop-left.invariant.few, c.loop-left.invariant.countable);
    }
