use Rattle.std.proofs.Common.{ap, ◌∙◌, subst, arith}
use Rattle.std.specs.Option.{option_copied}
use Rattle.hy_finite.specs.LinesLeft.{left_lines, left_len}
use Rattle.hy_finite.specs.Remaining.{remaining}
use Rattle.hy_finite.specs.declared.checks.LineCheck.{LineCheck}
use Rattle.hy_finite.specs.LineParts.{IsChecked}
use Rattle.hy_finite.proofs.Collecting.{checked-good, checked-long}
use Rattle.hy_finite.proofs.lines.EventLines.check.Goals as goal
use Rattle.hy_finite.proofs.lines.EventLines.check.Goals.{in-Good, in-TooLong}

pub loop-left-preserved : goal.loop-left-preserved
loop-left-preserved c =
    let first = ap (λ o. left_lines (option_copied o)) c.in-Some.is ∙ c.split_line.ensures.lines in
    let before = c.loop-left.invariant.checked in
    let all = remaining c.args.self.now in
    let left = left_lines (option_copied c.loop-left.left) in
    let rest = left_lines (option_copied c.split_line.result.1) in
    let line = c.split_line.result.0.now in
    let P : LineCheck → Type 0 = IsChecked line in
    let shorter = ap (λ o. left_len (option_copied o)) c.in-Some.is in
    record {
      checked = elim c.match-check_line.branch [
        | in-Good w ↦ rw w.is_long-is (checked-good all.first all.lines c.loop-left.line left c.loop-left.is_long
            line rest before first (subst P w.in-Good.is c.check_line.ensures))
        | in-TooLong w ↦ rw w.is_long-is (checked-long all.first all.lines c.loop-left.line left
            c.loop-left.is_long line rest before first
            (subst P w.in-TooLong.is c.check_line.ensures))
      ];
      countable =
          omega (arith, shorter, c.split_line.ensures.fewer, c.loop-left.invariant.countable);
    }
