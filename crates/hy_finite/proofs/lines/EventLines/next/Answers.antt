use Rattle.std.proofs.Common.{subst, Ok, Option}
use Rattle.hy_finite.specs.declared.event.Event.{Event}
use Rattle.hy_finite.specs.EventAnswers.{IsLineAnswer}
use Rattle.hy_finite.specs.Remaining.{remaining}
use Rattle.hy_finite.proofs.Collecting.{reached-loud}
use Rattle.hy_finite.proofs.lines.EventLines.next.Goals as goal

-- A line that says something is not read as nothing.
pub returns-in-Ok-None : goal.returns-in-Ok-None
returns-in-Ok-None c =
    let old = remaining c.args.self.now in
    let new = remaining c.next_line.new.self in
    let P : Option Event → Type 0 = λ o. IsLineAnswer c.args.names.now c.in-Some.text.now (Ok o) in
    absurd (reached-loud old.first old.lines c.in-Some.line c.in-Some.text.now new.lines
    c.in-Some.ensures.0 (subst P c.in-Ok-None.field-0-is c.in-Ok-None.ensures))
