use Rattle.std.proofs.Common.{◌<◌, ◌≤◌, ◌∙◌, Ok, Err, Option, Result, ap, refl, subst, arith}
use Rattle.hy_finite.specs.EventAnswers.{IsLineAnswer}
use Rattle.hy_finite.specs.declared.event.Event.{Event}
use Rattle.rv_core.specs.Replies.{Answers}
use Rattle.rv_core.specs.Seen.{held}
use Rattle.rv_core.specs.declared.rv.Rv.{Rv}
use Rattle.rv_core.specs.declared.reply.Reply.{Reply}
use Rattle.rv_core.specs.declared.rv_error.RvError.{RvError}
use Rattle.rv_watch.specs.Courses.{most_lines}
use Rattle.rv_watch.specs.declared.course.Watcher.{Watcher}
use Rattle.rv_watch.proofs.Taking.{not-crowded, stopped-uncounted, stopped-unread, stopped-crowded, stopped-violated, stopped-error, took-silent, took-quiet, took-arrival}
use Rattle.rv_watch.proofs.course.Watcher.take.Goals as goal

pub returns-in_default-clause-taken : goal.returns-in_default-clause-taken
returns-in_default-clause-taken g c specs from course at =
    let many : most_lines ≤ c.args.self.now.lines = omega (arith, c.in_default.ensures) in
    stopped-uncounted c.args.terms.now specs g.E.Sink from c.args.err.now c.args.self.now c.args.line.now course at c.requires.small c.args.self.now
    many

pub returns-in-Ok-None-clause-taken : goal.returns-in-Ok-None-clause-taken
returns-in-Ok-None-clause-taken g c specs from course at =
    let few : c.args.self.now.lines < most_lines = omega (arith, c.in-Some.ensures.0, c.in-Some.ensures.1) in
    let P : Option Event → Type 0 = λ o. IsLineAnswer c.args.terms.now.names.now c.args.line.now (Ok o) in
    took-silent c.args.terms.now specs g.E.Sink from c.args.err.now c.args.self.now c.args.line.now course at c.requires.small c.in-Some.number
    c.in-Some.ensures.1 few _ refl refl refl (subst P c.in-Ok-None.field-0-is c.in-Ok-None.ensures)

pub returns-in-Err-clause-taken : goal.returns-in-Err-clause-taken
returns-in-Err-clause-taken g c specs from course at =
    let few : c.args.self.now.lines < most_lines = omega (arith, c.in-Some.ensures.0, c.in-Some.ensures.1) in
    stopped-unread c.args.terms.now specs g.E.Sink from c.args.err.now c.args.self.now c.args.line.now course at c.requires.small
    c.in-Some.number c.in-Some.ensures.1 few c.args.self.now c.in-Err.fault _ c.in-Err.ensures (ap Err c.line_refusal.ensures)

pub returns-then-is_crowded-clause-taken : goal.returns-then-is_crowded-clause-taken
returns-then-is_crowded-clause-taken g c specs from course at =
    let few : c.args.self.now.lines < most_lines = omega (arith, c.in-Some.ensures.0, c.in-Some.ensures.1) in
    let many = (c.is_crowded.ensures.crowded course at.stands).0 c.if-is_crowded.true in
    let P : Option Event → Type 0 = λ o. IsLineAnswer c.args.terms.now.names.now c.args.line.now (Ok o) in
    stopped-crowded c.args.terms.now specs g.E.Sink from c.args.err.now c.args.self.now c.args.line.now course at c.requires.small
    c.in-Some.number c.in-Some.ensures.1 few c.in-Ok-Some.event (subst P c.in-Ok-Some.field-0-is c.in-Ok-Some.ensures) c.args.self.now many

pub returns-in-Ok-Quiet-clause-taken : goal.returns-in-Ok-Quiet-clause-taken
returns-in-Ok-Quiet-clause-taken g c specs from course at =
    let few : c.args.self.now.lines < most_lines = omega (arith, c.in-Some.ensures.0, c.in-Some.ensures.1) in
    let P : Option Event → Type 0 = λ o. IsLineAnswer c.args.terms.now.names.now c.args.line.now (Ok o) in
    let A : Result Reply RvError → Type 0 = Answers (held c.args.self.now.rv) (held c.event.new.self) c.in-Ok-Some.event in
    took-quiet c.args.terms.now specs g.E.Sink from c.args.err.now c.args.self.now c.args.line.now course at c.requires.small c.in-Some.number
    c.in-Some.ensures.1 few c.in-Ok-Some.event (subst P c.in-Ok-Some.field-0-is c.in-Ok-Some.ensures) _ c.event.ensures.dropping refl refl
    (subst A (c.in-Ok-Quiet.is ∙ ap Ok c.in-Ok-Quiet.field-0-is) c.event.ensures.answers)

pub returns-in-Ok-Arrived-clause-taken : goal.returns-in-Ok-Arrived-clause-taken
returns-in-Ok-Arrived-clause-taken g c specs from course at =
    let few : c.args.self.now.lines < most_lines = omega (arith, c.in-Some.ensures.0, c.in-Some.ensures.1) in
    let P : Option Event → Type 0 = λ o. IsLineAnswer c.args.terms.now.names.now c.args.line.now (Ok o) in
    let A : Result Reply RvError → Type 0 = Answers (held c.args.self.now.rv) (held c.event.new.self) c.in-Ok-Some.event in
    took-arrival c.args.terms.now specs g.E.Sink from c.args.err.now c.args.self.now c.args.line.now course at c.requires.small c.in-Some.number
    c.in-Some.ensures.1 few c.in-Ok-Some.event (subst P c.in-Ok-Some.field-0-is c.in-Ok-Some.ensures) c.count.new.self
    (ap (λ (r : Rv). (held r).drop) c.count.ensures.same ∙ c.event.ensures.dropping) c.count.ensures.lines c.count.new.err c.event.new.self _
    c.count.ensures.same (not-crowded course c.is_crowded.ensures at.stands c.if-is_crowded.false)
    (subst A (c.in-Ok-Arrived.is ∙ ap Ok c.in-Ok-Arrived.field-0-is) c.event.ensures.answers)
    (λ h stands. c.count.ensures.counted from course h stands at.since at.heard)

pub returns-in-Ok-Violation-clause-taken : goal.returns-in-Ok-Violation-clause-taken
returns-in-Ok-Violation-clause-taken g c specs from course at =
    let few : c.args.self.now.lines < most_lines = omega (arith, c.in-Some.ensures.0, c.in-Some.ensures.1) in
    let P : Option Event → Type 0 = λ o. IsLineAnswer c.args.terms.now.names.now c.args.line.now (Ok o) in
    let A : Result Reply RvError → Type 0 = Answers (held c.args.self.now.rv) (held c.event.new.self) c.in-Ok-Some.event in
    let w : Watcher = record { rv = c.event.new.self; lines = c.args.self.now.lines; since = c.args.self.now.since } in
    stopped-violated c.args.terms.now specs g.E.Sink from c.args.err.now c.args.self.now c.args.line.now course at c.requires.small c.in-Some.number
    c.in-Some.ensures.1 few c.in-Ok-Some.event (subst P c.in-Ok-Some.field-0-is c.in-Ok-Some.ensures) w _ _ _
    (not-crowded course c.is_crowded.ensures at.stands c.if-is_crowded.false)
    (subst A (c.in-Ok-Violation.is ∙ ap Ok c.in-Ok-Violation.field-0-is) c.event.ensures.answers)

pub returns-clause-taken : goal.returns-clause-taken
returns-clause-taken g c specs from course at =
    let few : c.args.self.now.lines < most_lines = omega (arith, c.in-Some.ensures.0, c.in-Some.ensures.1) in
    let P : Option Event → Type 0 = λ o. IsLineAnswer c.args.terms.now.names.now c.args.line.now (Ok o) in
    let A : Result Reply RvError → Type 0 = Answers (held c.args.self.now.rv) (held c.event.new.self) c.in-Ok-Some.event in
    let w : Watcher = record { rv = c.event.new.self; lines = c.args.self.now.lines; since = c.args.self.now.since } in
    stopped-error c.args.terms.now specs g.E.Sink from c.args.err.now c.args.self.now c.args.line.now course at c.requires.small c.in-Some.number
    c.in-Some.ensures.1 few c.in-Ok-Some.event (subst P c.in-Ok-Some.field-0-is c.in-Ok-Some.ensures) w c.in-Err-event.error _
    (subst A c.in-Err-event.is c.event.ensures.answers) (ap Err c.event_refusal.ensures)
