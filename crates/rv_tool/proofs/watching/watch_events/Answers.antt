use Rattle.std.proofs.Common.{ap, ◌∙◌, length, subst, Option, Ok, Result}
use Rattle.hy_finite.specs.declared.event.Placed.{Placed}
use Rattle.rv_core.specs.declared.reply.Reply.{Reply}
use Rattle.rv_core.specs.declared.rv_error.RvError.{RvError}
use Rattle.rv_core.specs.Replies.{Answers, on_quiet, on_arrival}
use Rattle.rv_core.specs.Seen.{held}
use Rattle.rv_tool.specs.Watching.{IsNext}
use Rattle.rv_tool.proofs.EventSteps.{Passed, goes-quiet, goes-arrived, passed-none, passed-more, passed-all, violation-comes, error-comes}
use Rattle.rv_tool.proofs.watching.watch_events.Goals as goal
use Rattle.rv_tool.proofs.watching.watch_events.Goals.{in-Quiet, in-Arrived}

pub loop-placed-init : goal.loop-placed-init
loop-placed-init g c = passed-none c.args.source.now (held c.args.rv.now) c.requires.stands c.requires.numbered

pub loop-placed-preserved : goal.loop-placed-preserved
loop-placed-preserved g c =
    let old = held c.loop-placed.rv in
    let new = held c.event.new.self in
    let before = c.loop-placed.invariant in
    let said = c.event.ensures.answers in
    let placed = c.in-Ok-Some.placed in
    let n = length before.done in
    let P : Option Placed → Type 0 = IsNext c.loop-placed.source c.next.new.self in
    let A : Result Reply RvError → Type 0 = Answers old new placed.event in
    let ahead = subst P c.in-Ok-Some.field-0-is c.in-Ok-Some.ensures.next in
    let goes : Passed c.args.source.now c.next.new.self (held c.args.rv.now) new =
    elim c.match-reply.branch [
      | in-Quiet w ↦
          let is = c.in-Ok.is ∙ ap Ok w.in-Quiet.is in
          passed-more c.args.source.now c.loop-placed.source (held c.args.rv.now) old before placed c.next.new.self new ahead _ said
          c.next.ensures.read c.event.ensures.dropping
          (goes-quiet old new placed.event before.history _ is (said.right before.history before.stands))
          (λ more stop runs. on_quiet n old new placed.event more stop (subst A is said) runs)
      | in-Arrived w ↦
          let is = c.in-Ok.is ∙ ap Ok w.in-Arrived.is in
          passed-more c.args.source.now c.loop-placed.source (held c.args.rv.now) old before placed c.next.new.self new ahead _ said
          c.next.ensures.read c.event.ensures.dropping
          (goes-arrived old new placed.event before.history _ _ is (said.right before.history before.stands))
          (λ more stop runs. on_arrival n old new placed.event more stop _ (subst A is said) runs)
    ] in
    goes

pub returns-in-Ok-None-clause-watched : goal.returns-in-Ok-None-clause-watched
returns-in-Ok-None-clause-watched g c good =
    let P : Option Placed → Type 0 = IsNext c.loop-placed.source c.next.new.self in
    passed-all c.args.source.now c.loop-placed.source (held c.args.rv.now) (held c.loop-placed.rv) c.loop-placed.invariant c.runs.ensures c.requires.stands
    (subst P c.in-Ok-None.field-0-is c.in-Ok-None.ensures.next)

pub returns-in-Violation-clause-watched : goal.returns-in-Violation-clause-watched
returns-in-Violation-clause-watched g c good =
    let old = held c.loop-placed.rv in
    let new = held c.event.new.self in
    let placed = c.in-Ok-Some.placed in
    let P : Option Placed → Type 0 = IsNext c.loop-placed.source c.next.new.self in
    let A : Result Reply RvError → Type 0 = Answers old new placed.event in
    violation-comes c.args.source.now c.loop-placed.source (held c.args.rv.now) old c.loop-placed.invariant placed c.next.new.self new
    (subst P c.in-Ok-Some.field-0-is c.in-Ok-Some.ensures.next) c.runs.ensures _ _ _
    (subst A (c.in-Ok.is ∙ ap Ok c.in-Violation.is) c.event.ensures.answers) c.requires.stands good

pub returns-in-Err-event-clause-watched : goal.returns-in-Err-event-clause-watched
returns-in-Err-event-clause-watched g c good =
    let old = held c.loop-placed.rv in
    let new = held c.event.new.self in
    let placed = c.in-Ok-Some.placed in
    let P : Option Placed → Type 0 = IsNext c.loop-placed.source c.next.new.self in
    let A : Result Reply RvError → Type 0 = Answers old new placed.event in
    error-comes c.args.source.now c.loop-placed.source (held c.args.rv.now) old c.loop-placed.invariant placed c.next.new.self new
    (subst P c.in-Ok-Some.field-0-is c.in-Ok-Some.ensures.next) c.runs.ensures c.in-Err-event.error
    (subst A c.in-Err-event.is c.event.ensures.answers) c.requires.stands good
