use Rattle.std.proofs.Common.{Ok, Option, subst}
use Rattle.std.proofs.lemmas.Result.{err_from_is_err_and}
use Rattle.hy_finite.specs.declared.event.Placed.{Placed}
use Rattle.hy_finite.specs.EventFiles.{lines_of}
use Rattle.hy_finite.specs.NextEvents.{IsNextAnswer}
use Rattle.hy_finite.specs.Remaining.{remaining}
use Rattle.hy_finite.proofs.Collecting.{collected-more, collected-all, collected-fault, next-fewer}
use Rattle.hy_finite.proofs.file.read_events.Goals as goal

pub returns-in_err-placed : goal.returns-in_err-placed
returns-in_err-placed c =
    let p = err_from_is_err_and c.from_residual-in_err-placed.result
    c.from_residual-in_err-placed.ensures.1 in
    let old = remaining c.loop-letters.lines in
    let new = remaining c.next.new.self in
    rw (p.1, p.2)
    (collected-fault c.args.names.now c.args.bytes.now old new c.loop-letters.events
    c.in_err-placed.field-0.0 c.loop-letters.invariant c.in_err-placed.ensures)

pub loop-letters-smaller : goal.loop-letters-smaller
loop-letters-smaller c =
    let old = remaining c.loop-letters.lines in
    let new = remaining c.next.new.self in
    let P : Option Placed → Type 0 = λ o. IsNextAnswer c.args.names.now old new (Ok o) in
    next-fewer c.args.names.now old new c.in-Some.placed
    (subst P c.in-Some.is c.in_ok-placed.ensures)

pub loop-letters-preserved : goal.loop-letters-preserved
loop-letters-preserved c =
    let old = remaining c.loop-letters.lines in
    let new = remaining c.next.new.self in
    let P : Option Placed → Type 0 = λ o. IsNextAnswer c.args.names.now old new (Ok o) in
    rw c.in_ok-push.ensures.added
    (collected-more c.args.names.now (lines_of c.args.bytes.now) old new c.loop-letters.events
    c.in-Some.placed c.loop-letters.invariant (subst P c.in-Some.is c.in_ok-placed.ensures))

pub returns : goal.returns
returns c =
    let old = remaining c.loop-letters.lines in
    let new = remaining c.next.new.self in
    let P : Option Placed → Type 0 = λ o. IsNextAnswer c.args.names.now old new (Ok o) in
    let silent = (subst P c.in_default.is c.in_ok-placed.ensures).0 in (
      c.in_ok-check_events.ensures,
      collected-all c.args.names.now
          (lines_of c.args.bytes.now) old c.loop-letters.events c.loop-letters.invariant silent,
    )
