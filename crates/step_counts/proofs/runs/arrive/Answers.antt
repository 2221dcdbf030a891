use Rattle.std.proofs.Common.{Ok, map, refl, ap}
use Rattle.rv_core.specs.Held.{specs_of}
use Rattle.rv_core.specs.Seen.{held}
use Rattle.step_counts.specs.Branches.{counts_of, steps_of, first_steps_of}
use Rattle.step_counts.specs.Runs.{after}
use Rattle.step_counts.proofs.Arriving.{after-whole}
use Rattle.step_counts.proofs.Bounding.{joint-bounds, first-bounds}
use Rattle.step_counts.proofs.runs.arrive.Goals as goal

pub returns-in_err-event-clause-joint : goal.returns-in_err-event-clause-joint
returns-in_err-event-clause-joint g c words branches rule =
    let old = held c.args.rv.now in
    c.event.ensures.bounded c.args.trace (map (steps_of (counts_of words)) (specs_of old)) refl
    (joint-bounds old (after c.args.seen.now) c.args.trace words c.requires.stands rule branches)

pub returns-in_err-event-clause-first : goal.returns-in_err-event-clause-first
returns-in_err-event-clause-first g c words branches rule same =
    let old = held c.args.rv.now in
    c.event.ensures.bounded c.args.trace (map (first_steps_of (counts_of words)) (specs_of old))
    refl
    (first-bounds old (after c.args.seen.now) c.args.trace words c.requires.stands rule branches
    same)

pub returns-clause-stands : goal.returns-clause-stands
returns-clause-stands g c n is =
    let h = after c.args.seen.now in
    after-whole (held c.args.rv.now) (held c.event.new.self) h c.args.trace
    (Ok c.in_ok-event.field-0) n (c.in_ok-event.ensures.answers.right h c.requires.stands) (ap Ok is)

pub returns-clause-joint : goal.returns-clause-joint
returns-clause-joint g c words branches rule =
    let old = held c.args.rv.now in
    c.event.ensures.bounded c.args.trace (map (steps_of (counts_of words)) (specs_of old)) refl
    (joint-bounds old (after c.args.seen.now) c.args.trace words c.requires.stands rule branches)

pub returns-clause-first : goal.returns-clause-first
returns-clause-first g c words branches rule same =
    let old = held c.args.rv.now in
    c.event.ensures.bounded c.args.trace (map (first_steps_of (counts_of words)) (specs_of old))
    refl
    (first-bounds old (after c.args.seen.now) c.args.trace words c.requires.stands rule branches
    same)
