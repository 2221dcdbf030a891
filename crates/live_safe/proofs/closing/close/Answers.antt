use Rattle.std.proofs.Common.{◌≡◌, ◌∙◌, sym, ap, subst, length}
use Rattle.live_safe.specs.declared.places.Places.{Places}
use Rattle.live_safe.specs.declared.moved.Moved.{Moved}
use Rattle.live_safe.specs.Places.{HasRoom}
use Rattle.live_safe.proofs.Stages.{has-room, many-values, reaches}
use Rattle.live_safe.proofs.Closings.{saving-room, saving-at, seens-room, seens-at, copies-room, copies-at, bad-room, bad-at, nexts-at}
use Rattle.live_safe.proofs.closing.close.Goals as goal

pub make_saving-requires-clause-latches : goal.make_saving-requires-clause-latches
make_saving-requires-clause-latches c =
    let P : Places → Type 0 = HasRoom in
    subst P (sym c.requires.places) (has-room c.args.net.now c.requires.net c.requires.room)

pub make_saving-requires-clause-room : goal.make_saving-requires-clause-room
make_saving-requires-clause-room c =
    saving-room c.args.net.now c.requires.net c.requires.room c.args.places.now c.args.moved.now
    c.requires.places c.requires.moved c.args.gates.now c.requires.gates

pub seen_nexts-requires-clause-values : goal.seen_nexts-requires-clause-values
seen_nexts-requires-clause-values c =
    let P : Moved → Type 0 = λ m. length m.values ≡ m.latches in
    subst P (sym c.requires.moved) (many-values c.args.net.now)

pub seen_nexts-requires-clause-reach : goal.seen_nexts-requires-clause-reach
seen_nexts-requires-clause-reach c =
    reaches c.args.net.now c.requires.net c.requires.room c.args.moved.now _ _ c.requires.moved
    (c.as_slice-fairs.ensures ∙ c.fairs.ensures) c.requires.net.fairs

pub seen_nexts-requires-clause-room : goal.seen_nexts-requires-clause-room
seen_nexts-requires-clause-room c =
    let saving = saving-at c.args.net.now c.requires.net c.requires.room c.args.places.now
    c.args.moved.now c.requires.places c.requires.moved c.args.gates.now
    c.make_saving.new.gates c.in_ok-saving.saving c.requires.gates
    c.in_ok-saving.ensures.made c.in_ok-saving.ensures.first in
    seens-room c.args.net.now c.requires.net c.requires.room c.args.places.now c.args.moved.now
    c.requires.places c.requires.moved _ c.in_ok-saving.saving _ saving
    (c.as_slice-fairs.ensures ∙ c.fairs.ensures)

pub copy_nexts-requires-clause-many : goal.copy_nexts-requires-clause-many
copy_nexts-requires-clause-many c =
    ap length (c.as_slice.ensures ∙ ap (λ (m : Moved). m.values) c.requires.moved)
    ∙ many-values c.args.net.now ∙ sym (ap (λ (p : Places). p.latches) c.requires.places)

pub copy_nexts-requires-clause-room : goal.copy_nexts-requires-clause-room
copy_nexts-requires-clause-room c =
    let saving = saving-at c.args.net.now c.requires.net c.requires.room c.args.places.now
    c.args.moved.now c.requires.places c.requires.moved c.args.gates.now
    c.make_saving.new.gates c.in_ok-saving.saving c.requires.gates
    c.in_ok-saving.ensures.made c.in_ok-saving.ensures.first in
    let seens = seens-at c.args.net.now c.requires.net c.requires.room c.args.places.now
    c.args.moved.now c.requires.places c.requires.moved c.make_saving.new.gates
    c.seen_nexts.new.gates c.in_ok-saving.saving _ _ saving
    (c.as_slice-fairs.ensures ∙ c.fairs.ensures) c.in_ok-seens.ensures.made
    c.in_ok-seens.ensures.first in
    copies-room c.args.net.now c.requires.net c.requires.room c.args.places.now
    c.args.moved.now c.requires.places c.requires.moved _ _ _ seens.0 saving.grab_is
    c.as_slice.ensures

pub bad-requires-clause-room : goal.bad-requires-clause-room
bad-requires-clause-room c =
    let saving = saving-at c.args.net.now c.requires.net c.requires.room c.args.places.now
    c.args.moved.now c.requires.places c.requires.moved c.args.gates.now
    c.make_saving.new.gates c.in_ok-saving.saving c.requires.gates
    c.in_ok-saving.ensures.made c.in_ok-saving.ensures.first in
    let seens = seens-at c.args.net.now c.requires.net c.requires.room c.args.places.now
    c.args.moved.now c.requires.places c.requires.moved c.make_saving.new.gates
    c.seen_nexts.new.gates c.in_ok-saving.saving _ _ saving
    (c.as_slice-fairs.ensures ∙ c.fairs.ensures) c.in_ok-seens.ensures.made
    c.in_ok-seens.ensures.first in
    let copies = copies-at c.args.net.now c.requires.net c.requires.room c.args.places.now
    c.args.moved.now c.requires.places c.requires.moved c.seen_nexts.new.gates
    c.copy_nexts.new.gates _ _ _ seens.0 saving.grab_is c.as_slice.ensures
    c.in_ok-copies.ensures.made c.in_ok-copies.ensures.first in
    bad-room c.args.net.now c.requires.net c.requires.room c.args.places.now c.args.moved.now
    c.requires.places c.requires.moved _ copies.0

pub returns-clause-nexts : goal.returns-clause-nexts
returns-clause-nexts c =
    let saving = saving-at c.args.net.now c.requires.net c.requires.room c.args.places.now
    c.args.moved.now c.requires.places c.requires.moved c.args.gates.now
    c.make_saving.new.gates c.in_ok-saving.saving c.requires.gates
    c.in_ok-saving.ensures.made c.in_ok-saving.ensures.first in
    let seens = seens-at c.args.net.now c.requires.net c.requires.room c.args.places.now
    c.args.moved.now c.requires.places c.requires.moved c.make_saving.new.gates
    c.seen_nexts.new.gates c.in_ok-saving.saving _ _ saving
    (c.as_slice-fairs.ensures ∙ c.fairs.ensures) c.in_ok-seens.ensures.made
    c.in_ok-seens.ensures.first in
    let copies = copies-at c.args.net.now c.requires.net c.requires.room c.args.places.now
    c.args.moved.now c.requires.places c.requires.moved c.seen_nexts.new.gates
    c.copy_nexts.new.gates _ _ _ seens.0 saving.grab_is c.as_slice.ensures
    c.in_ok-copies.ensures.made c.in_ok-copies.ensures.first in
    let bad = bad-at c.args.net.now c.requires.net c.requires.room c.args.places.now
    c.args.moved.now c.requires.places c.requires.moved c.copy_nexts.new.gates
    c.bad.new.gates _ copies.0 c.in_ok-bad.ensures.made c.in_ok-bad.ensures.first in
    nexts-at c.args.net.now c.requires.net c.requires.room c.args.places.now c.args.moved.now
    c.requires.places c.requires.moved _ _ _ _ saving.saved_is seens.1 copies.1 bad.1

pub returns-clause-gates : goal.returns-clause-gates
returns-clause-gates c =
    let saving = saving-at c.args.net.now c.requires.net c.requires.room c.args.places.now
    c.args.moved.now c.requires.places c.requires.moved c.args.gates.now
    c.make_saving.new.gates c.in_ok-saving.saving c.requires.gates
    c.in_ok-saving.ensures.made c.in_ok-saving.ensures.first in
    let seens = seens-at c.args.net.now c.requires.net c.requires.room c.args.places.now
    c.args.moved.now c.requires.places c.requires.moved c.make_saving.new.gates
    c.seen_nexts.new.gates c.in_ok-saving.saving _ _ saving
    (c.as_slice-fairs.ensures ∙ c.fairs.ensures) c.in_ok-seens.ensures.made
    c.in_ok-seens.ensures.first in
    let copies = copies-at c.args.net.now c.requires.net c.requires.room c.args.places.now
    c.args.moved.now c.requires.places c.requires.moved c.seen_nexts.new.gates
    c.copy_nexts.new.gates _ _ _ seens.0 saving.grab_is c.as_slice.ensures
    c.in_ok-copies.ensures.made c.in_ok-copies.ensures.first in
    (bad-at c.args.net.now c.requires.net c.requires.room c.args.places.now c.args.moved.now
    c.requires.places c.requires.moved c.copy_nexts.new.gates c.bad.new.gates _ copies.0
    c.in_ok-bad.ensures.made c.in_ok-bad.ensures.first).0
