use Rattle.std.proofs.Common.{◌≡◌, length, ◌∙◌, sym, ap, subst}
use Rattle.live_safe.specs.declared.moved.Moved.{Moved}
use Rattle.live_safe.proofs.Stages.{many-values, reaches}
use Rattle.live_safe.specs.Places.{latches_of}
use Rattle.live_safe.proofs.Parts.{latches-are, moved-are}
use Rattle.live_safe.proofs.making.latch_nexts.Goals as goal

pub literals-requires-clause-values : goal.literals-requires-clause-values
literals-requires-clause-values c =
    let P : Moved → Type 0 = λ m. length m.values ≡ m.latches in
    subst P (sym c.requires.moved) (many-values c.args.net.now)

pub literals-requires-clause-room : goal.literals-requires-clause-room
literals-requires-clause-room c =
    reaches c.args.net.now c.requires.net c.requires.room c.args.moved.now _ _ c.requires.moved
    (c.as_slice.ensures ∙ c.latches.ensures) c.requires.net.latches

pub returns : goal.returns
returns c =
    c.in_ok-made.ensures
    ∙ ap (λ l. latches_of c.args.nexts.now l c.args.has_begun) c.as_slice-2.ensures
    ∙ latches-are c.args.net.now c.args.nexts.now _ c.args.has_begun c.requires.nexts
    (moved-are c.args.net.now c.args.moved.now _ _ _ c.in_ok-own.ensures c.requires.moved
    (c.as_slice.ensures ∙ c.latches.ensures)) c.requires.begun
