use Rattle.std.proofs.Common.{◌≡◌, length, ◌∙◌, sym, ap, subst}
use Rattle.live_safe.specs.declared.places.Places.{Places}
use Rattle.live_safe.specs.declared.moved.Moved.{Moved}
use Rattle.live_safe.proofs.Stages.{many-values, reaches}
use Rattle.live_safe.proofs.Parts.{moved-are, parts-are}
use Rattle.live_safe.proofs.making.safe_parts.Goals as goal

pub literals-requires-clause-values : goal.literals-requires-clause-values
literals-requires-clause-values c =
    let P : Moved → Type 0 = λ m. length m.values ≡ m.latches in
    subst P (sym c.requires.moved) (many-values c.args.net.now)

pub literals-requires-clause-room : goal.literals-requires-clause-room
literals-requires-clause-room c =
    reaches c.args.net.now c.requires.net c.requires.room c.args.moved.now _ _ c.requires.moved
    (c.as_slice.ensures ∙ c.constraints.ensures) c.requires.net.constraints

pub returns : goal.returns
returns c =
    parts-are c.args.net.now _ _ _ _ _ _ _ _ _ _ _ _
    (ap (λ (p : Places). p.safe_inputs) c.requires.places) c.in_ok-latches.ensures
    c.len-many.ensures c.in_ok-filled.ensures (c.ands.view_is ∙ c.requires.ands)
    c.in_ok-only.ensures
    c.requires.nexts.bad (moved-are c.args.net.now c.args.moved.now _ _ _ c.in_ok-literals.ensures
    c.requires.moved (c.as_slice.ensures ∙ c.constraints.ensures)) c.new.ensures
    c.in_ok-without_names.ensures c.in_ok-without_names-2.ensures c.in_ok-bad_name.ensures
