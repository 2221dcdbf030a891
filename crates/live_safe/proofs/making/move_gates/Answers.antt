use Rattle.std.proofs.Common.{◌≡◌, ℕ, List, [], ◌++◌, map, length, ◌∙◌, sym, ap, subst, arith}
use Rattle.aig_net.specs.declared.parts.And.{And}
use Rattle.aig_net.specs.declared.parts.Reset.{Reset}
use Rattle.aig_net.specs.declared.maker.Gates.{Gates}
use Rattle.aig_net.specs.Nets.{Net, IsNet}
use Rattle.aig_net.specs.Wires.{MakesAll}
use Rattle.hy_base.specs.Rows.{listed}
use Rattle.live_safe.specs.declared.places.Places.{Places}
use Rattle.live_safe.specs.declared.moved.Moved.{Moved}
use Rattle.live_safe.specs.Safe.{safe_first, effective_at, effectives, safe_and}
use Rattle.live_safe.specs.Places.{AreGates, HasRoom, effective_of, moved_and, moved_of, places_of}
use Rattle.live_safe.proofs.Stages.{add-room, effective-fits, effective-wires, fits-at, has-room, makes-at, many-values, reaches-ands}
use Rattle.live_safe.proofs.making.move_gates.Goals as goal

pub effective_values-requires-clause-latches : goal.effective_values-requires-clause-latches
effective_values-requires-clause-latches c =
    let P : Places → Type 0 = HasRoom in
    subst P (sym c.requires.places) (has-room c.args.net.now c.requires.net c.requires.room)

pub effective_values-requires-clause-room : goal.effective_values-requires-clause-room
effective_values-requires-clause-room c =
    fits-at c.args.net.now _ c.args.gates.now c.requires.gates _ _
    (effective-wires c.args.net.now c.args.places.now _ c.requires.places
    (c.as_slice.ensures ∙ c.resets.ensures) c.requires.net.resets)
    (effective-fits c.args.net.now c.requires.net c.requires.room)

-- the gates of the effective values, and their literals
values-made : (net : Net) (good : IsNet net) (gates new : Gates) (p : Places)
    (resets : List Reset) (values : List ℕ) → AreGates net [] gates → p ≡ places_of net →
    resets ≡ net.resets → MakesAll gates.first gates.ands
    (listed 0 (length resets) (effective_of p resets)) new.ands values →
    MakesAll (safe_first net) [] (listed 0 (length net.latches) (effective_at net)) new.ands
    values
values-made net good gates new p resets values are ep er makes =
    makes-at net [] gates are _ _ new.ands values
    (effective-wires net p resets ep er good.resets) makes

pub overflow_cast-moved : goal.overflow_cast-moved
overflow_cast-moved c =
    let all = values-made c.args.net.now c.requires.net c.args.gates.now
    c.effective_values.new.gates c.args.places.now _ _ c.requires.gates c.requires.places
    (c.as_slice.ensures ∙ c.resets.ensures) c.in_ok-values.ensures.made in
    omega (
      arith,
      ap length all.ands,
      c.len.ensures,
      add-room c.args.net.now c.requires.net c.requires.room,
    )

abbrev moved-with : Places → ℕ → ℕ → List ℕ → Moved
moved-with p first made values = record {
  inputs = p.inputs;
  latches = p.latches;
  first = first;
  made = made;
  values = values;
}

moved-made : (net : Net) (p : Places) (first made : ℕ) (values : List ℕ) → p ≡ places_of net →
    first ≡ safe_first net → made ≡ length (effectives net).ands →
    values ≡ (effectives net).literals → moved-with p first made values ≡ moved_of net
moved-made net p first made values ep ef em ev =
    ap (λ p. moved-with p first made values) ep
    ∙ ap (λ f. moved-with (places_of net) f made values) ef
    ∙ ap (λ m. moved-with (places_of net) (safe_first net) m values) em
    ∙ ap (moved-with (places_of net) (safe_first net) (length (effectives net).ands)) ev

pub add_ands-requires-clause-values : goal.add_ands-requires-clause-values
add_ands-requires-clause-values c =
    let all = values-made c.args.net.now c.requires.net c.args.gates.now
    c.effective_values.new.gates c.args.places.now _ _ c.requires.gates c.requires.places
    (c.as_slice.ensures ∙ c.resets.ensures) c.in_ok-values.ensures.made in
    ap length all.literals ∙ many-values c.args.net.now
    ∙ sym (ap (λ (p : Places). p.latches) c.requires.places)

pub add_ands-requires-clause-reach : goal.add_ands-requires-clause-reach
add_ands-requires-clause-reach c =
    let all = values-made c.args.net.now c.requires.net c.args.gates.now
    c.effective_values.new.gates c.args.places.now _ _ c.requires.gates c.requires.places
    (c.as_slice.ensures ∙ c.resets.ensures) c.in_ok-values.ensures.made in
    reaches-ands c.args.net.now c.requires.net c.requires.room _ _
    (moved-made c.args.net.now c.args.places.now _ _ c.in_ok-values.values c.requires.places
    (c.in_ok-values.ensures.first ∙ c.requires.gates.first)
    (c.len.ensures ∙ ap length all.ands) all.literals) (c.as_slice-2.ensures ∙ c.ands.ensures)

pub add_ands-requires-clause-room : goal.add_ands-requires-clause-room
add_ands-requires-clause-room c =
    let all = values-made c.args.net.now c.requires.net c.args.gates.now
    c.effective_values.new.gates c.args.places.now _ _ c.requires.gates c.requires.places
    (c.as_slice.ensures ∙ c.resets.ensures) c.in_ok-values.ensures.made in
    omega (
      arith,
      ap length all.ands,
      ap length (c.as_slice-2.ensures ∙ c.ands.ensures),
      c.in_ok-values.ensures.first,
      c.requires.gates.first,
      add-room c.args.net.now c.requires.net c.requires.room,
    )

pub returns-clause-moved : goal.returns-clause-moved
returns-clause-moved c =
    let all = values-made c.args.net.now c.requires.net c.args.gates.now
    c.effective_values.new.gates c.args.places.now _ _ c.requires.gates c.requires.places
    (c.as_slice.ensures ∙ c.resets.ensures) c.in_ok-values.ensures.made in
    moved-made c.args.net.now c.args.places.now _ _ c.in_ok-values.values c.requires.places
    (c.in_ok-values.ensures.first ∙ c.requires.gates.first)
    (c.len.ensures ∙ ap length all.ands) all.literals

added : (net : Net) (new old : List And) (m : Moved) (ands : List And) (made : List And) →
    new ≡ old ++ map (moved_and m) ands → old ≡ made → m ≡ moved_of net → ands ≡ net.ands →
    new ≡ made ++ map (safe_and net) net.ands
added net new old m ands made e eo em ea =
    e ∙ ap (λ o. o ++ map (moved_and m) ands) eo
    ∙ ap (λ m. made ++ map (moved_and m) ands) em
    ∙ ap (λ l. made ++ map (moved_and (moved_of net)) l) ea

pub returns-clause-gates : goal.returns-clause-gates
returns-clause-gates c =
    let all = values-made c.args.net.now c.requires.net c.args.gates.now
    c.effective_values.new.gates c.args.places.now _ _ c.requires.gates c.requires.places
    (c.as_slice.ensures ∙ c.resets.ensures) c.in_ok-values.ensures.made in
    let moved = moved-made c.args.net.now c.args.places.now _ _ c.in_ok-values.values
    c.requires.places (c.in_ok-values.ensures.first ∙ c.requires.gates.first)
    (c.len.ensures ∙ ap length all.ands) all.literals in
    record {
      first = c.in_ok-add_ands.ensures.first ∙ c.in_ok-values.ensures.first
          ∙ c.requires.gates.first;
      ands = added c.args.net.now _ _ _ _ _ c.in_ok-add_ands.ensures.ands all.ands moved
          (c.as_slice-2.ensures ∙ c.ands.ensures);
    }
