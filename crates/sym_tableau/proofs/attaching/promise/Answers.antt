use Rattle.std.proofs.Common.{◌≡◌, ℕ, List, ◌++◌, map, length, ◌∙◌, sym, ap, subst, arith}
use Rattle.aig_net.specs.Nets.{Net, variables}
use Rattle.ltl_closure.specs.Nodes.{Node}
use Rattle.sym_tableau.specs.declared.places.Places.{Places}
use Rattle.sym_tableau.specs.Oracles.{moved_literal, signal_in}
use Rattle.sym_tableau.specs.Places.{HasRoom, Reaches, moved_of, places_of}
use Rattle.sym_tableau.proofs.Rooms.{has-room, reach, reaches, reaches-ands, signal-below}
use Rattle.sym_tableau.proofs.Stages.{base-at, constraints-at, constraints-room, ends-at, ends-room, first-at, first-room, values-at, values-many, values-room}
use Rattle.sym_tableau.proofs.attaching.promise.Goals as goal

pub first-requires : goal.first-requires
first-requires c =
    first-room c.args.net.now c.args.closure.now.nodes c.args.signals.now
    c.args.closure.now.roots c.requires.room c.args.places.now c.requires.places _
    (c.len.ensures ∙ ap length c.latches.ensures)

pub ands-requires-2 : goal.ands-requires-2
ands-requires-2 c =
    reaches-ands c.args.net.now c.args.closure.now.nodes (signal_in c.args.signals.now)
    c.args.closure.now.roots c.requires.room c.args.places.now _ c.requires.places
    (c.as_slice.ensures ∙ c.ands.ensures) c.requires.net

pub member_values-requires-clause-places : goal.member_values-requires-clause-places
member_values-requires-clause-places c =
    let P : Places → Type 0 = HasRoom in
    subst P (sym c.requires.places) (has-room c.args.net.now c.args.closure.now.nodes
    (signal_in c.args.signals.now) c.args.closure.now.roots c.requires.room)

pub member_values-requires-clause-reach : goal.member_values-requires-clause-reach
member_values-requires-clause-reach c n v =
    let P : Places → Type 0 = λ p. Reaches p (signal_in c.args.signals.now n v) in
    subst P (sym c.requires.places) (reach c.args.net.now c.args.closure.now.nodes
    (signal_in c.args.signals.now) c.args.closure.now.roots c.requires.room
    (signal_in c.args.signals.now n v) (signal-below (variables c.args.net.now) n v
    c.args.signals.now (omega arith) c.requires.signals))

pub member_values-requires-clause-room : goal.member_values-requires-clause-room
member_values-requires-clause-room c =
    let first = first-at c.args.net.now c.args.closure.now.nodes c.args.signals.now
    c.args.closure.now.roots c.requires.room c.args.places.now c.requires.places _
    (c.len.ensures ∙ ap length c.latches.ensures) in
    let base = base-at c.args.net.now c.args.closure.now.nodes c.args.signals.now
    c.args.closure.now.roots c.requires.room c.args.places.now c.requires.places _ _
    c.in_ok-ands.ensures (c.as_slice.ensures ∙ c.ands.ensures) in
    values-room c.args.net.now c.args.closure.now.nodes c.args.signals.now
    c.args.closure.now.roots c.requires.room c.args.places.now c.requires.places _ _
    (c.first.ensures ∙ first) base

pub literals-requires : goal.literals-requires
literals-requires c =
    reaches c.args.net.now c.args.closure.now.nodes (signal_in c.args.signals.now)
    c.args.closure.now.roots c.requires.room c.args.places.now _ _ c.requires.places
    (c.as_slice-2.ensures ∙ c.constraints.ensures) c.requires.net.constraints

pub add_constraints-requires-clause-places : goal.add_constraints-requires-clause-places
add_constraints-requires-clause-places c =
    let P : Places → Type 0 = HasRoom in
    subst P (sym c.requires.places) (has-room c.args.net.now c.args.closure.now.nodes
    (signal_in c.args.signals.now) c.args.closure.now.roots c.requires.room)

pub add_constraints-requires-clause-values : goal.add_constraints-requires-clause-values
add_constraints-requires-clause-values c =
    let first = first-at c.args.net.now c.args.closure.now.nodes c.args.signals.now
    c.args.closure.now.roots c.requires.room c.args.places.now c.requires.places _
    (c.len.ensures ∙ ap length c.latches.ensures) in
    let base = base-at c.args.net.now c.args.closure.now.nodes c.args.signals.now
    c.args.closure.now.roots c.requires.room c.args.places.now c.requires.places _ _
    c.in_ok-ands.ensures (c.as_slice.ensures ∙ c.ands.ensures) in
    let values = values-at c.args.net.now c.args.closure.now.nodes c.args.signals.now
    c.args.closure.now.roots c.requires.room c.args.places.now c.requires.places _ _ _ _
    (c.first.ensures ∙ first) base c.in_ok-values.ensures.made in
    let first = c.in_ok-values.ensures.first ∙ c.first.ensures ∙ first in
    values-many c.args.net.now c.args.closure.now.nodes c.args.signals.now
    c.args.closure.now.roots c.requires.room c.args.places.now c.requires.places _
    (c.as_slice-3.ensures ∙ values.1)

pub add_constraints-requires-clause-room : goal.add_constraints-requires-clause-room
add_constraints-requires-clause-room c =
    let first = first-at c.args.net.now c.args.closure.now.nodes c.args.signals.now
    c.args.closure.now.roots c.requires.room c.args.places.now c.requires.places _
    (c.len.ensures ∙ ap length c.latches.ensures) in
    let base = base-at c.args.net.now c.args.closure.now.nodes c.args.signals.now
    c.args.closure.now.roots c.requires.room c.args.places.now c.requires.places _ _
    c.in_ok-ands.ensures (c.as_slice.ensures ∙ c.ands.ensures) in
    let values = values-at c.args.net.now c.args.closure.now.nodes c.args.signals.now
    c.args.closure.now.roots c.requires.room c.args.places.now c.requires.places _ _ _ _
    (c.first.ensures ∙ first) base c.in_ok-values.ensures.made in
    let first = c.in_ok-values.ensures.first ∙ c.first.ensures ∙ first in
    constraints-room c.args.net.now c.args.closure.now.nodes c.args.signals.now
    c.args.closure.now.roots c.requires.room c.args.places.now c.requires.places _ _ _
    first values.0 (c.as_slice-3.ensures ∙ values.1)

pub literals-requires-2 : goal.literals-requires-2
literals-requires-2 c =
    reaches c.args.net.now c.args.closure.now.nodes (signal_in c.args.signals.now)
    c.args.closure.now.roots c.requires.room c.args.places.now _ _ c.requires.places
    (c.as_slice-4.ensures ∙ c.fairs.ensures) c.requires.net.fairs

pub add_ends-requires-clause-values : goal.add_ends-requires-clause-values
add_ends-requires-clause-values c =
    let first = first-at c.args.net.now c.args.closure.now.nodes c.args.signals.now
    c.args.closure.now.roots c.requires.room c.args.places.now c.requires.places _
    (c.len.ensures ∙ ap length c.latches.ensures) in
    let base = base-at c.args.net.now c.args.closure.now.nodes c.args.signals.now
    c.args.closure.now.roots c.requires.room c.args.places.now c.requires.places _ _
    c.in_ok-ands.ensures (c.as_slice.ensures ∙ c.ands.ensures) in
    let values = values-at c.args.net.now c.args.closure.now.nodes c.args.signals.now
    c.args.closure.now.roots c.requires.room c.args.places.now c.requires.places _ _ _ _
    (c.first.ensures ∙ first) base c.in_ok-values.ensures.made in
    let first = c.in_ok-values.ensures.first ∙ c.first.ensures ∙ first in
    values-many c.args.net.now c.args.closure.now.nodes c.args.signals.now
    c.args.closure.now.roots c.requires.room c.args.places.now c.requires.places _
    (c.as_slice-5.ensures ∙ values.1)

pub add_ends-requires-clause-room : goal.add_ends-requires-clause-room
add_ends-requires-clause-room c =
    let first = first-at c.args.net.now c.args.closure.now.nodes c.args.signals.now
    c.args.closure.now.roots c.requires.room c.args.places.now c.requires.places _
    (c.len.ensures ∙ ap length c.latches.ensures) in
    let base = base-at c.args.net.now c.args.closure.now.nodes c.args.signals.now
    c.args.closure.now.roots c.requires.room c.args.places.now c.requires.places _ _
    c.in_ok-ands.ensures (c.as_slice.ensures ∙ c.ands.ensures) in
    let values = values-at c.args.net.now c.args.closure.now.nodes c.args.signals.now
    c.args.closure.now.roots c.requires.room c.args.places.now c.requires.places _ _ _ _
    (c.first.ensures ∙ first) base c.in_ok-values.ensures.made in
    let first = c.in_ok-values.ensures.first ∙ c.first.ensures ∙ first in
    let kept = constraints-at c.args.net.now c.args.closure.now.nodes c.args.signals.now
    c.args.closure.now.roots c.requires.room c.args.places.now c.requires.places _ _ _ _ _ _
    first values.0 (c.as_slice-3.ensures ∙ values.1) c.in_ok-add_constraints.ensures.added in
    ends-room c.args.net.now c.args.closure.now.nodes c.args.signals.now
    c.args.closure.now.roots c.requires.room c.args.places.now c.requires.places _ _ _
    (c.in_ok-add_constraints.ensures.first ∙ first) kept.0 (c.as_slice-5.ensures ∙ values.1)

moved-front : (net : Net) (nodes : List Node) (p : Places) (made list literals rest : List ℕ) →
    made ≡ map (moved_of p) list → p ≡ places_of net nodes → list ≡ literals →
    made ++ rest ≡ map (moved_literal net nodes) literals ++ rest
moved-front net nodes p made list literals rest e ep el =
    ap (λ l. l ++ rest) (e ∙ ap (λ p. map (moved_of p) list) ep
    ∙ ap (map (moved_literal net nodes)) el)

pub returns : goal.returns
returns c =
    let first = first-at c.args.net.now c.args.closure.now.nodes c.args.signals.now
    c.args.closure.now.roots c.requires.room c.args.places.now c.requires.places _
    (c.len.ensures ∙ ap length c.latches.ensures) in
    let base = base-at c.args.net.now c.args.closure.now.nodes c.args.signals.now
    c.args.closure.now.roots c.requires.room c.args.places.now c.requires.places _ _
    c.in_ok-ands.ensures (c.as_slice.ensures ∙ c.ands.ensures) in
    let values = values-at c.args.net.now c.args.closure.now.nodes c.args.signals.now
    c.args.closure.now.roots c.requires.room c.args.places.now c.requires.places _ _ _ _
    (c.first.ensures ∙ first) base c.in_ok-values.ensures.made in
    let first = c.in_ok-values.ensures.first ∙ c.first.ensures ∙ first in
    let kept = constraints-at c.args.net.now c.args.closure.now.nodes c.args.signals.now
    c.args.closure.now.roots c.requires.room c.args.places.now c.requires.places _ _ _ _ _ _
    first values.0 (c.as_slice-3.ensures ∙ values.1) c.in_ok-add_constraints.ensures.added in
    let fair = ends-at c.args.net.now c.args.closure.now.nodes c.args.signals.now
    c.args.closure.now.roots c.requires.room c.args.places.now c.requires.places _ _ _ _ _ _
    (c.in_ok-add_constraints.ensures.first ∙ first) kept.0 (c.as_slice-5.ensures ∙ values.1)
    c.in_ok-add_ends.ensures.added in
    record {
      ands_are = fair.0;
      constraints_are = kept.1 ∙ moved-front c.args.net.now c.args.closure.now.nodes
          c.args.places.now _ _ _ _ c.in_ok-constraints.ensures c.requires.places
          (c.as_slice-2.ensures ∙ c.constraints.ensures);
      fairs_are = fair.1 ∙ moved-front c.args.net.now c.args.closure.now.nodes
          c.args.places.now _ _ _ _ c.in_ok-fairs.ensures c.requires.places
          (c.as_slice-4.ensures ∙ c.fairs.ensures);
    }
