use Rattle.std.proofs.Common.{◌≡◌, ℕ, ◌+◌, List, map, length, ◌∙◌, sym, ap, subst}
use Rattle.aig_net.specs.declared.parts.And.{And}
use Rattle.aig_net.specs.declared.parts.NetParts.{NetParts}
use Rattle.aig_net.specs.declared.parts.Reset.{Reset}
use Rattle.aig_net.specs.Nets.{Net}
use Rattle.ltl_closure.specs.Nodes.{Node}
use Rattle.sym_tableau.specs.declared.places.Places.{Places}
use Rattle.sym_tableau.specs.Oracles.{attach, moved_literal, no_names, signal_in}
use Rattle.sym_tableau.specs.Places.{HasRoom, moved_of, nexts_of, places_of, resets_of}
use Rattle.sym_tableau.proofs.Rooms.{has-room, reaches}
use Rattle.sym_tableau.proofs.attaching.attached_parts.Goals as goal

abbrev with-parts : ℕ → List ℕ → List Reset → List And → List ℕ → List ℕ → List ℕ →
    List (List ℕ) → List (List ℕ) → List (List ℕ) → NetParts
with-parts inputs latches resets ands outputs constraints fairs input_names latch_names
    output_names = record {
      inputs = inputs;
      latches = latches;
      resets = resets;
      ands = ands;
      outputs = outputs;
      constraints = constraints;
      fairs = fairs;
      input_names = input_names;
      latch_names = latch_names;
      output_names = output_names;
    }

module _ (net : Net) (nodes : List Node) (signals : ℕ → ℕ → ℕ) (roots : List ℕ) (p : Places)
    (ep : p ≡ places_of net nodes) where
  abbrev new : Net
  new = attach net nodes signals roots

  inputs-are : p.inputs + p.oracles ≡ new.inputs
  inputs-are = ap (λ (p : Places). p.inputs + p.oracles) ep

  latches-are : (latches own : List ℕ) → latches ≡ nexts_of p own → own ≡ net.latches →
      latches ≡ new.latches
  latches-are latches own e eo = e ∙ ap (λ p. nexts_of p own) ep
      ∙ ap (nexts_of (places_of net nodes)) eo

  resets-are : (resets own : List Reset) → resets ≡ resets_of p own → own ≡ net.resets →
      resets ≡ new.resets
  resets-are resets own e eo = e ∙ ap (λ p. resets_of p own) ep
      ∙ ap (resets_of (places_of net nodes)) eo

  outputs-are : (outputs own : List ℕ) → outputs ≡ map (moved_of p) own → own ≡ net.outputs →
      outputs ≡ new.outputs
  outputs-are outputs own e eo = e ∙ ap (λ p. map (moved_of p) own) ep
      ∙ ap (map (moved_literal net nodes)) eo

  abbrev gated : ℕ → List ℕ → List Reset → List ℕ → List (List ℕ) → List (List ℕ) →
      List (List ℕ) → NetParts
  gated i l r o n m q = with-parts i l r new.ands o new.constraints new.fairs n m q

  parts-are : (i : ℕ) (l : List ℕ) (r : List Reset) (a : List And) (o k f : List ℕ)
      (n m q : List (List ℕ)) → i ≡ new.inputs → l ≡ new.latches → r ≡ new.resets →
      a ≡ new.ands → o ≡ new.outputs → k ≡ new.constraints → f ≡ new.fairs →
      n ≡ new.input_names → m ≡ new.latch_names → q ≡ new.output_names →
      with-parts i l r a o k f n m q ≡ new
  parts-are i l r a o k f n m q ei el er ea eo ek ef en em eq =
      ap (λ a. with-parts i l r a o k f n m q) ea
      ∙ ap (λ k. with-parts i l r new.ands o k f n m q) ek
      ∙ ap (λ f. with-parts i l r new.ands o new.constraints f n m q) ef
      ∙ ap (λ i. gated i l r o n m q) ei
      ∙ ap (λ l. gated new.inputs l r o n m q) el
      ∙ ap (λ r. gated new.inputs new.latches r o n m q) er
      ∙ ap (λ o. gated new.inputs new.latches new.resets o n m q) eo
      ∙ ap (λ n. gated new.inputs new.latches new.resets new.outputs n m q) en
      ∙ ap (λ m. gated new.inputs new.latches new.resets new.outputs new.input_names m q) em
      ∙ ap (gated new.inputs new.latches new.resets new.outputs new.input_names
      new.latch_names) eq

pub nexts-requires-clause-places : goal.nexts-requires-clause-places
nexts-requires-clause-places c =
    let P : Places → Type 0 = HasRoom in
    subst P (sym c.requires.places) (has-room c.args.net.now c.args.closure.now.nodes
    (signal_in c.args.signals.now) c.args.closure.now.roots c.requires.room)

pub nexts-requires-clause-reach : goal.nexts-requires-clause-reach
nexts-requires-clause-reach c =
    reaches c.args.net.now c.args.closure.now.nodes (signal_in c.args.signals.now)
    c.args.closure.now.roots c.requires.room c.args.places.now _ _ c.requires.places
    (c.as_slice.ensures ∙ c.latches.ensures) c.requires.net.latches

pub literals-requires : goal.literals-requires
literals-requires c =
    reaches c.args.net.now c.args.closure.now.nodes (signal_in c.args.signals.now)
    c.args.closure.now.roots c.requires.room c.args.places.now _ _ c.requires.places
    (c.as_slice-3.ensures ∙ c.outputs.ensures) c.requires.net.outputs

pub returns : goal.returns
returns c =
    let inputs = inputs-are c.args.net.now c.args.closure.now.nodes (signal_in c.args.signals.now)
    c.args.closure.now.roots c.args.places.now c.requires.places in
    let latches = latches-are c.args.net.now c.args.closure.now.nodes (signal_in c.args.signals.now)
    c.args.closure.now.roots c.args.places.now c.requires.places _ _
    c.in_ok-latches.ensures (c.as_slice.ensures ∙ c.latches.ensures) in
    let outputs = outputs-are c.args.net.now c.args.closure.now.nodes (signal_in c.args.signals.now)
    c.args.closure.now.roots c.args.places.now c.requires.places _ _
    c.in_ok-literals.ensures (c.as_slice-3.ensures ∙ c.outputs.ensures) in
    parts-are c.args.net.now c.args.closure.now.nodes (signal_in c.args.signals.now)
    c.args.closure.now.roots c.args.places.now c.requires.places _ _ _ _ _ _ _
    _ _ _ inputs latches
    (resets-are c.args.net.now c.args.closure.now.nodes (signal_in c.args.signals.now)
    c.args.closure.now.roots c.args.places.now c.requires.places _ _
    c.in_ok-resets.ensures (c.as_slice-2.ensures ∙ c.resets.ensures))
    (c.ands.view_is ∙ c.in_ok-ands.ensures.ands_are) outputs
    (c.constraints.view_is
    ∙ c.in_ok-ands.ensures.constraints_are)
    (c.fairs.view_is ∙ c.in_ok-ands.ensures.fairs_are)
    (c.in_ok-without_names.ensures ∙ ap no_names inputs)
    (c.in_ok-without_names-2.ensures ∙ ap no_names (c.len-many.ensures ∙ ap length latches))
    (c.in_ok-without_names-3.ensures ∙ ap no_names (c.len.ensures ∙ ap length c.outputs-2.ensures))
