-- Why `net_parts` keeps its contract.
use Rattle.std.proofs.Common.{ℕ, ◌*◌, List, length, ◌∙◌, sym, ap, subst, arith, map}
use Rattle.aig_net.specs.Nets.{AllBelow, variables}
use Rattle.hy_formula.specs.Atoms.{plain_atom}
use Rattle.strat_compose.specs.Driving.{driven, fresh_names, no_names, signal_of}
use Rattle.strat_compose.specs.Groups.{literals_in}
use Rattle.strat_compose.proofs.Assembling.{outputs-are, same-parts}
use Rattle.strat_compose.proofs.driving.net_parts.Goals as goal

pub overflow_mul-inputs : goal.overflow_mul-inputs
overflow_mul-inputs c =
    let same = ap (λ k. k * c.args.parts.now.universal.copies) c.inputs.ensures in
    omega (arith, same, c.requires.room.universal.few)

pub overflow_cast-named : goal.overflow_cast-named
overflow_cast-named c =
    let all = outputs-are c.args.net.now c.args.strategy.now c.args.parts.now
    (signal_of c.args.signals.now) (map plain_atom c.args.atoms.now) _ _ c.in_ok-outputs.ensures
    c.in_ok-ands.ensures.literal_is in
    omega (arith, c.len-named.ensures, ap length all, c.requires.few)

pub fresh_names-requires : goal.fresh_names-requires
fresh_names-requires c =
    let all = outputs-are c.args.net.now c.args.strategy.now c.args.parts.now
    (signal_of c.args.signals.now) (map plain_atom c.args.atoms.now) _ _ c.in_ok-outputs.ensures
    c.in_ok-ands.ensures.literal_is in
    omega (arith, c.len-named.ensures, ap length all, c.requires.few)

pub literals-requires-clause-own : goal.literals-requires-clause-own
literals-requires-clause-own c =
    let P : List ℕ → Type 0 = AllBelow (variables c.args.net.now) in
    subst P (sym (c.as_slice.ensures ∙ c.constraints.ensures)) c.variables.ensures.net.constraints

pub literals-requires-2-clause-own : goal.literals-requires-2-clause-own
literals-requires-2-clause-own c =
    let P : List ℕ → Type 0 = AllBelow (variables c.args.net.now) in
    subst P (sym (c.as_slice-2.ensures ∙ c.fairs.ensures)) c.variables.ensures.net.fairs

pub returns : goal.returns
returns c =
    let inputs = ap (λ k. k * c.args.parts.now.universal.copies) c.inputs.ensures in
    let all = outputs-are c.args.net.now c.args.strategy.now c.args.parts.now
    (signal_of c.args.signals.now) (map plain_atom c.args.atoms.now) _ _ c.in_ok-outputs.ensures
    c.in_ok-ands.ensures.literal_is in
    same-parts (driven c.args.net.now c.args.strategy.now c.args.parts.now
    (signal_of c.args.signals.now) (map plain_atom c.args.atoms.now)) _ _ _ _ _ _ _ _ _ _
    inputs (c.latches-2.view_is ∙ c.in_ok-latches.ensures) c.in_ok-resets.ensures
    (c.ands.view_is ∙ c.in_ok-ands.ensures.ands_are)
    (c.outputs-2.view_is ∙ all)
    (c.in_ok-literals.ensures ∙ ap (literals_in c.args.net.now c.args.parts.now.universal)
    (c.as_slice.ensures ∙ c.constraints.ensures))
    (c.in_ok-literals-2.ensures ∙ ap (literals_in c.args.net.now c.args.parts.now.universal)
    (c.as_slice-2.ensures ∙ c.fairs.ensures))
    (c.in_ok-without_names.ensures ∙ ap no_names inputs)
    (c.in_ok-without_names-2.ensures
    ∙ ap no_names (c.len-many.ensures ∙ ap length c.in_ok-latches.ensures))
    (c.in_ok-fresh_names.ensures ∙ ap fresh_names (c.len-named.ensures ∙ ap length all))
