-- Why `driven_net` keeps its contract.
use Rattle.std.proofs.Common.{◌≤◌, ◌^◌, length, map, ◌∙◌, sym, ap, subst, arith}
use Rattle.aig_net.specs.Nets.{IsNet, Net, variables}
use Rattle.aig_net.specs.Wires.{Fits}
use Rattle.strat_compose.specs.declared.parts.Parts.{Parts}
use Rattle.hy_formula.specs.Atoms.{plain_atom}
use Rattle.strat_compose.specs.Driving.{HaveRoom, conjunction, driven, driven_ands, driven_outputs, owed_literals, signal_of}
use Rattle.strat_compose.proofs.Fitting.{driven-net, many-outputs}
use Rattle.strat_compose.proofs.Rooms.{ands-fit, have-room}
use Rattle.strat_compose.proofs.SignalBounds.{own_signal, plain-bound}
use Rattle.strat_compose.proofs.Sizes.{few-variables}
use Rattle.strat_compose.proofs.driving.driven_net.Goals as goal

pub net_parts-requires-clause-room : goal.net_parts-requires-clause-room
net_parts-requires-clause-room c =
    let P : Parts → Type 0 = HaveRoom c.args.net.now c.args.strategy.now in
    subst P (sym c.in_ok-parts.ensures) (have-room c.args.net.now c.args.strategy.now c.args.m
    c.args.e c.requires.small c.requires.slight c.requires.shape c.requires.universal
    c.requires.existential c.requires.few)

pub net_parts-requires-clause-few : goal.net_parts-requires-clause-few
net_parts-requires-clause-few c =
    let P : Parts → Type 0 = λ parts. length (driven_outputs c.args.net.now c.args.strategy.now
    parts (signal_of c.args.signals.now) (map plain_atom c.args.atoms.now)) ≤ 64 in
    let many = many-outputs c.args.net.now c.args.strategy.now c.args.m c.args.e
    (signal_of c.args.signals.now) (map plain_atom c.args.atoms.now) in
    subst P (sym c.in_ok-parts.ensures) (omega (arith, many, c.requires.names))

pub net_parts-requires-clause-fits : goal.net_parts-requires-clause-fits
net_parts-requires-clause-fits c =
    let P : Parts → Type 0 = λ parts. Fits parts.universal.gate
    (driven_ands c.args.net.now c.args.strategy.now parts)
    (conjunction (owed_literals c.args.net.now parts)) in
    subst P (sym c.in_ok-parts.ensures) (ands-fit c.args.net.now c.args.strategy.now c.args.m
    c.args.e c.requires.small c.requires.slight c.requires.shape c.requires.universal
    c.requires.existential c.requires.few (signal_of c.args.signals.now)
    (map plain_atom c.args.atoms.now))

pub new-requires-clause-net : goal.new-requires-clause-net
new-requires-clause-net c =
    let P : Net → Type 0 = IsNet in
    subst P (sym (c.in_ok-made.ensures ∙ ap (λ parts. driven c.args.net.now c.args.strategy.now
    parts (signal_of c.args.signals.now) (map plain_atom c.args.atoms.now)) c.in_ok-parts.ensures))
    (driven-net c.args.net.now c.args.strategy.now c.args.m c.args.e c.variables.ensures.net
    c.variables-2.ensures.net (signal_of c.args.signals.now) (map plain_atom c.args.atoms.now)
    (own_signal c.args.net.now c.args.signals.now c.requires.signals)
    (plain-bound _ c.args.atoms.now c.requires.atoms))

pub new-requires-clause-room : goal.new-requires-clause-room
new-requires-clause-room c =
    let P : Net → Type 0 = λ net. variables net ≤ 2 ^ 31 in
    let size = few-variables c.args.net.now c.args.strategy.now c.args.m c.args.e
    (signal_of c.args.signals.now) (map plain_atom c.args.atoms.now) c.requires.small
    c.requires.slight c.requires.universal c.requires.existential c.requires.few in
    subst P (sym (c.in_ok-made.ensures ∙ ap (λ parts. driven c.args.net.now c.args.strategy.now
    parts (signal_of c.args.signals.now) (map plain_atom c.args.atoms.now)) c.in_ok-parts.ensures))
    (omega (arith, size))
