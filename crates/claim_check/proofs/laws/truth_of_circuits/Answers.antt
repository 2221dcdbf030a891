use Rattle.std.proofs.Common.{length}
use Rattle.formula_nets.specs.Posed.{is_existential}
use Rattle.formula_nets.proofs.MadeSafe.{formula-safe-is}
use Rattle.claim_check.specs.Good.{safe_net}
use Rattle.claim_check.proofs.TrueCircuits.{circuit-true}
use Rattle.claim_check.proofs.laws.truth_of_circuits.Goals as goal

pub returns : goal.returns
returns c names net f cert is some bound taken good =
    circuit-true net names f (c.same_signals.ensures net names f.prefix f.body)
    (λ signals proof are shows.
    let own = c.signals_are_own.ensures net names f.body signals is are in
    let safe = formula-safe-is net signals (length f.prefix) f.body (is_existential f.prefix) is own
    some c.paths_are_lassos.ensures.latches in
    c.paths_decide.ensures.none net signals f.prefix f.body is own some bound taken
    (c.induction_proof.ensures (safe_net net signals f) proof safe shows.0))
    (λ signals list tuple are.
    c.witnesses_decide.ensures net signals f.prefix f.body list tuple some bound taken are)
    cert good
