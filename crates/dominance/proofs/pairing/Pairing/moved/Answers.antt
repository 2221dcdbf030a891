use Rattle.std.proofs.Common.{◌<◌, ℕ, length, sym, ◌∙◌, subst}
use Rattle.std.proofs.lemmas.Nat.{or_lt}
use Rattle.std.proofs.lemmas.Grind.{get_or_default_zero}
use Rattle.std.proofs.lemmas.Bool.{ltb-true}
use Rattle.fin_monitor.specs.Machines.{codes}
use Rattle.fin_monitor.specs.Seen.{machine_of}
use Rattle.dominance.proofs.pairing.Pairing.moved.Goals as goal

pub step-requires-clause-code : goal.step-requires-clause-code
step-requires-clause-code g c =
    let e = c.in-Some.ensures.lookup.1
    ∙ get_or_default_zero c.args.column.now c.args.at c.in-Some.part.now
    (ltb-true _ _ (sym c.in-Some.ensures.lookup.0)) in
    let P : ℕ → Type 0 = λ x. x < codes (machine_of c.args.self.now.monitor.now) in
    or_lt (length (machine_of c.args.self.now.monitor.now).atoms) c.in-Some.part.now c.args.code
    (subst P (sym e) (c.requires.column c.args.at)) c.requires.code
