use Rattle.std.proofs.Common.{◌<◌, length, not, sym, ◌∙◌, ap, ◌&&◌, arith}
use Rattle.std.proofs.lemmas.Bool.{eqb-false, lt-ltb}
use Rattle.aiger_body.specs.Texts.{is_return, is_ended}
use Rattle.aiger_body.proofs.Scanning.{ended_last}
use Rattle.aiger_read.proofs.symbol.is_name.Goals as goal

pub returns-then-not-is_empty : goal.returns-then-not-is_empty
returns-then-not-is_empty c =
    let apart = eqb-false _ 0 (sym c.if-not-is_empty.ensures) in
    let some : 0 < length c.args.name.now = omega (arith, apart) in
    sym (ap (λ b. b && not (is_ended is_return c.args.name.now)) (lt-ltb _ _ some) ∙ ap not (ended_last is_return c.args.name.now some))
