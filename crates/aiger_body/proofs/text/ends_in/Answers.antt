use Rattle.std.proofs.Common.{◌<◌, length, nat_eq, sym, arith}
use Rattle.std.proofs.lemmas.Bool.{eqb-false}
use Rattle.aiger_body.proofs.Scanning.{ended_last}
use Rattle.aiger_body.proofs.text.ends_in.Goals as goal

pub returns-then-not-is_empty : goal.returns-then-not-is_empty
returns-then-not-is_empty c =
    let apart = eqb-false _ 0 (sym c.if-not-is_empty.ensures) in
    let some : 0 < length c.args.text.now = omega (arith, apart) in
    sym (ended_last (λ b. nat_eq b c.args.byte) c.args.text.now some)
