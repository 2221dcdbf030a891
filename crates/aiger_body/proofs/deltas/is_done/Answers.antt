use Rattle.std.proofs.Common.{◌<◌, length, sym, arith}
use Rattle.std.proofs.lemmas.Bool.{eqb-false}
use Rattle.aiger_body.specs.Files.{ends_number}
use Rattle.aiger_body.proofs.Scanning.{ended_last}
use Rattle.aiger_body.proofs.deltas.is_done.Goals as goal

pub returns-then-not-is_empty : goal.returns-then-not-is_empty
returns-then-not-is_empty c =
    let apart = eqb-false _ 0 (sym c.if-not-is_empty.ensures) in
    let some : 0 < length c.args.group.now = omega (arith, apart) in
    sym (ended_last ends_number c.args.group.now some)
