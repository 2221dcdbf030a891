use Rattle.std.proofs.Common.{arith}
use Rattle.hy_formula.specs.Formulas.{plain_formula}
use Rattle.mc_tool.specs.Checking.{spent}
use Rattle.mc_tool.proofs.Checking.{check-found, check-prefix, check-limit, check-cnf, check-name}
use Rattle.mc_tool.proofs.check.check.Goals as goal

pub check-requires-clause-room : goal.check-requires-clause-room
check-requires-clause-room c =
    c.circuits_have_room.ensures c.args.net.now c.args.names.now c.args.formula.now.prefix _ c.requires.variables c.requires.literals
    (let e = c.len.ensures.len in let s = c.len.ensures.some in omega (arith, e, s)) c.requires.quantifiers

pub returns-in-Ok : goal.returns-in-Ok
returns-in-Ok c =
    check-found c.args.net.now c.args.names.now (plain_formula c.args.formula.now) c.args.ask.now c.in-Ok.checked c.in-Ok.ensures

pub returns-in-Err-Prefix : goal.returns-in-Err-Prefix
returns-in-Err-Prefix c =
    check-prefix c.args.net.now c.args.names.now (plain_formula c.args.formula.now) c.args.ask.now c.in-Err-Prefix.class (rw c.in-Err-Prefix.field-0-is at c.in-Err-Prefix.ensures)

pub returns-in-Err-Limit : goal.returns-in-Err-Limit
returns-in-Err-Limit c =
    rw c.past.ensures
    (check-limit c.args.net.now c.args.names.now (plain_formula c.args.formula.now) c.args.ask.now c.in-Err-Limit.limit (rw c.in-Err-Limit.field-0-is at c.in-Err-Limit.ensures))

pub returns-in-Err-CnfLimit : goal.returns-in-Err-CnfLimit
returns-in-Err-CnfLimit c =
    check-cnf c.args.net.now c.args.names.now (plain_formula c.args.formula.now) c.args.ask.now _ _ _ _ c.in-Err-CnfLimit.field-0-is c.in-Err-CnfLimit.ensures

pub returns-in-Err-Name : goal.returns-in-Err-Name
returns-in-Err-Name c =
    check-name c.args.net.now c.args.names.now (plain_formula c.args.formula.now) c.args.ask.now c.in-Err-Name.name c.in-Err-Name.twice _
    (rw c.in-Err-Name.field-0-is at c.in-Err-Name.ensures) c.bad_name.ensures

pub returns-in-Err-Memory : goal.returns-in-Err-Memory
returns-in-Err-Memory c = spent
