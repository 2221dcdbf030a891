use Rattle.std.proofs.Common.{arith}
use Rattle.std.proofs.lemmas.Bool.{OnTrue_at}
use Rattle.hy_formula.specs.Trees.{tree_of}
use Rattle.bench_tools.proofs.posed.nets_of.Goals as goal

pub pose-requires-clause-room : goal.pose-requires-clause-room
pose-requires-clause-room c =
    c.circuits_have_room.ensures c.args.net.now c.formula_of.new.names c.in_ok-formula.formula.prefix
    (tree_of c.in_ok-formula.formula.body)
    (OnTrue_at c.if-ensure.false c.is_small.ensures.variables)
    (OnTrue_at c.if-ensure.false c.is_small.ensures.literals)
    (omega (arith, c.len.ensures.some)) c.in_ok-formula.ensures

pub pose-requires-in-Forall-clause-room : goal.pose-requires-in-Forall-clause-room
pose-requires-in-Forall-clause-room c =
    c.circuits_have_room.ensures c.args.net.now c.formula_of.new.names c.in_ok-formula.formula.prefix
    (tree_of c.in_ok-formula.formula.body)
    (OnTrue_at c.if-ensure.false c.is_small.ensures.variables)
    (OnTrue_at c.if-ensure.false c.is_small.ensures.literals)
    (omega (arith, c.len.ensures.some)) c.in_ok-formula.ensures
