-- Why `drive` keeps its contract.
use Rattle.std.proofs.Common.{arith}
use Rattle.std.proofs.Math.Nat.{mul-le-mul_left}
use Rattle.hy_formula.specs.Trees.{tree_of}
use Rattle.strat_compose.proofs.Prefixes.{shape-length}
use Rattle.strat_compose.proofs.SignalBounds.{own_signals}
use Rattle.strat_compose.proofs.question.drive.Goals as goal

pub is_strategy-requires-clause-few : goal.is_strategy-requires-clause-few
is_strategy-requires-clause-few c =
    let long = shape-length _ _ _ c.in-Some.ensures.some in
    omega (arith, long, c.requires.quantifiers)

pub overflow_mul-result : goal.overflow_mul-result
overflow_mul-result c =
    let long = shape-length _ _ _ c.in-Some.ensures.some in
    let most = mul-le-mul_left {m = c.in-Some.counts.universal} {n = 4} c.inputs.result
    (omega (arith, long, c.requires.quantifiers)) in
    omega (arith, most, c.inputs.ensures, c.requires.small.variables)

pub overflow_mul-result-then-not-is_strategy : goal.overflow_mul-result-then-not-is_strategy
overflow_mul-result-then-not-is_strategy c =
    let long = shape-length _ _ _ c.in-Some.ensures.some in
    let most = mul-le-mul_left {m = c.in-Some.counts.existential} {n = 4}
    c.inputs-then-not-is_strategy.result (omega (arith, long, c.requires.quantifiers)) in
    omega (arith, most, c.inputs-then-not-is_strategy.ensures, c.requires.small.variables)

pub few_atoms-requires-clause-few : goal.few_atoms-requires-clause-few
few_atoms-requires-clause-few c =
    let long = shape-length _ _ _ c.in-Some.ensures.some in
    omega (arith, long, c.requires.quantifiers)

pub make-requires-clause-signals : goal.make-requires-clause-signals
make-requires-clause-signals c =
    own_signals c.args.net.now c.args.names.now (tree_of c.args.formula.now.body) c.in-Ok.signals
    c.variables.ensures.net c.in-Ok.ensures.signals
