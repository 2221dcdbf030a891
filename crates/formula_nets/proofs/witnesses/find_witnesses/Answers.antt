use Rattle.std.proofs.Common.{ℕ, ◌<◌, List, length, sym, subst, arith}
use Rattle.hy_formula.specs.Trees.{tree_of}
use Rattle.aig_net.specs.declared.run.Run.{Run}
use Rattle.aig_net.specs.declared.run.ValueLasso.{ValueLasso}
use Rattle.aig_net.specs.Simulations.{IsExecutionOf}
use Rattle.wit_lasso.specs.Unfoldings.{IsSafeOf, IsUnfolding, run_at}
use Rattle.formula_nets.specs.Posed.{is_existential}
use Rattle.formula_nets.specs.Witnesses.{AreTraces}
use Rattle.formula_nets.proofs.Witnessing.{runs-execute, runs-witness, safe-of}
use Rattle.formula_nets.proofs.witnesses.find_witnesses.Goals as goal

pub unfold-requires-clause-safe : goal.unfold-requires-clause-safe
unfold-requires-clause-safe c =
    let P : ℕ → Type 0 = λ n. IsSafeOf c.args.net.now n c.args.safe.now in
    subst P (sym c.len.ensures.len)
    (safe-of c.args.net.now c.args.signals.now c.args.formula.now.prefix
    (tree_of c.args.formula.now.body) c.args.safe.now c.requires.safe)

pub traces_of-requires-clause-runs : goal.traces_of-requires-clause-runs
traces_of-requires-clause-runs c =
    let U : ℕ → Type 0 = λ n. IsUnfolding c.args.net.now n c.args.safe.now c.args.path.now
    c.in_ok-runs.runs in
    let P : List Run → Type 0 = λ runs. (k : ℕ) → k < length runs →
    (values : ValueLasso) × IsExecutionOf c.args.net.now (run_at runs k) values in
    subst P (sym c.as_slice.ensures)
    (runs-execute c.args.net.now c.variables.ensures.net c.args.signals.now
    c.args.formula.now.prefix (tree_of c.args.formula.now.body) c.args.safe.now c.requires.safe
    c.args.path.now c.requires.path c.in_ok-runs.runs
    (subst U c.len.ensures.len c.in_ok-runs.ensures))

pub returns : goal.returns
returns c =
    let U : ℕ → Type 0 = λ n. IsUnfolding c.args.net.now n c.args.safe.now c.args.path.now
    c.in_ok-runs.runs in
    let T : List Run → Type 0 = λ runs. AreTraces c.args.net.now c.args.signals.now runs
    c.in_ok-traces.traces in
    let some : 0 < length c.args.formula.now.prefix =
    (let a = c.len.ensures.len in let b = c.len.ensures.some in omega (arith, a, b)) in
    runs-witness c.args.net.now c.variables.ensures.net c.args.signals.now
    c.args.formula.now.prefix (tree_of c.args.formula.now.body) c.args.safe.now c.requires.safe
    c.args.path.now c.requires.path c.in_ok-runs.runs
    (subst U c.len.ensures.len c.in_ok-runs.ensures) c.in_ok-traces.traces
    (subst T c.as_slice.ensures c.in_ok-traces.ensures)
    (λ each bad unfolded many. c.checked.ensures.traces c.args.net.now c.args.signals.now
    (length c.args.formula.now.prefix) (tree_of c.args.formula.now.body)
    (is_existential c.args.formula.now.prefix) c.variables.ensures.net c.requires.own some
    c.requires.small (length c.args.path.now.inputs) c.requires.path.0 c.in_ok-runs.runs
    c.in_ok-traces.traces bad unfolded many each)
