use Rattle.std.proofs.Common.{◌≡◌, ℕ, ◌+◌, ◌<◌, List, length, sym, ap, ◌∙◌, subst, arith}
use Rattle.hy_base.proofs.Listed.{at-listed, length-listed}
use Rattle.aig_net.specs.declared.run.Run.{Run}
use Rattle.aig_net.specs.declared.run.ValueLasso.{ValueLasso}
use Rattle.aig_net.specs.Simulations.{IsExecutionOf}
use Rattle.wit_lasso.specs.Unfoldings.{no_run, run_at}
use Rattle.strat_compose.specs.Runs.{universal_run}
use Rattle.strat_core.proofs.failing.universal_witnesses.Goals as goal

pub traces_of-requires-clause-runs : goal.traces_of-requires-clause-runs
traces_of-requires-clause-runs c =
    let E : Run → Type 0 = λ r. (values : ValueLasso) × IsExecutionOf c.args.net.now r values in
    let one : ℕ → Run = universal_run c.args.net.now c.args.m c.args.run.now in
    let P : List Run → Type 0 = λ runs. (k : ℕ) → k < length runs → E (run_at runs k) in
    subst P (sym (c.as_slice.ensures ∙ c.in_ok-runs.ensures))
    (λ k lt.
    let many = length-listed 0 c.args.m one in
    let few : k < c.args.m = omega (arith, lt, many) in
    let plain : 0 + k ≡ k = omega arith in
    subst E (sym (at-listed 0 c.args.m one no_run k few ∙ ap one plain))
    (c.requires.executions k few))
