use Rattle.std.proofs.Common.{◌≡◌, ◌⊎◌, ℕ, ◌<◌, List, length, sym, ap, ◌∙◌, subst}
use Rattle.ea_reduce.specs.Plans.{PlainPlan, plain_plan}
use Rattle.aig_net.specs.declared.run.Run.{Run}
use Rattle.aig_net.specs.declared.run.ValueLasso.{ValueLasso}
use Rattle.aig_net.specs.declared.signals.Signal.{Signal}
use Rattle.aig_net.specs.Nets.{Net, variables}
use Rattle.aig_net.specs.Simulations.{IsExecutionOf}
use Rattle.live_safe.specs.declared.safe_net.SafeNet.{SafeNet}
use Rattle.live_safe.specs.declared.safe_net.Path.{Path}
use Rattle.live_safe.specs.Paths.{IsBadPath}
use Rattle.live_safe.specs.Safe.{to_safe}
use Rattle.sym_tableau.specs.Places.{AreWithin}
use Rattle.formula_nets.specs.Witnesses.{AreTraces}
use Rattle.wit_lasso.specs.FormulaNets.{tableau_net}
use Rattle.wit_lasso.specs.Unfoldings.{GoesToBad, run_at}
use Rattle.free_net.specs.FreeNets.{plan_inputs, plan_names, plan_tableau}
use Rattle.free_net.proofs.Seeing.{free-own}
use Rattle.ea_circuit.proofs.Walking.{runs-execute, traces-are, traces-short, unfolded}
use Rattle.mc_core.specs.Answers.{IsProved, IsWorkRefusal}
use Rattle.mc_core.specs.Decisions.{HasNoBadPath, IsDecision}
use Rattle.mc_core.specs.declared.decision.Decision.{Decision}
use Rattle.mc_core.specs.declared.decision.Decision.TheVariants.{Path as Shortest, FarPath}
use Rattle.mc_core.specs.declared.ask.Ask.{Ask}
use Rattle.mc_core.proofs.Verdicts.{goes-to-bad, met}
use Rattle.ea_circuit.specs.declared.circuit_error.CircuitError.{CircuitError}
use Rattle.ea_circuit.specs.Refused.{RefusesWork}
use Rattle.ea_circuit.proofs.Refusing.{work-refused}
use Rattle.ea_circuit.proofs.deciding.decide_nets.Goals as goal

pub returns-in-Err-clause-refused : goal.returns-in-Err-clause-refused
returns-in-Err-clause-refused c =
    let plan : PlainPlan = plain_plan c.args.plan.now in
    let W : SafeNet → Type 0 = λ s. IsWorkRefusal s c.args.ask.now c.in-Err.e in
    let R : CircuitError → Type 0 = RefusesWork plan c.args.ask.now in
    subst R (sym c.work_error.ensures)
    (work-refused plan c.args.ask.now c.in-Err.e
    (subst W c.requires.nets.safe c.in-Err.ensures.refused))

-- the path that was met goes to bad
goes : (safe : SafeNet) (ask : Ask) (decision : Decision) (path : Path) →
    IsDecision safe ask decision → (decision ≡ Shortest path) ⊎ (decision ≡ FarPath path) →
    GoesToBad safe path
goes safe ask decision path decided is = goes-to-bad safe path (met safe ask decision path decided is)

pub unfold-requires-clause-path : goal.unfold-requires-clause-path
unfold-requires-clause-path c =
    goes c.args.nets.now.safe c.args.ask.now c.in-Ok.decision c.in-Path.path
    c.in-Ok.ensures.decided c.in-Path.is

pub unfold-requires-clause-some : goal.unfold-requires-clause-some
unfold-requires-clause-some c = c.requires.reduced.some

pub unfold-requires-clause-safe : goal.unfold-requires-clause-safe
unfold-requires-clause-safe c =
    let plan : PlainPlan = plain_plan c.args.plan.now in (
      plan_tableau plan,
      c.requires.nets.safe
          ∙ sym (ap (λ (net : Net). to_safe (tableau_net net plan.vars (plan_tableau plan)))
          c.requires.nets.inputs),
    )

pub traces_of-requires-clause-runs : goal.traces_of-requires-clause-runs
traces_of-requires-clause-runs c =
    let plan : PlainPlan = plain_plan c.args.plan.now in
    let path : GoesToBad c.args.nets.now.safe c.in-Path.path =
    goes c.args.nets.now.safe c.args.ask.now c.in-Ok.decision c.in-Path.path
    c.in-Ok.ensures.decided c.in-Path.is in
    let P : List Run → Type 0 = λ runs. (k : ℕ) → k < length runs →
    (values : ValueLasso) × IsExecutionOf c.args.nets.now.inputs (run_at runs k) values in
    subst P (sym c.as_slice.ensures)
    (runs-execute plan c.args.nets.now c.requires.nets c.in-Path.path path
    c.in_ok-runs-in-Path.runs c.in_ok-runs-in-Path.ensures)

pub traces_of-requires-clause-within : goal.traces_of-requires-clause-within
traces_of-requires-clause-within c =
    let plan : PlainPlan = plain_plan c.args.plan.now in
    let P : Net → List Signal → Type 0 = λ net signals. AreWithin (variables net) signals in
    subst (λ net. P net c.args.nets.now.signals) (sym c.requires.nets.inputs)
    (subst (P (plan_inputs plan)) (sym c.requires.nets.signals) (free-own (plan_names plan)).within)

pub returns-in_ok-lassos-in-Path-clause-found : goal.returns-in_ok-lassos-in-Path-clause-found
returns-in_ok-lassos-in-Path-clause-found c =
    let plan : PlainPlan = plain_plan c.args.plan.now in
    let path : GoesToBad c.args.nets.now.safe c.in-Path.path =
    goes c.args.nets.now.safe c.args.ask.now c.in-Ok.decision c.in-Path.path
    c.in-Ok.ensures.decided c.in-Path.is in
    let T : List Run → _ → Type 0 = AreTraces c.args.nets.now.inputs c.args.nets.now.signals in
    let B : SafeNet → Type 0 = λ s. IsBadPath s (length c.in-Path.path.inputs) path.0 in
    let traces = c.in_ok-lassos-in-Path.lassos in
    let are = traces-are plan c.args.nets.now c.requires.nets c.in-Path.path path
    c.in_ok-runs-in-Path.runs c.in_ok-runs-in-Path.ensures traces
    (subst (λ runs. T runs traces) c.as_slice.ensures c.in_ok-lassos-in-Path.ensures) in (
      c.paths_fulfil.ensures.traces plan c.requires.reduced (length c.in-Path.path.inputs)
          path.0 c.in_ok-runs-in-Path.runs traces (subst B c.requires.nets.safe path.2)
          (unfolded plan c.args.nets.now c.requires.nets c.in-Path.path path
          c.in_ok-runs-in-Path.runs c.in_ok-runs-in-Path.ensures) are,
      traces-short plan c.in_ok-runs-in-Path.runs traces are
          (c.paths_fulfil.ensures.named plan c.in_ok-runs-in-Path.runs traces are),
    )

pub returns-in-Safe-clause-found : goal.returns-in-Safe-clause-found
returns-in-Safe-clause-found c =
    let plan : PlainPlan = plain_plan c.args.plan.now in
    let D : Decision → Type 0 = IsDecision c.args.nets.now.safe c.args.ask.now in
    let (is, good) = subst D c.in-Safe.is c.in-Ok.ensures.decided in
    let N : SafeNet → Type 0 = HasNoBadPath in
    let P : SafeNet → Type 0 = λ s. IsProved s c.args.ask.now c.in-Safe.proof in (
      λ some.
          let (k, word, bad) = (c.paths_fulfil.ensures.exactly plan c.requires.reduced).0 some in
          (let none = subst N c.requires.nets.safe good in none k word bad),
      subst P c.requires.nets.safe is,
    )
