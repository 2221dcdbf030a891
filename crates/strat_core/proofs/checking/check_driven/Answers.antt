-- Why `check_driven` keeps its contract.
use Rattle.std.proofs.Common.{◌≡◌, ℕ, ◌<◌, true, Ok, sym, ap, ◌∙◌, subst, arith}
use Rattle.std.proofs.lemmas.Option.{get_or_from_slice_get}
use Rattle.hy_base.specs.Rows.{listed}
use Rattle.hy_formula.specs.Atoms.{atoms_of}
use Rattle.hy_formula.specs.Trees.{tree_of, vars_below}
use Rattle.aig_net.specs.declared.run.Run.{Run}
use Rattle.aig_net.specs.declared.run.ValueLasso.{ValueLasso}
use Rattle.aig_net.specs.Nets.{literal_at}
use Rattle.aig_net.specs.Simulations.{IsExecutionOf}
use Rattle.wit_lasso.specs.Unfoldings.{no_run, run_at}
use Rattle.strat_compose.specs.Driving.{driven_outputs, parts_of, signal_of}
use Rattle.strat_compose.specs.Runs.{HasCopies, universal_run}
use Rattle.strat_compose.proofs.Prefixes.{shape-length}
use Rattle.strat_compose.proofs.SignalBounds.{own_signal, own_signals}
use Rattle.formula_nets.specs.Posed.{HasRoom}
use Rattle.mc_core.specs.declared.checked.Checked.{Checked}
use Rattle.mc_core.specs.Answers.{IsAnswer, IsRefused}
use Rattle.strat_core.specs.declared.refusal.StrategyError.{StrategyError}
use Rattle.strat_core.specs.Answers.{IsStrategyRefused}
use Rattle.strat_core.proofs.Judging.{asked-so, can-come, copies, failing, fulfils, held, of-made, refused-so, to-made, universal-execution, violated}
use Rattle.strat_core.proofs.Readings.{one-shape}
use Rattle.strat_core.proofs.checking.check_driven.Goals as goal

pub check-requires-clause-room : goal.check-requires-clause-room
check-requires-clause-room c =
    let d = c.requires.driven in
    let net = c.args.net.now in
    let strategy = c.args.strategy.now in
    let prefix = c.args.formula.now.prefix in
    let body = tree_of c.args.formula.now.body in
    let shape = d.shaped.prefix_is in
    let long = shape-length prefix d.universal d.existential shape in
    to-made net strategy prefix body c.args.names.now c.args.driven.now d d.signals d.named HasRoom
    (c.driven_nets_have_room.ensures net strategy d.universal d.existential d.signals body
    c.requires.small c.requires.slight shape.some_universal shape.some_existential
    (omega (arith, long, c.requires.quantifiers)) d.few)

pub refused-requires : goal.refused-requires
refused-requires c =
    let d = c.requires.driven in
    let net = c.args.net.now in
    let strategy = c.args.strategy.now in
    let prefix = c.args.formula.now.prefix in
    let body = tree_of c.args.formula.now.body in
    can-come net strategy prefix body c.args.names.now c.args.driven.now d d.signals d.named
    (λ name has. (
      literal_at (driven_outputs net strategy (parts_of net strategy d.universal d.existential)
          (signal_of d.signals) (atoms_of body)) name,
      c.driven_names_are_outputs.ensures.only net strategy d.universal d.existential
          (signal_of d.signals) (atoms_of body) name
          (c.driven_names_are_outputs.ensures.own net d.existential body name has),
    ))
    c.args.ask.now c.in-Err.e
    (of-made net strategy prefix body c.args.names.now c.args.driven.now d d.signals d.named
    (λ n k p b. IsRefused n k p b c.args.ask.now c.in-Err.e) c.in-Err.ensures)

pub returns-in-Err : goal.returns-in-Err
returns-in-Err c =
    let d = c.requires.driven in
    let net = c.args.net.now in
    let strategy = c.args.strategy.now in
    let prefix = c.args.formula.now.prefix in
    let body = tree_of c.args.formula.now.body in
    let R : StrategyError → Type 0 =
    IsStrategyRefused net strategy prefix body c.args.names.now c.args.ask.now in
    subst R (sym c.refused.ensures)
    (refused-so net strategy prefix body c.args.names.now c.args.driven.now d d.signals d.named
    (λ name has. (
      literal_at (driven_outputs net strategy (parts_of net strategy d.universal d.existential)
          (signal_of d.signals) (atoms_of body)) name,
      c.driven_names_are_outputs.ensures.only net strategy d.universal d.existential
          (signal_of d.signals) (atoms_of body) name
          (c.driven_names_are_outputs.ensures.own net d.existential body name has),
    )) c.args.ask.now c.in-Err.e
    (of-made net strategy prefix body c.args.names.now c.args.driven.now d d.signals d.named
    (λ n k p b. IsRefused n k p b c.args.ask.now c.in-Err.e) c.in-Err.ensures))

pub returns-in-Ok-Holds : goal.returns-in-Ok-Holds
returns-in-Ok-Holds c =
    let d = c.requires.driven in
    let net = c.args.net.now in
    let strategy = c.args.strategy.now in
    let prefix = c.args.formula.now.prefix in
    let body = tree_of c.args.formula.now.body in
    let made = c.args.driven.now in
    let T : Checked → Type 0 = λ k. IsAnswer made.net made.names made.formula.prefix
    (tree_of made.formula.body) c.args.ask.now (Ok k) in
    let (own, put, holds) = held net strategy prefix body c.args.names.now made d d.signals d.named
    c.args.ask.now c.in-Ok-Holds.field-0-0 c.in-Ok-Holds.field-0-1 c.in-Ok-Holds.field-0-2
    (subst T c.in-Ok-Holds.field-0-is c.in-Ok-Holds.ensures) in
    let shape = d.shaped.prefix_is in
    let long = shape-length prefix d.universal d.existential shape in
    let B : ℕ → Type 0 = λ n. vars_below n body ≡ true in
    let inside = own_signals net c.args.names.now body d.signals c.variables.ensures.net d.named in (
      d.universal,
      d.existential,
      d.signals,
      own,
      asked-so net strategy prefix body c.args.names.now made d d.signals d.named,
      put,
      c.strategies_win.ensures.wins net strategy d.universal d.existential (signal_of d.signals)
          body c.variables.ensures.net c.variables-2.ensures.net d.shaped.strategy_is
          shape.some_universal (own_signal net d.signals inside)
          (subst B long c.args.formula.now.bound)
          (fulfils net strategy d.universal d.existential d.signals body own
          (c.driven_names_are_outputs.ensures.seen net strategy d.universal d.existential
          (signal_of d.signals) body own put.signals_are) holds),
    )

pub universal_witnesses-requires-clause-within : goal.universal_witnesses-requires-clause-within
universal_witnesses-requires-clause-within c =
    own_signals c.args.net.now c.args.names.now (tree_of c.args.formula.now.body)
    c.in_ok-signals-in-Ok-Violated.signals c.variables.ensures.net
    c.in_ok-signals-in-Ok-Violated.ensures

pub universal_witnesses-requires-clause-copies : goal.universal_witnesses-requires-clause-copies
universal_witnesses-requires-clause-copies c =
    let d = c.requires.driven in
    let net = c.args.net.now in
    let strategy = c.args.strategy.now in
    let prefix = c.args.formula.now.prefix in
    let body = tree_of c.args.formula.now.body in
    let made = c.args.driven.now in
    let signals = c.in_ok-signals-in-Ok-Violated.signals in
    let named = c.in_ok-signals-in-Ok-Violated.ensures in
    let T : Checked → Type 0 = λ k. IsAnswer made.net made.names made.formula.prefix
    (tree_of made.formula.body) c.args.ask.now (Ok k) in
    let (own, put, shown) = violated net strategy prefix body c.args.names.now made d signals named
    c.args.ask.now c.in-Ok-Violated.field-0-0 c.in-Ok-Violated.runs c.in-Ok-Violated.field-0-2
    (subst T c.in-Ok-Violated.field-0-is c.in-Ok-Violated.ensures) in
    let (k, shape) = c.universal_count-m.ensures in
    let (same, _) = one-shape prefix d.universal d.existential c.universal_count-m.result k
    d.shaped.prefix_is shape in
    let M : ℕ → Type 0 = λ m. HasCopies net m (run_at c.in-Ok-Violated.runs 0) in
    let R : Run → Type 0 = λ r. HasCopies net c.universal_count-m.result r in
    subst R (get_or_from_slice_get c.in-Ok-Violated.runs 0 c.at.result.now no_run c.at.ensures)
    (subst M same (copies net strategy d.universal d.existential signals body own
    c.variables.ensures.net c.variables-2.ensures.net d.shaped.strategy_is
    (c.driven_names_are_outputs.ensures.seen net strategy d.universal d.existential
    (signal_of signals) body own put.signals_are) c.in-Ok-Violated.field-0-0 c.in-Ok-Violated.runs
    shown))

pub universal_witnesses-requires-clause-executions :
    goal.universal_witnesses-requires-clause-executions
universal_witnesses-requires-clause-executions c =
    let d = c.requires.driven in
    let net = c.args.net.now in
    let strategy = c.args.strategy.now in
    let prefix = c.args.formula.now.prefix in
    let body = tree_of c.args.formula.now.body in
    let made = c.args.driven.now in
    let signals = c.in_ok-signals-in-Ok-Violated.signals in
    let named = c.in_ok-signals-in-Ok-Violated.ensures in
    let T : Checked → Type 0 = λ k. IsAnswer made.net made.names made.formula.prefix
    (tree_of made.formula.body) c.args.ask.now (Ok k) in
    let (own, put, shown) = violated net strategy prefix body c.args.names.now made d signals named
    c.args.ask.now c.in-Ok-Violated.field-0-0 c.in-Ok-Violated.runs c.in-Ok-Violated.field-0-2
    (subst T c.in-Ok-Violated.field-0-is c.in-Ok-Violated.ensures) in
    let (k, shape) = c.universal_count-m.ensures in
    let (same, _) = one-shape prefix d.universal d.existential c.universal_count-m.result k
    d.shaped.prefix_is shape in
    let M : ℕ → Type 0 = λ m. (i : ℕ) → i < m → (values : ValueLasso)
    × IsExecutionOf net (universal_run net m (run_at c.in-Ok-Violated.runs 0) i) values in
    let R : Run → Type 0 = λ r. (i : ℕ) → i < c.universal_count-m.result → (values : ValueLasso)
    × IsExecutionOf net (universal_run net c.universal_count-m.result r i) values in
    subst R (get_or_from_slice_get c.in-Ok-Violated.runs 0 c.at.result.now no_run c.at.ensures)
    (subst M same (universal-execution net strategy d.universal d.existential signals body own
    c.variables.ensures.net c.variables-2.ensures.net d.shaped.strategy_is
    (c.driven_names_are_outputs.ensures.seen net strategy d.universal d.existential
    (signal_of signals) body own put.signals_are) c.in-Ok-Violated.field-0-0 c.in-Ok-Violated.runs
    shown
    (λ lasso run is has.
    let (values, execution, _) =
    c.runs_are_executions.ensures net lasso run c.variables.ensures.net is has in
    (values, execution))))

pub returns-in_ok-found-in-Ok-Violated : goal.returns-in_ok-found-in-Ok-Violated
returns-in_ok-found-in-Ok-Violated c =
    let d = c.requires.driven in
    let net = c.args.net.now in
    let strategy = c.args.strategy.now in
    let prefix = c.args.formula.now.prefix in
    let body = tree_of c.args.formula.now.body in
    let made = c.args.driven.now in
    let signals = c.in_ok-signals-in-Ok-Violated.signals in
    let named = c.in_ok-signals-in-Ok-Violated.ensures in
    let T : Checked → Type 0 = λ k. IsAnswer made.net made.names made.formula.prefix
    (tree_of made.formula.body) c.args.ask.now (Ok k) in
    let (own, put, shown) = violated net strategy prefix body c.args.names.now made d signals named
    c.args.ask.now c.in-Ok-Violated.field-0-0 c.in-Ok-Violated.runs c.in-Ok-Violated.field-0-2
    (subst T c.in-Ok-Violated.field-0-is c.in-Ok-Violated.ensures) in
    let (k, shape) = c.universal_count-m.ensures in
    let (same, _) = one-shape prefix d.universal d.existential c.universal_count-m.result k
    d.shaped.prefix_is shape in
    let found = c.in_ok-found-in-Ok-Violated.found in
    let L : ℕ → Type 0 = λ m. found.runs
    ≡ listed 0 m (universal_run net m (run_at c.in-Ok-Violated.runs 0)) in
    let made-so : L c.universal_count-m.result = c.in_ok-found-in-Ok-Violated.ensures.runs
    ∙ ap (λ r. listed 0 c.universal_count-m.result (universal_run net c.universal_count-m.result r))
    (sym (get_or_from_slice_get c.in-Ok-Violated.runs 0 c.at.result.now no_run c.at.ensures)) in (
      d.universal,
      d.existential,
      signals,
      own,
      asked-so net strategy prefix body c.args.names.now made d signals named,
      put,
      failing net strategy d.universal d.existential signals body own c.variables.ensures.net
          c.variables-2.ensures.net d.shaped.strategy_is
          (c.driven_names_are_outputs.ensures.seen net strategy d.universal d.existential
          (signal_of signals) body own put.signals_are) c.in-Ok-Violated.field-0-0
          c.in-Ok-Violated.runs shown found.runs found.traces (subst L (sym same) made-so)
          c.in_ok-found-in-Ok-Violated.ensures.traces,
    )
