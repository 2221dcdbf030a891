use Rattle.std.proofs.Common.{◌≡◌, ℕ, ◌<◌, ◌≤◌, Bool, length, IfErr, Result, Err, sym, ap, ◌∙◌, subst}
use Rattle.std.proofs.lemmas.Result.{err_from_is_err_and}
use Rattle.hy_base.specs.Limits.{most}
use Rattle.hy_base.specs.declared.limit.Kind.TheVariants.{Closure}
use Rattle.hy_formula.specs.Trees.{tree_of}
use Rattle.aig_net.specs.Nets.{variables}
use Rattle.live_safe.specs.declared.safe_net.SafeNet.{SafeNet}
use Rattle.ltl_closure.specs.Bodies.{body_nodes}
use Rattle.wit_lasso.specs.FormulaNets.{formula_safe}
use Rattle.formula_nets.specs.Posed.{IsPosed, checked_safe}
use Rattle.mc_core.specs.declared.checked.Checked.{Checked}
use Rattle.mc_core.specs.declared.mc_error.McError.{McError}
use Rattle.mc_core.specs.Answers.{IsAnswer, IsWorkRefusal}
use Rattle.mc_core.proofs.Answering.{judged, unclosed, unnamed}
use Rattle.mc_core.proofs.checking.check_as.Goals as goal

pub returns-in_err-closure : goal.returns-in_err-closure
returns-in_err-closure c =
    let p = err_from_is_err_and c.from_residual.result c.from_residual.ensures.1 in
    let A : Result Checked McError → Type 0 = IsAnswer c.args.net.now c.args.names.now
    c.args.formula.now.prefix (tree_of c.args.formula.now.body) c.args.ask.now in
    let B : Bool → Type 0 = λ b. most Closure < length (body_nodes (tree_of
    c.args.formula.now.body) b) in
    subst A (sym (p.1 ∙ ap (λ (e : McError). Err e) p.2))
    (unclosed c.args.net.now c.args.names.now c.args.formula.now.prefix
    (tree_of c.args.formula.now.body) c.args.ask.now c.in_err-closure.field-0.0 c.requires.taken
    (λ h. subst B c.requires.kind (c.in_err-closure.ensures.limit h)))

pub returns-in_err-signals : goal.returns-in_err-signals
returns-in_err-signals c =
    let p = err_from_is_err_and c.from_residual-in_err-signals.result
    c.from_residual-in_err-signals.ensures.1 in
    let A : Result Checked McError → Type 0 = IsAnswer c.args.net.now c.args.names.now
    c.args.formula.now.prefix (tree_of c.args.formula.now.body) c.args.ask.now in
    let B : Bool → Type 0 = λ b. length (body_nodes (tree_of c.args.formula.now.body) b)
    ≤ most Closure in
    subst A (sym (p.1 ∙ ap (λ (e : McError). Err e) p.2))
    (unnamed c.args.net.now c.args.names.now c.args.formula.now.prefix
    (tree_of c.args.formula.now.body) c.args.ask.now c.in_err-signals.field-0.0 c.requires.taken
    (subst B c.requires.kind c.in_ok-closure.ensures.few)
    c.in_err-signals.ensures.refused)

pub safe_for-requires-clause-own : goal.safe_for-requires-clause-own
safe_for-requires-clause-own c =
    c.signals_are_own.ensures c.args.net.now c.args.names.now (tree_of c.args.formula.now.body)
    c.in_ok-signals.signals c.variables.ensures.net c.in_ok-signals.ensures.signals

pub safe_for-requires-clause-room : goal.safe_for-requires-clause-room
safe_for-requires-clause-room c =
    let B : Bool → Type 0 = λ b. length (body_nodes (tree_of c.args.formula.now.body) b)
    ≤ most Closure in
    let posed : IsPosed c.args.net.now c.args.names.now c.args.formula.now.prefix
    (tree_of c.args.formula.now.body) c.in_ok-signals.signals = record {
      taken = c.requires.taken;
      few = subst B c.requires.kind c.in_ok-closure.ensures.few;
      signals_are = c.in_ok-signals.ensures.signals;
    } in
    let M : ℕ → Type 0 = λ n. variables (formula_safe c.args.net.now c.in_ok-signals.signals n
    (tree_of c.args.formula.now.body) c.args.existential).net ≤ 2147483648 in
    let C : Bool → Type 0 = λ b. variables (formula_safe c.args.net.now c.in_ok-signals.signals
    (length c.args.formula.now.prefix) (tree_of c.args.formula.now.body) b).net ≤ 2147483648 in
    subst M (sym c.len-n.ensures.len) (subst C (sym c.requires.kind)
    (c.requires.room c.in_ok-signals.signals posed))

pub judge-requires-clause-own : goal.judge-requires-clause-own
judge-requires-clause-own c =
    c.signals_are_own.ensures c.args.net.now c.args.names.now (tree_of c.args.formula.now.body)
    c.in_ok-signals.signals c.variables.ensures.net c.in_ok-signals.ensures.signals

pub judge-requires-clause-safe : goal.judge-requires-clause-safe
judge-requires-clause-safe c =
    c.in_ok-safe.ensures.made
    ∙ ap (λ n. formula_safe c.args.net.now c.in_ok-signals.signals n
    (tree_of c.args.formula.now.body) c.args.existential) c.len-n.ensures.len
    ∙ ap (formula_safe c.args.net.now c.in_ok-signals.signals (length c.args.formula.now.prefix)
    (tree_of c.args.formula.now.body)) c.requires.kind

pub returns : goal.returns
returns c =
    let B : Bool → Type 0 = λ b. length (body_nodes (tree_of c.args.formula.now.body) b)
    ≤ most Closure in
    let posed : IsPosed c.args.net.now c.args.names.now c.args.formula.now.prefix
    (tree_of c.args.formula.now.body) c.in_ok-signals.signals = record {
      taken = c.requires.taken;
      few = subst B c.requires.kind c.in_ok-closure.ensures.few;
      signals_are = c.in_ok-signals.ensures.signals;
    } in
    let same : c.in_ok-safe.safe ≡ checked_safe c.args.net.now c.in_ok-signals.signals
    c.args.formula.now.prefix (tree_of c.args.formula.now.body) = c.in_ok-safe.ensures.made
    ∙ ap (λ n. formula_safe c.args.net.now c.in_ok-signals.signals n
    (tree_of c.args.formula.now.body) c.args.existential) c.len-n.ensures.len
    ∙ ap (formula_safe c.args.net.now c.in_ok-signals.signals (length c.args.formula.now.prefix)
    (tree_of c.args.formula.now.body)) c.requires.kind in
    let W : SafeNet → Type 0 = λ s. IfErr c.judge.result (IsWorkRefusal s c.args.ask.now) in
    judged c.args.net.now c.args.names.now c.args.formula.now.prefix
    (tree_of c.args.formula.now.body) c.args.ask.now c.in_ok-signals.signals c.judge.result posed
    c.judge.ensures.checked (subst W same c.judge.ensures.refused)
