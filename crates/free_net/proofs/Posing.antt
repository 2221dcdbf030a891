-- The net, the signals and the safe net that are made for a plan are the plan's.
use Rattle.std.proofs.Common.{◌≡◌, ℕ, ◌≤◌, List, length, sym, ap, ◌∙◌, subst, arith}
use Rattle.aig_net.specs.declared.signals.Signal.{Signal}
use Rattle.aig_net.specs.Nets.{Net, variables}
use Rattle.ltl_closure.specs.Jobs.{Rooted, closure_of}
use Rattle.ea_reduce.specs.Plans.{PlainPlan, plan_tasks}
use Rattle.live_safe.specs.declared.safe_net.SafeNet.{SafeNet}
use Rattle.wit_lasso.specs.FormulaNets.{AreOwn}
use Rattle.formula_nets.specs.SafeNets.{safe_over}
use Rattle.free_net.specs.FreeNets.{free_net, free_signals, names_of, plan_inputs, plan_names, plan_safe, plan_signals}
use Rattle.free_net.proofs.Naming.{names-few, signals-many}
use Rattle.free_net.proofs.Seeing.{free-own}

module _ (plan : PlainPlan) (closure : Rooted) (same : closure ≡ closure_of (plan_tasks plan))
    (signals : List Signal) (are : signals ≡ free_signals 0 (names_of closure.nodes)) where
  pub signals-are : signals ≡ plan_signals plan
  signals-are = are ∙ ap (λ (r : Rooted). free_signals 0 (names_of r.nodes)) same

  pub inputs-few : length closure.nodes ≤ 1024 → length signals ≤ 1024
  inputs-few le =
      let e = ap (λ (l : List Signal). length l) are in
      let m = signals-many 0 (names_of closure.nodes) in
      let f = names-few closure.nodes (length closure.nodes) in
      omega (arith, e, m, f, le)

  module _ (net : Net) (inputs : ℕ) (made : net ≡ free_net inputs) (count : inputs ≡ length signals)
    where
      pub inputs-are : net ≡ plan_inputs plan
      inputs-are =
          made ∙ ap free_net (count ∙ ap (λ (l : List Signal). length l) signals-are
          ∙ signals-many 0 (plan_names plan))

      pub own-are : AreOwn net signals
      own-are =
          let P : Net → List Signal → Type 0 = λ n s. AreOwn n s in
          subst (λ n. P n signals) (sym inputs-are)
          (subst (P (plan_inputs plan)) (sym signals-are) (free-own (plan_names plan)))

      pub safe-same : safe_over net signals plan.vars closure ≡ plan_safe plan
      safe-same =
          ap (λ (n : Net). safe_over n signals plan.vars closure) inputs-are
          ∙ ap (λ (s : List Signal). safe_over (plan_inputs plan) s plan.vars closure) signals-are
          ∙ ap (λ (r : Rooted). safe_over (plan_inputs plan) (plan_signals plan) plan.vars r) same

      pub has-room : variables (plan_safe plan).net ≤ 2147483648 →
          variables (safe_over net signals plan.vars closure).net ≤ 2147483648
      has-room room =
          let P : SafeNet → Type 0 = λ s. variables s.net ≤ 2147483648 in
          subst P (sym safe-same) room
