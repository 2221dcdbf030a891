use Rattle.std.proofs.Common.{ℕ, ◌≤◌, IsTrue, ◌↔◌, ap, sym, ◌∙◌, subst}
use Rattle.std.proofs.lemmas.Result.{err_from_is_err_and}
use Rattle.hy_formula.specs.Trees.{tree_of}
use Rattle.aig_net.specs.Nets.{variables}
use Rattle.live_safe.specs.declared.safe_net.SafeNet.{SafeNet}
use Rattle.wit_lasso.specs.FormulaNets.{formula_safe}
use Rattle.induction_judge.specs.Good.{IsGoodInduction}
use Rattle.claim_check.proofs.WeighedCircuits.{frames_refused}
use Rattle.claim_check.proofs.circuits.is_unreached.Goals as goal

pub safe_for-requires-clause-room : goal.safe_for-requires-clause-room
safe_for-requires-clause-room c =
    let P : ℕ → Type 0 = λ n. variables (formula_safe c.args.net.now c.args.posed.now.signals n
    (tree_of c.args.f.now.body) c.args.existential).net ≤ 2147483648 in
    subst P (sym c.len-variables.ensures.len) c.requires.room

pub returns-in_err-judge_induction-clause-refused :
    goal.returns-in_err-judge_induction-clause-refused
returns-in_err-judge_induction-clause-refused c =
    let p = err_from_is_err_and c.from_residual-in_err-judge_induction.result
    c.from_residual-in_err-judge_induction.ensures.1 in
    let made = c.in_ok-safe.ensures.made
    ∙ ap (λ (n : ℕ). formula_safe c.args.net.now c.args.posed.now.signals n
    (tree_of c.args.f.now.body) c.args.existential) c.len-variables.ensures.len in
    rw (p.1, p.2) (λ lines proof ended said.
    frames_refused c.in_ok-safe.safe _ proof c.in_err-judge_induction.field-0.0 made
    (c.in_err-judge_induction.ensures.refused lines proof ended said))

pub returns-clause-judged : goal.returns-clause-judged
returns-clause-judged c lines proof ended said =
    let made = c.in_ok-safe.ensures.made
    ∙ ap (λ (n : ℕ). formula_safe c.args.net.now c.args.posed.now.signals n
    (tree_of c.args.f.now.body) c.args.existential) c.len-variables.ensures.len in
    let P : SafeNet → Type 0 =
    λ safe. IsTrue c.in_ok-judge_induction.field-0 ↔ IsGoodInduction safe proof in
    subst P made (c.in_ok-judge_induction.ensures.judged lines proof ended said)
