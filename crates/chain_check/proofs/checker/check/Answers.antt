use Rattle.std.proofs.Common.{◌≡◌, ◌<◌, ◌+◌, ◌↔◌, ℕ, List, [], ◌∷◌, ◌++◌, drop, length, get_or, refl, sym, subst, ◌∙◌, ap}
use Rattle.chain_check.specs.declared.logs.Learned.{Learned}
use Rattle.chain_check.specs.Clauses.{Clause}
use Rattle.chain_check.specs.Known.{Known}
use Rattle.chain_check.specs.Chains.{Follows}
use Rattle.chain_check.specs.Logs.{IsPassed}
use Rattle.chain_check.proofs.Opposing.{passed-step}
use Rattle.chain_check.proofs.checker.check.Goals as goal

pub loop-entry-init : goal.loop-entry-init
loop-entry-init c =
    let n : ℕ = c.args.cnf.now.variables in
    let P : Known → Type 0 = λ k. (k.variables ≡ n)
    × (IsPassed n k.clauses c.args.log.now ↔ IsPassed n c.args.cnf.now.clauses c.args.log.now) in
    subst P (sym c.in_ok-checker.ensures) (refl, (λ h. h, λ h. h))

pub loop-entry-preserved : goal.loop-entry-preserved
loop-entry-preserved c =
    let n : ℕ = c.args.cnf.now.variables in
    let before : Known = c.loop-entry.checker in
    let e : Learned = c.entry-item.result in
    let clause : c.as_slice.result.now ≡ e.clause = c.as_slice.ensures in
    let chain : c.as_slice-in-loop-entry.result.now ≡ e.chain = c.as_slice-in-loop-entry.ensures in
    let V : ℕ → Type 0 = λ m.
    Follows m before.clauses c.as_slice.result.now c.as_slice-in-loop-entry.result.now in
    let C : Clause → Type 0 = λ d. Follows n before.clauses d c.as_slice-in-loop-entry.result.now in
    let K : List ℕ → Type 0 = Follows n before.clauses e.clause in
    let follows : Follows n before.clauses e.clause e.chain =
    subst K chain (subst C clause (subst V c.loop-entry.invariant.0
    (c.in_ok-next.ensures.exact.0 c.if-not-branch.false))) in
    let known : ℕ → Clause → Known = λ m d.
    record { variables = m; clauses = before.clauses ++ d ∷ [] } in
    let now : c.next.new.self ≡ known n e.clause =
    c.in_ok-next.ensures.learned c.if-not-branch.false
    ∙ ap (known before.variables) clause ∙ ap (λ m. known m e.clause) c.loop-entry.invariant.0 in
    let U : List Learned → Type 0 = λ es. c.loop-entry.entry-index < length es in
    let W : List Learned → Type 0 = λ es. e ≡ get_or es c.loop-entry.entry-index e in
    let iff = passed-step n before.clauses c.args.log.now c.loop-entry.entry-index e
    (IsPassed n c.args.cnf.now.clauses c.args.log.now)
    (subst U c.as_slice-entry-items.ensures c.loop-entry-test.true)
    (subst W c.as_slice-entry-items.ensures c.entry-item.is) follows c.loop-entry.invariant.1 in
    let P : Known → Type 0 = λ k. (k.variables ≡ n)
    × (IsPassed n k.clauses (drop (c.loop-entry.entry-index + 1) c.args.log.now)
    ↔ IsPassed n c.args.cnf.now.clauses c.args.log.now) in
    subst P (sym now) (refl, iff)
