use Rattle.std.proofs.Common.{◌≡◌, ◌<◌, ◌%◌, ℕ, map, length, sym, ap, ◌∙◌, subst, arith}
use Rattle.std.proofs.Math.Nat.{mod-lt}
use Rattle.std.proofs.lemmas.List.{get_or-set_same}
use Rattle.hy_formula.specs.Atoms.{plain_atom}
use Rattle.fin_monitor.specs.Codes.{letter_of}
use Rattle.fin_monitor.specs.Duties.{residual_step, Same}
use Rattle.fin_monitor.specs.Lefts.{kept_lists, AreLefts, IsFamily, IsStepOf}
use Rattle.fin_monitor.specs.Tables.{AreAllLefts}
use Rattle.fin_monitor.proofs.Exploring.{all-lefts, step-same, on-ok}
use Rattle.fin_monitor.proofs.KeptLefts.{each-set, ok-two}
use Rattle.fin_monitor.proofs.lefts_by_code.LeftsByCode.step.Goals as goal

pub returns-clause-kept : goal.returns-clause-kept
returns-clause-kept g c =
    let nodes = c.args.judge.now.closure.now.nodes in
    let atoms = map plain_atom c.args.judge.now.atoms.now in
    let turned = c.in_ok-turn.ensures in
    let A : ℕ → Type 0 = λ k. AreLefts nodes atoms k (kept_lists c.turn.new.self.lists) (length c.turn.new.self.lists) in
    on-ok _ c.step.result
    (each-set _ c.args.self.now.kept.items (c.args.code % c.len.result) c.turn.new.self c.requires.kept
    (all-lefts nodes atoms c.turn.new.self.code c.turn.new.self.lists turned.long (subst A (sym turned.code) turned.lefts)))

pub returns-clause-same : goal.returns-clause-same
returns-clause-same g c =
    let nodes = c.args.judge.now.closure.now.nodes in
    let atoms = map plain_atom c.args.judge.now.atoms.now in
    let residual = c.args.residual.now in
    let turned = c.in_ok-turn.ensures in
    let at = c.index.result.now in
    let place : ℕ = c.args.code % c.len.result in
    let lt : place < length c.args.self.now.kept.items = omega (arith, mod-lt c.args.code {m = c.len.result} (omega (arith, c.len.ensures, c.requires.some)), c.len.ensures) in
    let e : at ≡ c.turn.new.self = c.index.ensures ∙ get_or-set_same c.args.self.now.kept.items place c.turn.new.self at lt in
    let A : ℕ → Type 0 = λ k. AreLefts nodes atoms k (kept_lists c.turn.new.self.lists) (length c.turn.new.self.lists) in
    let all = all-lefts nodes atoms c.turn.new.self.code c.turn.new.self.lists turned.long (subst A (sym turned.code) turned.lefts) in
    let all' = subst (λ l. AreAllLefts nodes atoms l.code (kept_lists l.lists)) (sym e) all in
    let code : at.code ≡ c.args.code = ap (λ l. l.code) e ∙ turned.code in
    ok-two (λ next. IsFamily next.items) (λ next. IsStepOf (kept_lists at.lists) at.code residual next.items) (λ next. Same next.items (residual_step nodes (letter_of atoms c.args.code) residual)) c.step.result
    (λ next family alike.
    let S : ℕ → Type 0 = λ k. Same next.items (residual_step nodes (letter_of atoms k) residual) in
    subst S code (step-same nodes 0 atoms at.code (kept_lists at.lists) residual next.items all' family alike))
    c.step.ensures.family c.step.ensures.alike
