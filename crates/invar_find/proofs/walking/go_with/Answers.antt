use Rattle.std.proofs.Common.{◌≡◌, ℕ, ◌<◌, List, length, subst, ◌∙◌}
use Rattle.aig_net.specs.Nets.{AllTrue, literal_at, literal_value}
use Rattle.hy_base.specs.Rows.{row}
use Rattle.invar_find.specs.Standing.{HasMet, IsKnown}
use Rattle.invar_find.proofs.Standings.{step-spares}
use Rattle.invar_find.proofs.walking.go_with.Goals as goal

pub returns : goal.returns
returns c =
    let K : List ℕ → Type 0 = λ literals. AllTrue literals (row c.step.new.values) in
    let N : List ℕ → Type 0 = λ nexts. (j : ℕ) → j < length nexts →
    row c.advance.new.state j ≡ literal_value (row c.step.new.values) (literal_at nexts j) in
    let known : IsKnown (length c.args.state.now) c.args.seen.now (row c.args.state.now) =
    c.is_known.ensures c.if-not-is_known.false in
    let L : ℕ → Type 0 = λ n. IsKnown n c.args.seen.now (row c.args.state.now) in
    let M : ℕ → Type 0 = λ n. HasMet n c.args.seen.now c.meet.new.self (row c.advance.new.state) in
    step-spares c.args.safe.now.net c.args.seen.now c.meet.new.self c.args.state.now
    c.step.new.values c.advance.new.state (subst L c.requires.state known) c.step.ensures.right
    (subst K (c.as_slice.ensures ∙ c.constraints.ensures)
    (c.are_true.ensures.0 c.if-not-are_true.false))
    c.step.ensures.latches
    (subst N (c.as_slice-2.ensures ∙ c.latches.ensures) c.advance.ensures)
    (subst M (c.advance.auto.state ∙ c.requires.next) c.meet.ensures)
