use Rattle.std.proofs.Common.{ℕ, subst}
use Rattle.hy_base.specs.Rows.{row}
use Rattle.invar_find.specs.Standing.{HasMet}
use Rattle.invar_find.proofs.Starting.{if-ok-map}
use Rattle.invar_find.proofs.Standings.{are-left}
use Rattle.invar_find.proofs.leaving.walked.Goals as goal

pub returns : goal.returns
returns c =
    let M : ℕ → Type 0 = λ n. HasMet n c.in_ok-seen.seen c.meet.new.self (row c.args.state.now) in
    if-ok-map c.left_of.result _ _ c.left_of.ensures (λ left those.
    are-left c.args.safe.now.net c.args.facts.now left (row c.args.state.now) c.in_ok-seen.seen
    c.meet.new.self c.walk.new.seen c.requires.inside
    (λ f has holds. c.in_ok-seen.ensures.stand f has)
    (subst M c.requires.state c.meet.ensures) c.in_ok-walk.ensures those)
