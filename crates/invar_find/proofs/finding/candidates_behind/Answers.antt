use Rattle.std.proofs.Common.{◌≡◌, ℕ, ◌<◌, min, Bool, false, List, length, ◌∙◌, ap, subst, replicate}
use Rattle.std.proofs.lemmas.List.{get_or-replicate, length-replicate}
use Rattle.hy_base.specs.Rows.{row}
use Rattle.invar_find.specs.Candidates.{candidates}
use Rattle.invar_find.specs.Parts.{AreThose}
use Rattle.invar_find.specs.Standing.{HasMet, IsFresh, Stands, start_values}
use Rattle.invar_find.proofs.Choosing.{fresh-stands}
use Rattle.invar_find.proofs.Standings.{are-left}
use Rattle.invar_find.proofs.Starting.{candidate-in, if-ok-map}
use Rattle.invar_find.proofs.finding.candidates_behind.Goals as goal

pub returns : goal.returns
returns c =
    let n : ℕ = length c.args.safe.now.net.latches in
    let many : c.count_latches-latches.result ≡ n = c.count_latches-latches.ensures.many in
    let zeros : c.as_slice.result.now ≡ replicate n false =
    c.as_slice.ensures ∙ c.in_ok-zeros.ensures ∙ ap (λ n. replicate n false) many in
    let M : List Bool → Type 0 = λ s.
    HasMet (length s) c.in_ok-seen.seen c.meet.new.self (row s) in
    let N : ℕ → Type 0 = λ m. HasMet m c.in_ok-seen.seen c.meet.new.self (start_values c.args.safe.now.net) in
    let met : HasMet n c.in_ok-seen.seen c.meet.new.self (start_values c.args.safe.now.net) =
    subst N (length-replicate n false) (subst M zeros c.meet.ensures) in
    let start : (j : ℕ) → j < n → start_values c.args.safe.now.net j ≡ false =
    λ j lt. get_or-replicate n j false false lt in
    let P : ℕ → Type 0 = λ m. IsFresh c.count_latches-latches.result m c.in_ok-seen.seen in
    let F : ℕ → Type 0 = λ m. IsFresh m (min m 512) c.in_ok-seen.seen in
    let fresh : IsFresh n (min n 512) c.in_ok-seen.seen = subst F many (subst P c.min.ensures c.in_ok-seen.ensures) in
    let last = c.in_ok-walk_first.ensures.still.ones in
    if-ok-map c.candidates_in.result _ _ c.candidates_in.ensures (λ made those.
    let T : ℕ → Type 0 = λ m.
    AreThose (Stands c.walk_first.new.seen) (candidates m) made in
    are-left c.args.safe.now.net (candidates n) made (start_values c.args.safe.now.net)
    c.in_ok-seen.seen c.meet.new.self c.walk_first.new.seen (candidate-in n)
    (fresh-stands n c.in_ok-seen.seen (start_values c.args.safe.now.net) start fresh) met
    c.in_ok-walk_first.ensures (subst T last those))
