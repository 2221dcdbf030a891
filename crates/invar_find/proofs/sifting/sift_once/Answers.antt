use Rattle.invar_find.proofs.Starting.{if-ok-map}
use Rattle.invar_find.proofs.Standings.{spares_again}
use Rattle.invar_find.proofs.sifting.sift_once.Goals as goal

pub returns : goal.returns
returns c =
    if-ok-map c.try_all.result _ _ c.try_all.ensures
    (λ _ last. spares_again _ _ _ _ c.in_ok-begin.ensures.spares last)
