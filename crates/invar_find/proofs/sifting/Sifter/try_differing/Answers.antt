use Rattle.invar_find.proofs.Starting.{if-ok-map}
use Rattle.invar_find.proofs.Standings.{spares_again}
use Rattle.invar_find.proofs.sifting.Sifter.try_differing.Goals as goal

pub returns-clause-spares : goal.returns-clause-spares
returns-clause-spares c =
    if-ok-map c.try_under-2.result _ _ c.try_under-2.ensures.spares
    (λ _ last. spares_again _ _ _ _ c.in_ok-broken.ensures.spares last)
