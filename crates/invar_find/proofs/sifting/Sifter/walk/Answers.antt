use Rattle.invar_find.proofs.Starting.{if-ok-map}
use Rattle.invar_find.proofs.Standings.{spares_again}
use Rattle.invar_find.proofs.sifting.Sifter.walk.Goals as goal

pub returns-clause-spares : goal.returns-clause-spares
returns-clause-spares c =
    if-ok-map c.walk-2.result _ _ c.walk-2.ensures
    (λ _ last. spares_again _ _ _ _ c.in_ok-walk.ensures last)
