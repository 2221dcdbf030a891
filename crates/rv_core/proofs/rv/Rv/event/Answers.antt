use Rattle.std.proofs.Common.{refl, sym, subst}
use Rattle.hy_finite.specs.declared.event.Event.{Event}
use Rattle.rv_core.specs.Seen.{held}
use Rattle.rv_core.specs.StepBounds.{Brings}
use Rattle.rv_core.proofs.Answering.{none-known}
use Rattle.rv_core.proofs.rv.Rv.event.Goals as goal

pub take_whole-requires-clause-few : goal.take_whole-requires-clause-few
take_whole-requires-clause-few g c =
    let P : Event → Type 0 = λ e. Brings (held c.args.self.now) e c.in-Whole.trace in
    c.requires.few c.in-Whole.trace (subst P (sym c.in-Whole.is) refl)

pub take_end-requires-clause-few : goal.take_end-requires-clause-few
take_end-requires-clause-few g c t known =
    let P : Event → Type 0 = λ e. Brings (held c.args.self.now) e t in
    c.requires.few t (subst P (sym c.in-End.is) known)

pub returns-in-Whole-clause-none : goal.returns-in-Whole-clause-none
returns-in-Whole-clause-none g c none =
    let P : Event → Type 0 = λ e. Brings (held c.args.self.now) e c.in-Whole.trace in
    absurd (none _ (subst P (sym c.in-Whole.is) refl))

pub returns-in-End-clause-none : goal.returns-in-End-clause-none
returns-in-End-clause-none g c none =
    c.take_end.ensures.none
    (none-known _ (λ t known.
    let P : Event → Type 0 = λ e. Brings (held c.args.self.now) e t in
    none t (subst P (sym c.in-End.is) known)))
