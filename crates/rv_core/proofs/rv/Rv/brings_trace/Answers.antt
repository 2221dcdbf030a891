use denote.Ref.{Bor}
use Rattle.std.proofs.Common.{◌≡◌, ◌↔◌, ◌∙◌, true, Option, Some, None, is_some, option_copied, IsTrue, refl, sym, subst}
use Rattle.hy_finite.specs.declared.event.Event.{Event}
use Rattle.hy_finite.specs.Traces.{Trace}
use Rattle.rv_core.specs.Histories.{BringsTrace}
use Rattle.rv_core.specs.Seen.{held}
use Rattle.rv_core.specs.StepBounds.{Brings}
use Rattle.rv_core.proofs.Answering.{whole-comes, end-comes, end-leads}
use Rattle.rv_core.proofs.rv.Rv.brings_trace.Goals as goal

copied-some : {T : Type 0} (r : Option (Bor T)) → is_some r ≡ is_some (option_copied r)
copied-some None = refl
copied-some (Some x) = refl

pub returns-in-Whole-clause-leads : goal.returns-in-Whole-clause-leads
returns-in-Whole-clause-leads c h stands =
    let P : Event → Type 0 = λ e. IsTrue true ↔ BringsTrace h e in
    subst P (sym c.in-Whole.is) (λ yes. whole-comes h c.in-Whole.field-0, λ came. refl)

pub returns-in-End-clause-brings : goal.returns-in-End-clause-brings
returns-in-End-clause-brings c =
    let m = held c.args.self.now in
    let P : Event → Type 0 = λ e. IsTrue c.is_some.result ↔ ((t : Trace) × Brings m e t) in
    subst P (sym c.in-End.is)
    (rw (c.is_some.ensures ∙ copied-some c.letters.result)
    (end-comes m c.in-End.session _ c.letters.ensures.letters))

pub returns-in-End-clause-leads : goal.returns-in-End-clause-leads
returns-in-End-clause-leads c h stands =
    let P : Event → Type 0 = λ e. IsTrue c.is_some.result ↔ BringsTrace h e in
    subst P (sym c.in-End.is)
    (rw (c.is_some.ensures ∙ copied-some c.letters.result)
    (end-leads (held c.args.self.now) c.in-End.session _ c.letters.ensures.letters h stands))
