use Rattle.std.proofs.Common.{List, sym, ◌∙◌, subst}
use Rattle.std.proofs.lemmas.Bool.{eqb-true}
use Rattle.hy_bits.specs.Sets.{NumberSet}
use Rattle.fin_monitor.specs.Duties.{Duty}
use Rattle.fin_monitor.specs.Lefts.{kept_lists, IsPartialStep}
use Rattle.fin_monitor.proofs.Order.{same-number}
use Rattle.fin_monitor.proofs.Stepping.{partial-closed, step-partial}
use Rattle.fin_monitor.proofs.lefts.Lefts.turn_to.Goals as goal

pub returns-then-eq-clause-weak : goal.returns-then-eq-clause-weak
returns-then-eq-clause-weak g c = same-number c.args.weak.now c.args.other.now (eqb-true _ _ (sym c.eq.ensures ∙ c.if-eq.true))

pub returns-then-eq-clause-partial : goal.returns-then-eq-clause-partial
returns-then-eq-clause-partial g c = λ residual so.
    let same = same-number c.args.weak.now c.args.other.now (eqb-true _ _ (sym c.eq.ensures ∙ c.if-eq.true)) in
    let P : NumberSet → Type 0 = IsPartialStep (kept_lists c.args.self.now.lists) c.args.self.now.code residual c.args.next.now.items c.args.strong.now.items in
    subst P same so

pub returns-clause-partial : goal.returns-clause-partial
returns-clause-partial g c = λ residual so.
    let lists : List (List Duty) = kept_lists c.args.self.now.lists in
    step-partial lists c.args.self.now.code residual c.close.new.next.items c.close.new.strong.items c.args.other.now
    (partial-closed lists c.args.self.now.code residual c.args.next.now.items c.args.strong.now.items c.close.new.next.items c.args.weak.now so c.in_ok-close.ensures.joined)
    c.in_ok-close.ensures.none
