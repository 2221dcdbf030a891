use Rattle.std.proofs.Common.{◌++◌, ◌∷◌, [], List, Bool, false, subst, sym, ap, ◌∙◌, cond}
use Rattle.fin_monitor.specs.Duties.{Duty, no_duty}
use Rattle.fin_monitor.specs.Lefts.{IsFamilyOf}
use Rattle.fin_monitor.proofs.Stepping.{of-none, of-single}
use Rattle.fin_monitor.proofs.lefts.literal.Goals as goal

pub returns-in_ok-push : goal.returns-in_ok-push
returns-in_ok-push g c =
    let P : Bool → Type 0 = λ b. IsFamilyOf c.push.new.self.items (cond b (no_duty ∷ []) []) in
    subst P (sym c.if-is_met.true) (of-single c.push.new.self.items no_duty (c.in_ok-push.ensures.items ∙ ap (λ l. l ++ c.none.result ∷ []) c.requires.none ∙ ap (λ d. d ∷ []) c.none.ensures))

pub returns-else-is_met : goal.returns-else-is_met
returns-else-is_met g c =
    let P : Bool → List Duty → Type 0 = λ b l. IsFamilyOf l (cond b (no_duty ∷ []) []) in
    subst (λ b. P b c.args.made.now.items) (sym c.if-is_met.false) (subst (λ l. P false l) (sym c.requires.none) of-none)
