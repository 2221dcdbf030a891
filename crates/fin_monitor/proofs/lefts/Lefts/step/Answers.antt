use Rattle.std.proofs.Common.{◌≡◌, ◌++◌, ◌+◌, List, ℕ, take, length, sym, ap, ◌∙◌, subst}
use Rattle.std.proofs.lemmas.List.{take_all}
use Rattle.hy_bits.specs.Sets.{NumberSet}
use Rattle.fin_monitor.specs.Duties.{Duty, AreAlike}
use Rattle.fin_monitor.specs.Lefts.{kept_lists, IsFamily, IsUnionsBelow, IsPartialStep, IsStepOf}
use Rattle.fin_monitor.proofs.FamilySteps.{family-none}
use Rattle.fin_monitor.proofs.Stepping.{partial-none, partial-more, partial-closed, kept-length}
use Rattle.fin_monitor.proofs.lefts.Lefts.step.Goals as goal

pub loop-d-init : goal.loop-d-init
loop-d-init g c =
    let P : List Duty → Type 0 = IsFamily in
    record {
      next = subst P (sym c.new-next.ensures.items) family-none;
      strong = subst P (sym c.new-strong.ensures.items) family-none;
      partial = partial-none (kept_lists c.args.self.now.lists) c.args.self.now.code c.new-next.result.items c.new-strong.result.items c.empty-weak.result c.new-next.ensures.items c.new-strong.ensures.items;
    }

pub loop-d-preserved : goal.loop-d-preserved
loop-d-preserved g c =
    let lists : List (List Duty) = kept_lists c.args.self.now.lists in
    let code : ℕ = c.args.self.now.code in
    let P : NumberSet → Type 0 = λ s. IsUnionsBelow lists code s (length lists) c.in_ok-left.left.items in
    let S : ℕ → Type 0 = λ n. IsUnionsBelow lists code c.d.inside.strong n c.in_ok-left.left.items in
    let strong : c.d.inside.strong ≡ c.d-item.result.strong = ap (λ (d : Duty). d.strong) c.d.view_is in
    let weak : c.d.inside.weak ≡ c.d-item.result.weak = ap (λ (d : Duty). d.weak) c.d.view_is in
    let T : NumberSet → Type 0 = IsPartialStep lists code (take c.loop-d.d-index c.args.residual.now) c.turn_to.new.next.items c.turn_to.new.strong.items in
    let U : NumberSet → Type 0 = IsPartialStep lists code (take (c.loop-d.d-index + 1) c.args.residual.now) c.turn_to.new.next.items c.add_all.new.family.items in
    let R : List Duty → Type 0 = λ l. AreAlike c.add_all.new.family.items (c.turn_to.new.strong.items ++ l) in
    record {
      next = c.in_ok-turn_to.ensures.families.0;
      strong = c.add_all.ensures.family;
      partial = subst U (sym (c.in_ok-turn_to.ensures.weak ∙ weak)) (partial-more lists code c.args.residual.now c.loop-d.d-index c.d-item.result c.turn_to.new.next.items c.turn_to.new.strong.items c.in_ok-left.left.items c.add_all.new.family.items
          c.loop-d-test.true c.d-item.is
          (subst T weak (c.in_ok-turn_to.ensures.partial _ c.loop-d.invariant.partial))
          (subst P strong (subst S (sym (kept-length c.args.self.now.lists)) c.in_ok-left.ensures))
          (subst R c.deref.ensures.value c.in_ok-add_all.ensures.added));
    }

pub returns-clause-alike : goal.returns-clause-alike
returns-clause-alike g c =
    let lists : List (List Duty) = kept_lists c.args.self.now.lists in
    let P : List Duty → Type 0 = λ l. IsStepOf lists c.args.self.now.code l c.close.new.next.items in
    subst P (take_all c.loop-d.d-index c.args.residual.now c.loop-d-test.false)
    (partial-closed lists c.args.self.now.code _ c.loop-d.next.items c.loop-d.strong.items c.close.new.next.items c.loop-d.weak c.loop-d.invariant.partial c.in_ok-close.ensures.joined)
