use Rattle.std.proofs.Common.{[], ◌∷◌, length, inl, inr, sym, ap, ◌∙◌, subst, arith, length-append}
use Rattle.std.specs.List.{Contains}
use Rattle.std.proofs.lemmas.List.Elements.{Contains-append_cases}
use Rattle.hy_base.proofs.Members.{contains-cases, contains-none}
use Rattle.step_counts.proofs.runs.repeated.Goals as goal

pub loop-k-preserved : goal.loop-k-preserved
loop-k-preserved c =
    let (long, same) = c.loop-k.invariant in
    let trace = c.in_ok-remake.field-0 in
    let added = c.in_ok-push.ensures.added in (
      omega (arith, long, ap length added, length-append c.loop-k.list (trace ∷ [])),
      λ t has. elim (Contains-append_cases c.loop-k.list (trace ∷ []) t
          (subst (λ list. Contains list t) added has)) [
            | inl old ↦ same t old
            | inr new ↦ elim (contains-cases trace t [] new) [
              | inl e ↦ sym e ∙ c.in_ok-remake.ensures
              | inr none ↦ absurd (contains-none t none)
            ]
          ],
    )
