use Rattle.std.proofs.Common.{◌≡◌, ℕ, Bool, true, false, not, sym, ◌∙◌, get_or}
use Rattle.std.proofs.lemmas.List.{get_or_default}
use mathlib.Core.Bool.{beq}
use Rattle.dominance.proofs.telling.differ.Goals as goal

apart : (b c : Bool) → not (beq b c) ≡ true → ¬ (b ≡ c)
apart true true e f = cc
apart true false e f = cc
apart false true e f = cc
apart false false e f = cc

pub returns-then-has : goal.returns-then-has
returns-then-has c = λ _.
    let k : ℕ = c.loop-name.name-index in
    let name : ℕ = get_or c.args.names.now k 0 in (
      name,
      (k, c.loop-name-test.true, get_or_default c.args.names.now k name 0 c.loop-name-test.true),
      λ e. apart _ _ c.if-has.true (c.has.ensures ∙ e ∙ sym c.has-in-loop-name.ensures),
    )
