use Rattle.std.proofs.Common.{refl, ap, ◌∙◌, Err, subst}
use Rattle.hy_read.specs.Judged.{IsLateAndNamed}
use Rattle.hy_read.specs.Results.{heights, names}
use Rattle.hy_read.proofs.Reading.{late_and_named}
use Rattle.hy_read.proofs.read.judge_heights.Goals as goal
use Rattle.hy_read.proofs.read.judge_heights.Goals.{in-Ok, in-Err-TooHigh, in-Err-Memory}

pub returns : goal.returns
returns c = λ many limit old table m has.
    let all = late_and_named many limit old c.args.text.now c.args.count c.build_formulas.result m has c.build_formulas.ensures in
    elim c.match-build_formulas.branch [
      | in-Ok w ↦ rw (w.result-is, w.past.ensures) (names, refl, refl, subst (λ r. IsLateAndNamed many limit old c.args.text.now r) w.in-Ok.is all)
      | in-Err-TooHigh w ↦ rw (w.result-is, w.past-in-Err-TooHigh.ensures) (heights, refl, refl, subst (λ r. IsLateAndNamed many limit old c.args.text.now r) (w.in-Err-TooHigh.is ∙ ap Err w.in-Err-TooHigh.field-0-is) all)
      | in-Err-Memory w ↦ rw w.result-is tt
    ]
