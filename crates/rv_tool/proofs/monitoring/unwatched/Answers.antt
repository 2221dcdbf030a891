use Rattle.std.proofs.Common.{Err, inl, inr, sym, ap, ◌∙◌, subst}
use Rattle.hy_formula.specs.Formulas.{plain_formulas}
use Rattle.hy_run.specs.Refusals.{file_refusal}
use Rattle.rv_tool.specs.Monitoring.{RvAnswer, IsOutcome}
use Rattle.rv_tool.specs.Watching.{AreLeft}
use Rattle.rv_tool.proofs.FirstSpecs.{refused-outcome}
use Rattle.rv_tool.proofs.monitoring.unwatched.Goals as goal

pub returns-in-Ok : goal.returns-in-Ok
returns-in-Ok c lengths drop formulas refusal =
    let left = AreLeft c.args.source.now in
    let P : RvAnswer → Type 0 = IsOutcome lengths drop (plain_formulas formulas) left in
    inl (
      c.in-Ok.ensures,
      subst P (ap Err (sym c.new_refusal.ensures)) (refused-outcome lengths drop formulas left c.args.error refusal),
    )

pub returns-in-Err : goal.returns-in-Err
returns-in-Err c lengths drop formulas refusal =
    inr (c.in-Err.fault, c.in-Err.ensures, ap Err (c.file_refusal.ensures ∙ ap (file_refusal 1) c.from.ensures))
