use Rattle.std.proofs.Common.{Ok, Err, inl, inr}
use Rattle.rv_tool.proofs.Outcomes.{outcome-by}
use Rattle.rv_tool.proofs.monitoring.judge_lines.Goals as goal

pub returns : goal.returns
returns c =
    elim c.judge.ensures [
      | inl (good, outcome) ↦
          inl (c.of_lines-source.ensures.all (Ok tt) good, outcome-by c.args.lengths c.args.drop _ _ c.of_lines-source.ensures.left outcome)
      | inr (fault, found, answered) ↦ inr (fault, c.of_lines-source.ensures.all (Err fault) found, answered)
    ]
