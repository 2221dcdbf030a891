-- What is answered for a formula and the lassos of a file.
use Rattle.std.specs.Prelude.{List, Ok, Err}
use Rattle.hy_base.specs.Limits.{most}
use Rattle.hy_base.specs.declared.limit.Kind.TheVariants.{Joint}
use Rattle.hy_bits.specs.Letter.{Letter}
use Rattle.hy_formula.specs.Lassos.{Lasso}
use Rattle.hy_formula.specs.Trees.{Tree}
use Rattle.hy_formula.specs.declared.prefix.Quant.{Quant}
use Rattle.hy_lasso.specs.Joint.{IsJudged}
use Rattle.hy_lasso.specs.Words.{Satisfies}
use Rattle.hy_run.specs.Runs.{Answer}
use Rattle.hy_run.specs.declared.refusal.Refusal.TheVariants.{Limit, Memory}
use Rattle.ea_tool.specs.declared.verdict.EaFault.{EaFault}
use Rattle.ea_tool.specs.declared.verdict.EaVerdict.{EaVerdict}
use Rattle.ea_tool.specs.declared.verdict.EaVerdict.TheVariants.{OnTrue, OnFalse}

-- What judging a list comes to: whether it satisfies the formula, or that all its lassos repeat together too late; or memory
-- ran out.
pub data IsJudgement (prefix : List Quant) (body : Tree) (list : List (Lasso Letter)) : Answer EaVerdict EaFault → Type 0 where
  satisfies : IsJudged list → Satisfies list prefix body → IsJudgement prefix body list (Ok OnTrue)
  violates : IsJudged list → (¬ Satisfies list prefix body) → IsJudgement prefix body list (Ok OnFalse)
  too_joint : (¬ IsJudged list) → IsJudgement prefix body list (Err (Limit Joint (most Joint)))
  spent : IsJudgement prefix body list (Err Memory)
