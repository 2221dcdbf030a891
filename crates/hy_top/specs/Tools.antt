-- Each tool by its name: what it is asked and says, its rules, and the answer of what it says.
use Rattle.std.specs.Prelude.{◌≡◌}
use Rattle.hy_run.specs.Rules.{Rules}
use Rattle.hy_run.specs.Runs as runs
use Rattle.ea_tool.specs.Rules.{ea_rules}
use Rattle.ea_tool.specs.declared.verdict.EaFault.{EaFault}
use Rattle.ea_tool.specs.declared.verdict.EaVerdict.{EaVerdict}
use Rattle.ea_tool.specs.declared.verdict.Question as ea
use Rattle.mc_tool.specs.Rules.{mc_rules}
use Rattle.mc_tool.specs.declared.verdict.McFault.{McFault}
use Rattle.mc_tool.specs.declared.verdict.McVerdict.{McVerdict}
use Rattle.mc_tool.specs.declared.verdict.Question as mc
use Rattle.rv_tool.specs.Rules.{rv_rules}
use Rattle.rv_tool.specs.declared.verdict.Question as rv
use Rattle.rv_tool.specs.declared.verdict.RvFault.{RvFault}
use Rattle.rv_tool.specs.declared.verdict.RvVerdict.{RvVerdict}
use Rattle.hy_top.specs.Answers.{ea_answer, mc_answer, rv_answer}
use Rattle.hy_top.specs.declared.answer.Answer.{Answer}
use Rattle.hy_top.specs.declared.tool.Tool.{Tool}
use Rattle.hy_top.specs.declared.tool.Tool.TheVariants.{EaHyper, RvHyper, McHyper}

abbrev pub Question : Tool → Type 0
Question EaHyper = ea.Question
Question RvHyper = rv.Question
Question McHyper = mc.Question

abbrev pub Verdict : Tool → Type 0
Verdict EaHyper = EaVerdict
Verdict RvHyper = RvVerdict
Verdict McHyper = McVerdict

abbrev pub Fault : Tool → Type 0
Fault EaHyper = EaFault
Fault RvHyper = RvFault
Fault McHyper = McFault

-- what the tool says: a verdict, or why there is none
abbrev pub Said : Tool → Type 0
Said tool = runs.Answer (Verdict tool) (Fault tool)

abbrev pub rules_of : (tool : Tool) → Rules (Question tool) (Verdict tool) (Fault tool)
rules_of EaHyper = ea_rules
rules_of RvHyper = rv_rules
rules_of McHyper = mc_rules

-- the answer of what the tool says
abbrev pub answer_of : (tool : Tool) → Said tool → Answer
answer_of EaHyper said = ea_answer said
answer_of RvHyper said = rv_answer said
answer_of McHyper said = mc_answer said

-- The tool says something of which this holds, and that has this answer.
abbrev pub Says : (tool : Tool) → Answer → (Said tool → Type 0) → Type 0
Says tool answer Holds = (said : Said tool) × (answer ≡ answer_of tool said) × Holds said
