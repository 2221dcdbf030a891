use Rattle.std.proofs.Common.{Ok}
use Rattle.hy_formula.specs.Formulas.{plain_formula}
use Rattle.strat_core.specs.declared.checked.StrategyChecked.TheVariants as found
use Rattle.mc_tool.specs.Driving.{wins, fails, undecided}
use Rattle.mc_tool.specs.declared.verdict.McVerdict.TheVariants as verdicts
use Rattle.mc_tool.proofs.Driving.{drive-found}
use Rattle.mc_tool.proofs.strategy.check_by_strategy.Goals as goal

pub returns-in-Ok-Holds : goal.returns-in-Ok-Holds
returns-in-Ok-Holds c =
    drive-found c.args.net.now c.args.strategy.now c.args.names.now (plain_formula c.args.formula.now) c.args.ask.now found.Holds (Ok verdicts.StrategyHolds)
    (λ m e signals own is. wins is) (rw c.in-Ok-Holds.field-0-is at c.in-Ok-Holds.ensures)

pub returns-in-Ok-Fails : goal.returns-in-Ok-Fails
returns-in-Ok-Fails c =
    rw (c.in-Ok-Fails.traces-is, c.in-Ok-Fails.runs-is)
    (drive-found c.args.net.now c.args.strategy.now c.args.names.now (plain_formula c.args.formula.now) c.args.ask.now
    (found.Fails c.in-Ok-Fails.traces c.in-Ok-Fails.runs) (Ok (verdicts.StrategyFails c.in-Ok-Fails.traces c.in-Ok-Fails.runs))
    (λ m e signals own is. fails c.in-Ok-Fails.traces c.in-Ok-Fails.runs is) (rw c.in-Ok-Fails.field-0-is at c.in-Ok-Fails.ensures))

pub returns-in-Ok-Unknown : goal.returns-in-Ok-Unknown
returns-in-Ok-Unknown c =
    rw c.in-Ok-Unknown.open-is
    (drive-found c.args.net.now c.args.strategy.now c.args.names.now (plain_formula c.args.formula.now) c.args.ask.now
    (found.Unknown c.in-Ok-Unknown.open) (Ok (verdicts.Checked c.in-Ok-Unknown.open))
    (λ m e signals own is. undecided c.in-Ok-Unknown.open is) (rw c.in-Ok-Unknown.field-0-is at c.in-Ok-Unknown.ensures))
