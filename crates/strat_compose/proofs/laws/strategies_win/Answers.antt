-- Why `strategies_win` keeps its contract.
use Rattle.strat_compose.proofs.Winning.{satisfied, wins}
use Rattle.strat_compose.proofs.laws.strategies_win.Goals as goal

pub returns-clause-wins : goal.returns-clause-wins
returns-clause-wins c net strategy m e signal body good fine shape some named bound =
    wins net strategy m e signal body good fine shape some named bound c.one_run.ensures.recurs

pub returns-clause-fulfilled : goal.returns-clause-fulfilled
returns-clause-fulfilled c = satisfied
