-- Runs: the rows that are given to a net, and the rows of values that follow from them.
use Rattle.std.specs.Prelude.{◌≡◌, suc, ◌++◌, Bool, List, map, length}
use Rattle.aig_net.specs.declared.run.Run.{Run}
use Rattle.aig_net.specs.declared.run.ValueLasso.{ValueLasso}
use Rattle.aig_net.specs.Nets.{Net, Valuation, latch_variable}
use Rattle.hy_base.specs.Rows.{row, listed}
use Rattle.aig_net.specs.Executions.{Lasso, IsLassoExecution, step_at}
use Rattle.aig_net.specs.Rows.{input_row, latch_row}
use Rattle.aig_net.specs.Following.{AreFull, row_at}

-- the lasso of the rows' valuations
abbrev pub valuations : ValueLasso → Lasso
valuations values = record { stem = map row values.stem; cycle = map row values.cycle }

-- The values are a lasso execution with the rows of the run.
pub record IsExecutionOf (net : Net) (run : Run) (values : ValueLasso) : Type 0 where
  pub full : AreFull net (values.stem ++ values.cycle)
  pub first : latch_row net (row_at (values.stem ++ values.cycle) 0) ≡ run.first
  pub stem : map (input_row net) values.stem ≡ run.stem
  pub cycle : map (input_row net) values.cycle ≡ run.cycle
  pub execution : IsLassoExecution net (valuations values)

-- the values of the latches, and those of the inputs
abbrev pub latches_of : Net → Valuation → List Bool
latches_of net v = listed 0 (length net.latches) (λ j. v (latch_variable net j))

abbrev pub inputs_of : Net → Valuation → List Bool
inputs_of net v = listed 0 net.inputs (λ j. v (suc j))

-- The run has what is given to the net in the lasso.
pub record IsRunOf (net : Net) (lasso : Lasso) (run : Run) : Type 0 where
  pub first : run.first ≡ latches_of net (step_at lasso 0)
  pub stem : run.stem ≡ map (inputs_of net) lasso.stem
  pub cycle : run.cycle ≡ map (inputs_of net) lasso.cycle
