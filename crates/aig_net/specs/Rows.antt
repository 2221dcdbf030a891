-- Rows of values: the parts of a row of all values.
use Rattle.std.specs.Prelude.{suc, Bool, List, length, take, drop}
use Rattle.aig_net.specs.Nets.{Net}

-- the values of the inputs in a row of all values
abbrev pub input_row : Net → List Bool → List Bool
input_row net values = take net.inputs (drop 1 values)

-- the values of the latches there
abbrev pub latch_row : Net → List Bool → List Bool
latch_row net values = take (length net.latches) (drop (suc net.inputs) values)
