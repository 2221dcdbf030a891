-- Whole traces that arrive one after another.
use Rattle.std.specs.Prelude.{List, []}
use Rattle.hy_finite.specs.Traces.{Trace}
use Rattle.rv_core.specs.Histories.{History}

-- what they come to
abbrev pub after : List Trace → History
after list = record { present = record { arrived = list; sessions = [] }; saves = [] }
