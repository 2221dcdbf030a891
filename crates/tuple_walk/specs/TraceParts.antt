-- Traces, each beside the parts of codes that its letters give.
use Rattle.std.specs.Prelude.{ℕ, List, map, slice_index_or}
use Rattle.std.specs.FinSet.{empty}
use Rattle.hy_finite.specs.Traces.{Trace}
use Rattle.fin_monitor.specs.Parts.{part_in}
use Rattle.fin_monitor.specs.declared.variable_parts.VariableParts.{VariableParts}
use Rattle.tuple_walk.specs.declared.trace_parts.TraceParts.{TraceParts}

-- the part of the letter at a position, of an empty one past the end
abbrev pub part_at : TraceParts → ℕ → ℕ
part_at t i = part_in t.parts.now (slice_index_or t.trace.now i empty)

abbrev pub traces_in : List TraceParts → List Trace
traces_in all = map (λ (t : TraceParts). t.trace.now) all

abbrev pub parts_in : List TraceParts → List VariableParts
parts_in all = map (λ (t : TraceParts). t.parts.now) all
