use Rattle.std.proofs.Common.{◌≤◌, ◌*◌}
use Rattle.hy_formula.specs.Quantifiers.{Each}
use Rattle.fin_monitor.specs.Parts.{AreLowParts}
use Rattle.fin_monitor.proofs.parts.low_parts.Given as goal

abbrev pub invariant-loop-k : goal.invariant-loop-k
invariant-loop-k l = AreLowParts l.parts l.names l.k × Each (λ part. part ≤ l.k * 65536) l.parts
