use Rattle.std.proofs.Common.{◌≡◌, map, take}
use Rattle.hy_finite.specs.declared.lengths.Lengths.TheVariants as rule
use Rattle.rv_core.specs.Built.{spec_of_formula}
use Rattle.rv_core.specs.Held.{specs_of, StandsFor}
use Rattle.rv_core.specs.Seen.{held}
use Rattle.step_counts.specs.Runs.{after}
use Rattle.step_counts.proofs.runs.seen_by.Given as goal

abbrev pub invariant-loop-k : goal.invariant-loop-k
invariant-loop-k g l =
    StandsFor (held l.rv) (after (take l.k l.traces)) × ((held l.rv).rule ≡ rule.Min)
    × (specs_of (held l.rv) ≡ map spec_of_formula l.formulas)
