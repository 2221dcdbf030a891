use Rattle.std.proofs.Common.{◌≡◌}
use Rattle.made_traces.specs.MadeTraces.{letters_before, made_traces}
use Rattle.made_traces.specs.Progress.{HasMade}
use Rattle.made_traces.proofs.making.make_traces.Given as goal

abbrev pub invariant-loop-k : goal.invariant-loop-k
invariant-loop-k l = HasMade l.names (letters_before l.k) l.generator × (l.traces ≡ made_traces l.names l.k)
