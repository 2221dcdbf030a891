use Rattle.std.proofs.Common.{◌≡◌, ◌++◌, ◌+◌, ◌-◌, ◌≤◌}
use Rattle.dominance.specs.Choices.{words_from}
use Rattle.dominance.proofs.others.others.Given as goal

abbrev pub invariant-loop-variable : goal.invariant-loop-variable
invariant-loop-variable l = l.words ≡ words_from l.rows l.path 0 l.variable

abbrev pub invariant-loop-variable-2 : goal.invariant-loop-variable-2
invariant-loop-variable-2 l = record {
  from : l.place + 1 ≤ l.variable;
  words : l.words ≡ words_from l.rows l.path 0 l.place
      ++ words_from l.rows l.path (l.place + 1) (l.variable - (l.place + 1));
}
