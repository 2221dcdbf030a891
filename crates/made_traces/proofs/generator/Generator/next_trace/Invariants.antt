use Rattle.std.proofs.Common.{◌≡◌, ◌+◌, ℕ, List, length}
use Rattle.made_traces.specs.MadeTraces.{letters_from}
use Rattle.made_traces.specs.Progress.{HasMade}
use Rattle.made_traces.proofs.generator.Generator.next_trace.Given as goal

abbrev pub invariant-loop-letter : goal.invariant-loop-letter
invariant-loop-letter l =
    (length l.letters ≡ l._letter)
    × ((table : List (List ℕ)) (k : ℕ) → HasMade table k l.initial.self
    → HasMade table (k + l._letter) l.self × (l.letters ≡ letters_from table k l._letter))
