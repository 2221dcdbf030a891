-- What is waiting to be put with other traces.
use Rattle.std.specs.Prelude.{◌<◌, List, [], ◌∷◌, Option, Some, None}
use Rattle.hy_formula.specs.Quantifiers.{Each}
use Rattle.trace_trie.specs.Numbered.{Numbered}
use Rattle.trace_trie.specs.declared.newest.Newest.{Newest}

-- the trace that waits, where there is one
abbrev pub waiting : Option Newest → List Numbered
waiting None = []
waiting (Some p) = (p.number, p.trace.value) ∷ []

-- All numbers are below that of the trace that waits.
abbrev pub IsLast : Option Newest → List Numbered → Type 0
IsLast None list = Unit {0}
IsLast (Some p) list = Each (λ (q : Numbered). q.0 < p.number) list
