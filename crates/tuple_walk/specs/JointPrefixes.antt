-- Joint prefixes of tuples of traces, as rows: one row for each position.
use Rattle.std.specs.Prelude.{◌≡◌, ℕ, zero, suc, ◌<◌, ◌≤◌, List, [], ◌∷◌, map, Option, Some, None}
use Rattle.std.specs.List.{Contains}
use Rattle.hy_bits.specs.Letter.{Letter}
use Rattle.hy_formula.specs.Quantifiers.{IsTuple}
use Rattle.hy_finite.specs.declared.lengths.Lengths.{Lengths}
use Rattle.hy_finite.specs.Traces.{Trace, judged}
use Rattle.trace_trie.specs.Numbered.{tail}

-- what a tuple has at a position: for each place a letter, or none past the end of the trace
abbrev pub Row : Type 0
Row = List (Option Letter)

-- what a trace has first
abbrev pub entry : Trace → Option Letter
entry [] = None
entry (a ∷ t) = Some a

-- the first rows of a tuple
abbrev pub rows_of : List Trace → ℕ → List Row
rows_of tuple zero = []
rows_of tuple (suc k) = map entry tuple ∷ rows_of (map tail tuple) k

-- The rows are a joint prefix of the tuple, within its judged length.
pub record IsPrefixOf (lengths : Lengths) (tuple : List Trace) (rows : List Row) : Type 0 where
  pub count : ℕ
  pub some : 0 < count
  pub inside : count ≤ judged lengths tuple
  pub same : rows ≡ rows_of tuple count

-- The rows are a joint prefix of some tuple of n members of the list that has the trace.
pub record IsJointPrefix (lengths : Lengths) (list : List Trace) (t : Trace) (n : ℕ)
    (rows : List Row) : Type 0 where
  pub tuple : List Trace
  pub members : IsTuple (Contains list) n tuple
  pub one : Contains tuple t
  pub prefix : IsPrefixOf lengths tuple rows

-- The same, of a tuple that has the trace first.
pub record IsFirstPrefix (lengths : Lengths) (list : List Trace) (t : Trace) (n : ℕ)
    (rows : List Row) : Type 0 where
  pub others : List Trace
  pub members : IsTuple (Contains list) n (t ∷ others)
  pub prefix : IsPrefixOf lengths (t ∷ others) rows
