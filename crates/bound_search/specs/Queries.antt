-- The clauses that ask whether a list of lassos within a bound satisfies a formula.
--
-- A list may repeat its members, so it is taken to have exactly as many as it may have. A stem may
-- be unrolled, so it is taken to have exactly as many letters as it may have. Behind it each word
-- goes round in as many letters as its cycle has, so all words repeat together after the least
-- common multiple of the lengths that a cycle may have.
--
-- Variable 0 is true. Then come the variables of each member: for each name and each place whether
-- the letter there has the name, and for each length whether the cycle may have it. The gates are
-- last: a part of the body is drawn once for each choice of members for its own variables.
use Rattle.std.specs.Prelude.{ℕ, suc, ◌+◌, ◌-◌, ◌*◌, ◌%◌, List, [], ◌∷◌, ◌++◌, length, slice_index_or, ℤ}
use Rattle.hy_formula.specs.Trees.{Tree}
use Rattle.hy_formula.specs.declared.prefix.Quant.{Quant}
use Rattle.hy_base.specs.Rows.{listed}
use Rattle.chain_check.specs.Clauses.{Clause}
use Rattle.chain_check.specs.FewClauses.{for_each, further, alone, same_clauses, guarded, some_further}
use Rattle.bound_search.specs.declared.bound.Bound.{Bound}
use Rattle.bound_search.specs.Drawings.{Drawn, Drawing, plain, followed, sure, never, gate_clauses}
use Rattle.bound_search.specs.Rows.{Row, first_or}
use Rattle.bound_search.specs.declared.frame.Frame.{Frame}
use Rattle.bound_search.specs.declared.sheets.Sheet.{Sheet}
use Rattle.bound_search.specs.Sheets.{row_of, first_sheet}
use Rattle.bound_search.specs.Choices.{chosen}
use Rattle.bound_search.specs.Names.{names_of, name_place}
use Rattle.bound_search.specs.Shapes.{shape_of}

-- ---- places

-- the least common multiple of the numbers from 1 to n, where n is at most 4
abbrev pub common_round : ℕ → ℕ
common_round n = slice_index_or (1 ∷ 1 ∷ 2 ∷ 6 ∷ 12 ∷ []) n 0

-- after how many places all words repeat
abbrev pub round : Bound → ℕ
round bound = common_round bound.cycle

-- how many places there are
abbrev pub places : Bound → ℕ
places bound = bound.stem + round bound

-- ---- variables

abbrev pub letters_of_member : List ℕ → Bound → ℕ
letters_of_member names bound = length names * places bound

abbrev pub variables_of_member : List ℕ → Bound → ℕ
variables_of_member names bound = letters_of_member names bound + bound.cycle

-- the first variable of member t
abbrev pub member_start : List ℕ → Bound → ℕ → ℕ
member_start names bound t = suc (t * variables_of_member names bound)

-- the letter of member t at place i has the name that stands at place r of the names
abbrev pub letter_variable : List ℕ → Bound → ℕ → ℕ → ℕ → ℕ
letter_variable names bound t r i = member_start names bound t + (r * places bound + i)

-- the cycle of member t may have d + 1 letters
abbrev pub cycle_variable : List ℕ → Bound → ℕ → ℕ → ℕ
cycle_variable names bound t d = member_start names bound t + letters_of_member names bound + d

abbrev pub first_gate : List ℕ → Bound → ℕ
first_gate names bound = member_start names bound bound.traces

-- ---- members

-- Where the cycle of member t may have d + 1 letters, the letter j places behind the first round
-- has the name where that of the first round does.
abbrev pub repeat_clauses : List ℕ → Bound → ℕ → ℕ → ℕ → ℕ → List Clause
repeat_clauses names bound t d r j =
    guarded (further (cycle_variable names bound t d))
    (same_clauses (further (letter_variable names bound t r (bound.stem + (suc d + j))))
    (further (letter_variable names bound t r (bound.stem + j % suc d))))

abbrev pub cycle_clauses : List ℕ → Bound → ℕ → ℕ → List Clause
cycle_clauses names bound t d =
    for_each (λ r. for_each (repeat_clauses names bound t d r) (round bound - suc d))
    (length names)

-- The cycle of member t has some length.
abbrev pub some_cycle : List ℕ → Bound → ℕ → List Clause
some_cycle names bound t =
    some_further (member_start names bound t + letters_of_member names bound) bound.cycle

-- The cycle of member t has some length, and its letters repeat so.
abbrev pub member_clauses : List ℕ → Bound → ℕ → List Clause
member_clauses names bound t =
    some_cycle names bound t ++ for_each (cycle_clauses names bound t) bound.cycle

-- ---- the formula

-- the letters of member t: at each place whether the name is there
abbrev pub letters_row : List ℕ → Bound → ℕ → ℕ → Row
letters_row names bound name t =
    listed 0 (places bound) (λ i. further (letter_variable names bound t (name_place name names) i))

abbrev pub frame_of : Bound → ℕ → Frame
frame_of bound quantifiers = record {
  traces = bound.traces;
  quantifiers = quantifiers;
  stem = bound.stem;
  places = places bound;
}

-- what a body says of a tuple at its first place, where this is the sheet of its first places
abbrev pub tuple_literal : Frame → Sheet → List ℕ → Drawing ℤ
tuple_literal frame sheet tuple = plain (first_or never (row_of frame sheet tuple))

-- each part of the body, and then what the quantifiers say
abbrev pub formula_literal : List ℕ → Bound → List Quant → Tree → Drawing ℤ
formula_literal names bound prefix body =
    let frame = frame_of bound (length prefix) in
    followed (first_sheet frame (letters_row names bound) (shape_of body)) (λ drawn.
    chosen bound.traces (tuple_literal frame drawn) prefix)

abbrev pub formula_drawn : List ℕ → Bound → List Quant → Tree → Drawn ℤ
formula_drawn names bound prefix body =
    formula_literal names bound prefix body (first_gate names bound)

-- ---- the query

abbrev pub query_clauses : List ℕ → Bound → Drawn ℤ → List Clause
query_clauses names bound drawn =
    alone sure
    ++ (for_each (member_clauses names bound) bound.traces
    ++ (gate_clauses (first_gate names bound) drawn.gates ++ alone drawn.out))

-- the clauses of a formula and a bound
unfoldable pub clauses_of : Bound → List Quant → Tree → List Clause
clauses_of bound prefix body =
    query_clauses (names_of body) bound (formula_drawn (names_of body) bound prefix body)

-- how many variables they are over
unfoldable pub variables_of : Bound → List Quant → Tree → ℕ
variables_of bound prefix body =
    first_gate (names_of body) bound
    + length (formula_drawn (names_of body) bound prefix body).gates
