-- The sheet of a part of a body: its rows, one for each choice of members for its variables. A
-- tuple has the number of a member for each quantifier.
use Rattle.std.specs.Prelude.{ℕ, zero, suc, ◌+◌, ◌*◌, ◌/◌, ◌%◌, ◌^◌, Bool, List, [], ◌∷◌, ◌++◌, cond, nat_eq, length, map, replicate, slice_index_or, take}
use Rattle.hy_base.specs.Rows.{listed}
use Rattle.bound_search.specs.declared.connectives.Binary.{Binary}
use Rattle.bound_search.specs.declared.connectives.Binary.TheVariants as binary
use Rattle.bound_search.specs.declared.connectives.Unary.{Unary}
use Rattle.bound_search.specs.declared.connectives.Unary.TheVariants as unary
use Rattle.bound_search.specs.declared.frame.Frame.{Frame}
use Rattle.bound_search.specs.declared.sheets.Sheet.{Sheet}
use Rattle.bound_search.specs.Drawings.{Drawing, plain, followed, sure, never}
use Rattle.bound_search.specs.Names.{with_name}
use Rattle.bound_search.specs.Rows.{Row, row_by_one, row_by_two}
use Rattle.bound_search.specs.Shapes.{Shape, constant, atom, one, two, is_temporal_one, is_temporal_two}

-- ---- choices

-- the variables of two parts, each once
abbrev pub with_all : List ℕ → List ℕ → List ℕ
with_all left [] = left
with_all left (v ∷ right) = with_all (with_name v left) right

-- the variables of a part, each once, in the order in which they are met
abbrev pub variables_in : Shape → List ℕ
variables_in (constant value) = []
variables_in (atom name variable) = variable ∷ []
variables_in (one op f) = variables_in f
variables_in (two op f g) = with_all (variables_in f) (variables_in g)

-- the place of a tuple among the choices of n members for these variables, the first of which
-- changes fastest
abbrev pub place_among : ℕ → List ℕ → List ℕ → ℕ
place_among n [] tuple = 0
place_among n (v ∷ variables) tuple =
    place_among n variables tuple * n + slice_index_or tuple v 0

-- the member for a variable in the choice at this place; member 0 for any other variable
abbrev pub member_at : ℕ → List ℕ → ℕ → ℕ → ℕ
member_at n [] place v = 0
member_at n (u ∷ variables) place v =
    cond (nat_eq v u) (place % n) (member_at n variables (place / n) v)

-- the tuple of the choice at this place
abbrev pub tuple_at : Frame → List ℕ → ℕ → List ℕ
tuple_at frame variables place =
    listed 0 frame.quantifiers (member_at frame.traces variables place)

-- the row for the members that a tuple has
abbrev pub row_of : Frame → Sheet → List ℕ → Row
row_of frame sheet tuple =
    slice_index_or sheet.rows (place_among frame.traces sheet.variables tuple) []

-- ---- sheets

-- what is drawn for each number below n
abbrev pub listing : {A : Type 0} → (ℕ → Drawing A) → ℕ → Drawing (List A)
listing each zero = plain []
listing each (suc n) =
    followed (listing each n) (λ before. followed (each n) (λ last. plain (before ++ last ∷ [])))

-- the sheet of so many rows for these variables
abbrev pub sheet_for : List ℕ → (ℕ → Drawing Row) → ℕ → Drawing Sheet
sheet_for variables each n =
    followed (listing each n) (λ rows. plain (record { variables = variables; rows = rows }))

-- a row by each row of a part
abbrev pub by_row : (Row → Drawing Row) → Sheet → Drawing Sheet
by_row draw part =
    sheet_for part.variables (λ place. draw (slice_index_or part.rows place [])) (length part.rows)

-- a row for each choice for the variables of two parts, by theirs
abbrev pub by_choice : Frame → (Row → Row → Drawing Row) → Sheet → Sheet → Drawing Sheet
by_choice frame draw left right =
    let variables = with_all left.variables right.variables in
    sheet_for variables (λ place.
    draw (row_of frame left (tuple_at frame variables place))
    (row_of frame right (tuple_at frame variables place)))
    (frame.traces ^ length variables)

-- the sheet of a part, and then one by its rows
abbrev pub of_one : Drawing Sheet → (Row → Drawing Row) → Drawing Sheet
of_one part draw = followed part (by_row draw)

-- the sheets of two parts, and then one by their rows
abbrev pub of_two : Frame → Drawing Sheet → Drawing Sheet → (Row → Row → Drawing Row) →
    Drawing Sheet
of_two frame first second draw =
    followed first (λ left. followed second (λ right. by_choice frame draw left right))

-- the sheet of a body without variables
abbrev pub constant_sheet : Frame → Bool → Sheet
constant_sheet frame value =
    record { variables = []; rows = replicate frame.places (cond value sure never) ∷ [] }

-- that of an atom, where `letters` gives the row of a member
abbrev pub atom_sheet : Frame → (ℕ → Row) → ℕ → Sheet
atom_sheet frame letters variable =
    record { variables = variable ∷ []; rows = listed 0 frame.traces letters }

-- The sheet of a body, where `letters` gives the row of a name and a member.
abbrev pub sheet : Frame → (ℕ → ℕ → Row) → Shape → Drawing Sheet
sheet frame letters (constant value) = plain (constant_sheet frame value)
sheet frame letters (atom name variable) = plain (atom_sheet frame (letters name) variable)
sheet frame letters (one op f) = of_one (sheet frame letters f) (row_by_one op frame.stem)
sheet frame letters (two op f g) =
    of_two frame (sheet frame letters f) (sheet frame letters g) (row_by_two op frame.stem)

-- the first places of the rows alone
abbrev pub first_places : Sheet → Sheet
first_places part = record { variables = part.variables; rows = map (take 1) part.rows }

abbrev pub firsts_of : Drawing Sheet → Drawing Sheet
firsts_of part = followed part (λ part. plain (first_places part))

-- The first places of the sheet of a body. Above the temporal operators no other is needed.
abbrev pub first_sheet : Frame → (ℕ → ℕ → Row) → Shape → Drawing Sheet
first_sheet frame letters (one op f) =
    cond (is_temporal_one op) (firsts_of (sheet frame letters (one op f)))
    (of_one (first_sheet frame letters f) (row_by_one op 0))
first_sheet frame letters (two op f g) =
    cond (is_temporal_two op) (firsts_of (sheet frame letters (two op f g)))
    (of_two frame (first_sheet frame letters f) (first_sheet frame letters g) (row_by_two op 0))
first_sheet frame letters f = firsts_of (sheet frame letters f)

-- ---- how many gates

-- those of parts, and so many for each choice of n members for these variables
abbrev pub more_gates : ℕ → ℕ → List ℕ → ℕ → ℕ
more_gates n parts variables each = parts + n ^ length variables * each

-- Where rows have w places, of which c are gone round.
module _ (w c : ℕ) where
  -- how many gates the row of an operator has
  abbrev pub gates_by_one : Unary → ℕ
  gates_by_one unary.Finally = c + w
  gates_by_one unary.Globally = c + w
  gates_by_one _ = 0

  abbrev pub gates_by_two : Binary → ℕ
  gates_by_two binary.Iff = 3 * w
  gates_by_two binary.Until = 2 * (c + w)
  gates_by_two binary.Release = 2 * (c + w)
  gates_by_two binary.Weak = w + 2 * (c + w)
  gates_by_two _ = w

-- Where there are n members besides.
module _ (n w c : ℕ) where
  -- how many gates the sheet of a body has
  abbrev pub sheet_gates : Shape → ℕ
  sheet_gates (one op f) = more_gates n (sheet_gates f) (variables_in f) (gates_by_one w c op)
  sheet_gates (two op f g) =
      more_gates n (sheet_gates f + sheet_gates g) (variables_in (two op f g))
      (gates_by_two w c op)
  sheet_gates _ = 0

  -- how many that of its first places has
  abbrev pub first_gates : Shape → ℕ
  first_gates (one op f) =
      cond (is_temporal_one op) (sheet_gates (one op f))
      (more_gates n (first_gates f) (variables_in f) (gates_by_one 1 1 op))
  first_gates (two op f g) =
      cond (is_temporal_two op) (sheet_gates (two op f g))
      (more_gates n (first_gates f + first_gates g) (variables_in (two op f g))
      (gates_by_two 1 1 op))
  first_gates _ = 0
