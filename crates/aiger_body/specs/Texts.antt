-- Texts in pieces, and numbers in lines.
use Rattle.std.specs.Prelude.{ℕ, Bool, true, false, cond, nat_eq, List, [], ◌∷◌, length, take, slice_index_or, Option, Some, None}
use Rattle.std.specs.List.{concat, slice_split}
use Rattle.hy_text.specs.Numbers.{number_of}

abbrev pub grown : Bool → ℕ → List (List ℕ) → List (List ℕ)
grown true b pieces = (b ∷ []) ∷ pieces
grown false b [] = (b ∷ []) ∷ []
grown false b (piece ∷ pieces) = (b ∷ piece) ∷ pieces

-- The text cut behind each byte that ends a piece. The last piece may lack its end.
abbrev pub pieces : (ℕ → Bool) → List ℕ → List (List ℕ)
pieces ends [] = []
pieces ends (b ∷ bytes) = grown (ends b) b (pieces ends bytes)

-- the piece, empty where there are not so many
abbrev pub piece_at : List (List ℕ) → ℕ → List ℕ
piece_at pieces k = slice_index_or pieces k []

-- how many bytes stand before the piece
abbrev pub place : List (List ℕ) → ℕ → ℕ
place pieces k = length (concat (take k pieces))

-- The piece is there and has its end.
abbrev pub is_ended : (ℕ → Bool) → List ℕ → Bool
is_ended ends [] = false
is_ended ends (b ∷ []) = ends b
is_ended ends (b ∷ c ∷ bytes) = is_ended ends (c ∷ bytes)

abbrev pub is_feed : ℕ → Bool
is_feed b = nat_eq b 10

abbrev pub is_return : ℕ → Bool
is_return b = nat_eq b 13

abbrev pub is_space : ℕ → Bool
is_space b = nat_eq b 32

-- the text without one byte of the kind at its end
abbrev pub without_end : (ℕ → Bool) → List ℕ → List ℕ
without_end ends [] = []
without_end ends (b ∷ []) = cond (ends b) [] (b ∷ [])
without_end ends (b ∷ c ∷ bytes) = b ∷ without_end ends (c ∷ bytes)

-- what a line says
abbrev pub line_text : List ℕ → List ℕ
line_text line = without_end is_return (without_end is_feed line)

abbrev pub with_number : Option ℕ → Option (List ℕ) → Option (List ℕ)
with_number (Some n) (Some ns) = Some (n ∷ ns)
with_number (Some n) None = None
with_number None ns = None

abbrev pub all_numbers : List (List ℕ) → Option (List ℕ)
all_numbers [] = Some []
all_numbers (word ∷ words) = with_number (number_of word) (all_numbers words)

abbrev pub or_empty : Option (List ℕ) → List ℕ
or_empty (Some ns) = ns
or_empty None = []

-- the numbers of a text, with one space between two; none where it is anything else
abbrev pub numbers_of : List ℕ → List ℕ
numbers_of text = or_empty (all_numbers (slice_split is_space text))
