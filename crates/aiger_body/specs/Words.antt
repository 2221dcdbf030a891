-- What is left of a text: its first piece, and its words.
use Rattle.std.specs.Prelude.{◌≡◌, ℕ, suc, Bool, List, [], length, Option, Some, None}
use Rattle.std.specs.List.{slice_split}
use Rattle.aiger_body.specs.declared.text.Ends.{Ends}
use Rattle.aiger_body.specs.declared.text.Ends.TheVariants.{Line, Number}
use Rattle.aiger_body.specs.Texts.{pieces, piece_at, place, is_feed, is_space}
use Rattle.aiger_body.specs.Files.{ends_number}

-- what ends a piece
abbrev pub ends_with : Ends → ℕ → Bool
ends_with Line b = is_feed b
ends_with Number b = ends_number b

-- Line k of the text begins at this byte.
abbrev pub IsPlace : List ℕ → ℕ → ℕ → Type 0
IsPlace bytes k at = at ≡ place (pieces is_feed bytes) k

-- how long the first piece is
abbrev pub first_len : (ℕ → Bool) → List ℕ → ℕ
first_len ends bytes = length (piece_at (pieces ends bytes) 0)

-- the words of what is left
abbrev pub words_of : Option (List ℕ) → List (List ℕ)
words_of None = []
words_of (Some text) = slice_split is_space text

-- how many bytes are left, with the end as one
abbrev pub left_of : Option (List ℕ) → ℕ
left_of None = 0
left_of (Some text) = suc (length text)
