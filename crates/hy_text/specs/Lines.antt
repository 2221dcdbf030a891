-- The lines of a file. A line ends at a line feed or at the end of the file; lines count from 1, those that say
-- nothing too.
use Rattle.std.specs.Prelude.{◌≡◌, ℕ, suc, ◌⊎◌, List, [], ◌∷◌, length, Option, Some, None}
use Rattle.std.specs.List.{slice_split}
use Rattle.hy_text.specs.Bytes.{is_line_feed, past_blanks}

abbrev pub lines_of : List ℕ → List (List ℕ)
lines_of bytes = slice_split is_line_feed bytes

-- the line is blank, or a comment
abbrev pub SaysNothing : List ℕ → Type 0
SaysNothing line = (past_blanks line ≡ []) ⊎ ((rest : List ℕ) × (past_blanks line ≡ 35 ∷ rest))

-- Of the lines, of which the first has number n, line k is the first that is at fault: each line before it is a text.
abbrev pub FirstFault : (List ℕ → Type 0) → (List ℕ → Type 0) → ℕ → List (List ℕ) → ℕ → Type 0
FirstFault IsText IsFaulty n [] k = ⊥
FirstFault IsText IsFaulty n (line ∷ lines) k =
    (IsFaulty line × (k ≡ n)) ⊎ (IsText line × FirstFault IsText IsFaulty (suc n) lines k)

-- the lines that are left to read
abbrev pub left_lines : Option (List ℕ) → List (List ℕ)
left_lines None = []
left_lines (Some text) = lines_of text

-- how many bytes are left, with the end as one
abbrev pub left_len : Option (List ℕ) → ℕ
left_len None = 0
left_len (Some text) = suc (length text)
