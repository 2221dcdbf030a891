-- Numbers spelled in a line.
use Rattle.std.specs.Prelude.{◌<◌, ℕ, ◌^◌, Bool, true, false, List, [], ◌∷◌, ◌++◌, map, decimal}
use Rattle.std.specs.List.{join_with_byte}

-- Each number of the row has at most ten digits.
abbrev pub AreShort : List ℕ → Type 0
AreShort [] = Unit {0}
AreShort (n ∷ row) = (n < 10 ^ 10) × AreShort row

-- the numbers, with one space between two
abbrev pub spelled : List ℕ → List ℕ
spelled row = join_with_byte 32 (map decimal row)

-- A line ends with a line feed, and may have one carriage return before it.
abbrev pub end_of : Bool → List ℕ
end_of true = 13 ∷ 10 ∷ []
end_of false = 10 ∷ []

abbrev pub line_of : List ℕ → List ℕ
line_of row = spelled row ++ 10 ∷ []
