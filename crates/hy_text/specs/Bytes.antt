-- The classes of bytes that texts are made of.
use Rattle.std.specs.Prelude.{ℕ, Bool, not, ◌&&◌, ◌||◌, nat_eq, nat_le, List, [], ◌∷◌, drop, false}
use Rattle.std.specs.List.{list_all, prefix_len}

-- space, tab, line feed and carriage return
abbrev pub is_blank : ℕ → Bool
is_blank b = nat_eq b 32 || nat_eq b 9 || nat_eq b 10 || nat_eq b 13

-- space, tab and carriage return: the blanks inside a line
abbrev pub is_line_blank : ℕ → Bool
is_line_blank b = nat_eq b 32 || nat_eq b 9 || nat_eq b 13

-- A to Z and a to z
abbrev pub is_letter : ℕ → Bool
is_letter b = (nat_le 65 b && nat_le b 90) || (nat_le 97 b && nat_le b 122)

-- 0 to 9
abbrev pub is_digit : ℕ → Bool
is_digit b = nat_le 48 b && nat_le b 57

abbrev pub is_letter_or_digit : ℕ → Bool
is_letter_or_digit b = is_letter b || is_digit b

abbrev pub is_underscore : ℕ → Bool
is_underscore b = nat_eq b 95

-- letters, digits and the underscore
abbrev pub is_word_byte : ℕ → Bool
is_word_byte b = is_letter_or_digit b || is_underscore b

-- what may stand between quotes: all but the quote and the line feed
abbrev pub is_quotable : ℕ → Bool
is_quotable b = not (nat_eq b 34 || nat_eq b 10)

abbrev pub is_line_feed : ℕ → Bool
is_line_feed b = nat_eq b 10

-- all but the line feed
abbrev pub is_in_line : ℕ → Bool
is_in_line b = not (is_line_feed b)

-- a letter, and then letters and digits
abbrev pub is_variable : List ℕ → Bool
is_variable [] = false
is_variable (b ∷ bs) = is_letter b && list_all is_letter_or_digit bs

abbrev pub begins_with_letter : List ℕ → Bool
begins_with_letter [] = false
begins_with_letter (b ∷ bs) = is_letter b

-- a letter, and then letters, digits and underscores
abbrev pub is_plain : List ℕ → Bool
is_plain [] = false
is_plain (b ∷ bs) = is_letter b && list_all is_word_byte bs

-- the text behind the blanks at its front, which stay in the line
abbrev pub past_blanks : List ℕ → List ℕ
past_blanks text = drop (prefix_len is_line_blank text) text
