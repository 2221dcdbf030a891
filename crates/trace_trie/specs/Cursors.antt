-- What a cursor is seen as: a point of a trie, and beside it what is left of the newest trace.
use Rattle.std.specs.Prelude.{◌≢◌, ℕ, ◌<◌, Bool, false, List, [], ◌∷◌, ◌++◌, length, Option, Some, None}
use denote.Ref.{Bor}
use Rattle.std.specs.List.{Contains}
use Rattle.hy_bits.specs.Letter.{Letter}
use Rattle.hy_formula.specs.Quantifiers.{Each}
use Rattle.trace_trie.specs.Numbered.{Numbered, under}
use Rattle.trace_trie.specs.Points.{kid_letters_of, rests_of, is_alone_at}
use Rattle.trace_trie.specs.declared.cursor.Cursor.{Cursor}

-- what is left of the trace that waits, where one passes
abbrev pub left_waiting : Option (ℕ × Bor (List Letter)) → List Numbered
left_waiting None = []
left_waiting (Some p) = (p.0, p.1.now) ∷ []

-- these, and after them the one that waits
abbrev pub and_waiting : List Numbered → Option (ℕ × Bor (List Letter)) → List Numbered
and_waiting rests None = rests
and_waiting rests (Some p) = rests ++ (p.0, p.1.now) ∷ []

abbrev pub letter_where_none : Letter → List Numbered → List Letter
letter_where_none a [] = a ∷ []
letter_where_none a (p ∷ ps) = []

-- the first letter of a rest, where none of the others begins with it
abbrev pub new_letter : List Numbered → List Letter → List Letter
new_letter rests [] = []
new_letter rests (a ∷ t) = letter_where_none a (under a rests)

-- the letters of these rests, and after them the new one of the trace that waits
abbrev pub and_new_letter : List Letter → List Numbered → Option (ℕ × Bor (List Letter))
    → List Letter
and_new_letter letters rests None = letters
and_new_letter letters rests (Some p) = letters ++ new_letter rests p.1.now

abbrev pub alone_where_none : Bool → Option (ℕ × Bor (List Letter)) → Bool
alone_where_none alone None = alone
alone_where_none alone (Some p) = false

-- the letters of the children in their order
abbrev pub letters_of : Cursor → List Letter
letters_of c = and_new_letter (kid_letters_of c.point) (rests_of c.point) c.newest

-- what is left of the traces that pass, with their numbers, which ascend
abbrev pub rests_at : Cursor → List Numbered
rests_at c = and_waiting (rests_of c.point) c.newest

-- It is kept as the only trace that passes.
abbrev pub is_alone : Cursor → Bool
is_alone c = alone_where_none (is_alone_at c.point) c.newest

abbrev pub AreDistinct : List Letter → Type 0
AreDistinct [] = Unit {0}
AreDistinct (a ∷ letters) = Each (λ (b : Letter). b ≢ a) letters × AreDistinct letters

-- Where something is left, its first letter is one of these.
abbrev pub GoesOn : List Letter → List Letter → Type 0
GoesOn letters [] = Unit {0}
GoesOn letters (a ∷ t) = Contains letters a

-- The letters differ, and are the first letters of what is left.
pub record AreLetters (letters : List Letter) (rests : List Numbered) : Type 0 where
  pub distinct : AreDistinct letters
  pub some : Each (λ (a : Letter). 0 < length (under a rests)) letters
  pub whole : Each (λ (p : Numbered). GoesOn letters p.1) rests
