-- Lassos that were printed are read.
use Rattle.std.proofs.Common.{◌≡◌, ℕ, suc, ◌<◌, Bool, true, false, if◌then◌else◌, IsTrue, List, [], ◌∷◌, ◌++◌, length, map, Option, Some, inl, inr, refl, ap, sym, ◌∙◌, subst, arith, append_assoc, append-nil}
use Rattle.std.specs.List.{join_with_byte, list_all, All}
use Rattle.std.specs.FinSet as set
use Rattle.std.proofs.lemmas.Bool.{and_parts}
use Rattle.std.proofs.lemmas.Bool.Decides.{nat_tests}
use Rattle.std.proofs.lemmas.Grind.{common_steps}
use Rattle.std.proofs.lemmas.List.Elements.{All-nil, All-cons, All-head, All-tail, All-append}
use Rattle.std.proofs.lemmas.List.Splits.{slice_split_at}
use Rattle.hy_bits.specs.Letter.{Letter}
use Rattle.hy_formula.specs.Lassos.{Lasso}
use Rattle.hy_formula.specs.Names.{are_distinct}
use Rattle.hy_formula.specs.Quantifiers.{Each}
use Rattle.hy_text.specs.Bytes.{is_line_feed, is_plain, is_quotable, past_blanks}
use Rattle.hy_text.specs.Lines.{lines_of}
use Rattle.hy_text.specs.Names.{IsName, AreNames, spelled}
use Rattle.hy_text.specs.Sets.{members_from, members_of, printed_set}
use Rattle.hy_text.specs.Words.{SpellsWord, NoSemicolon, printed_word}
use Rattle.hy_text.proofs.PrintedLetters.{letters_read}
use Rattle.hy_text.proofs.PrintedWords.{printed_word_read}
use Rattle.hy_text.proofs.ReadingSets.{apart}
use Rattle.hy_lasso.specs.LassoFiles.{SayLassos, IsLassoFile}
use Rattle.hy_lasso.specs.LassoLines.{lasso_of, SaysLasso, IsLassoSaid}
use Rattle.hy_lasso.specs.Printed.{printed_line, printed_lasso, printed_lassos, spelled_of, IsLassoOver}
use Rattle.hy_lasso.specs.Words.{AreLassos}
use Rattle.hy_lasso.proofs.ReadingLassos.{one_said}

-- ---- no line feed is printed inside a line

abbrev pub NoFeed : ℕ → Type 0
NoFeed b = is_line_feed b ≡ false

quotable_no_feed : (b : ℕ) → is_quotable b ≡ true → NoFeed b
quotable_no_feed b e = grind (arith, nat_tests, common_steps)

quotables_no_feed : (bytes : List ℕ) → list_all is_quotable bytes ≡ true → All NoFeed bytes
quotables_no_feed [] e = All-nil NoFeed
quotables_no_feed (b ∷ bytes) e =
    let parts = and_parts (is_quotable b) (list_all is_quotable bytes) e in
    All-cons NoFeed b bytes (quotable_no_feed b parts.0) (quotables_no_feed bytes parts.1)

name_no_feed : (name : List ℕ) → IsName name → All NoFeed (spelled name)
name_no_feed name is = through (is_plain name) (quotables_no_feed name is.quotable)
  where
    through : (test : Bool) → All NoFeed name
        → All NoFeed (if test then name else 34 ∷ name ++ 34 ∷ [])
    through true bare = bare
    through false bare =
        All-cons NoFeed 34 (name ++ 34 ∷ []) refl
        (All-append NoFeed name (34 ∷ []) bare (All-cons NoFeed 34 [] refl (All-nil NoFeed)))

joined_no_feed : (c : ℕ) → NoFeed c → (pieces : List (List ℕ)) → Each (All NoFeed) pieces
    → All NoFeed (join_with_byte c pieces)
joined_no_feed c bare [] each = All-nil NoFeed
joined_no_feed c bare (x ∷ []) (here, each) = here
joined_no_feed c bare (x ∷ y ∷ pieces) (here, each) =
    All-append NoFeed x (c ∷ join_with_byte c (y ∷ pieces)) here
    (All-cons NoFeed c (join_with_byte c (y ∷ pieces)) bare
    (joined_no_feed c bare (y ∷ pieces) each))

members_no_feed : (k : ℕ) (letter : Letter) (table : List (List ℕ)) → AreNames table
    → Each (All NoFeed) (map spelled (members_from k letter table))
members_no_feed k letter [] are = tt
members_no_feed k letter (name ∷ table) are =
    through (set.contains letter k) (name_no_feed name (All-head IsName name table are))
    (members_no_feed (suc k) letter table (All-tail IsName name table are))
  where
    through : (test : Bool) → All NoFeed (spelled name)
        → Each (All NoFeed) (map spelled (members_from (suc k) letter table))
        → Each (All NoFeed) (map spelled
        (if test then name ∷ members_from (suc k) letter table else members_from (suc k) letter table))
    through true here each = (here, each)
    through false here each = each

set_no_feed : (table : List (List ℕ)) (letter : Letter) → AreNames table
    → All NoFeed (printed_set table letter)
set_no_feed table letter are =
    let inside = join_with_byte 44 (map spelled (members_of table letter)) in
    All-cons NoFeed 123 (inside ++ 125 ∷ []) refl
    (All-append NoFeed inside (125 ∷ [])
    (joined_no_feed 44 refl (map spelled (members_of table letter))
    (members_no_feed 0 letter table are))
    (All-cons NoFeed 125 [] refl (All-nil NoFeed)))

sets_no_feed : (table : List (List ℕ)) (letters : List Letter) → AreNames table
    → Each (All NoFeed) (map (printed_set table) letters)
sets_no_feed table [] are = tt
sets_no_feed table (letter ∷ letters) are =
    (set_no_feed table letter are, sets_no_feed table letters are)

word_no_feed : (table : List (List ℕ)) (letters : List Letter) → AreNames table
    → All NoFeed (printed_word table letters)
word_no_feed table letters are =
    joined_no_feed 59 refl (map (printed_set table) letters) (sets_no_feed table letters are)

pub line_no_feed : (table : List (List ℕ)) (l : Lasso Letter) → AreNames table
    → All NoFeed (printed_line table l)
line_no_feed table l are =
    All-append NoFeed (printed_word table l.stem) (124 ∷ printed_word table l.cycle)
    (word_no_feed table l.stem are)
    (All-cons NoFeed 124 (printed_word table l.cycle) refl (word_no_feed table l.cycle are))

first_line : (table : List (List ℕ)) (l : Lasso Letter) (rest : List ℕ) → AreNames table
    → lines_of (printed_lasso table l ++ rest) ≡ printed_line table l ∷ lines_of rest
first_line table l rest are =
    ap lines_of (append_assoc (printed_line table l) (10 ∷ []) rest)
    ∙ slice_split_at is_line_feed (printed_line table l) 10 rest (line_no_feed table l are) refl

-- ---- the line says the lasso

word_no_blank : (text : List ℕ) (sets : List (List (List ℕ))) (rest : List ℕ)
    → SpellsWord text sets rest
    → past_blanks text ≡ text
word_no_blank text [] rest word = absurd word
word_no_blank text (x ∷ []) rest (behind, (inner, brace, members), more, bare) =
    let P : List ℕ → Type 0 = λ t. past_blanks t ≡ t in subst P (sym brace) refl
word_no_blank text (x ∷ y ∷ sets) rest (behind, next, (inner, brace, members), more, later) =
    let P : List ℕ → Type 0 = λ t. past_blanks t ≡ t in subst P (sym brace) refl

bar_no_semicolon : (rest : List ℕ) → NoSemicolon (124 ∷ rest)
bar_no_semicolon rest next e = apart 124 59 (124 ∷ rest) rest next (omega arith) refl e

end_no_semicolon : NoSemicolon []
end_no_semicolon next e = cc

cycle_read : (table : List (List ℕ)) (cycle : List Letter) → AreNames table → 0 < length cycle
    → SpellsWord (past_blanks (printed_word table cycle)) (map (members_of table) cycle) []
cycle_read table [] are some = absurd (omega arith)
cycle_read table (x ∷ cycle) are some =
    let P : List ℕ → Type 0 = λ t. SpellsWord t (map (members_of table) (x ∷ cycle)) [] in
    let whole = subst P (append-nil (printed_word table (x ∷ cycle)))
    (printed_word_read table x cycle [] are refl end_no_semicolon) in
    subst P (sym (word_no_blank (printed_word table (x ∷ cycle))
    (map (members_of table) (x ∷ cycle)) [] whole)) whole

line_read : (table : List (List ℕ)) (stem cycle : List Letter) → AreNames table → 0 < length cycle
    → SaysLasso (printed_word table stem ++ 124 ∷ printed_word table cycle)
    (spelled_of table (record { stem = stem; cycle = cycle }))
line_read table [] cycle are some = (
  printed_word table cycle,
  refl,
  cycle_read table cycle are some,
)
line_read table (x ∷ stem) cycle are some =
    let behind = 124 ∷ printed_word table cycle in
    let text = printed_word table (x ∷ stem) ++ behind in
    let sets = map (members_of table) (x ∷ stem) in
    let word : SpellsWord text sets behind =
    printed_word_read table x stem behind are refl (bar_no_semicolon (printed_word table cycle)) in
    let P : List ℕ → Type 0 = λ t. SpellsWord t sets behind in (
      printed_word table cycle,
      subst P (sym (word_no_blank text sets behind word)) word,
      cycle_read table cycle are some,
    )

pub same_lasso : (table : List (List ℕ)) (l : Lasso Letter) → IsTrue (are_distinct table)
    → IsLassoOver table l
    → lasso_of table (spelled_of table l) ≡ l
same_lasso table l distinct over =
    let stem = letters_read table l.stem distinct over.stem in
    let cycle = letters_read table l.cycle distinct over.cycle in
    λ i. record { stem = stem i; cycle = cycle i }

-- the line of a lasso says it
pub line_says : (table : List (List ℕ)) (l : Lasso Letter) → AreNames table → 0 < length l.cycle
    → SaysLasso (printed_line table l) (spelled_of table l)
line_says table l are some = line_read table l.stem l.cycle are some

-- what is read of the line of a lasso
pub line_read_back : (table : List (List ℕ)) (l : Lasso Letter) (found : Option (Lasso Letter))
    → AreNames table → IsTrue (are_distinct table) → 0 < length l.cycle → IsLassoOver table l
    → IsLassoSaid table (printed_line table l) found → found ≡ Some l
line_read_back table l found are distinct some over said =
    one_said table (printed_line table l) (spelled_of table l) found (line_says table l are some)
    said
    ∙ ap Some (same_lasso table l distinct over)

say_printed : (table : List (List ℕ)) (list : List (Lasso Letter)) → AreNames table
    → IsTrue (are_distinct table) → AreLassos list → All (IsLassoOver table) list
    → SayLassos table (lines_of (printed_lassos table list)) list
say_printed table [] names distinct are over = inl (inl refl, refl)
say_printed table (l ∷ list) names distinct are over =
    let P : List (List ℕ) → Type 0 = λ ls. SayLassos table ls (l ∷ list) in
    let later = say_printed table list names distinct (λ v lt. are (suc v) (omega arith))
    (All-tail (IsLassoOver table) l list over) in
    let here = line_read table l.stem l.cycle names (are 0 (omega arith)) in
    let same = same_lasso table l distinct (All-head (IsLassoOver table) l list over) in
    subst P (sym (first_line table l (printed_lassos table list) names))
    (inr (spelled_of table l, list, here, ap (λ m. m ∷ list) (sym same), later))

pub printed_read : (table : List (List ℕ)) (list : List (Lasso Letter)) → AreNames table
    → IsTrue (are_distinct table) → 0 < length list → AreLassos list → All (IsLassoOver table) list
    → IsLassoFile table (printed_lassos table list) list
printed_read table list names distinct some are over =
    record { some = some; say = say_printed table list names distinct are over }
