-- Sets and words that were printed are read.
use Rattle.std.proofs.Common.{◌≡◌, ℕ, suc, Bool, true, false, if◌then◌else◌, List, [], ◌∷◌, ◌++◌, map, Some, refl, ap, sym, ◌∙◌, subst, arith, append_assoc}
use Rattle.std.specs.List.{join_with_byte, list_all}
use Rattle.std.proofs.lemmas.Bool.{and_parts}
use Rattle.std.proofs.lemmas.Bool.Decides.{nat_tests}
use Rattle.std.proofs.lemmas.Grind.{common_steps}
use Rattle.std.proofs.lemmas.List.Elements.{All-cons, All-head, All-tail}
use Rattle.std.specs.FinSet as set
use Rattle.hy_bits.specs.Letter.{Letter}
use Rattle.hy_text.specs.Bytes.{is_letter, is_line_blank, is_plain, is_word_byte, past_blanks}
use Rattle.hy_text.specs.Names.{AreNames, IsName, name_at, spelled}
use Rattle.hy_text.specs.Sets.{SpellsMembers, SpellsNames, SpellsSet, braced, members_from, members_of, printed_set}
use Rattle.hy_text.specs.Words.{NoSemicolon, SpellsWord, printed_word}
use Rattle.hy_text.proofs.Spelling.{spelled_read}

-- No name begins with a blank.
letter_no_blank : (b : ℕ) → is_letter b ≡ true → is_line_blank b ≡ false
letter_no_blank b e = grind (arith, nat_tests, common_steps)

plain_no_blank : (name xs : List ℕ) → is_plain name ≡ true → past_blanks (name ++ xs) ≡ name ++ xs
plain_no_blank [] xs plain = absurd cc
plain_no_blank (b ∷ bs) xs plain =
    let parts = and_parts (is_letter b) (list_all is_word_byte bs) plain in
    rw (letter_no_blank b parts.0) refl

spelled_no_blank : (name xs : List ℕ) → past_blanks (spelled name ++ xs) ≡ spelled name ++ xs
spelled_no_blank name xs = through (is_plain name) refl
  where
    through : (b : Bool) → is_plain name ≡ b → past_blanks ((if b then name else 34 ∷ name ++ 34 ∷ []) ++ xs) ≡ (if b then name else 34 ∷ name ++ 34 ∷ []) ++ xs
    through true e = plain_no_blank name xs e
    through false e = refl

joined_no_blank : (name : List ℕ) (names : List (List ℕ)) (xs : List ℕ) → past_blanks (join_with_byte 44 (map spelled (name ∷ names)) ++ xs) ≡ join_with_byte 44 (map spelled (name ∷ names)) ++ xs
joined_no_blank name [] xs = spelled_no_blank name xs
joined_no_blank name (more ∷ names) xs =
    let rest : List ℕ = 44 ∷ join_with_byte 44 (map spelled (more ∷ names)) in
    subst (λ l. past_blanks l ≡ l) (sym (append_assoc (spelled name) rest xs)) (spelled_no_blank name (rest ++ xs))

-- the names of a set
names_read : (name : List ℕ) (names : List (List ℕ)) (rest : List ℕ) → AreNames (name ∷ names) → SpellsNames (join_with_byte 44 (map spelled (name ∷ names)) ++ 125 ∷ rest) (name ∷ names) rest
names_read name [] rest are = (125 ∷ rest, spelled_read name (125 ∷ rest) (All-head IsName name [] are) refl, refl)
names_read name (more ∷ names) rest are =
    let next : List ℕ = join_with_byte 44 (map spelled (more ∷ names)) ++ 125 ∷ rest in
    let whole : (spelled name ++ 44 ∷ join_with_byte 44 (map spelled (more ∷ names))) ++ 125 ∷ rest ≡ spelled name ++ 44 ∷ next = append_assoc (spelled name) (44 ∷ join_with_byte 44 (map spelled (more ∷ names))) (125 ∷ rest) in
    let named : name_at ((spelled name ++ 44 ∷ join_with_byte 44 (map spelled (more ∷ names))) ++ 125 ∷ rest) ≡ Some (name, 44 ∷ next) = ap name_at whole ∙ spelled_read name (44 ∷ next) (All-head IsName name (more ∷ names) are) refl in
    (44 ∷ next, next, named, refl, subst (λ l. SpellsNames l (more ∷ names) rest) (sym (joined_no_blank more names (125 ∷ rest))) (names_read more names rest (All-tail IsName name (more ∷ names) are)))

-- a set
pub set_read : (names : List (List ℕ)) (rest : List ℕ) → AreNames names → SpellsSet (braced names ++ rest) names rest
set_read [] rest are = (125 ∷ rest, refl, refl)
set_read (name ∷ names) rest are =
    let joined : List ℕ = join_with_byte 44 (map spelled (name ∷ names)) in
    let whole : (joined ++ 125 ∷ []) ++ rest ≡ joined ++ 125 ∷ rest = append_assoc joined (125 ∷ []) rest in (
      joined ++ 125 ∷ rest,
      ap (λ l. 123 ∷ l) whole,
      subst (λ l. SpellsMembers l (name ∷ names) rest) (sym (joined_no_blank name names (125 ∷ rest))) (names_read name names rest are),
    )

-- The names of each set are names.
abbrev pub AreSets : List (List (List ℕ)) → Type 0
AreSets [] = Unit {0}
AreSets (names ∷ sets) = AreNames names × AreSets sets

braces_no_blank : (names : List (List ℕ)) (sets : List (List (List ℕ))) (xs : List ℕ) → past_blanks (join_with_byte 59 (map braced (names ∷ sets)) ++ xs) ≡ join_with_byte 59 (map braced (names ∷ sets)) ++ xs
braces_no_blank names [] xs = refl
braces_no_blank names (more ∷ sets) xs = refl

-- a word
pub word_read : (names : List (List ℕ)) (sets : List (List (List ℕ))) (rest : List ℕ) → AreSets (names ∷ sets) → past_blanks rest ≡ rest → NoSemicolon rest → SpellsWord (join_with_byte 59 (map braced (names ∷ sets)) ++ rest) (names ∷ sets) rest
word_read names [] rest are blank none = (rest, set_read names rest are.0, blank, none)
word_read names (more ∷ sets) rest are blank none =
    let next : List ℕ = join_with_byte 59 (map braced (more ∷ sets)) ++ rest in
    let whole : (braced names ++ 59 ∷ join_with_byte 59 (map braced (more ∷ sets))) ++ rest ≡ braced names ++ 59 ∷ next = append_assoc (braced names) (59 ∷ join_with_byte 59 (map braced (more ∷ sets))) rest in (
      59 ∷ next,
      next,
      subst (λ l. SpellsSet l names (59 ∷ next)) (sym whole) (set_read names (59 ∷ next) are.0),
      refl,
      subst (λ l. SpellsWord l (more ∷ sets) rest) (sym (braces_no_blank more sets rest)) (word_read more sets rest are.1 blank none),
    )

-- The names of a letter are names.
members_are_names : (k : ℕ) (letter : Letter) (table : List (List ℕ)) → AreNames table → AreNames (members_from k letter table)
members_are_names k letter [] are = are
members_are_names k letter (name ∷ table) are =
    through (set.contains letter k) (All-head IsName name table are) (members_are_names (suc k) letter table (All-tail IsName name table are))
  where
    through : (b : Bool) → IsName name → AreNames (members_from (suc k) letter table) → AreNames (if b then name ∷ members_from (suc k) letter table else members_from (suc k) letter table)
    through true is more = All-cons IsName name (members_from (suc k) letter table) is more
    through false is more = more

sets_of_names : (table : List (List ℕ)) (letters : List Letter) → AreNames table → AreSets (map (members_of table) letters)
sets_of_names table [] are = tt
sets_of_names table (letter ∷ letters) are = (members_are_names 0 letter table are, sets_of_names table letters are)

same_sets : (table : List (List ℕ)) (letters : List Letter) → map (printed_set table) letters ≡ map braced (map (members_of table) letters)
same_sets table [] = refl
same_sets table (letter ∷ letters) = ap (λ l. printed_set table letter ∷ l) (same_sets table letters)

-- a printed word over a reader's names
pub printed_word_read : (table : List (List ℕ)) (letter : Letter) (letters : List Letter) (rest : List ℕ) → AreNames table → past_blanks rest ≡ rest → NoSemicolon rest → SpellsWord (printed_word table (letter ∷ letters) ++ rest) (map (members_of table) (letter ∷ letters)) rest
printed_word_read table letter letters rest are blank none =
    let same = same_sets table (letter ∷ letters) in
    subst (λ l. SpellsWord (join_with_byte 59 l ++ rest) (map (members_of table) (letter ∷ letters)) rest) (sym same)
    (word_read (members_of table letter) (map (members_of table) letters) rest (sets_of_names table (letter ∷ letters) are) blank none)
