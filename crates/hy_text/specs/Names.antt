-- Names of a text:
--
--     name := letter (letter | digit | '_')* | '"' bytes other than '"' and line feed '"'
--
-- A quoted name is not empty. A name is printed with quotes exactly where it is not spelled without.
use Rattle.std.specs.Prelude.{ℕ, ◌<◌, ◌&&◌, nat_eq, nat_lt, if◌then◌else◌, IsTrue, List, [], ◌∷◌, ◌++◌, length, drop, Option, Some, None, codes, All}
use Rattle.std.specs.List.{take_while, starts_with, list_all}
use Rattle.hy_text.specs.Bytes.{is_word_byte, is_quotable, begins_with_letter, is_plain}

-- the plain name at the front, a letter and all letters, digits and underscores behind it, and what stands behind
abbrev pub plain_name_at : List ℕ → Option (List ℕ × List ℕ)
plain_name_at text =
    let name = take_while is_word_byte text in
    if begins_with_letter name then Some (name, drop (length name) text) else None

-- the quoted name at the front, which is not empty, and what stands behind
abbrev pub quoted_name_at : List ℕ → Option (List ℕ × List ℕ)
quoted_name_at text =
    let inner = drop 1 text in
    let name = take_while is_quotable inner in
    let behind = drop (length name) inner in
    if nat_lt 0 (length name) && starts_with nat_eq behind (codes "\"") then Some (name, drop 1 behind) else None

-- the name at the front of a text, and what stands behind it
abbrev pub name_at : List ℕ → Option (List ℕ × List ℕ)
name_at text = if starts_with nat_eq text (codes "\"") then quoted_name_at text else plain_name_at text

-- how a name is printed
abbrev pub spelled : List ℕ → List ℕ
spelled name = if is_plain name then name else 34 ∷ name ++ 34 ∷ []

-- what a reader may give as a name
pub record IsName (name : List ℕ) : Type 0 where
  pub some : 0 < length name
  pub quotable : IsTrue (list_all is_quotable name)

-- Each name of the table is one that a reader may give.
abbrev pub AreNames : List (List ℕ) → Type 0
AreNames table = All IsName table
