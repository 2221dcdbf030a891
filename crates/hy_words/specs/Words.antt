-- What words say, from the first to the last: names of files, flags, and options with their values.
--
-- Flags and options stand anywhere among the names of files, but not behind a word `--`, behind which every word is the
-- name of a file. The value of an option is the word behind it, or stands behind an equals sign in the same word.
use Rattle.std.specs.Prelude.{◌≡◌, ◌≤◌, ◌||◌, ◌&&◌, ◌==◌, ℕ, Bool, true, not, if◌then◌else◌, List, [], ◌∷◌, ◌++◌, IsTrue, length, map, codes, String}
use Rattle.std.specs.List.{list_any, list_all, flat_map}
use Rattle.std.specs.Str.{bytes_eq}
use Rattle.std.specs.String.{string_bytes}
use Rattle.hy_formula.specs.Quantifiers.{Each}
use Rattle.hy_words.specs.declared.syntax.Syntax.{Syntax as Names}

abbrev pub Text : Type 0
Text = List ℕ

-- the words as bytes
abbrev pub texts : {Z : Type 0} → List (String Z) → List Text
texts words = map string_bytes words

-- the names of flags, and of options that have a value, without their dashes
pub record Syntax : Type 0 where
  pub flags : List Text
  pub options : List Text

-- the names that the code has
abbrev pub syntax_of : Names → Syntax
syntax_of names = record {
  flags = map (λ name. name.now) names.flags.now;
  options = map (λ name. name.now) names.options.now;
}

-- whether the name is one of these
abbrev pub has : List Text → Text → Bool
has names name = list_any (λ other. bytes_eq other name) names

-- The word does not begin with a dash, or is one.
abbrev pub is_bare : Text → Bool
is_bare [] = true
is_bare (b ∷ bs) = not (b == 45) || length bs == 0

-- the word is not empty
abbrev pub is_filled : Text → Bool
is_filled word = not (length word == 0)

-- A value is not empty, and begins with a dash only where it is one.
abbrev pub is_value : Text → Bool
is_value word = is_filled word && is_bare word

-- a name behind its two dashes
abbrev pub dashed : Text → Text
dashed name = 45 ∷ 45 ∷ name

pub data Item : Type 0 where
  file : (name : Text) → Item
  flag : (name : Text) → Item
  option : (name value : Text) → Item

-- The words are these items, from the first to the last.
pub data Says (syntax : Syntax) : List Text → List Item → Type 0 where
  nothing : Says syntax [] []
  behind_dashes : (names : List Text) → Says syntax (dashed [] ∷ names) (map file names)
  a_file : (name : Text) (words : List Text) (items : List Item) → IsTrue (is_bare name)
      → Says syntax words items → Says syntax (name ∷ words) (file name ∷ items)
  a_flag : (name : Text) (words : List Text) (items : List Item) → IsTrue (has syntax.flags name)
      → Says syntax words items → Says syntax (dashed name ∷ words) (flag name ∷ items)
  an_option : (name value : Text) (words : List Text) (items : List Item) → IsTrue (has syntax.options name)
      → Says syntax words items → Says syntax (dashed name ∷ value ∷ words) (option name value ∷ items)
  joined : (name value : Text) (words : List Text) (items : List Item) → IsTrue (has syntax.options name)
      → Says syntax words items → Says syntax (dashed (name ++ 61 ∷ value) ∷ words) (option name value ∷ items)

abbrev pub item_files : Item → List Text
item_files (file name) = name ∷ []
item_files _ = []

-- what an item gives the flag or option of this name: an option its value, a flag `true`
abbrev pub item_gives : Text → Item → List Text
item_gives name (file _) = []
item_gives name (flag other) = if bytes_eq other name then codes "true" ∷ [] else []
item_gives name (option other value) = if bytes_eq other name then value ∷ [] else []

-- the names of files among the items, in order
abbrev pub files_in : List Item → List Text
files_in items = flat_map item_files items

-- what the items give the flag or option of this name, in order
abbrev pub given_in : Text → List Item → List Text
given_in name items = flat_map (item_gives name) items

-- whether a flag is given
abbrev pub is_given : List Text → Bool
is_given given = not (length given == 0)

-- None of these flags and options is given.
abbrev pub AreMissing : List Text → List Item → Type 0
AreMissing names items = Each (λ name. given_in name items ≡ []) names

-- Nothing is refused among the items: each flag and each option stands at most once, no name of a file is empty, and
-- what an option is given is a value.
pub record IsProper (syntax : Syntax) (items : List Item) : Type 0 where
  pub once : (name : Text) → length (given_in name items) ≤ 1
  pub files : IsTrue (list_all is_filled (files_in items))
  pub values : IsTrue (list_all (λ name. list_all is_value (given_in name items)) syntax.options)

-- The words are these items, and nothing is refused among them.
abbrev pub AreItems : Syntax → List Text → List Item → Type 0
AreItems syntax words items = Says syntax words items × IsProper syntax items

-- The words are no such items.
abbrev pub HasNoItems : Syntax → List Text → Type 0
HasNoItems syntax words = (items : List Item) → ¬ AreItems syntax words items

-- Both give the same files, the same values of options and the same flags.
pub record GiveSame (syntax : Syntax) (items others : List Item) : Type 0 where
  pub files : files_in items ≡ files_in others
  pub options : Each (λ name. given_in name items ≡ given_in name others) syntax.options
  pub flags : Each (λ name. is_given (given_in name items) ≡ is_given (given_in name others)) syntax.flags
