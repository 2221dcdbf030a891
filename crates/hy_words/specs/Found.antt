-- What is found in words, as the parser's matches have it.
use Rattle.std.specs.Prelude.{◌≡◌, List, [], ◌∷◌, Bool, false, Option, Some, None, IsTrue, map, unwrap_or, codes}
use Rattle.std.specs.Borrow.{Bor}
use Rattle.std.specs.List.{list_all}
use Rattle.std.specs.Option.{option_map}
use Rattle.std.specs.Str.{bytes_eq}
use Rattle.clap.specs.Matches.{found_of, matched_of, raw_values, first_value}
use Rattle.hy_formula.specs.Quantifiers.{Each}
use Rattle.hy_words.specs.declared.found.Found.{Found}
use Rattle.hy_words.specs.Words.{Text, Syntax, Item, is_filled, is_value, files_in, given_in, is_given}
use Rattle.hy_words.specs.Parsers.{files_name}

-- a value, if there is one, as a list
abbrev pub listed : Option Text → List Text
listed None = []
listed (Some value) = value ∷ []

-- a value of the code, if there is one, as a list
abbrev pub listed_slice : Option (Bor Text) → List Text
listed_slice None = []
listed_slice (Some value) = value.now ∷ []

-- the names of files that the code has, if there are some
abbrev pub listed_files : Option (Bor (List (Bor Text))) → List Text
listed_files None = []
listed_files (Some names) = map (λ name. name.now) names.now

-- the names of files that were found
abbrev pub found_files : Found → List Text
found_files found = unwrap_or (option_map raw_values (matched_of (found_of found.matches) files_name)) []

-- what was found for an option
abbrev pub found_value : Found → Text → List Text
found_value found name = listed (first_value (found_of found.matches) name)

abbrev pub is_true : Option Text → Bool
is_true None = false
is_true (Some text) = bytes_eq text (codes "true")

-- whether a flag was found
abbrev pub found_flag : Found → Text → Bool
found_flag found name = is_true (first_value (found_of found.matches) name)

-- What was found is what the items give.
pub record Tells (syntax : Syntax) (items : List Item) (found : Found) : Type 0 where
  pub files : files_in items ≡ found_files found
  pub options : Each (λ name. given_in name items ≡ found_value found name) syntax.options
  pub flags : Each (λ name. is_given (given_in name items) ≡ found_flag found name) syntax.flags

-- No name of a file that was found is empty, and what was found for an option is a value.
abbrev pub AreProper : Syntax → Found → Type 0
AreProper syntax found = IsTrue (list_all is_filled (found_files found))
    × IsTrue (list_all (λ name. list_all is_value (found_value found name)) syntax.options)
