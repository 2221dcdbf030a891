-- The parser of words: one simple command without subcommands, help and version; and the names that it takes.
use Rattle.std.specs.Prelude.{true, ◌&&◌, Bool, not, List, [], ◌∷◌, ◌++◌, map, codes, Some}
use Rattle.std.specs.List.{list_all, list_any}
use Rattle.clap.specs.Lexer.{has_byte}
use Rattle.clap.specs.Simple.{App, new_rule, new_shape}
use Rattle.clap.specs.Walk.{Rule}
use Rattle.clap.specs.declared.builder.action.ArgAction.TheVariants.{Set, Append, SetTrue}
use Rattle.hy_words.specs.Words.{Text, Syntax, has, is_filled}

-- the name under which the names of files are found
abbrev pub files_name : Text
files_name = codes "FILE"

-- a flag, an option with one value, and the names of files
abbrev pub flag_rule : Text → Rule
flag_rule name = record (new_rule name) { long = Some name; action = Some SetTrue }

abbrev pub option_rule : Text → Rule
option_rule name = record (new_rule name) { long = Some name; action = Some Set }

abbrev pub files_rule : Rule
files_rule = record (new_rule files_name) { action = Some Append }

-- a command that takes these
abbrev pub taking : List Rule → App
taking rules = record {
  top = record (new_shape (codes "words")) {
    rules = rules;
    no_binary_name = true;
    disable_help_flag = true;
    disable_version_flag = true;
  };
  subs = [];
}

abbrev pub parser_of : Syntax → App
parser_of syntax = taking (map flag_rule syntax.flags ++ map option_rule syntax.options ++ files_rule ∷ [])

-- A name is not empty, and has no equals sign.
abbrev pub is_name : Text → Bool
is_name name = is_filled name && not (has_byte 61 name)

-- Flags and options have names, none is both, and none has the name of files.
abbrev pub is_syntax : Syntax → Bool
is_syntax syntax =
    list_all is_name syntax.flags && list_all is_name syntax.options && not (list_any (has syntax.flags) syntax.options)
    && not (has syntax.flags files_name) && not (has syntax.options files_name)
