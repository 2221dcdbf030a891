-- What the parser does with each kind of word.
use Rattle.std.proofs.Common.{◌≡◌, ◌≢◌, ℕ, ◌&&◌, ◌==◌, Bool, true, false, not, List, [], ◌∷◌, ◌++◌, map, Option, Some, None, is_some, refl, sym, ◌∙◌}
use Rattle.std.specs.List.{slice_get}
use Rattle.std.specs.Str.{bytes_eq, chars}
use Rattle.clap.specs.Lexer.{long_of, short_of}
use Rattle.clap.specs.Walk.{Row, Rule, Held, Walk, Waiting, idle, option, positional, arg_by_long, arg_by_short, arg_by_id, arg_by_index, subcommand_met, walked, settled, reacted, used, has_row}
use Rattle.clap.specs.Simple.{Shape, new_shape, filled, with_index}
use Rattle.clap.specs.Faults.{turn_fault, react_fault, settle_fault, use_fault, flags_fault}
use Rattle.clap.specs.Kinds.{or_else}
use Rattle.clap.specs.declared.error.kind.ErrorKind.TheVariants.{UnknownArgument, TooManyValues, ArgumentConflict}
use Rattle.hy_base.proofs.Truths.{or-false, and-false, bytes-themselves}
use Rattle.hy_words.specs.Words.{Text, has}
use Rattle.hy_words.specs.Parsers.{flag_rule, option_rule, files_rule, files_name}
use Rattle.hy_words.proofs.Lookups.{find_named, find_past, find_skip}

abbrev pub built_flag : Text → Rule
built_flag name = filled (flag_rule name)

abbrev pub built_option : Text → Rule
built_option name = filled (option_rule name)

abbrev pub built_files : Rule
built_files = with_index 1 (filled files_rule)

abbrev pub rules_for : List Text → List Text → List Rule
rules_for flags options = map built_flag flags ++ (map built_option options ++ built_files ∷ [])

-- the parser as it is built
abbrev pub shape_for : List Rule → Shape
shape_for rules = record (new_shape (99 ∷ [])) {
  name = 119 ∷ 111 ∷ 114 ∷ 100 ∷ 115 ∷ [];
  rules = rules;
  no_binary_name = true;
  disable_help_flag = true;
  disable_version_flag = true;
  disable_help_subcommand = true;
  is_built = true;
}

-- where a walk stands between two words
abbrev pub stands : Held → Waiting → Bool → Walk
stands h waiting behind = record { held = h; waiting = waiting; position = 1; is_trailing = behind; stopped = None }

none_met : (waiting : Waiting) (word : Text) → subcommand_met [] waiting word ≡ None
none_met idle word = refl
none_met (option id) word = refl
none_met positional word = refl

pub some-none : {A : Type 0} {x : A} {xs : List A} → x ∷ xs ≡ [] → ⊥
some-none e = cc

-- No option waits for its value.
abbrev pub calm : Waiting → Type 0
calm idle = Unit {0}
calm positional = Unit {0}
calm (option id) = ⊥

module _ (flags options : List Text) where
  abbrev rules : List Rule
  rules = rules_for flags options

  abbrev shape : Shape
  shape = shape_for rules

  -- ---- what a name finds

  abbrev by_long : Text → Rule → Bool
  by_long name a = not (is_some a.index) && Rattle.clap.specs.Walk.has_long a name

  pub long_flag : (name : Text) → has flags name ≡ true → arg_by_long rules name ≡ Some (built_flag name)
  long_flag name there = find_named built_flag (by_long name) name (λ m. or-false (bytes_eq m name)) flags _ there

  pub long_option : (name : Text) → has flags name ≡ false → has options name ≡ true → arg_by_long rules name ≡ Some (built_option name)
  long_option name gone there =
      find_past built_flag (by_long name) name (λ m. or-false (bytes_eq m name)) flags _ gone
      ∙ find_named built_option (by_long name) name (λ m. or-false (bytes_eq m name)) options _ there

  pub long_none : (name : Text) → has flags name ≡ false → has options name ≡ false → arg_by_long rules name ≡ None
  long_none name gone away =
      find_past built_flag (by_long name) name (λ m. or-false (bytes_eq m name)) flags _ gone
      ∙ find_past built_option (by_long name) name (λ m. or-false (bytes_eq m name)) options _ away

  pub id_option : (name : Text) → has flags name ≡ false → has options name ≡ true → arg_by_id rules name ≡ Some (built_option name)
  id_option name gone there =
      find_past built_flag (λ a. bytes_eq a.id name) name (λ m. refl) flags _ gone
      ∙ find_named built_option (λ a. bytes_eq a.id name) name (λ m. refl) options _ there

  pub id_files : has flags files_name ≡ false → has options files_name ≡ false → arg_by_id rules files_name ≡ Some built_files
  id_files gone away =
      find_past built_flag (λ a. bytes_eq a.id files_name) files_name (λ m. refl) flags _ gone
      ∙ find_past built_option (λ a. bytes_eq a.id files_name) files_name (λ m. refl) options _ away

  pub at_index : arg_by_index rules 1 ≡ Some built_files
  at_index =
      find_skip built_flag (λ a. Rattle.std.specs.Option.option_map_or (λ k. k == 1) a.index false) (λ m. refl) flags _
      ∙ find_skip built_option (λ a. Rattle.std.specs.Option.option_map_or (λ k. k == 1) a.index false) (λ m. refl) options _

  pub no_short : (x : ℕ) → arg_by_short rules x ≡ None
  no_short x =
      find_skip built_flag (λ a. not (is_some a.index) && Rattle.clap.specs.Walk.has_short a x) (λ m. refl) flags _
      ∙ find_skip built_option (λ a. not (is_some a.index) && Rattle.clap.specs.Walk.has_short a x) (λ m. refl) options _

  -- ---- words that begin with two dashes

  module _ (h : Held) (waiting : Waiting) (word name : Text) (value : Option Text) (long : long_of word ≡ Some (name, value)) (other : bytes_eq word (45 ∷ 45 ∷ []) ≡ false) where
    pub flag_turn : has flags name ≡ true → value ≡ None → turn_fault shape [] (stands h waiting false) word ≡ or_else (react_fault rules false (built_flag name) [] h) []
    flag_turn there e = rw (none_met waiting word, other, long, long_flag name there, e) refl

    pub flag_next : has flags name ≡ true → value ≡ None → walked rules [] (stands h waiting false) word ≡ stands (reacted rules (built_flag name) [] h) idle false
    unfolding walked
    flag_next there e = rw (none_met waiting word, other, long, long_flag name there, e) refl

    pub flag_valued : has flags name ≡ true → (v : Text) → value ≡ Some v → turn_fault shape [] (stands h waiting false) word ≢ []
    flag_valued there v e f =
        let is : turn_fault shape [] (stands h waiting false) word ≡ TooManyValues ∷ [] = rw (none_met waiting word, other, long, long_flag name there, e) refl in
        some-none (sym is ∙ f)

    pub option_turn : has flags name ≡ false → has options name ≡ true → value ≡ None → turn_fault shape [] (stands h waiting false) word ≡ or_else (settle_fault rules false h) []
    option_turn gone there e = rw (none_met waiting word, other, long, long_option name gone there, e) refl

    pub valued_turn : has flags name ≡ false → has options name ≡ true → (v : Text) → value ≡ Some v
        → turn_fault shape [] (stands h waiting false) word ≡ or_else (react_fault rules false (built_option name) (v ∷ []) h) []
    valued_turn gone there v e = rw (none_met waiting word, other, long, long_option name gone there, e) refl

    pub option_next : has flags name ≡ false → has options name ≡ true → value ≡ None
        → walked rules [] (stands h waiting false) word ≡ stands (record (settled rules h) { pending = Some (name, []) }) (option name) false
    unfolding walked
    option_next gone there e = rw (none_met waiting word, other, long, long_option name gone there, e) refl

    pub valued_next : has flags name ≡ false → has options name ≡ true → (v : Text) → value ≡ Some v
        → walked rules [] (stands h waiting false) word ≡ stands (reacted rules (built_option name) (v ∷ []) h) idle false
    unfolding walked
    valued_next gone there v e = rw (none_met waiting word, other, long, long_option name gone there, e) refl

    pub unknown_turn : has flags name ≡ false → has options name ≡ false → turn_fault shape [] (stands h waiting false) word ≢ []
    unknown_turn gone away f =
        let is : turn_fault shape [] (stands h waiting false) word ≡ UnknownArgument ∷ [] = rw (none_met waiting word, other, long, long_none name gone away) refl in
        some-none (sym is ∙ f)

  -- ---- other words

  module _ (h : Held) (waiting : Waiting) (word : Text) where
    pub dashes_turn : bytes_eq word (45 ∷ 45 ∷ []) ≡ true → turn_fault shape [] (stands h waiting false) word ≡ []
    dashes_turn e = rw (none_met waiting word, e) refl

    pub dashes_next : bytes_eq word (45 ∷ 45 ∷ []) ≡ true → walked rules [] (stands h waiting false) word ≡ stands h waiting true
    unfolding walked
    dashes_next e = rw (none_met waiting word, e) refl

    pub trailing_turn : turn_fault shape [] (stands h waiting true) word ≡ settle_fault rules false h
    trailing_turn = rw (at_index, and-false) refl

    pub trailing_next : walked rules [] (stands h waiting true) word ≡ stands (record (settled rules h) { pending = Some (files_name, word ∷ []) }) positional true
    unfolding walked
    trailing_next = rw (at_index, and-false) refl

    pub short_turn : (b : ℕ) (bs : Text) (x : ℕ) → long_of word ≡ None → short_of word ≡ Some (b ∷ bs) → bytes_eq word (45 ∷ 45 ∷ []) ≡ false
        → slice_get (chars (b ∷ bs)) 0 ≡ Some x → h.skip ≡ 0 → turn_fault shape [] (stands h waiting false) word ≢ []
    unfolding flags_fault
    short_turn b bs x long short other first e f =
        let is : turn_fault shape [] (stands h waiting false) word ≡ UnknownArgument ∷ [] = rw (none_met waiting word, other, long, short, e, first, no_short x) refl in
        some-none (sym is ∙ f)

  -- a word that is no flag, where no option waits for its value
  module _ (h : Held) (word : Text) (long : long_of word ≡ None) (short : short_of word ≡ None) (other : bytes_eq word (45 ∷ 45 ∷ []) ≡ false) where
    pub bare_turn : (waiting : Waiting) → calm waiting → turn_fault shape [] (stands h waiting false) word ≡ settle_fault rules false h
    bare_turn idle is = rw (other, long, short, at_index, and-false) refl
    bare_turn positional is = rw (other, long, short, at_index, and-false) refl
    bare_turn (option id) is = absurd is

    pub bare_next : (waiting : Waiting) → calm waiting → walked rules [] (stands h waiting false) word ≡ stands (record (settled rules h) { pending = Some (files_name, word ∷ []) }) positional false
    unfolding walked
    bare_next idle is = rw (other, long, short, at_index, and-false) refl
    bare_next positional is = rw (other, long, short, at_index, and-false) refl
    bare_next (option id) is = absurd is

    -- the value of an option that waits for it
    pub value_turn : (name : Text) → turn_fault shape [] (stands h (option name) false) word ≡ []
    value_turn name = rw (other, long, short) refl

    pub value_next : (name : Text) → has flags name ≡ false → has options name ≡ true → h.pending ≡ Some (name, [])
        → walked rules [] (stands h (option name) false) word ≡ stands (record h { pending = Some (name, word ∷ []) }) idle false
    unfolding walked
    value_next name gone there e = rw (other, long, short, id_option name gone there, e, bytes-themselves name) refl

  -- ---- uses

  pub flag_new : (name : Text) (rows : List Row) → has_row name rows ≡ false → use_fault false (built_flag name) [] rows ≡ []
  flag_new name rows e = rw e refl

  pub flag_once : (name : Text) (rows : List Row) → use_fault false (built_flag name) [] rows ≡ [] → has_row name rows ≡ false
  flag_once name rows e = by (has_row name rows) refl
    where
      by : (b : Bool) → has_row name rows ≡ b → b ≡ false
      by false f = refl
      by true f = let is : use_fault false (built_flag name) [] rows ≡ ArgumentConflict ∷ [] = rw f refl in absurd (some-none (sym is ∙ e))

  pub option_new : (name v : Text) (rows : List Row) → has_row name rows ≡ false → use_fault false (built_option name) (v ∷ []) rows ≡ []
  option_new name v rows e = rw e refl

  pub option_once : (name v : Text) (rows : List Row) → use_fault false (built_option name) (v ∷ []) rows ≡ [] → has_row name rows ≡ false
  option_once name v rows e = by (has_row name rows) refl
    where
      by : (b : Bool) → has_row name rows ≡ b → b ≡ false
      by false f = refl
      by true f = let is : use_fault false (built_option name) (v ∷ []) rows ≡ ArgumentConflict ∷ [] = rw f refl in absurd (some-none (sym is ∙ e))

  -- ---- what waits to be used

  pub option_settles : (name : Text) (values : List Text) (rows : List Row) (skip : ℕ) → has flags name ≡ false → has options name ≡ true
      → settle_fault rules false (record { rows = rows; pending = Some (name, values); skip = skip }) ≡ use_fault false (built_option name) values rows
  option_settles name values rows skip gone there = rw (id_option name gone there) refl

  pub option_settled : (name : Text) (values : List Text) (rows : List Row) (skip : ℕ) → has flags name ≡ false → has options name ≡ true
      → (settled rules (record { rows = rows; pending = Some (name, values); skip = skip })).rows ≡ used (built_option name) values rows
  option_settled name values rows skip gone there = rw (id_option name gone there) refl

  pub files_settles : (v : Text) (rows : List Row) (skip : ℕ) → has flags files_name ≡ false → has options files_name ≡ false
      → settle_fault rules false (record { rows = rows; pending = Some (files_name, v ∷ []); skip = skip }) ≡ []
  files_settles v rows skip gone away = rw (id_files gone away) refl

  pub files_settled : (v : Text) (rows : List Row) (skip : ℕ) → has flags files_name ≡ false → has options files_name ≡ false
      → (settled rules (record { rows = rows; pending = Some (files_name, v ∷ []); skip = skip })).rows ≡ used built_files (v ∷ []) rows
  files_settled v rows skip gone away = rw (id_files gone away) refl
