-- What the matches of a parse tell of the items that the words say.
use Rattle.std.proofs.Common.{if◌then◌else◌, ◌≡◌, codes, ◌≤◌, ◌||◌, ◌&&◌, Bool, true, false, not, cond, List, [], ◌∷◌, ◌++◌, map, length, Option, Some, None, is_some, unwrap_or, refl, sym, ap, subst, ◌∙◌, arith, true≢false}
use Rattle.std.specs.List.{list_any, list_all, fold, slice_get, find}
use Rattle.std.specs.Bool.{IsTrue}
use Rattle.std.specs.Option.{option_map, option_and_then}
use Rattle.std.specs.Str.{bytes_eq, IsUtf8}
use Rattle.std.proofs.lemmas.Bool.{or_right}
use Rattle.clap.specs.Walk.{Row, Rule, Text, all_of, first_of, with_default, settled, has_row, nothing_held, idle, finished, Walk, rows_after}
use Rattle.clap.specs.Faults.{built_fault, level_fault, fault_of, defaults_fault, check_fault, walk_fault, settle_fault}
use Rattle.clap.specs.Kinds.{Kinds, or_else}
use Rattle.clap.specs.Simple.{matches_of, names_of}
use Rattle.clap.specs.Takes.{is_given as is_row_given}
use Rattle.clap.proofs.FaultLemmas.{leaf_fault}
use Rattle.hy_formula.specs.Quantifiers.{Each}
use Rattle.hy_words.specs.Words.{Item, file, flag, Says, nothing, behind_dashes, a_file, a_flag, an_option, joined, has, is_value, is_filled, is_bare, Syntax, files_in, given_in, item_gives, is_given, AreItems, IsProper, GiveSame}
use Rattle.hy_words.specs.Words.{option as given}
use Rattle.hy_words.specs.Parsers.{files_name, is_syntax, parser_of}
use Rattle.hy_words.specs.Found.{Tells, is_true, listed}
use Rattle.hy_words.specs.declared.found.Found.{Found}
use Rattle.hy_words.proofs.Names.{built_parser, fine, is_built}
use Rattle.clap.specs.Matches.{found_of, first_value}
use Rattle.clap.specs.Walk.{rows_of}
use Rattle.clap.proofs.WalkLemmas.{first_value-rows, raw_values-rows}
use Rattle.hy_base.proofs.Truths.{same-bytes, bytes-themselves}
use Rattle.hy_words.proofs.Lookups.{more, given_values, row_there}
use Rattle.hy_words.proofs.Holding.{held, Holds, nothing_holds}
use Rattle.hy_words.proofs.Walking.{built_flag, built_option, built_files, rules_for, shape_for, stands}
use Rattle.hy_words.proofs.Reading.{IsFine, end_of, rest_fault, sound, complete, AreBare, or-empty, or-nothing}

-- ---- defaults

option_kept : (rows : List Row) (m : Text) → with_default rows (built_option m) ≡ rows
option_kept rows m = by (has_row m rows)
  where
    by : (b : Bool) → cond b rows rows ≡ rows
    by true = refl
    by false = refl

files_kept : (rows : List Row) → with_default rows built_files ≡ rows
files_kept rows = by (has_row files_name rows)
  where
    by : (b : Bool) → cond b rows rows ≡ rows
    by true = refl
    by false = refl

module _ (options : List Text) where
  abbrev later : List Text → List Rule
  later options = map built_option options ++ built_files ∷ []

  options_kept : (names : List Text) (rows : List Row) → fold with_default rows (later names) ≡ rows
  options_kept [] rows = files_kept rows
  options_kept (m ∷ names) rows = ap (λ rs. fold with_default rs (later names)) (option_kept rows m) ∙ options_kept names rows

  abbrev all_defaults : List Text → List Row → List Row
  all_defaults flags rows = fold with_default rows (map built_flag flags ++ later options)

  flag_other : (rows : List Row) (f id : Text) → bytes_eq f id ≡ false → all_of id (with_default rows (built_flag f)) ≡ all_of id rows
  flag_other rows f id other = by (has_row f rows) refl
    where
      by : (b : Bool) → has_row f rows ≡ b → all_of id (with_default rows (built_flag f)) ≡ all_of id rows
      by true e = rw e refl
      by false e = rw (e, given_values f id _ _ (codes "false" ∷ []) rows, other) refl

  others_kept : (flags : List Text) (rows : List Row) (id : Text) → has flags id ≡ false → all_of id (all_defaults flags rows) ≡ all_of id rows
  others_kept [] rows id gone = rw (options_kept options rows) refl
  others_kept (f ∷ flags) rows id gone = by (bytes_eq f id) refl (others_kept flags (with_default rows (built_flag f)) id)
    where
      by : (b : Bool) → bytes_eq f id ≡ b → (has flags id ≡ false → all_of id (all_defaults flags (with_default rows (built_flag f))) ≡ all_of id (with_default rows (built_flag f)))
          → all_of id (all_defaults (f ∷ flags) rows) ≡ all_of id rows
      by true e behind = absurd (true≢false (sym (ap (λ b. b || has flags id) e) ∙ gone))
      by false e behind = behind (sym (ap (λ b. b || has flags id) e) ∙ gone) ∙ flag_other rows f id e

  flag_stays : (rows : List Row) (f id : Text) (vs : List Text) → all_of id rows ≡ Some vs → all_of id (with_default rows (built_flag f)) ≡ Some vs
  flag_stays rows f id vs there = by (has_row f rows) (bytes_eq f id) refl refl
    where
      by : (b c : Bool) → has_row f rows ≡ b → bytes_eq f id ≡ c → all_of id (with_default rows (built_flag f)) ≡ Some vs
      by true c e g = rw e there
      by false false e g = flag_other rows f id g ∙ there
      by false true e g = absurd (true≢false (sym (row_there id rows ∙ ap is_some there) ∙ ap (λ n. has_row n rows) (sym (same-bytes f id g)) ∙ e))

  flags_stay : (flags : List Text) (rows : List Row) (id : Text) (vs : List Text) → all_of id rows ≡ Some vs → all_of id (all_defaults flags rows) ≡ Some vs
  flags_stay [] rows id vs there = rw (options_kept options rows) there
  flags_stay (f ∷ flags) rows id vs there = flags_stay flags (with_default rows (built_flag f)) id vs (flag_stays rows f id vs there)

  flag_filled : (rows : List Row) (f : Text) → all_of f (with_default rows (built_flag f)) ≡ Some (unwrap_or (all_of f rows) (codes "false" ∷ []))
  flag_filled rows f = by (all_of f rows) refl
    where
      by : (o : Option (List Text)) → all_of f rows ≡ o → all_of f (with_default rows (built_flag f)) ≡ Some (unwrap_or o (codes "false" ∷ []))
      by (Some vs) e = let there : has_row f rows ≡ true = row_there f rows ∙ ap is_some e in rw there e
      by None e =
          let gone : has_row f rows ≡ false = row_there f rows ∙ ap is_some e in
          rw (gone, given_values f f _ _ (codes "false" ∷ []) rows, bytes-themselves f, e) refl

  flags_filled : (flags : List Text) (rows : List Row) (id : Text) → has flags id ≡ true → all_of id (all_defaults flags rows) ≡ Some (unwrap_or (all_of id rows) (codes "false" ∷ []))
  flags_filled [] rows id there = absurd (true≢false (sym there))
  flags_filled (f ∷ flags) rows id there = by (bytes_eq f id) refl (flags_filled flags (with_default rows (built_flag f)) id)
    where
      by : (b : Bool) → bytes_eq f id ≡ b
          → (has flags id ≡ true → all_of id (all_defaults flags (with_default rows (built_flag f))) ≡ Some (unwrap_or (all_of id (with_default rows (built_flag f))) (codes "false" ∷ [])))
          → all_of id (all_defaults (f ∷ flags) rows) ≡ Some (unwrap_or (all_of id rows) (codes "false" ∷ []))
      by true e behind =
          let P : Text → Type 0 = λ n. all_of n (all_defaults (f ∷ flags) rows) ≡ Some (unwrap_or (all_of n rows) (codes "false" ∷ [])) in
          subst P (same-bytes f id e) (flags_stay flags (with_default rows (built_flag f)) f _ (flag_filled rows f))
      by false e behind =
          behind (sym (ap (λ b. b || has flags id) e) ∙ there) ∙ ap (λ o. Some (unwrap_or o (codes "false" ∷ []))) (flag_other rows f id e)

-- ---- the last checks

none-required : (flags options : List Text) (rows : List Row) → list_any (λ (a : Rule). a.required && not (is_row_given a.id rows)) (rules_for flags options) ≡ false
none-required [] [] rows = refl
none-required [] (m ∷ options) rows = none-required [] options rows
none-required (f ∷ flags) options rows = none-required flags options rows

default-fine : (rows : List Row) (f : Text) → Rattle.clap.specs.Faults.default_fault rows (built_flag f) ≡ []
default-fine rows f = by (has_row f rows) refl
  where
    by : (b : Bool) → has_row f rows ≡ b → Rattle.clap.specs.Faults.default_fault rows (built_flag f) ≡ []
    by true e = rw e refl
    by false e = rw e refl

defaults-fine : (flags options : List Text) (rows : List Row) → defaults_fault rows (rules_for flags options) ≡ []
unfolding defaults_fault
defaults-fine [] [] rows = by (has_row files_name rows) refl
  where
    by : (b : Bool) → has_row files_name rows ≡ b → defaults_fault rows (rules_for [] []) ≡ []
    by true e = rw e refl
    by false e = rw e refl
defaults-fine [] (m ∷ options) rows = by (has_row m rows) refl (defaults-fine [] options (with_default rows (built_option m)))
  where
    by : (b : Bool) → has_row m rows ≡ b → defaults_fault (with_default rows (built_option m)) (rules_for [] options) ≡ [] → defaults_fault rows (rules_for [] (m ∷ options)) ≡ []
    by true e behind = or-nothing _ _ (rw e refl) behind
    by false e behind = or-nothing _ _ (rw e refl) behind
defaults-fine (f ∷ flags) options rows = or-nothing _ _ (default-fine rows f) (defaults-fine flags options (with_default rows (built_flag f)))

-- The faults of a parse are those of its words and of their end.
module _ (syntax : Syntax) (words : List Text) where
  abbrev pub start : Walk
  start = stands nothing_held idle false

  abbrev names : List Rule
  names = rules_for syntax.flags syntax.options

  level_is : fault_of (parser_of syntax) words ≡ level_fault (shape_for names) [] nothing_held words false []
  level_is = ap (λ a. built_fault a nothing_held words) (is_built syntax) ∙ leaf_fault (built_parser syntax) nothing_held words refl

  abbrev walks : Kinds
  walks = walk_fault (shape_for names) [] start words

  abbrev settles : Kinds
  settles = settle_fault names false (end_of syntax start words)

  abbrev checks : Kinds
  checks = or_else (defaults_fault (settled names (end_of syntax start words)).rows names) (check_fault (shape_for names) (finished names (end_of syntax start words)) false)

  pub fault_is : fault_of (parser_of syntax) words ≡ [] → rest_fault syntax start words ≡ []
  fault_is e =
      let (walked, ends) = or-empty walks (or_else settles checks) (sym level_is ∙ e) in
      or-nothing walks settles walked (or-empty settles checks ends).0

  pub no_fault : rest_fault syntax start words ≡ [] → fault_of (parser_of syntax) words ≡ []
  no_fault e =
      let (walked, ends) = or-empty walks settles e in
      let rows = (settled names (end_of syntax start words)).rows in
      let last : check_fault (shape_for names) (finished names (end_of syntax start words)) false ≡ [] =
      rw (none-required syntax.flags syntax.options (finished names (end_of syntax start words))) refl in
      level_is ∙ or-nothing walks (or_else settles checks) walked (or-nothing settles checks ends (or-nothing _ _ (defaults-fine syntax.flags syntax.options rows) last))

  pub rows_are : matches_of (parser_of syntax) words ≡ all_defaults syntax.options syntax.flags (settled names (end_of syntax start words)).rows
  rows_are = ap (λ a. rows_after a.top.rules (names_of a) words) (is_built syntax)

-- ---- what rows tell

-- The rows of matches tell what the items give.
pub record TellsRows (syntax : Syntax) (items : List Item) (rows : List Row) : Type 0 where
  pub files : all_of files_name rows ≡ held (files_in items)
  pub options : (name : Text) → has syntax.options name ≡ true → all_of name rows ≡ held (given_in name items)
  pub flags : (name : Text) → has syntax.flags name ≡ true
      → all_of name rows ≡ Some ((if is_given (given_in name items) then codes "true" else codes "false") ∷ [])

not-files : (names : List Text) (name : Text) → has names files_name ≡ false → has names name ≡ true → bytes_eq files_name name ≡ false
not-files names name gone there = by (bytes_eq files_name name) refl
  where
    by : (b : Bool) → bytes_eq files_name name ≡ b → b ≡ false
    by false e = refl
    by true e = absurd (true≢false (sym there ∙ ap (has names) (sym (same-bytes files_name name e)) ∙ gone))

-- A flag is given `true`.
AreTrue : List Text → Type 0
AreTrue = Each (λ v. v ≡ codes "true")

module _ (syntax : Syntax) (good : IsFine syntax) (name : Text) (there : has syntax.flags name ≡ true) where
  no_files : (names : List Text) → given_in name (map file names) ≡ []
  no_files [] = refl
  no_files (n ∷ names) = no_files names

  flags_true : (words : List Text) (items : List Item) → Says syntax words items → AreTrue (given_in name items)
  unfolding AreTrue
  flags_true _ _ nothing = tt
  flags_true _ _ (behind_dashes names) = rw (no_files names) tt
  flags_true _ _ (a_file n words items good says) = flags_true words items says
  flags_true _ _ (a_flag n words items known says) = by (bytes_eq n name) (flags_true words items says)
    where
      by : (b : Bool) → AreTrue (given_in name items) → AreTrue (cond b (codes "true" ∷ []) [] ++ given_in name items)
      by true behind = (refl, behind)
      by false behind = behind
  flags_true _ _ (an_option n v words items known says) = by (bytes_eq n name) refl (flags_true words items says)
    where
      by : (b : Bool) → bytes_eq n name ≡ b → AreTrue (given_in name items) → AreTrue (cond b (v ∷ []) [] ++ given_in name items)
      by true e behind = absurd (true≢false (sym there ∙ ap (has syntax.flags) (sym (same-bytes n name e)) ∙ good.apart n known))
      by false e behind = behind
  flags_true _ _ (joined n v words items known says) = by (bytes_eq n name) refl (flags_true words items says)
    where
      by : (b : Bool) → bytes_eq n name ≡ b → AreTrue (given_in name items) → AreTrue (cond b (v ∷ []) [] ++ given_in name items)
      by true e behind = absurd (true≢false (sym there ∙ ap (has syntax.flags) (sym (same-bytes n name e)) ∙ good.apart n known))
      by false e behind = behind

flag-text : (given : List Text) → length given ≤ 1 → AreTrue given
    → Some (unwrap_or (held given) (codes "false" ∷ [])) ≡ Some ((if is_given given then codes "true" else codes "false") ∷ [])
unfolding AreTrue
flag-text [] few all = refl
flag-text (v ∷ []) few (first, all) = ap (λ t. Some (t ∷ [])) first
flag-text (v ∷ w ∷ vs) few all = absurd (omega arith)

told : (syntax : Syntax) → IsFine syntax → (words : List Text) (items : List Item) → Says syntax words items → Holds (settled (rules_for syntax.flags syntax.options) (end_of syntax (start syntax words) words)).rows items
    → TellsRows syntax items (matches_of (parser_of syntax) words)
told syntax good words items says holds = subst (TellsRows syntax items) (sym (rows_are syntax words)) record {
  files = others_kept syntax.options syntax.flags rows files_name good.free ∙ holds.files;
  options = λ name there. others_kept syntax.options syntax.flags rows name (good.apart name there) ∙ holds.named name (not-files syntax.options name good.clear there);
  flags = λ name there.
      flags_filled syntax.options syntax.flags rows name there
      ∙ ap (λ o. Some (unwrap_or o (codes "false" ∷ []))) (holds.named name (not-files syntax.flags name good.free there))
      ∙ flag-text (given_in name items) (holds.once name) (flags_true syntax good name there words items says);
}
  where
    rows : List Row
    rows = (settled (rules_for syntax.flags syntax.options) (end_of syntax (start syntax words) words)).rows

-- Words that the parser takes say items, and the matches tell what these give.
pub parsed : (syntax : Syntax) → IsFine syntax → (words : List Text) → Each IsUtf8 words → fault_of (parser_of syntax) words ≡ []
    → (items : List Item) × Says syntax words items × ((name : Text) → length (given_in name items) ≤ 1) × TellsRows syntax items (matches_of (parser_of syntax) words)
parsed syntax good words texts e =
    let (items, says, holds) = sound syntax good words texts nothing_held idle [] (refl, λ done. nothing_holds) (fault_is syntax words e) in
    (items, says, holds.once, told syntax good words items says holds)

passes_of : (p : Text → Bool) (names : List Text) (name : Text) → has names name ≡ true → IsTrue (list_all p names) → IsTrue (p name)
passes_of p [] name there all = absurd (true≢false (sym there))
passes_of p (n ∷ names) name there all = by (bytes_eq n name) refl (p n) refl (passes_of p names name) all
  where
    by : (b : Bool) → bytes_eq n name ≡ b → (c : Bool) → p n ≡ c → (has names name ≡ true → IsTrue (list_all p names) → IsTrue (p name)) → IsTrue (c && list_all p names) → IsTrue (p name)
    by b e false f behind all = absurd (true≢false (sym all))
    by true e true f behind all = ap p (sym (same-bytes n name e)) ∙ f
    by false e true f behind all = behind (sym (ap (λ b. b || has names name) e) ∙ there) all

bare-value : (v : Text) (more : List Text) → IsTrue (list_all is_value (v ∷ more)) → IsTrue (is_bare v)
bare-value v more all = by (is_filled v) (is_bare v) refl all
  where
    by : (b c : Bool) → is_bare v ≡ c → IsTrue ((b && c) && list_all is_value more) → IsTrue c
    by b true e all = refl
    by true false e all = all
    by false false e all = all

behind-good : (p : Text → Bool) (front back : List Text) → IsTrue (list_all p (front ++ back)) → IsTrue (list_all p back)
behind-good p [] back all = all
behind-good p (v ∷ front) back all = by (p v) all (behind-good p front back)
  where
    by : (b : Bool) → IsTrue (b && list_all p (front ++ back)) → (IsTrue (list_all p (front ++ back)) → IsTrue (list_all p back)) → IsTrue (list_all p back)
    by true all behind = behind all
    by false all behind = absurd (true≢false (sym all))

-- Values of proper items do not begin with a dash and go on.
bare_values : (syntax : Syntax) (words : List Text) (items : List Item) → Says syntax words items
    → ((name : Text) → has syntax.options name ≡ true → IsTrue (list_all is_value (given_in name items))) → AreBare syntax items
bare_values syntax _ _ nothing good = tt
bare_values syntax _ _ (behind_dashes names) good = files-bare names
  where
    files-bare : (names : List Text) → AreBare syntax (map file names)
    files-bare [] = tt
    files-bare (n ∷ names) = files-bare names
bare_values syntax _ _ (a_file n words items known says) good = bare_values syntax words items says good
bare_values syntax _ _ (a_flag n words items known says) good =
    bare_values syntax words items says (λ name there. behind-good is_value (item_gives name (flag n)) (given_in name items) (good name there))
bare_values syntax _ _ (an_option n v words items known says) good = (
  bare-value v (given_in n items) (let P : Bool → Type 0 = λ b. IsTrue (list_all is_value (cond b (v ∷ []) [] ++ given_in n items)) in subst P (bytes-themselves n) (good n known)),
  bare_values syntax words items says (λ name there. behind-good is_value (item_gives name (given n v)) (given_in name items) (good name there)),
)
bare_values syntax _ _ (joined n v words items known says) good = (
  bare-value v (given_in n items) (let P : Bool → Type 0 = λ b. IsTrue (list_all is_value (cond b (v ∷ []) [] ++ given_in n items)) in subst P (bytes-themselves n) (good n known)),
  bare_values syntax words items says (λ name there. behind-good is_value (item_gives name (given n v)) (given_in name items) (good name there)),
)

-- Words that say proper items are taken by the parser, and the matches tell what the items give.
pub taken : (syntax : Syntax) → IsFine syntax → (words : List Text) (items : List Item) → Says syntax words items → IsProper syntax items
    → (fault_of (parser_of syntax) words ≡ []) × TellsRows syntax items (matches_of (parser_of syntax) words)
taken syntax good words items says proper =
    let bare = bare_values syntax words items says (λ name there. passes_of (λ n. list_all is_value (given_in n items)) syntax.options name there proper.values) in
    let (rest, holds) = complete syntax good words items says bare nothing_held idle tt [] refl nothing_holds proper.once in
    (no_fault syntax words rest, told syntax good words items says holds)

-- ---- what matches tell

each_from : (names : List Text) (P : Text → Type 0) → ((name : Text) → has names name ≡ true → P name) → Each P names
each_from [] P all = tt
each_from (n ∷ names) P all = (all n (rw (bytes-themselves n) refl), each_from names P (λ name there. all name (or_right (bytes_eq n name) (has names name) there)))

first_from_all : (id : Text) (rows : List Row) → first_of id rows ≡ option_and_then (λ vs. slice_get vs 0) (all_of id rows)
first_from_all id rows = by (find (λ (r : Row). bytes_eq r.id id) rows)
  where
    by : (o : Option Row) → option_and_then (λ (r : Row). slice_get r.values 0) o ≡ option_and_then (λ vs. slice_get vs 0) (option_map (λ (r : Row). r.values) o)
    by None = refl
    by (Some r) = refl

one-listed : (given : List Text) → length given ≤ 1 → given ≡ listed (option_and_then (λ vs. slice_get vs 0) (held given))
one-listed [] few = refl
one-listed (v ∷ []) few = refl
one-listed (v ∷ w ∷ vs) few = absurd (omega arith)

unheld : (names : List Text) → names ≡ unwrap_or (held names) []
unheld [] = refl
unheld (n ∷ names) = refl

text-true : (b : Bool) → b ≡ is_true (Some (if b then codes "true" else codes "false"))
text-true true = refl
text-true false = refl

-- Matches with these rows tell what the rows do.
pub tells : (syntax : Syntax) (items : List Item) (found : Found) (rows : List Row) → rows_of (found_of found.matches) ≡ rows → ((name : Text) → length (given_in name items) ≤ 1)
    → TellsRows syntax items rows → Tells syntax items found
tells syntax items found rows same once told =
    let first : (name : Text) → first_value (found_of found.matches) name ≡ option_and_then (λ vs. slice_get vs 0) (all_of name rows) =
    λ name. first_value-rows (found_of found.matches) name ∙ ap (first_of name) same ∙ first_from_all name rows in
    record {
      files = unheld (files_in items) ∙ ap (λ o. unwrap_or o []) (sym (raw_values-rows (found_of found.matches) files_name ∙ ap (all_of files_name) same ∙ told.files));
      options = each_from syntax.options _ (λ name there. one-listed (given_in name items) (once name)
          ∙ ap (λ o. listed (option_and_then (λ vs. slice_get vs 0) o)) (sym (told.options name there)) ∙ ap listed (sym (first name)));
      flags = each_from syntax.flags _ (λ name there. text-true (is_given (given_in name items))
          ∙ ap is_true (sym (first name ∙ ap (λ o. option_and_then (λ vs. slice_get vs 0) o) (told.flags name there))));
    }

-- ---- two lists of items

held-same : (xs ys : List Text) → held xs ≡ held ys → xs ≡ ys
held-same xs ys e = unheld xs ∙ ap (λ o. unwrap_or o []) e ∙ sym (unheld ys)

text-same : (a b : Bool) → Some ((if a then codes "true" else codes "false") ∷ []) ≡ Some ((if b then codes "true" else codes "false") ∷ []) → a ≡ b
text-same true true e = refl
text-same false false e = refl
text-same true false e = absurd cc
text-same false true e = absurd cc

-- All items that words are give the same.
pub same_items : (syntax : Syntax) → IsTrue (is_syntax syntax) → (words : List Text) (items others : List Item) → AreItems syntax words items
    → AreItems syntax words others → GiveSame syntax items others
same_items syntax is words items others (says, proper) (also, fit) =
    let good = fine syntax is in
    let one = (taken syntax good words items says proper).1 in
    let two = (taken syntax good words others also fit).1 in
    record {
      files = held-same _ _ (sym one.files ∙ two.files);
      options = each_from syntax.options _ (λ name there. held-same _ _ (sym (one.options name there) ∙ two.options name there));
      flags = each_from syntax.flags _ (λ name there. text-same _ _ (sym (one.flags name there) ∙ two.flags name there));
    }
