-- What the parser makes of names, where flags and options have names that it can tell apart.
use Rattle.std.proofs.Common.{◌≡◌, ◌||◌, ◌&&◌, ◌==◌, Bool, true, false, not, List, [], ◌∷◌, ◌++◌, map, Option, Some, None, is_some, refl, sym, ap, ◌∙◌, true≢false}
use Rattle.std.specs.Bool.{IsTrue}
use Rattle.std.specs.List.{count_by, list_any, list_all}
use Rattle.std.specs.Str.{bytes_eq}
use Rattle.clap.specs.Lexer.{has_byte, long_of, name_and_value}
use Rattle.clap.specs.Simple.{App, built, filled_from, is_simple}
use Rattle.clap.specs.Faults.{is_simple_and_free}
use Rattle.clap.specs.Walk.{Rule, is_early_multiple}
use Rattle.hy_base.proofs.Truths.{same-bytes}
use Rattle.hy_words.specs.Words.{Text, Syntax, dashed, has, is_filled}
use Rattle.hy_words.specs.Parsers.{files_name, files_rule, flag_rule, is_name, is_syntax, option_rule, parser_of}
use Rattle.hy_words.proofs.Reading.{IsFine}
use Rattle.hy_words.proofs.Splitting.{one-more, one-more-behind}
use Rattle.hy_words.proofs.Walking.{built_flag, built_option, rules_for, shape_for}

-- ---- truths of several

both-true : (a b : Bool) → (a && b) ≡ true → (a ≡ true) × (b ≡ true)
both-true true true e = (refl, refl)
both-true true false e = absurd (true≢false (sym e))
both-true false b e = absurd (true≢false (sym e))

not-true : (a : Bool) → not a ≡ true → a ≡ false
not-true true e = absurd (true≢false (sym e))
not-true false e = refl

-- What holds of all names holds of one of them.
among : (p : Text → Bool) (names : List Text) (name : Text) → list_all p names ≡ true → has names name ≡ true → p name ≡ true
among p [] name all there = absurd (true≢false (sym there))
among p (n ∷ names) name all there = by (bytes_eq n name) refl (both-true (p n) (list_all p names) all) (among p names name)
  where
    by : (b : Bool) → bytes_eq n name ≡ b → (p n ≡ true) × (list_all p names ≡ true) → (list_all p names ≡ true → has names name ≡ true → p name ≡ true) → p name ≡ true
    by true e (first, rest) behind = ap p (sym (same-bytes n name e)) ∙ first
    by false e (first, rest) behind = behind rest (sym (ap (λ b. b || has names name) e) ∙ there)

-- What holds of none of the names does not hold of one.
none-among : (p : Text → Bool) (names : List Text) (name : Text) → list_any p names ≡ false → has names name ≡ true → p name ≡ false
none-among p [] name none there = absurd (true≢false (sym there))
none-among p (n ∷ names) name none there = by (bytes_eq n name) (p n) refl refl none (none-among p names name)
  where
    by : (b c : Bool) → bytes_eq n name ≡ b → p n ≡ c → (c || list_any p names) ≡ false → (list_any p names ≡ false → has names name ≡ true → p name ≡ false) → p name ≡ false
    by b true e f none behind = absurd (true≢false none)
    by true false e f none behind = ap p (sym (same-bytes n name e)) ∙ f
    by false false e f none behind = behind none (sym (ap (λ b. b || has names name) e) ∙ there)

-- ---- names behind dashes

unsigned-all : (text : Text) → has_byte 61 text ≡ false → name_and_value text ≡ (text, None)
unsigned-all [] e = refl
unsigned-all (b ∷ text) e = by (b == 61) refl e (unsigned-all text)
  where
    by : (t : Bool) → (b == 61) ≡ t → (t || has_byte 61 text) ≡ false → (has_byte 61 text ≡ false → name_and_value text ≡ (text, None)) → name_and_value (b ∷ text) ≡ (b ∷ text, None)
    by true f e behind = absurd (true≢false e)
    by false f e behind = rw f (simp (one-more-behind, one-more) (ap (λ (p : Text × Option Text). (b ∷ p.0, p.1)) (behind e)))

unsigned-front : (text value : Text) → has_byte 61 text ≡ false → name_and_value (text ++ 61 ∷ value) ≡ (text, Some value)
unsigned-front [] value e = refl
unsigned-front (b ∷ text) value e = by (b == 61) refl e (unsigned-front text value)
  where
    by : (t : Bool) → (b == 61) ≡ t → (t || has_byte 61 text) ≡ false
        → (has_byte 61 text ≡ false → name_and_value (text ++ 61 ∷ value) ≡ (text, Some value)) → name_and_value (b ∷ text ++ 61 ∷ value) ≡ (b ∷ text, Some value)
    by true f e behind = absurd (true≢false e)
    by false f e behind = rw f (simp (one-more-behind, one-more) (ap (λ (p : Text × Option Text). (b ∷ p.0, p.1)) (behind e)))

alone : (name : Text) → is_name name ≡ true → long_of (dashed name) ≡ Some (name, None)
alone [] e = absurd (true≢false (sym e))
alone (b ∷ name) e =
    ap Some (unsigned-all (b ∷ name) (not-true _ (both-true (is_filled (b ∷ name)) (not (has_byte 61 (b ∷ name))) e).1))

with-value : (name value : Text) → is_name name ≡ true → long_of (dashed (name ++ 61 ∷ value)) ≡ Some (name, Some value)
with-value [] value e = absurd (true≢false (sym e))
with-value (b ∷ name) value e =
    ap Some (unsigned-front (b ∷ name) value (not-true _ (both-true (is_filled (b ∷ name)) (not (has_byte 61 (b ∷ name))) e).1))

pub fine : (syntax : Syntax) → IsTrue (is_syntax syntax) → IsFine syntax
fine syntax is =
    let named = list_all is_name syntax.flags && list_all is_name syntax.options in
    let apart = not (list_any (has syntax.flags) syntax.options) in
    let free = not (has syntax.flags files_name) in
    let clear = not (has syntax.options files_name) in
    let (three, neither) = both-true (named && apart && free) clear is in
    let (two, unlike) = both-true (named && apart) free three in
    let (one, differ) = both-true named apart two in
    let (flags, options) = both-true (list_all is_name syntax.flags) (list_all is_name syntax.options) one in
    record {
      apart = λ name there. none-among (has syntax.flags) syntax.options name (not-true _ differ) there;
      free = not-true _ unlike;
      clear = not-true _ neither;
      flag_alone = λ name there. alone name (among is_name syntax.flags name flags there);
      option_alone = λ name there. alone name (among is_name syntax.options name options there);
      option_joined = λ name value there. with-value name value (among is_name syntax.options name options there);
    }

-- ---- the parser as it is built

abbrev pub built_parser : Syntax → App
built_parser syntax = record { top = shape_for (rules_for syntax.flags syntax.options); subs = [] }

abbrev rules_of : List Text → List Text → List Rule
rules_of flags options = map flag_rule flags ++ map option_rule options ++ files_rule ∷ []

rules-built : (flags options : List Text) → filled_from 1 (rules_of flags options) ≡ rules_for flags options
rules-built [] [] = refl
rules-built [] (name ∷ options) = ap (λ rules. built_option name ∷ rules) (rules-built [] options)
rules-built (name ∷ flags) options = ap (λ rules. built_flag name ∷ rules) (rules-built flags options)

pub is_built : (syntax : Syntax) → built (parser_of syntax) ≡ built_parser syntax
is_built syntax = ap (λ rules. record { top = shape_for rules; subs = [] }) (rules-built syntax.flags syntax.options)

all-simple : (flags options : List Text) → list_all (λ (a : Rule). a.is_simple) (rules_of flags options) ≡ true
all-simple [] [] = refl
all-simple [] (name ∷ options) = all-simple [] options
all-simple (name ∷ flags) options = all-simple flags options

built-simple : (flags options : List Text) → list_all (λ (a : Rule). a.is_simple) (rules_for flags options) ≡ true
built-simple [] [] = refl
built-simple [] (name ∷ options) = built-simple [] options
built-simple (name ∷ flags) options = built-simple flags options

built-free : (flags options : List Text) → list_all (λ (a : Rule). a.is_free) (rules_for flags options) ≡ true
built-free [] [] = refl
built-free [] (name ∷ options) = built-free [] options
built-free (name ∷ flags) options = built-free flags options

one-index : (flags options : List Text) → count_by (λ (a : Rule). is_some a.index) (rules_for flags options) ≡ 1
one-index [] [] = refl
one-index [] (name ∷ options) = one-index [] options
one-index (name ∷ flags) options = one-index flags options

none-early : (flags options : List Text) → list_any (is_early_multiple 1) (rules_for flags options) ≡ false
none-early [] [] = refl
none-early [] (name ∷ options) = none-early [] options
none-early (name ∷ flags) options = none-early flags options

pub simple : (syntax : Syntax) → is_simple (parser_of syntax) ≡ true
simple syntax =
    let flags = syntax.flags in
    let options = syntax.options in
    rw (all-simple flags options, rules-built flags options, built-simple flags options, one-index flags options, none-early flags options) refl

pub simple_and_free : (syntax : Syntax) → is_simple_and_free (parser_of syntax) ≡ true
simple_and_free syntax =
    rw (simple syntax, rules-built syntax.flags syntax.options, built-free syntax.flags syntax.options) refl
