-- The bytes of a printed formula are its tokens.
use Rattle.std.proofs.Common.{◌≡◌, ℕ, zero, suc, ◌+◌, ◌^◌, ◌<◌, ◌≤◌, Bool, true, false, cond, ◌&&◌, ◌||◌, nat_eq, nat_lt, if◌then◌else◌, IsTrue, List, [], ◌∷◌, ◌++◌, length, get_or, drop, map, codes, decimal, slice_index_or, Option, Some, None, refl, sym, ap, subst, ◌∙◌, append_assoc, append-nil, arith}
use Rattle.std.specs.List.{All, list_all, list_any, starts_with, take_while, before_last, after_last}
use Rattle.std.specs.Option.{option_map}
use Rattle.std.specs.Prelude.{not as opposite}
use Rattle.std.specs.Str.{bytes_eq}
use Rattle.std.proofs.Math.Seq.{drop-append_seam}
use Rattle.std.proofs.lemmas.Bool.{and_parts, and_from, false_from_ne_true, true≢false, lt-ltb, ltb-true, or_right, and_right}
use Rattle.std.proofs.lemmas.Bool.Decides.{nat_tests}
use Rattle.std.proofs.lemmas.Fmt.{decimal_is_IsNumeral}
use Rattle.std.proofs.lemmas.Grind.{common_steps}
use Rattle.std.proofs.lemmas.List.Elements.{All-from_get_or}
use Rattle.std.proofs.lemmas.List.Folds.{list_all-append, list_any-append}
use Rattle.std.proofs.lemmas.List.Sums.{AllPass-from_list_all, list_all-from_AllPass, take_while-cons}
use Rattle.std.proofs.lemmas.Str.Parse.{digit_at}
use Rattle.hy_base.proofs.Truths.{same-bytes}
use Rattle.hy_formula.specs.declared.prefix.Quant.{Quant}
use Rattle.hy_formula.specs.Trees.{Tree, always, never, atom as atom_tree, not, next, finally, globally, and, or, implies, iff, until, release, weak, vars_below}
use Rattle.hy_text.specs.Bytes.{is_blank, is_letter, is_letter_or_digit, is_plain, is_quotable, is_underscore, is_variable, is_word_byte, begins_with_letter}
use Rattle.hy_text.specs.Names.{AreNames, IsName, spelled}
use Rattle.hy_text.proofs.Spelling.{run_before}
use Rattle.hy_read.specs.declared.symbol.Symbol.{Symbol}
use Rattle.hy_read.specs.declared.symbol.Symbol.TheVariants as signs
use Rattle.hy_read.specs.Answers.{tokens_of}
use Rattle.hy_read.specs.Grammar.{Quantifier, quantifier_tokens, quantifier_word}
use Rattle.hy_read.specs.Printing.{printed_before, printed_between, printed_body, printed_quantifier, printed_quantifiers, variable_at}
use Rattle.hy_read.specs.Readings.{names_below}
use Rattle.hy_read.specs.Scanning.{Span, Spans, atom_token, blanks, first_token, free_token, or_nothing, quoted_at, spelled_so, token_at, token_or, word_at, word_token}
use Rattle.hy_read.specs.Symbols.{reserved_words, spelling}
use Rattle.hy_read.specs.Tokens.{Token, atom, symbol, variable}
use Rattle.hy_read.proofs.SpelledAtoms.{after-last-at, all_too, before-last-at, plain_no_underscore}

-- ---- texts and their tokens

-- The text is these tokens, wherever it stands.
abbrev pub Scans : List ℕ → List Token → Type 0
Scans text tokens = (at : ℕ) → (spans : List Span) × Spans at text spans × (tokens_of spans ≡ tokens)

pub scan_end : Scans [] []
scan_end at = ([], refl, refl)

pub scan_token : (b : ℕ) (bs rest : List ℕ) (t : Token) (n : ℕ) (ts : List Token) → is_blank b ≡ false → first_token (b ∷ bs) ≡ (t, n) → drop n (b ∷ bs) ≡ rest → Scans rest ts → Scans (b ∷ bs) (t ∷ ts)
scan_token b bs rest t n ts dark first left more at =
    let (spans, are, is) = more (at + blanks (b ∷ bs) + n) in
    let here : drop (blanks (b ∷ bs)) (b ∷ bs) ≡ b ∷ bs = ap (λ c. drop (cond c (1 + blanks bs) 0) (b ∷ bs)) dark in
    let span : Span = record { token = t; first = at + blanks (b ∷ bs) } in
    (span ∷ spans, (b, bs, n, here, first, refl, subst (λ l. Spans (at + blanks (b ∷ bs) + n) l spans) (sym left) are), ap (λ x. t ∷ x) is)

blank-more : (text : List ℕ) → blanks (32 ∷ text) ≡ suc (blanks text)
blank-more text = omega arith

blank-shift : (at : ℕ) (text : List ℕ) (spans : List Span) → Spans (at + 1) text spans → Spans at (32 ∷ text) spans
blank-shift at text [] h = ap (λ n. drop n (32 ∷ text)) (blank-more text) ∙ h
blank-shift at text (s ∷ spans) (b, bs, n, e, first, place, more) =
    let longer = blank-more text in
    let moved : at + 1 + blanks text + n ≡ at + blanks (32 ∷ text) + n = omega arith in
    (b, bs, n, ap (λ n. drop n (32 ∷ text)) longer ∙ e, first, place ∙ omega arith, subst (λ k. Spans k (drop n (b ∷ bs)) spans) moved more)

pub scan_blank : (text : List ℕ) (ts : List Token) → Scans text ts → Scans (32 ∷ text) ts
scan_blank text ts more at = let (spans, are, is) = more (at + 1) in (spans, blank-shift at text spans are, is)

-- ---- words

-- A word ends before this text.
pub record Breaks (rest : List ℕ) : Type 0 where
  pub word : take_while is_word_byte rest ≡ []
  pub plain : take_while is_letter_or_digit rest ≡ []

word_no_blank : (b : ℕ) → is_word_byte b ≡ true → is_blank b ≡ false
word_no_blank b e = grind (arith, nat_tests, common_steps)

pub scan_word : (b : ℕ) (w rest : List ℕ) (t : Token) (ts : List Token) → list_all is_word_byte (b ∷ w) ≡ true → word_token (b ∷ w) ≡ Some t → Breaks rest → Scans rest ts → Scans (b ∷ (w ++ rest)) (t ∷ ts)
scan_word b w rest t ts all is breaks more =
    let first : is_word_byte b ≡ true = (and_parts (is_word_byte b) (list_all is_word_byte w) all).0 in
    let run : take_while is_word_byte (b ∷ (w ++ rest)) ≡ b ∷ w = run_before is_word_byte (b ∷ w) rest all breaks.word in
    let here : word_at (b ∷ (w ++ rest)) ≡ Some (t, length (b ∷ w)) =
    ap (λ word. option_map (λ token. (token, length word)) (word_token word)) run ∙ ap (option_map (λ token. (token, length (b ∷ w)))) is in
    let there : token_at (b ∷ (w ++ rest)) ≡ Some (t, length (b ∷ w)) =
    ap (λ c. if c then word_at (b ∷ (w ++ rest)) else (if nat_eq b 34 then quoted_at (b ∷ (w ++ rest)) else Rattle.hy_read.specs.Scanning.sign_at (b ∷ (w ++ rest)))) first ∙ here in
    scan_token b (w ++ rest) rest t (length (b ∷ w)) ts (word_no_blank b first) (ap (or_nothing (length (b ∷ (w ++ rest)))) there) (drop-append_seam (b ∷ w) rest) more

-- ---- what is written so that it scans as these tokens, whatever stands behind

abbrev pub Written : List ℕ → List Token → Type 0
Written text tokens = (rest : List ℕ) (ts : List Token) → Breaks rest → Scans rest ts → Scans (text ++ rest) (tokens ++ ts)

blank-breaks : (rest : List ℕ) → Breaks (32 ∷ rest)
blank-breaks rest = record { word = refl; plain = refl }

close-breaks : (rest : List ℕ) → Breaks (41 ∷ rest)
close-breaks rest = record { word = refl; plain = refl }

dot-breaks : (rest : List ℕ) → Breaks (46 ∷ rest)
dot-breaks rest = record { word = refl; plain = refl }

-- A symbol is written, and a space behind it.
abbrev Spaced : Symbol → Type 0
Spaced s = (rest : List ℕ) (ts : List Token) → Scans rest ts → Scans (spelling s ++ 32 ∷ rest) (symbol s ∷ ts)

spaced-word : (b : ℕ) (w : List ℕ) (s : Symbol) → spelling s ≡ b ∷ w → list_all is_word_byte (b ∷ w) ≡ true → word_token (b ∷ w) ≡ Some (symbol s) → Spaced s
spaced-word b w s is all word rest ts more =
    subst (λ l. Scans (l ++ 32 ∷ rest) (symbol s ∷ ts)) (sym is) (scan_word b w (32 ∷ rest) (symbol s) ts all word (blank-breaks rest) (scan_blank rest ts more))

spaced : (s : Symbol) → Spaced s
spaced signs.OpenParen rest ts more = scan_token 40 (32 ∷ rest) (32 ∷ rest) (symbol signs.OpenParen) 1 ts refl refl refl (scan_blank rest ts more)
spaced signs.CloseParen rest ts more = scan_token 41 (32 ∷ rest) (32 ∷ rest) (symbol signs.CloseParen) 1 ts refl refl refl (scan_blank rest ts more)
spaced signs.Not rest ts more = scan_token 33 (32 ∷ rest) (32 ∷ rest) (symbol signs.Not) 1 ts refl refl refl (scan_blank rest ts more)
spaced signs.And rest ts more = scan_token 38 (32 ∷ rest) (32 ∷ rest) (symbol signs.And) 1 ts refl refl refl (scan_blank rest ts more)
spaced signs.Or rest ts more = scan_token 124 (32 ∷ rest) (32 ∷ rest) (symbol signs.Or) 1 ts refl refl refl (scan_blank rest ts more)
spaced signs.Implies rest ts more = scan_token 45 (62 ∷ 32 ∷ rest) (32 ∷ rest) (symbol signs.Implies) 2 ts refl refl refl (scan_blank rest ts more)
spaced signs.Iff rest ts more = scan_token 60 (45 ∷ 62 ∷ 32 ∷ rest) (32 ∷ rest) (symbol signs.Iff) 3 ts refl refl refl (scan_blank rest ts more)
spaced signs.Dot rest ts more = scan_token 46 (32 ∷ rest) (32 ∷ rest) (symbol signs.Dot) 1 ts refl refl refl (scan_blank rest ts more)
spaced signs.Semicolon rest ts more = scan_token 59 (32 ∷ rest) (32 ∷ rest) (symbol signs.Semicolon) 1 ts refl refl refl (scan_blank rest ts more)
spaced signs.Exists rest ts more = spaced-word 101 (codes "xists") signs.Exists refl refl refl rest ts more
spaced signs.Forall rest ts more = spaced-word 102 (codes "orall") signs.Forall refl refl refl rest ts more
spaced signs.True rest ts more = spaced-word 116 (codes "rue") signs.True refl refl refl rest ts more
spaced signs.False rest ts more = spaced-word 102 (codes "alse") signs.False refl refl refl rest ts more
spaced signs.Next rest ts more = spaced-word 88 [] signs.Next refl refl refl rest ts more
spaced signs.Finally rest ts more = spaced-word 70 [] signs.Finally refl refl refl rest ts more
spaced signs.Globally rest ts more = spaced-word 71 [] signs.Globally refl refl refl rest ts more
spaced signs.Until rest ts more = spaced-word 85 [] signs.Until refl refl refl rest ts more
spaced signs.Release rest ts more = spaced-word 82 [] signs.Release refl refl refl rest ts more
spaced signs.Weak rest ts more = spaced-word 87 [] signs.Weak refl refl refl rest ts more

-- ---- variables

digit-plain : (d : ℕ) → 48 ≤ d → d ≤ 57 → is_letter_or_digit d ≡ true
digit-plain d low high = grind (arith, nat_tests, common_steps)

digits-plain : (n : ℕ) → n < 2 ^ 64 → list_all is_letter_or_digit (decimal n) ≡ true
digits-plain n small = list_all-from_AllPass is_letter_or_digit (decimal n) (All-from_get_or (λ d. is_letter_or_digit d ≡ true) (decimal n) 0 each)
  where
    each : (i : ℕ) → i < length (decimal n) → is_letter_or_digit (get_or (decimal n) i 0) ≡ true
    each i inside =
        let range = digit_at (decimal n) i (decimal_is_IsNumeral n small).0.1 inside in
        digit-plain (get_or (decimal n) i 0) (omega (arith, range)) (omega (arith, range))

plain_word : (b : ℕ) → is_letter_or_digit b ≡ true → is_word_byte b ≡ true
plain_word b e = rw e refl

module _ (v : ℕ) (small : v + 1 < 2 ^ 64) where
  variable-all : list_all is_letter_or_digit (variable_at v) ≡ true
  variable-all = digits-plain (v + 1) small

  variable-is : is_variable (variable_at v) ≡ true
  variable-is = digits-plain (v + 1) small

  variable-none : All (λ x. opposite (is_underscore x) ≡ true) (variable_at v)
  variable-none = AllPass-from_list_all (λ x. opposite (is_underscore x)) (variable_at v) (all_too is_letter_or_digit (λ x. opposite (is_underscore x)) plain_no_underscore (variable_at v) variable-all)

  variable-word : list_all is_word_byte (variable_at v) ≡ true
  variable-word = all_too is_letter_or_digit is_word_byte plain_word (variable_at v) variable-all

  pub written_variable : Written (variable_at v) (variable (variable_at v) ∷ [])
  written_variable rest ts breaks more =
      let free : word_token (variable_at v) ≡ Some (variable (variable_at v)) = ap (λ c. if c then Some (variable (variable_at v)) else atom_token (variable_at v)) variable-is in
      scan_word 120 (decimal (v + 1)) rest (variable (variable_at v)) ts variable-word free breaks more

-- ---- atoms

-- no reserved word has an underscore
reserved-one : (s : Symbol) (word : List ℕ) → list_any is_underscore (spelling s) ≡ false → list_any is_underscore word ≡ true → bytes_eq (spelling s) word ≡ false
reserved-one s word none some =
    false_from_ne_true (bytes_eq (spelling s) word) (λ e. true≢false (sym some ∙ ap (list_any is_underscore) (sym (same-bytes (spelling s) word e)) ∙ none))

abbrev AreFree : List Symbol → Type 0
AreFree [] = Unit {0}
AreFree (s ∷ ss) = (list_any is_underscore (spelling s) ≡ false) × AreFree ss

unreserved : (ss : List Symbol) (word : List ℕ) → AreFree ss → list_any is_underscore word ≡ true → spelled_so ss word ≡ None
unreserved [] word free some = refl
unreserved (s ∷ ss) word free some =
    ap (λ c. cond c (Some s) (spelled_so ss word)) (reserved-one s word free.0 some) ∙ unreserved ss word free.1 some

all-free : AreFree reserved_words
all-free = (refl, (refl, (refl, (refl, (refl, (refl, (refl, (refl, (refl, (refl, tt))))))))))

module _ (v : ℕ) (small : v + 1 < 2 ^ 64) where
  abbrev bound : List ℕ
  bound = variable_at v

  module _ (b : ℕ) (bs : List ℕ) (plain : is_plain (b ∷ bs) ≡ true) where
    abbrev word : List ℕ
    word = b ∷ (bs ++ 95 ∷ bound)

    word-all : list_all is_word_byte word ≡ true
    word-all =
        let parts = and_parts (is_letter b) (list_all is_word_byte bs) plain in
        let first : is_word_byte b ≡ true = rw parts.0 refl in
        and_from (is_word_byte b) _ first (list_all-append is_word_byte bs (95 ∷ bound) ∙ and_from (list_all is_word_byte bs) _ parts.1 (variable-word v small))

    word-underscored : list_any is_underscore word ≡ true
    word-underscored = or_right (is_underscore b) _ (list_any-append is_underscore bs (95 ∷ bound) ∙ or_right (list_any is_underscore bs) true refl)

    word-no-variable : is_variable word ≡ false
    word-no-variable = and_right (is_letter b) _ (list_all-append is_letter_or_digit bs (95 ∷ bound) ∙ and_right (list_all is_letter_or_digit bs) false refl)

    word-after : after_last is_underscore word ≡ bound
    word-after = after-last-at is_underscore (b ∷ bs) 95 bound refl (variable-none v small)

    word-before : before_last is_underscore word ≡ b ∷ bs
    word-before = before-last-at is_underscore (b ∷ bs) 95 bound refl (variable-none v small)

    word-atom : atom_token word ≡ Some (atom (b ∷ bs) bound)
    word-atom =
        let letter = (and_parts (is_letter b) (list_all is_word_byte bs) plain).0 in
        let last : is_variable (after_last is_underscore word) ≡ true = ap is_variable word-after ∙ variable-is v small in
        let test : (list_any is_underscore word && begins_with_letter word && is_variable (after_last is_underscore word)) ≡ true = and_from (list_any is_underscore word && begins_with_letter word) _ (and_from (list_any is_underscore word) _ word-underscored letter) last in
        ap (λ c. if c then Some (atom (before_last is_underscore word) (after_last is_underscore word)) else None) test
        ∙ ap (λ n. Some (atom n (after_last is_underscore word))) word-before ∙ ap (λ x. Some (atom (b ∷ bs) x)) word-after

    word-token : word_token word ≡ Some (atom (b ∷ bs) bound)
    word-token =
        ap (λ o. token_or o (free_token word)) (unreserved reserved_words word all-free word-underscored)
        ∙ ap (λ c. if c then Some (variable word) else atom_token word) word-no-variable ∙ word-atom

    written-plain : Written word (atom (b ∷ bs) bound ∷ [])
    written-plain rest ts breaks more = scan_word b (bs ++ 95 ∷ bound) rest (atom (b ∷ bs) bound) ts word-all word-token breaks more

  module _ (name : List ℕ) (is : IsName name) (rest : List ℕ) (breaks : Breaks rest) where
    abbrev behind : List ℕ
    behind = 34 ∷ 95 ∷ (bound ++ rest)

    abbrev quoted : List ℕ
    quoted = 34 ∷ (name ++ behind)

    abbrev token : Token
    token = atom name bound

    abbrev quoted-by : List ℕ → List ℕ → List ℕ → Option (Token × ℕ)
    quoted-by n b x = if nat_lt 0 (length n) && starts_with nat_eq b (codes "\"_") && is_variable x then Some (atom n x, length n + 3 + length x) else None

    quoted-name : take_while is_quotable (name ++ behind) ≡ name
    quoted-name = run_before is_quotable name behind is.quotable (take_while-cons is_quotable 34 (95 ∷ (bound ++ rest)))

    quoted-behind : drop (length name) (name ++ behind) ≡ behind
    quoted-behind = drop-append_seam name behind

    quoted-bound : take_while is_letter_or_digit (bound ++ rest) ≡ bound
    quoted-bound = run_before is_letter_or_digit bound rest (variable-all v small) breaks.plain

    quoted-found : quoted_at quoted ≡ Some (token, length name + 3 + length bound)
    quoted-found =
        let inner : List ℕ = name ++ behind in
        ap (λ n. quoted-by n (drop (length n) inner) (take_while is_letter_or_digit (drop 2 (drop (length n) inner)))) quoted-name
        ∙ ap (λ b. quoted-by name b (take_while is_letter_or_digit (drop 2 b))) quoted-behind
        ∙ ap (quoted-by name behind) quoted-bound
        ∙ ap (λ c. if c && true && is_variable bound then Some (token, length name + 3 + length bound) else None) (lt-ltb 0 (length name) is.some)
        ∙ ap (λ c. if c then Some (token, length name + 3 + length bound) else None) (variable-is v small)

    quoted-left : drop (length name + 3 + length bound) quoted ≡ rest
    quoted-left =
        let whole : quoted ≡ (34 ∷ (name ++ 34 ∷ 95 ∷ bound)) ++ rest = ap (λ l. 34 ∷ l) (sym (append_assoc name (34 ∷ 95 ∷ bound) rest)) in
        let long : length name + 3 + length bound ≡ length (34 ∷ (name ++ 34 ∷ 95 ∷ bound)) = omega (arith, Rattle.std.proofs.Common.length-append name (34 ∷ 95 ∷ bound)) in
        ap (drop (length name + 3 + length bound)) whole ∙ ap (λ n. drop n ((34 ∷ (name ++ 34 ∷ 95 ∷ bound)) ++ rest)) long ∙ drop-append_seam (34 ∷ (name ++ 34 ∷ 95 ∷ bound)) rest

    scan-quoted : (ts : List Token) → Scans rest ts → Scans quoted (token ∷ ts)
    scan-quoted ts more =
        scan_token 34 (name ++ behind) rest token (length name + 3 + length bound) ts refl (ap (or_nothing (length quoted)) quoted-found) quoted-left more

  abbrev Atomic : List ℕ → List ℕ → Type 0
  Atomic name text = Written (text ++ 95 ∷ bound) (atom name bound ∷ [])

  written-quoted : (name : List ℕ) → IsName name → Atomic name (34 ∷ name ++ 34 ∷ [])
  written-quoted name is rest ts breaks more =
      let inner : ((name ++ 34 ∷ []) ++ 95 ∷ bound) ++ rest ≡ name ++ 34 ∷ 95 ∷ (bound ++ rest) =
      append_assoc (name ++ 34 ∷ []) (95 ∷ bound) rest ∙ append_assoc name (34 ∷ []) (95 ∷ (bound ++ rest)) in
      subst (λ l. Scans l (atom name bound ∷ ts)) (ap (λ l. 34 ∷ l) (sym inner)) (scan-quoted name is rest breaks ts more)

  written-as : (name : List ℕ) → IsName name → (c : Bool) → is_plain name ≡ c → Atomic name (if c then name else 34 ∷ name ++ 34 ∷ [])
  written-as [] is true plain = absurd cc
  written-as (b ∷ bs) is true plain = written-plain b bs plain
  written-as name is false plain = written-quoted name is

  pub written_atom : (name : List ℕ) → IsName name → Written (spelled name ++ 95 ∷ bound) (atom name bound ∷ [])
  written_atom name is = written-as name is (is_plain name) refl

-- ---- operators

pub written_word : (b : ℕ) (w : List ℕ) (s : Symbol) → list_all is_word_byte (b ∷ w) ≡ true → word_token (b ∷ w) ≡ Some (symbol s) → Written (b ∷ w) (symbol s ∷ [])
written_word b w s all word rest ts breaks more = scan_word b w rest (symbol s) ts all word breaks more

pub written_not : (text : List ℕ) (tokens : List Token) → Written text tokens → Written (33 ∷ text) (symbol signs.Not ∷ tokens)
written_not text tokens written rest ts breaks more =
    scan_token 33 (text ++ rest) (text ++ rest) (symbol signs.Not) 1 (tokens ++ ts) refl refl refl (written rest ts breaks more)

pub written_before : (s : Symbol) (text : List ℕ) (tokens : List Token) → Written text tokens → Written (printed_before s text) (symbol s ∷ tokens)
written_before s text tokens written rest ts breaks more =
    subst (λ l. Scans l (symbol s ∷ tokens ++ ts)) (sym (append_assoc (spelling s) (32 ∷ text) rest)) (spaced s (text ++ rest) (tokens ++ ts) (written rest ts breaks more))

-- the tokens of an operator between its operands, in parentheses
abbrev pub between : Symbol → List Token → List Token → List Token
between s left right = symbol signs.OpenParen ∷ (left ++ (symbol s ∷ (right ++ symbol signs.CloseParen ∷ [])))

pub between_first : (s : Symbol) (left right ts : List Token) → between s left right ++ ts ≡ symbol signs.OpenParen ∷ (left ++ (symbol s ∷ (right ++ (symbol signs.CloseParen ∷ ts))))
between_first s left right ts =
    ap (λ l. symbol signs.OpenParen ∷ l) (append_assoc left (symbol s ∷ (right ++ symbol signs.CloseParen ∷ [])) ts ∙ ap (λ l. left ++ (symbol s ∷ l)) (append_assoc right (symbol signs.CloseParen ∷ []) ts))

pub written_between : (s : Symbol) (f g : List ℕ) (left right : List Token) → Written f left → Written g right → Written (printed_between s f g) (between s left right)
written_between s f g left right one two rest ts breaks more =
    let closed : Scans (41 ∷ rest) (symbol signs.CloseParen ∷ ts) = scan_token 41 rest rest (symbol signs.CloseParen) 1 ts refl refl refl more in
    let second : Scans (g ++ 41 ∷ rest) (right ++ symbol signs.CloseParen ∷ ts) = two (41 ∷ rest) (symbol signs.CloseParen ∷ ts) (close-breaks rest) closed in
    let sign : Scans (spelling s ++ 32 ∷ (g ++ 41 ∷ rest)) (symbol s ∷ (right ++ symbol signs.CloseParen ∷ ts)) = spaced s (g ++ 41 ∷ rest) (right ++ symbol signs.CloseParen ∷ ts) second in
    let apart : List ℕ = 32 ∷ (spelling s ++ 32 ∷ (g ++ 41 ∷ rest)) in
    let first : Scans (f ++ apart) (left ++ (symbol s ∷ (right ++ symbol signs.CloseParen ∷ ts))) =
    one apart (symbol s ∷ (right ++ symbol signs.CloseParen ∷ ts)) (blank-breaks _) (scan_blank (spelling s ++ 32 ∷ (g ++ 41 ∷ rest)) (symbol s ∷ (right ++ symbol signs.CloseParen ∷ ts)) sign) in
    let opened : Scans (40 ∷ (f ++ apart)) (symbol signs.OpenParen ∷ (left ++ (symbol s ∷ (right ++ symbol signs.CloseParen ∷ ts)))) =
    scan_token 40 (f ++ apart) (f ++ apart) (symbol signs.OpenParen) 1 (left ++ (symbol s ∷ (right ++ symbol signs.CloseParen ∷ ts))) refl refl refl first in
    let lefts : List ℕ = f ++ (32 ∷ spelling s) in
    let inner : ((lefts ++ (32 ∷ g)) ++ 41 ∷ []) ++ rest ≡ f ++ apart =
    append_assoc (lefts ++ (32 ∷ g)) (41 ∷ []) rest ∙ append_assoc lefts (32 ∷ g) (41 ∷ rest) ∙ append_assoc f (32 ∷ spelling s) (32 ∷ (g ++ 41 ∷ rest)) in
    let whole : printed_between s f g ++ rest ≡ 40 ∷ (f ++ apart) = ap (λ l. 40 ∷ l) inner in
    subst (λ l. Scans l (between s left right ++ ts)) (sym whole) (subst (λ l. Scans (40 ∷ (f ++ apart)) l) (sym (between_first s left right ts)) opened)

-- ---- quantifiers

pub written_quantifier : (place : ℕ) (quant : Quant) → place + 1 < 2 ^ 64 → (rest : List ℕ) (ts : List Token) → Scans rest ts → Scans (printed_quantifier place quant ++ rest) (symbol (quantifier_word quant) ∷ variable (variable_at place) ∷ symbol signs.Dot ∷ ts)
written_quantifier place quant small rest ts more =
    let dotted : Scans (46 ∷ 32 ∷ rest) (symbol signs.Dot ∷ ts) = spaced signs.Dot rest ts more in
    let bound : Scans (variable_at place ++ 46 ∷ 32 ∷ rest) (variable (variable_at place) ∷ symbol signs.Dot ∷ ts) = written_variable place small (46 ∷ 32 ∷ rest) (symbol signs.Dot ∷ ts) (dot-breaks (32 ∷ rest)) dotted in
    let all : Scans (spelling (quantifier_word quant) ++ 32 ∷ (variable_at place ++ 46 ∷ 32 ∷ rest)) (symbol (quantifier_word quant) ∷ variable (variable_at place) ∷ symbol signs.Dot ∷ ts) =
    spaced (quantifier_word quant) (variable_at place ++ 46 ∷ 32 ∷ rest) (variable (variable_at place) ∷ symbol signs.Dot ∷ ts) bound in
    let whole : printed_quantifier place quant ++ rest ≡ spelling (quantifier_word quant) ++ 32 ∷ (variable_at place ++ 46 ∷ 32 ∷ rest) =
    append_assoc (spelling (quantifier_word quant) ++ (32 ∷ variable_at place)) (codes ". ") rest ∙ append_assoc (spelling (quantifier_word quant)) (32 ∷ variable_at place) (46 ∷ 32 ∷ rest) in
    subst (λ l. Scans l (symbol (quantifier_word quant) ∷ variable (variable_at place) ∷ symbol signs.Dot ∷ ts)) (sym whole) all

-- the quantifiers as they are printed, of which the first has this place
abbrev pub printed_heads : ℕ → List Quant → List Quantifier
printed_heads place [] = []
printed_heads place (q ∷ qs) = record { quant = q; bound = variable_at place } ∷ printed_heads (suc place) qs

pub written_quantifiers : (place : ℕ) (qs : List Quant) → place + length qs < 2 ^ 64 → (rest : List ℕ) (ts : List Token) → Scans rest ts → Scans (printed_quantifiers place qs ++ rest) (quantifier_tokens (printed_heads place qs) ++ ts)
written_quantifiers place [] small rest ts more = more
written_quantifiers place (q ∷ qs) small rest ts more =
    let later = written_quantifiers (suc place) qs (omega arith) rest ts more in
    subst (λ l. Scans l (quantifier_tokens (printed_heads place (q ∷ qs)) ++ ts)) (sym (append_assoc (printed_quantifier place q) (printed_quantifiers (suc place) qs) rest))
    (written_quantifier place q (omega arith) (printed_quantifiers (suc place) qs ++ rest) (quantifier_tokens (printed_heads (suc place) qs) ++ ts) later)

-- ---- bodies

-- the tokens of a printed body
abbrev pub printed_tokens : List (List ℕ) → Tree → List Token
printed_tokens table always = symbol signs.True ∷ []
printed_tokens table never = symbol signs.False ∷ []
printed_tokens table (atom_tree name place) = atom (slice_index_or table name []) (variable_at place) ∷ []
printed_tokens table (not f) = symbol signs.Not ∷ printed_tokens table f
printed_tokens table (next f) = symbol signs.Next ∷ printed_tokens table f
printed_tokens table (finally f) = symbol signs.Finally ∷ printed_tokens table f
printed_tokens table (globally f) = symbol signs.Globally ∷ printed_tokens table f
printed_tokens table (and f g) = between signs.And (printed_tokens table f) (printed_tokens table g)
printed_tokens table (or f g) = between signs.Or (printed_tokens table f) (printed_tokens table g)
printed_tokens table (implies f g) = between signs.Implies (printed_tokens table f) (printed_tokens table g)
printed_tokens table (iff f g) = between signs.Iff (printed_tokens table f) (printed_tokens table g)
printed_tokens table (until f g) = between signs.Until (printed_tokens table f) (printed_tokens table g)
printed_tokens table (release f g) = between signs.Release (printed_tokens table f) (printed_tokens table g)
printed_tokens table (weak f g) = between signs.Weak (printed_tokens table f) (printed_tokens table g)

module _ (table : List (List ℕ)) (are : AreNames table) (variables : ℕ) (small : variables < 2 ^ 64) where
  abbrev Fits : Tree → Type 0
  Fits tree = IsTrue (names_below (length table) tree) × IsTrue (vars_below variables tree)

  abbrev WrittenBody : Tree → Type 0
  WrittenBody tree = Written (printed_body table tree) (printed_tokens table tree)

  fit-left : (f g : Tree) → IsTrue (names_below (length table) f && names_below (length table) g) × IsTrue (vars_below variables f && vars_below variables g) → Fits f
  fit-left f g (n, v) = ((and_parts _ _ n).0, (and_parts _ _ v).0)

  fit-right : (f g : Tree) → IsTrue (names_below (length table) f && names_below (length table) g) × IsTrue (vars_below variables f && vars_below variables g) → Fits g
  fit-right f g (n, v) = ((and_parts _ _ n).1, (and_parts _ _ v).1)

  pub written_body : (tree : Tree) → Fits tree → WrittenBody tree
  written_body always fits = written_word 116 (codes "rue") signs.True refl refl
  written_body never fits = written_word 102 (codes "alse") signs.False refl refl
  written_body (atom_tree name place) (named, bound) =
      let low : place < variables = ltb-true place variables bound in
      written_atom place (omega arith) (slice_index_or table name []) (are name [] (ltb-true name (length table) named))
  written_body (not f) fits = written_not (printed_body table f) (printed_tokens table f) (written_body f fits)
  written_body (next f) fits = written_before signs.Next (printed_body table f) (printed_tokens table f) (written_body f fits)
  written_body (finally f) fits = written_before signs.Finally (printed_body table f) (printed_tokens table f) (written_body f fits)
  written_body (globally f) fits = written_before signs.Globally (printed_body table f) (printed_tokens table f) (written_body f fits)
  written_body (and f g) fits = written_between signs.And (printed_body table f) (printed_body table g) (printed_tokens table f) (printed_tokens table g) (written_body f (fit-left f g fits)) (written_body g (fit-right f g fits))
  written_body (or f g) fits = written_between signs.Or (printed_body table f) (printed_body table g) (printed_tokens table f) (printed_tokens table g) (written_body f (fit-left f g fits)) (written_body g (fit-right f g fits))
  written_body (implies f g) fits = written_between signs.Implies (printed_body table f) (printed_body table g) (printed_tokens table f) (printed_tokens table g) (written_body f (fit-left f g fits)) (written_body g (fit-right f g fits))
  written_body (iff f g) fits = written_between signs.Iff (printed_body table f) (printed_body table g) (printed_tokens table f) (printed_tokens table g) (written_body f (fit-left f g fits)) (written_body g (fit-right f g fits))
  written_body (until f g) fits = written_between signs.Until (printed_body table f) (printed_body table g) (printed_tokens table f) (printed_tokens table g) (written_body f (fit-left f g fits)) (written_body g (fit-right f g fits))
  written_body (release f g) fits = written_between signs.Release (printed_body table f) (printed_body table g) (printed_tokens table f) (printed_tokens table g) (written_body f (fit-left f g fits)) (written_body g (fit-right f g fits))
  written_body (weak f g) fits = written_between signs.Weak (printed_body table f) (printed_body table g) (printed_tokens table f) (printed_tokens table g) (written_body f (fit-left f g fits)) (written_body g (fit-right f g fits))
