-- How a formula text splits into tokens. At each place the longest token is taken.
use Rattle.std.specs.Prelude.{◌≡◌, ℕ, ◌+◌, ◌&&◌, nat_eq, nat_lt, if◌then◌else◌, List, [], ◌∷◌, length, drop, Option, Some, None, codes}
use Rattle.std.specs.List.{prefix_len, take_while, before_last, after_last, list_any, find, starts_with}
use Rattle.std.specs.Option.{option_map}
use Rattle.std.specs.Str.{bytes_eq}
use Rattle.hy_read.specs.declared.symbol.Symbol.{Symbol}
use Rattle.hy_read.specs.Symbols.{spelling, signs, reserved_words}
use Rattle.hy_text.specs.Bytes.{is_blank, is_letter_or_digit, is_underscore, is_word_byte, is_quotable, is_variable, begins_with_letter}
use Rattle.hy_read.specs.Tokens.{Token, symbol, variable, atom, nothing}

-- the symbol among these that is spelled so
abbrev pub spelled_so : List Symbol → List ℕ → Option Symbol
spelled_so symbols word = find (λ s. bytes_eq (spelling s) word) symbols

-- An atom has its name before its last underscore, and its variable after that.
abbrev pub atom_token : List ℕ → Option Token
atom_token word =
    if list_any is_underscore word && begins_with_letter word && is_variable (after_last is_underscore word)
    then Some (atom (before_last is_underscore word) (after_last is_underscore word))
    else None

-- What is no reserved word is a variable, an atom or nothing.
abbrev pub free_token : List ℕ → Option Token
free_token word = if is_variable word then Some (variable word) else atom_token word

abbrev pub token_or : Option Symbol → Option Token → Option Token
token_or (Some s) other = Some (symbol s)
token_or None other = other

-- what a word of letters, digits and underscores is
abbrev pub word_token : List ℕ → Option Token
word_token word = token_or (spelled_so reserved_words word) (free_token word)

-- the word at the front, all of its letters, digits and underscores, and its length
abbrev pub word_at : List ℕ → Option (Token × ℕ)
word_at text =
    let word = take_while is_word_byte text in
    option_map (λ token. (token, length word)) (word_token word)

-- At the front a quote, a name, a quote, an underscore and a variable.
abbrev pub quoted_at : List ℕ → Option (Token × ℕ)
quoted_at text =
    let inner = drop 1 text in
    let name = take_while is_quotable inner in
    let behind = drop (length name) inner in
    let bound = take_while is_letter_or_digit (drop 2 behind) in
    if nat_lt 0 (length name) && starts_with nat_eq behind (codes "\"_") && is_variable bound
    then Some (atom name bound, length name + 3 + length bound)
    else None

-- the sign whose spelling begins the text
abbrev pub sign_at : List ℕ → Option (Token × ℕ)
sign_at text = option_map (λ s. (symbol s, length (spelling s))) (find (λ s. starts_with nat_eq text (spelling s)) signs)

-- the token at the front of a text that begins with no blank, and how many bytes it takes
abbrev pub token_at : List ℕ → Option (Token × ℕ)
token_at [] = None
token_at (b ∷ bs) =
    if is_word_byte b then word_at (b ∷ bs)
    else (if nat_eq b 34 then quoted_at (b ∷ bs) else sign_at (b ∷ bs))

-- a token, and its first byte
pub record Span : Type 0 where
  pub token : Token
  pub first : ℕ

-- Where no token begins, all that is left is one that is nothing.
abbrev pub or_nothing : ℕ → Option (Token × ℕ) → Token × ℕ
or_nothing left (Some t) = t
or_nothing left None = (nothing, left)

abbrev pub first_token : List ℕ → Token × ℕ
first_token text = or_nothing (length text) (token_at text)

abbrev pub blanks : List ℕ → ℕ
blanks text = prefix_len is_blank text

-- The text, whose first byte has this number, is these tokens, with blanks before, between and behind them.
abbrev pub Spans : ℕ → List ℕ → List Span → Type 0
Spans at text [] = drop (blanks text) text ≡ []
Spans at text (s ∷ spans) =
    (b : ℕ) × (bs : List ℕ) × (n : ℕ) × (drop (blanks text) text ≡ b ∷ bs) × (first_token (b ∷ bs) ≡ (s.token, n)) × (s.first ≡ at + blanks text) × Spans (at + blanks text + n) (drop n (b ∷ bs)) spans
