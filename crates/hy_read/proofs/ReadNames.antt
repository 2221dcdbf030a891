-- A reader's names are names, and distinct.
use Rattle.std.proofs.Common.{◌≡◌, ℕ, ◌+◌, Bool, true, false, ◌&&◌, nat_eq, nat_lt, if◌then◌else◌, IsTrue, List, [], ◌∷◌, ◌++◌, length, drop, codes, Option, Some, None, refl, sym, ap, subst, ◌∙◌, arith}
use Rattle.std.specs.List.{find, list_all, list_any, starts_with, take_while, before_last, after_last}
use Rattle.std.specs.Option.{option_map}
use Rattle.std.proofs.lemmas.Bool.{and_parts, and_from, ltb-true, true≢false}
use Rattle.std.proofs.lemmas.List.Elements.{All-nil, All-cons, All-append}
use Rattle.std.proofs.lemmas.List.Folds.{list_all-append}
use Rattle.std.proofs.lemmas.List.Sums.{take_while-cons}
use Rattle.hy_formula.specs.Names.{place_of, with_name, added_unless, are_distinct}
use Rattle.hy_formula.proofs.Names.{are_distinct-push}
use Rattle.hy_text.specs.Bytes.{is_letter, is_letter_or_digit, is_quotable, is_underscore, is_variable, is_word_byte, begins_with_letter}
use Rattle.hy_text.specs.Names.{AreNames, IsName}
use Rattle.hy_read.specs.declared.symbol.Symbol.{Symbol}
use Rattle.hy_read.specs.Symbols.{spelling, signs, reserved_words}
use Rattle.hy_read.specs.Tokens.{Token, symbol, variable, atom, nothing}
use Rattle.hy_read.specs.Results.{names_of}
use Rattle.hy_read.specs.Scanning.{Span, Spans, atom_token, blanks, first_token, free_token, or_nothing, quoted_at, sign_at, spelled_so, token_at, token_or, word_at, word_token}
use Rattle.hy_read.specs.Answers.{tokens_of}
use Rattle.hy_read.proofs.SpelledAtoms.{all_too, before-last-at, letter_no_underscore, split-last, word_quotable}

-- ---- names are distinct

distinct-one : (o : Option ℕ) (name : List ℕ) (names : List (List ℕ)) → place_of name names ≡ o → IsTrue (are_distinct names) → IsTrue (are_distinct (added_unless o name names))
distinct-one (Some k) name names e h = h
distinct-one None name names e h = are_distinct-push name names e h

pub distinct_read : (tokens : List Token) (names : List (List ℕ)) → IsTrue (are_distinct names) → IsTrue (are_distinct (names_of names tokens))
distinct_read [] names h = h
distinct_read (symbol s ∷ tokens) names h = distinct_read tokens names h
distinct_read (variable v ∷ tokens) names h = distinct_read tokens names h
distinct_read (nothing ∷ tokens) names h = distinct_read tokens names h
distinct_read (atom name bound ∷ tokens) names h = distinct_read tokens (with_name name names) (distinct-one (place_of name names) name names refl h)

-- ---- each token's name is a name

-- the name of an atom is a name
abbrev pub NamesWell : Token → Type 0
NamesWell (symbol s) = Unit {0}
NamesWell (variable v) = Unit {0}
NamesWell (atom name bound) = IsName name
NamesWell nothing = Unit {0}

abbrev NameWellIn : Option Token → Type 0
NameWellIn None = Unit {0}
NameWellIn (Some t) = NamesWell t

abbrev NamesWellIn : Option (Token × ℕ) → Type 0
NamesWellIn None = Unit {0}
NamesWellIn (Some t) = NamesWell t.0

name-before : (word front back : List ℕ) (last : ℕ) → word ≡ front ++ last ∷ back → is_underscore last ≡ true → list_all is_word_byte word ≡ true → begins_with_letter word ≡ true → IsName front
name-before word [] back last is here all letter =
    let first : is_letter last ≡ true = ap begins_with_letter (sym is) ∙ letter in
    absurd (true≢false (sym here ∙ letter_no_underscore last first))
name-before word (x ∷ front) back last is here all letter =
    let split : (list_all is_word_byte (x ∷ front) && list_all is_word_byte (last ∷ back)) ≡ true = sym (list_all-append is_word_byte (x ∷ front) (last ∷ back)) ∙ ap (list_all is_word_byte) (sym is) ∙ all in
    record {
      some = omega arith;
      quotable = all_too is_word_byte is_quotable word_quotable (x ∷ front) (and_parts _ _ split).0;
    }

atom-named : (word : List ℕ) → list_all is_word_byte word ≡ true → NameWellIn (atom_token word)
atom-named word all = through (list_any is_underscore word && begins_with_letter word && is_variable (after_last is_underscore word)) refl
  where
    through : (b : Bool) → (list_any is_underscore word && begins_with_letter word && is_variable (after_last is_underscore word)) ≡ b → NameWellIn (if b then Some (atom (before_last is_underscore word) (after_last is_underscore word)) else None)
    through false e = tt
    through true e =
        let outer = and_parts _ _ e in
        let inner = and_parts _ _ outer.0 in
        let s = split-last is_underscore word inner.0 in
        let front : before_last is_underscore word ≡ s.front = ap (before_last is_underscore) s.is ∙ before-last-at is_underscore s.front s.last s.back s.here s.none in
        subst IsName (sym front) (name-before word s.front s.back s.last s.is s.here all inner.1)

free-named : (word : List ℕ) → list_all is_word_byte word ≡ true → NameWellIn (free_token word)
free-named word all = through (is_variable word)
  where
    through : (b : Bool) → NameWellIn (if b then Some (variable word) else atom_token word)
    through true = tt
    through false = atom-named word all

or-named : (o : Option Symbol) (other : Option Token) → NameWellIn other → NameWellIn (token_or o other)
or-named (Some s) other h = tt
or-named None other h = h

sized : (o : Option Token) (n : ℕ) → NameWellIn o → NamesWellIn (option_map (λ token. (token, n)) o)
sized None n h = tt
sized (Some t) n h = h

-- the front that passes
all-while-one : (p : ℕ → Bool) (x : ℕ) (xs : List ℕ) (b : Bool) → p x ≡ b → list_all p (take_while p xs) ≡ true → take_while p (x ∷ xs) ≡ (if b then x ∷ take_while p xs else []) → list_all p (take_while p (x ∷ xs)) ≡ true
all-while-one p x xs true e h is = ap (list_all p) is ∙ and_from (p x) _ e h
all-while-one p x xs false e h is = ap (list_all p) is

while-by : (p : ℕ → Bool) (x : ℕ) (xs : List ℕ) (b : Bool) → p x ≡ b → take_while p (x ∷ xs) ≡ (if b then x ∷ take_while p xs else [])
while-by p x xs b e = take_while-cons p x xs ∙ ap (λ c. if c then x ∷ take_while p xs else []) e

pub all_while : (p : ℕ → Bool) (xs : List ℕ) → list_all p (take_while p xs) ≡ true
all_while p [] = refl
all_while p (x ∷ xs) = all-while-one p x xs (p x) refl (all_while p xs) (while-by p x xs (p x) refl)

word-named : (text : List ℕ) → NamesWellIn (word_at text)
word-named text =
    let word = take_while is_word_byte text in
    sized (word_token word) (length word) (or-named (spelled_so reserved_words word) (free_token word) (free-named word (all_while is_word_byte text)))

quoted-named : (text : List ℕ) → NamesWellIn (quoted_at text)
quoted-named text = through (nat_lt 0 (length name) && starts_with nat_eq behind (codes "\"_") && is_variable bound) refl
  where
    inner : List ℕ
    inner = drop 1 text

    name : List ℕ
    name = take_while is_quotable inner

    behind : List ℕ
    behind = drop (length name) inner

    bound : List ℕ
    bound = take_while is_letter_or_digit (drop 2 behind)

    through : (b : Bool) → (nat_lt 0 (length name) && starts_with nat_eq behind (codes "\"_") && is_variable bound) ≡ b → NamesWellIn (if b then Some (atom name bound, length name + 3 + length bound) else None)
    through false e = tt
    through true e = record { some = ltb-true 0 (length name) (and_parts _ _ (and_parts _ _ e).0).0; quotable = all_while is_quotable inner }

sign-named : (o : Option Symbol) → NamesWellIn (option_map (λ s. (symbol s, length (spelling s))) o)
sign-named None = tt
sign-named (Some s) = tt

or-nothing-named : (n : ℕ) (o : Option (Token × ℕ)) → NamesWellIn o → NamesWell (or_nothing n o).0
or-nothing-named n None h = tt
or-nothing-named n (Some t) h = h

first-named : (text : List ℕ) → NamesWell (first_token text).0
first-named text = or-nothing-named (length text) (token_at text) (at text)
  where
    through : (bs : List ℕ) (c d : Bool) → NamesWellIn (if c then word_at bs else (if d then quoted_at bs else sign_at bs))
    through bs true d = word-named bs
    through bs false true = quoted-named bs
    through bs false false = sign-named (find (λ s. starts_with nat_eq bs (spelling s)) signs)

    at : (text : List ℕ) → NamesWellIn (token_at text)
    at [] = tt
    at (b ∷ bs) = through (b ∷ bs) (is_word_byte b) (nat_eq b 34)

-- Each token's name is a name.
abbrev pub AreNamedWell : List Token → Type 0
AreNamedWell [] = Unit {0}
AreNamedWell (t ∷ ts) = NamesWell t × AreNamedWell ts

pub scanned_named : (spans : List Span) (at : ℕ) (text : List ℕ) → Spans at text spans → AreNamedWell (tokens_of spans)
scanned_named [] at text h = tt
scanned_named (s ∷ spans) at text (b, bs, n, e, first, place, more) =
    let same : (first_token (b ∷ bs)).0 ≡ s.token = ap (λ (p : Token × ℕ). p.0) first in
    (subst NamesWell same (first-named (b ∷ bs)), scanned_named spans (at + blanks text + n) (drop n (b ∷ bs)) more)

names-one : (o : Option ℕ) (name : List ℕ) (names : List (List ℕ)) → IsName name → AreNames names → AreNames (added_unless o name names)
names-one (Some k) name names is h = h
names-one None name names is h = All-append IsName names (name ∷ []) h (All-cons IsName name [] is (All-nil IsName))

pub names_read : (tokens : List Token) (names : List (List ℕ)) → AreNamedWell tokens → AreNames names → AreNames (names_of names tokens)
names_read [] names well h = h
names_read (symbol s ∷ tokens) names well h = names_read tokens names well.1 h
names_read (variable v ∷ tokens) names well h = names_read tokens names well.1 h
names_read (nothing ∷ tokens) names well h = names_read tokens names well.1 h
names_read (atom name bound ∷ tokens) names well h = names_read tokens (with_name name names) well.1 (names-one (place_of name names) name names well.0 h)
