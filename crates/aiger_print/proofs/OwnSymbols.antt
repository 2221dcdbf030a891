-- The symbols that are printed: what they say, one after the other.
use Rattle.std.proofs.Common.{◌≡◌, ℕ, zero, suc, ◌+◌, ◌*◌, ◌^◌, ◌<◌, ◌≤◌, ◌⊎◌, Bool, true, false, cond, not, ◌&&◌, ◌||◌, nat_eq, inl, inr, refl, sym, ◌∙◌, ap, arith, Some, List, [], ◌∷◌, ◌++◌, map, flat_map, length, get_or, take, drop, append_assoc}
use Rattle.std.specs.Prelude.{slice_index_or, decimal, bytes_eq, codes}
use Rattle.std.specs.List.{range_with_len, position_or_len, list_any}
use Rattle.std.proofs.lemmas.Bool.{eqb-true, eq-eqb, lt-ltb, and_parts, and_from, not-true, cases_Bool, or_parts}
use Rattle.std.proofs.lemmas.List.{take-append-le}
use Rattle.std.proofs.lemmas.List.Concat.{flat_map-cons}
use Rattle.std.proofs.Math.Seq.{take-length}
use Rattle.aig_net.specs.Nets as nets
use Rattle.hy_text.specs.Numbers.{number_of}
use Rattle.aiger_body.specs.Texts.{pieces, is_ended, is_feed, is_return, is_space, line_text}
use Rattle.aiger_body.specs.Symbols.{Symbol, symbol_with, symbol_of, is_name, begins_comment}
use Rattle.aiger_body.proofs.Pieces.{Free, pieces-cons, ended}
use Rattle.aiger_body.proofs.LineTexts.{free-append, all-free, text-spelled}
use Rattle.aiger_body.proofs.Spelling.{no-digit, number-decimal}
use Rattle.aiger_read.proofs.Named.{ends-same}
use Rattle.aiger_print.specs.Printed.{symbol_line, symbols_text, name_at}

-- ---- lists of symbols

abbrev pub Every : (Symbol → Type 0) → List Symbol → Type 0
Every P [] = Unit {0}
Every P (s ∷ ss) = P s × Every P ss

pub every_map : (P Q : Symbol → Type 0) (ss : List Symbol) → ((s : Symbol) → P s → Q s) → Every P ss → Every Q ss
every_map P Q [] f all = tt
every_map P Q (s ∷ ss) f (here, all) = (f s here, every_map P Q ss f all)

pub every_append : (P : Symbol → Type 0) (xs ys : List Symbol) → Every P xs → Every P ys → Every P (xs ++ ys)
every_append P [] ys all more = more
every_append P (x ∷ xs) ys (here, all) more = (here, every_append P xs ys all more)

abbrev pub no_symbol : Symbol
no_symbol = record { kind = 0; number = 0; name = [] }

abbrev pub at : List Symbol → ℕ → Symbol
at ss k = slice_index_or ss k no_symbol

pub every_at : (P : Symbol → Type 0) (ss : List Symbol) (k : ℕ) → Every P ss → k < length ss → P (at ss k)
every_at P [] k all lt = absurd (omega arith)
every_at P (s ∷ ss) zero (here, all) lt = here
every_at P (s ∷ ss) (suc k) (here, all) lt = every_at P ss k all (omega arith)

-- ---- the symbols of some names

abbrev pub onto : ℕ → ℕ → List ℕ → List Symbol → List Symbol
onto letter i [] rest = rest
onto letter i (b ∷ name) rest = record { kind = letter; number = i; name = b ∷ name } ∷ rest

-- the names that are there, from number i on
abbrev pub given : ℕ → ℕ → List (List ℕ) → List Symbol
given letter i [] = []
given letter i (name ∷ names) = onto letter i name (given letter (suc i) names)

pub record IsGiven (letter i : ℕ) (names : List (List ℕ)) (s : Symbol) : Type 0 where
  pub kind : s.kind ≡ letter
  pub j : ℕ
  pub inside : j < length names
  pub number : s.number ≡ i + j
  pub name : s.name ≡ get_or names j []
  pub some : 0 < length s.name

later : (letter i : ℕ) (name : List ℕ) (names : List (List ℕ)) (s : Symbol) → IsGiven letter (suc i) names s → IsGiven letter i (name ∷ names) s
later letter i name names s is = record { kind = is.kind; j = suc is.j; inside = omega (arith, is.inside); number = omega (arith, is.number); name = is.name; some = is.some }

pub every_given : (letter i : ℕ) (names : List (List ℕ)) → Every (IsGiven letter i names) (given letter i names)
every_given letter i [] = tt
every_given letter i ([] ∷ names) = every_map (IsGiven letter (suc i) names) (IsGiven letter i ([] ∷ names)) (given letter (suc i) names) (later letter i [] names) (every_given letter (suc i) names)
every_given letter i ((b ∷ name) ∷ names) = (
  record { kind = refl; j = 0; inside = omega arith; number = omega arith; name = refl; some = omega arith },
  every_map (IsGiven letter (suc i) names) (IsGiven letter i ((b ∷ name) ∷ names)) (given letter (suc i) names) (later letter i (b ∷ name) names) (every_given letter (suc i) names),
)

-- each name that is there has its symbol
pub record HasSymbol (letter i : ℕ) (names : List (List ℕ)) (n : ℕ) : Type 0 where
  pub k : ℕ
  pub inside : k < length (given letter i names)
  pub kind : (at (given letter i names) k).kind ≡ letter
  pub number : (at (given letter i names) k).number ≡ i + n

pub given_has : (letter i : ℕ) (names : List (List ℕ)) (n : ℕ) → n < length names → (get_or names n [] ≡ []) ⊎ HasSymbol letter i names n
given_has letter i [] n lt = absurd (omega arith)
given_has letter i ([] ∷ names) zero lt = inl refl
given_has letter i ((b ∷ name) ∷ names) zero lt = inr (record { k = 0; inside = omega arith; kind = refl; number = omega arith })
given_has letter i ([] ∷ names) (suc n) lt = elim (given_has letter (suc i) names n (omega arith)) [
  | inl none ↦ inl none
  | inr has ↦ inr (record { k = has.k; inside = has.inside; kind = has.kind; number = omega (arith, has.number) })
]
given_has letter i ((b ∷ name) ∷ names) (suc n) lt = elim (given_has letter (suc i) names n (omega arith)) [
  | inl none ↦ inl none
  | inr has ↦ inr (record { k = suc has.k; inside = omega (arith, has.inside); kind = has.kind; number = omega (arith, has.number) })
]

-- ---- no two are alike

abbrev pub key : Symbol → ℕ
key s = s.kind * 2 ^ 40 + s.number

abbrev pub Rising : List Symbol → Type 0
Rising [] = Unit {0}
Rising (s ∷ ss) = Every (λ t. key s < key t) ss × Rising ss

rising-given : (letter i : ℕ) (names : List (List ℕ)) → Rising (given letter i names)
rising-given letter i [] = tt
rising-given letter i ([] ∷ names) = rising-given letter (suc i) names
rising-given letter i ((b ∷ name) ∷ names) = (
  every_map (IsGiven letter (suc i) names) (λ t. letter * 2 ^ 40 + i < key t) (given letter (suc i) names) (λ s is. omega (arith, ap (λ k. k * 2 ^ 40) is.kind, is.number)) (every_given letter (suc i) names),
  rising-given letter (suc i) names,
)

pub rising_append : (xs ys : List Symbol) (bound : ℕ) → Rising xs → Rising ys → Every (λ s. key s < bound) xs → Every (λ s. bound ≤ key s) ys → Rising (xs ++ ys)
rising_append [] ys bound one two low high = two
rising_append (x ∷ xs) ys bound (here, one) two (less, low) high = (
  every_append (λ t. key x < key t) xs ys here (every_map (λ s. bound ≤ key s) (λ t. key x < key t) ys (λ s le. omega (arith, less, le)) high),
  rising_append xs ys bound one two low high,
)

pub rising_at : (ss : List Symbol) (j k : ℕ) → Rising ss → j < k → k < length ss → key (at ss j) < key (at ss k)
rising_at [] j k rising less lt = absurd (omega arith)
rising_at (s ∷ ss) zero zero rising less lt = absurd (omega arith)
rising_at (s ∷ ss) zero (suc k) (here, rising) less lt = every_at (λ t. key s < key t) ss k here (omega arith)
rising_at (s ∷ ss) (suc j) zero rising less lt = absurd (omega arith)
rising_at (s ∷ ss) (suc j) (suc k) (here, rising) less lt = rising_at ss j k rising (omega arith) (omega arith)

pub rising_given : (letter : ℕ) (names : List (List ℕ)) → Rising (given letter 0 names)
rising_given letter names = rising-given letter 0 names

-- ---- their lines

abbrev pub words_of : Symbol → List ℕ
words_of s = (s.kind ∷ decimal s.number) ++ (32 ∷ s.name)

abbrev pub line_of_symbol : Symbol → List ℕ
line_of_symbol s = words_of s ++ 10 ∷ []

line-onto : (letter i : ℕ) (name : List ℕ) (rest : List Symbol) → flat_map line_of_symbol (onto letter i name rest) ≡ symbol_line letter i name ++ flat_map line_of_symbol rest
line-onto letter i [] rest = refl
line-onto letter i (b ∷ name) rest = flat_map-cons line_of_symbol (record { kind = letter; number = i; name = b ∷ name }) rest

text-from : (letter i : ℕ) (names : List (List ℕ)) (f : ℕ → List ℕ) → ((j : ℕ) → j < length names → f (i + j) ≡ get_or names j []) → flat_map (λ n. symbol_line letter n (f n)) (range_with_len i (length names)) ≡ flat_map line_of_symbol (given letter i names)
text-from letter i [] f each = refl
text-from letter i (name ∷ names) f each =
    let p : i ≡ i + 0 = omega arith in
    let next : i + 1 ≡ suc i = omega arith in
    let rest : (j : ℕ) → j < length names → f (suc i + j) ≡ get_or names j [] = λ j lt. (let q : suc i + j ≡ i + suc j = omega arith in ap f q ∙ each (suc j) (omega arith)) in
    flat_map-cons (λ n. symbol_line letter n (f n)) i (range_with_len (i + 1) (length names))
    ∙ ap (λ x. symbol_line letter i x ++ flat_map (λ n. symbol_line letter n (f n)) (range_with_len (i + 1) (length names))) (ap f p ∙ each 0 (omega arith))
    ∙ ap (λ a. symbol_line letter i name ++ flat_map (λ n. symbol_line letter n (f n)) (range_with_len a (length names))) next
    ∙ ap (λ l. symbol_line letter i name ++ l) (text-from letter (suc i) names f rest)
    ∙ sym (line-onto letter i name (given letter (suc i) names))

pub symbols_are : (letter : ℕ) (names : List (List ℕ)) → symbols_text letter names ≡ flat_map line_of_symbol (given letter 0 names)
symbols_are letter names = text-from letter 0 names (name_at names) (λ j lt. let q : 0 + j ≡ j = omega arith in ap (name_at names) q)

pub lines_cut : (ss : List Symbol) → Every (λ s. Free is_feed (words_of s)) ss → pieces is_feed (flat_map line_of_symbol ss) ≡ map line_of_symbol ss
lines_cut [] all = refl
lines_cut (s ∷ ss) (free, all) =
    ap (pieces is_feed) (flat_map-cons line_of_symbol s ss ∙ append_assoc (words_of s) (10 ∷ []) (flat_map line_of_symbol ss))
    ∙ pieces-cons is_feed (words_of s) 10 (flat_map line_of_symbol ss) free refl
    ∙ ap (λ l. line_of_symbol s ∷ l) (lines_cut ss all)

-- ---- what a line says

-- a symbol of one of the three kinds that are printed
pub record IsOwn (s : Symbol) : Type 0 where
  pub kind : (s.kind ≡ 105) ⊎ (s.kind ≡ 108) ⊎ (s.kind ≡ 111)
  pub small : s.number < 10 ^ 10
  pub some : 0 < length s.name
  pub named : nets.is_name s.name ≡ true

none-free : (name : List ℕ) → list_any (nat_eq 10) name ≡ false → Free is_feed name
none-free [] e = tt
none-free (b ∷ name) e = let both = or_parts (nat_eq 10 b) _ e in (turned (cases_Bool (nat_eq b 10)) both.0, none-free name both.1)
  where
    turned : (nat_eq b 10 ≡ true) ⊎ (nat_eq b 10 ≡ false) → nat_eq 10 b ≡ false → nat_eq b 10 ≡ false
    turned (inl same) other = absurd (let again : nat_eq 10 b ≡ true = eq-eqb 10 b (sym (eqb-true b 10 same)) in cc)
    turned (inr other) also = other

kind-apart : (s : Symbol) → IsOwn s → (c : ℕ) → c < 105 → nat_eq s.kind c ≡ false
kind-apart s own c lt = step (cases_Bool (nat_eq s.kind c))
  where
    step : (nat_eq s.kind c ≡ true) ⊎ (nat_eq s.kind c ≡ false) → nat_eq s.kind c ≡ false
    step (inr other) = other
    step (inl same) = absurd (elim own.kind [ inl i ↦ omega (arith, i, eqb-true _ _ same, lt) | inr more ↦ elim more [ inl l ↦ omega (arith, l, eqb-true _ _ same, lt) | inr o ↦ omega (arith, o, eqb-true _ _ same, lt) ] ])

ended-append : (ends : ℕ → Bool) (xs : List ℕ) (y : ℕ) (ys : List ℕ) → is_ended ends (xs ++ y ∷ ys) ≡ is_ended ends (y ∷ ys)
ended-append ends [] y ys = refl
ended-append ends (x ∷ []) y ys = refl
ended-append ends (x ∷ z ∷ xs) y ys = ended-append ends (z ∷ xs) y ys

first-space : (xs ys : List ℕ) → Free is_space xs → position_or_len is_space (xs ++ 32 ∷ ys) ≡ length xs
first-space [] ys free = refl
first-space (x ∷ xs) ys (here, free) =
    let next : 1 + position_or_len is_space (xs ++ 32 ∷ ys) ≡ suc (position_or_len is_space (xs ++ 32 ∷ ys)) = omega arith in
    ap (λ b. cond (not b) (1 + position_or_len is_space (xs ++ 32 ∷ ys)) 0) here ∙ next ∙ ap suc (first-space xs ys free)

drop-past : (xs ys : List ℕ) (y : ℕ) → drop (length xs + 1) (xs ++ y ∷ ys) ≡ ys
drop-past [] ys y = refl
drop-past (x ∷ xs) ys y = let q : suc (length xs) + 1 ≡ suc (length xs + 1) = omega arith in ap (λ n. drop n (x ∷ xs ++ y ∷ ys)) q ∙ drop-past xs ys y

module _ (s : Symbol) (own : IsOwn s) where
  digits-free : (c : ℕ) → c < 48 → Free (λ x. nat_eq x c) (decimal s.number)
  digits-free c lt = all-free c (decimal s.number) (no-digit s.number own.small c lt)

  pub words_free : Free is_feed (words_of s)
  words_free = free-append is_feed (s.kind ∷ decimal s.number) (32 ∷ s.name) (kind-apart s own 10 (omega arith), digits-free 10 (omega arith)) (refl, none-free s.name (not-true _ (and_parts _ _ own.named).0))

  pub name_ended : is_ended is_return s.name ≡ false
  name_ended = sym (ends-same s.name) ∙ not-true _ (and_parts (not (list_any (nat_eq 10) s.name)) _ own.named).1

  words-ended : is_ended is_return (words_of s) ≡ false
  words-ended = ended-append is_return (s.kind ∷ decimal s.number) 32 s.name ∙ behind-space s.name own.some ∙ name_ended
    where
      behind-space : (name : List ℕ) → 0 < length name → is_ended is_return (32 ∷ name) ≡ is_ended is_return name
      behind-space [] some = absurd (omega arith)
      behind-space (b ∷ name) some = refl

  text-is : line_text (line_of_symbol s) ≡ words_of s
  text-is = text-spelled false (words_of s) words-ended

  pub said_back : symbol_of (line_text (line_of_symbol s)) ≡ Some s
  said_back =
      let X = decimal s.number ++ 32 ∷ s.name in
      let cut = first-space (decimal s.number) s.name (digits-free 32 (omega arith)) in
      ap symbol_of text-is
      ∙ ap (λ n. symbol_with s.kind (number_of (take n X)) (drop (n + 1) X)) cut
      ∙ ap (λ w. symbol_with s.kind (number_of w) (drop (length (decimal s.number) + 1) X)) (take-append-le (length (decimal s.number)) (decimal s.number) (32 ∷ s.name) (omega arith) ∙ take-length (decimal s.number))
      ∙ ap (λ o. symbol_with s.kind o (drop (length (decimal s.number) + 1) X)) (number-decimal s.number own.small)
      ∙ ap (λ l. symbol_with s.kind (Some s.number) l) (drop-past (decimal s.number) s.name 32)

  pub no_comment : begins_comment (line_of_symbol s) ≡ false
  no_comment =
      ap (λ t. (is_ended is_feed (line_of_symbol s) && bytes_eq t (codes "c")) || bytes_eq (line_of_symbol s) (codes "c")) text-is
      ∙ ap (λ x. (is_ended is_feed (line_of_symbol s) && (x && bytes_eq (decimal s.number ++ 32 ∷ s.name) [])) || (x && bytes_eq ((decimal s.number ++ 32 ∷ s.name) ++ 10 ∷ []) [])) (kind-apart s own 99 (omega arith))
      ∙ none-said (is_ended is_feed (line_of_symbol s))
    where
      none-said : (b : Bool) → ((b && false) || false) ≡ false
      none-said true = refl
      none-said false = refl

  pub line_ended : is_ended is_feed (line_of_symbol s) ≡ true
  line_ended = ended is_feed (words_of s) 10 refl

  pub name_right : is_name s.name ≡ true
  name_right = and_from _ _ (lt-ltb 0 (length s.name) own.some) (ap not name_ended)
