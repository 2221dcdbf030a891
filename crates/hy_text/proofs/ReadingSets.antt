-- Reading the names of a set one after another: what is read so far, and what is left to read.
use Rattle.std.proofs.Common.{◌≡◌, ◌≢◌, ℕ, List, [], ◌∷◌, Option, Some, None, unwrap_or, sym, refl, ap, ◌∙◌, subst, arith}
use Rattle.std.specs.List.{fold}
use Rattle.hy_bits.specs.Letter.{Letter}
use Rattle.hy_text.specs.Found.{IsSetFound, IsMembersFound}
use Rattle.hy_text.specs.declared.sets.SetRead.{SetRead}
use Rattle.hy_text.specs.Bytes.{past_blanks}
use Rattle.hy_text.specs.Names.{name_at}
use Rattle.hy_text.specs.Sets.{SpellsNames, SpellsSet, with_member, letter_of}

-- From the first name on to `here`, `letter` has been made of the names.
pub record NamesRead (table : List (List ℕ)) (start here : List ℕ) (letter : Letter) : Type 0 where
  -- what begins at the start goes on here
  pub onward : (names : List (List ℕ)) (rest : List ℕ) → SpellsNames start names rest → (more : List (List ℕ)) × SpellsNames here more rest
  -- what goes on here begins at the start
  pub back : (more : List (List ℕ)) (rest : List ℕ) → SpellsNames here more rest → (names : List (List ℕ)) × SpellsNames start names rest × (fold (with_member table) letter more ≡ letter_of table names)

pub names_none : (table : List (List ℕ)) (start : List ℕ) (letter : Letter) → letter ≡ letter_of table [] → NamesRead table start start letter
names_none table start letter e = record {
  onward = λ names rest spelled. (names, spelled);
  back = λ more rest spelled. (more, spelled, ap (λ l. fold (with_member table) l more) e);
}

-- two names at one place are one
pub same_name : (here x b name behind : List ℕ) → name_at here ≡ Some (x, b) → name_at here ≡ Some (name, behind) → (x ≡ name) × (b ≡ behind)
same_name here x b name behind one two =
    let found : Option (List ℕ × List ℕ) → List ℕ × List ℕ = λ o. unwrap_or o (x, b) in
    let pair = ap found (sym one ∙ two) in
    (ap (λ p. p.0) pair, ap (λ p. p.1) pair)

-- one place has one byte
pub apart : (a b : ℕ) (text xs ys : List ℕ) → a ≢ b → text ≡ a ∷ xs → text ≡ b ∷ ys → ⊥
apart a b text xs ys differ one two = let same : a ≡ b = cc in differ same

pub behind_byte : (a : ℕ) (text xs ys : List ℕ) → text ≡ a ∷ xs → text ≡ a ∷ ys → xs ≡ ys
behind_byte a text xs ys one two = cc

-- a name, a comma, and more names
next_name : (here name behind next : List ℕ) → name_at here ≡ Some (name, behind) → past_blanks behind ≡ 44 ∷ next → (more : List (List ℕ)) (rest : List ℕ) → SpellsNames here more rest → (others : List (List ℕ)) × SpellsNames (past_blanks next) others rest
next_name here name behind next named comma [] rest spelled = absurd spelled
next_name here name behind next named comma (x ∷ []) rest (b, e, close) =
    let same = same_name here x b name behind e named in
    absurd (apart 125 44 (past_blanks b) rest next (omega arith) close (ap past_blanks same.1 ∙ comma))
next_name here name behind next named comma (x ∷ y ∷ others) rest (b, n, e, c, spelled) =
    let same = same_name here x b name behind e named in
    let left = behind_byte 44 (past_blanks b) n next c (ap past_blanks same.1 ∙ comma) in
    let P : List ℕ → Type 0 = λ t. SpellsNames (past_blanks t) (y ∷ others) rest in
    (y ∷ others, subst P left spelled)

-- A name and a comma have been read.
pub names_more : (table : List (List ℕ)) (start here : List ℕ) (letter : Letter) (name behind next : List ℕ) → NamesRead table start here letter → name_at here ≡ Some (name, behind) → past_blanks behind ≡ 44 ∷ next → NamesRead table start (past_blanks next) (with_member table letter name)
names_more table start here letter name behind next read named comma = record {
  onward = λ names rest spelled.
      let left = read.onward names rest spelled in
      next_name here name behind next named comma left.0 rest left.1;
  back = λ more rest spelled. names_back more rest spelled;
}
  where
    names_back : (more : List (List ℕ)) (rest : List ℕ) → SpellsNames (past_blanks next) more rest → (names : List (List ℕ)) × SpellsNames start names rest × (fold (with_member table) (with_member table letter name) more ≡ letter_of table names)
    names_back [] rest spelled = absurd spelled
    names_back (y ∷ others) rest spelled = read.back (name ∷ y ∷ others) rest (behind, next, named, comma, spelled)

-- A name and the closing brace have been read.
pub names_all : (table : List (List ℕ)) (start here : List ℕ) (letter : Letter) (name behind rest : List ℕ) → NamesRead table start here letter → name_at here ≡ Some (name, behind) → past_blanks behind ≡ 125 ∷ rest → (names : List (List ℕ)) × SpellsNames start names rest × (with_member table letter name ≡ letter_of table names)
names_all table start here letter name behind rest read named close = read.back (name ∷ []) rest (behind, named, close)

no_names : (here : List ℕ) → name_at here ≡ None → (more : List (List ℕ)) (rest : List ℕ) → ¬ SpellsNames here more rest
no_names here none [] rest spelled = spelled
no_names here none (x ∷ []) rest (b, e, close) = cc
no_names here none (x ∷ y ∷ others) rest (b, n, e, c, spelled) = cc

-- No name stands here.
pub names_lack : (table : List (List ℕ)) (start here : List ℕ) (letter : Letter) → NamesRead table start here letter → name_at here ≡ None → (names : List (List ℕ)) (rest : List ℕ) → ¬ SpellsNames start names rest
names_lack table start here letter read none names rest spelled =
    let left = read.onward names rest spelled in
    no_names here none left.0 rest left.1

no_end : (here name behind : List ℕ) → name_at here ≡ Some (name, behind) → ((next : List ℕ) → past_blanks behind ≢ 125 ∷ next) → ((next : List ℕ) → past_blanks behind ≢ 44 ∷ next) → (more : List (List ℕ)) (rest : List ℕ) → ¬ SpellsNames here more rest
no_end here name behind named no_close no_comma [] rest spelled = spelled
no_end here name behind named no_close no_comma (x ∷ []) rest (b, e, close) =
    let same = same_name here x b name behind e named in
    no_close rest (ap past_blanks (sym same.1) ∙ close)
no_end here name behind named no_close no_comma (x ∷ y ∷ others) rest (b, n, e, c, spelled) =
    let same = same_name here x b name behind e named in
    no_comma n (ap past_blanks (sym same.1) ∙ c)

-- Neither a comma nor a closing brace stands behind the name.
pub names_break : (table : List (List ℕ)) (start here : List ℕ) (letter : Letter) (name behind : List ℕ) → NamesRead table start here letter → name_at here ≡ Some (name, behind) → ((next : List ℕ) → past_blanks behind ≢ 125 ∷ next) → ((next : List ℕ) → past_blanks behind ≢ 44 ∷ next) → (names : List (List ℕ)) (rest : List ℕ) → ¬ SpellsNames start names rest
names_break table start here letter name behind read named no_close no_comma names rest spelled =
    let left = read.onward names rest spelled in
    no_end here name behind named no_close no_comma left.0 rest left.1

-- ---- a set is known by its text

-- no name begins with a closing brace
no_brace_name : (rest : List ℕ) → name_at (125 ∷ rest) ≡ None
no_brace_name rest = refl

pub no_brace : (here rest : List ℕ) → here ≡ 125 ∷ rest → (names : List (List ℕ)) (end : List ℕ) → ¬ SpellsNames here names end
no_brace here rest brace = no_names here (ap name_at brace ∙ no_brace_name rest)

same_names : (here : List ℕ) (names others : List (List ℕ)) (rest end : List ℕ) → SpellsNames here names rest → SpellsNames here others end → rest ≡ end
same_names here [] others rest end one two = absurd one
same_names here (x ∷ []) [] rest end one two = absurd two
same_names here (x ∷ []) (y ∷ []) rest end (b, e, close) (c, f, shut) =
    behind_byte 125 (past_blanks b) rest end close (ap past_blanks (same_name here x b y c e f).1 ∙ shut)
same_names here (x ∷ []) (y ∷ z ∷ others) rest end (b, e, close) (c, n, f, comma, two) =
    absurd (apart 125 44 (past_blanks b) rest n (omega arith) close (ap past_blanks (same_name here x b y c e f).1 ∙ comma))
same_names here (x ∷ w ∷ names) [] rest end one two = absurd two
same_names here (x ∷ w ∷ names) (y ∷ []) rest end (b, n, e, comma, one) (c, f, shut) =
    absurd (apart 44 125 (past_blanks b) n end (omega arith) comma (ap past_blanks (same_name here x b y c e f).1 ∙ shut))
same_names here (x ∷ w ∷ names) (y ∷ z ∷ others) rest end (b, n, e, comma, one) (c, m, f, other, two) =
    let left = behind_byte 44 (past_blanks b) n m comma (ap past_blanks (same_name here x b y c e f).1 ∙ other) in
    let P : List ℕ → Type 0 = λ t. SpellsNames (past_blanks t) (w ∷ names) rest in
    same_names (past_blanks m) (w ∷ names) (z ∷ others) rest end (subst P left one) two

-- ---- a set whose names have been read

no_members : (text inner : List ℕ) → text ≡ 123 ∷ inner → ((rest : List ℕ) → past_blanks inner ≢ 125 ∷ rest) → ((names : List (List ℕ)) (rest : List ℕ) → ¬ SpellsNames (past_blanks inner) names rest) → (names : List (List ℕ)) (rest : List ℕ) → ¬ SpellsSet text names rest
no_members text inner brace not_empty none [] rest (other, e, members) =
    not_empty rest (ap past_blanks (behind_byte 123 text inner other brace e) ∙ members)
no_members text inner brace not_empty none (x ∷ names) rest (other, e, members) =
    let P : List ℕ → Type 0 = λ t. SpellsNames (past_blanks t) (x ∷ names) rest in
    none (x ∷ names) rest (subst P (behind_byte 123 text other inner e brace) members)

some_members : (text inner : List ℕ) → text ≡ 123 ∷ inner → (names : List (List ℕ)) (rest : List ℕ) → SpellsNames (past_blanks inner) names rest → SpellsSet text names rest
some_members text inner brace [] rest spelled = absurd spelled
some_members text inner brace (x ∷ names) rest spelled = (inner, brace, spelled)

-- Behind the opening brace the set is not empty, and its names are found or not.
pub set_found : (table : List (List ℕ)) (text inner : List ℕ) (found : Option SetRead) → text ≡ 123 ∷ inner → ((rest : List ℕ) → past_blanks inner ≢ 125 ∷ rest) → IsMembersFound table (past_blanks inner) found → IsSetFound table text found
set_found table text inner None brace not_empty none = no_members text inner brace not_empty none
set_found table text inner (Some found) brace not_empty (names, spelled, e) = (names, some_members text inner brace names found.rest.now spelled, e)

-- A text has one set at its front.
pub same_set : (text : List ℕ) (names others : List (List ℕ)) (rest end : List ℕ) → SpellsSet text names rest → SpellsSet text others end → rest ≡ end
same_set text [] [] rest end (inner, brace, one) (more, braced, two) =
    behind_byte 125 (past_blanks inner) rest end one (ap past_blanks (behind_byte 123 text inner more brace braced) ∙ two)
same_set text [] (y ∷ others) rest end (inner, brace, one) (more, braced, two) =
    let P : List ℕ → Type 0 = λ t. SpellsNames (past_blanks t) (y ∷ others) end in
    absurd (no_brace (past_blanks inner) rest one (y ∷ others) end (subst P (behind_byte 123 text more inner braced brace) two))
same_set text (x ∷ names) [] rest end (inner, brace, one) (more, braced, two) =
    let P : List ℕ → Type 0 = λ t. SpellsNames (past_blanks t) (x ∷ names) rest in
    absurd (no_brace (past_blanks more) end two (x ∷ names) rest (subst P (behind_byte 123 text inner more brace braced) one))
same_set text (x ∷ names) (y ∷ others) rest end (inner, brace, one) (more, braced, two) =
    let P : List ℕ → Type 0 = λ t. SpellsNames (past_blanks t) (y ∷ others) end in
    same_names (past_blanks inner) (x ∷ names) (y ∷ others) rest end one (subst P (behind_byte 123 text more inner braced brace) two)
