-- A word has no more sets than its text has bytes.
use Rattle.std.proofs.Common.{◌≡◌, ℕ, suc, ◌≤◌, Bool, true, false, nat_eq, nat_lt, ◌&&◌, if◌then◌else◌, List, [], ◌∷◌, length, drop, Option, Some, None, unwrap_or, codes, ap, arith, length-drop}
use Rattle.std.specs.List.{prefix_len, take_while, starts_with}
use Rattle.hy_text.specs.Bytes.{past_blanks, is_line_blank, is_word_byte, is_quotable, begins_with_letter}
use Rattle.hy_text.specs.Names.{name_at, plain_name_at, quoted_name_at}
use Rattle.hy_text.specs.Sets.{SpellsNames, SpellsMembers, SpellsSet}
use Rattle.hy_text.specs.Words.{SpellsWord}

blanks_short : (text : List ℕ) → length (past_blanks text) ≤ length text
blanks_short text = omega (arith, length-drop (prefix_len is_line_blank text) text)

abbrev when : Bool → List ℕ → List ℕ → Option (List ℕ × List ℕ)
when test name rest = if test then Some (name, rest) else None

-- what stands behind a name, where there is one
behind_short : (test : Bool) (text name : List ℕ) (n : ℕ) (x behind : List ℕ)
    → when test name (drop n text) ≡ Some (x, behind) → length behind ≤ length text
behind_short true text name n x behind e =
    let found : Option (List ℕ × List ℕ) → List ℕ = λ o. (unwrap_or o (x, behind)).1 in
    let same : drop n text ≡ behind = ap found e in
    omega (arith, length-drop n text, ap length same)
behind_short false text name n x behind e = cc

name_short : (text x behind : List ℕ) → name_at text ≡ Some (x, behind)
    → length behind ≤ length text
name_short text x behind e = through (starts_with nat_eq text (codes "\"")) e
  where
    through : (test : Bool)
        → (if test then quoted_name_at text else plain_name_at text) ≡ Some (x, behind)
        → length behind ≤ length text
    through true e =
        let inner = drop 1 text in
        let name = take_while is_quotable inner in
        let rest = drop (length name) inner in
        let ends = nat_lt 0 (length name) && starts_with nat_eq rest (codes "\"") in
        let short = behind_short ends rest name 1 x behind e in
        omega (arith, short, length-drop (length name) inner, length-drop 1 text)
    through false e =
        let name = take_while is_word_byte text in
        behind_short (begins_with_letter name) text name (length name) x behind e

-- what stands behind a byte that follows blanks
past_short : (text : List ℕ) (b : ℕ) (rest : List ℕ) → past_blanks text ≡ b ∷ rest
    → suc (length rest) ≤ length text
past_short text b rest e = omega (arith, ap length e, blanks_short text)

names_short : (text : List ℕ) (names : List (List ℕ)) (rest : List ℕ)
    → SpellsNames text names rest → length rest ≤ length text
names_short text [] rest spelled = absurd spelled
names_short text (x ∷ []) rest (behind, named, close) =
    omega (arith, name_short text x behind named, past_short behind 125 rest close)
names_short text (x ∷ y ∷ names) rest (behind, next, named, comma, more) =
    omega (
      arith,
      name_short text x behind named,
      past_short behind 44 next comma,
      blanks_short next,
      names_short (past_blanks next) (y ∷ names) rest more,
    )

members_short : (text : List ℕ) (names : List (List ℕ)) (rest : List ℕ)
    → SpellsMembers text names rest → length rest ≤ length text
members_short text [] rest close = omega (arith, ap length close)
members_short text (x ∷ names) rest spelled = names_short text (x ∷ names) rest spelled

set_short : (text : List ℕ) (names : List (List ℕ)) (rest : List ℕ) → SpellsSet text names rest
    → suc (length rest) ≤ length text
set_short text names rest (inner, brace, members) =
    omega (
      arith,
      ap length brace,
      blanks_short inner,
      members_short
          (past_blanks inner) names rest members,
    )

pub word_long : (text : List ℕ) (sets : List (List (List ℕ))) (rest : List ℕ)
    → SpellsWord text sets rest → length sets ≤ length text
word_long text [] rest spelled = absurd spelled
word_long text (x ∷ []) rest (behind, set, blank, bare) = omega (arith, set_short text x behind set)
word_long text (x ∷ y ∷ sets) rest (behind, next, set, semicolon, more) =
    omega (
      arith,
      set_short text x behind set,
      past_short behind 59 next semicolon,
      blanks_short next,
      word_long (past_blanks next) (y ∷ sets) rest more,
    )
