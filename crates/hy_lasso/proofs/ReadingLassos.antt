-- The parts of a lasso line, and that it says one lasso.
use Rattle.std.proofs.Common.{◌≡◌, ◌≢◌, ℕ, ◌≤◌, Bool, true, false, nat_eq, List, [], ◌∷◌, ◌++◌, length, map, take, Option, Some, None, MatchOption, IfSome, IfNone, sym, ap, ◌∙◌, subst, refl, arith}
use Rattle.std.proofs.lemmas.List.{take_all, length-map}
use Rattle.std.proofs.lemmas.Bool.{eqb-true}
use denote.Ref.{Bor}
use Rattle.hy_bits.specs.Letter.{Letter}
use Rattle.hy_formula.specs.Lassos.{Lasso}
use Rattle.hy_text.specs.Bytes.{past_blanks}
use Rattle.hy_text.specs.Sets.{letter_of}
use Rattle.hy_text.specs.Words.{SpellsWord}
use Rattle.hy_text.proofs.Once.{one-word}
use Rattle.hy_text.proofs.ReadingSets.{apart, behind_byte}
use Rattle.hy_lasso.specs.LassoLines.{Spelled, lasso_of, SpellsStem, SpellsLasso, SaysLasso, IsLassoSaid}
use Rattle.hy_lasso.specs.LineParts.{IsStemFound, IsCycleFound}

-- all letters are kept
pub all_kept : (table : List (List ℕ)) (sets : List (List (List ℕ))) (most : ℕ)
    (old letters : List Letter) → old ≡ [] → length sets ≤ most
    → letters ≡ old ++ take most (map (letter_of table) sets) → letters ≡ map (letter_of table) sets
all_kept table sets most old letters none few kept =
    kept ∙ ap (λ l. l ++ take most (map (letter_of table) sets)) none
    ∙ take_all most (map (letter_of table) sets) (omega (arith, length-map sets (letter_of table)))

-- ---- stems

-- A set does not begin with a bar.
word_no_bar : (text : List ℕ) (sets : List (List (List ℕ))) (end rest : List ℕ)
    → SpellsWord text sets end → text ≢ 124 ∷ rest
word_no_bar text [] end rest spelled bar = absurd spelled
word_no_bar text (names ∷ []) end rest (behind, (inner, brace, members), blank, bare) bar =
    apart 123 124 text inner rest (omega arith) brace bar
word_no_bar text (names ∷ more ∷ sets) end rest
    (behind, next, (inner, brace, members), blank, tail) bar =
    apart 123 124 text inner rest (omega arith) brace bar

pub no_stem : (text : List ℕ) → ((rest : List ℕ) → text ≢ 124 ∷ rest)
    → ((sets : List (List (List ℕ))) (rest : List ℕ) → ¬ SpellsWord text sets rest)
    → (sets : List (List (List ℕ))) (rest : List ℕ) → ¬ SpellsStem text sets rest
no_stem text no_bar no_word [] rest bar = no_bar rest bar
no_stem text no_bar no_word (names ∷ sets) rest spelled =
    no_word (names ∷ sets) (124 ∷ rest) spelled

-- A text has one stem at its front.
pub one_stem : (text : List ℕ) (sets others : List (List (List ℕ))) (rest end : List ℕ)
    → SpellsStem text sets rest → SpellsStem text others end → (sets ≡ others) × (rest ≡ end)
one_stem text [] [] rest end one two = (refl, behind_byte 124 text rest end one two)
one_stem text [] (y ∷ others) rest end one two =
    absurd (word_no_bar text (y ∷ others) (124 ∷ end) rest two one)
one_stem text (x ∷ sets) [] rest end one two =
    absurd (word_no_bar text (x ∷ sets) (124 ∷ rest) end one two)
one_stem text (x ∷ sets) (y ∷ others) rest end one two =
    let (same, behind) = one-word text (x ∷ sets) (y ∷ others) (124 ∷ rest) (124 ∷ end) one two in
    (same, behind_byte 124 (124 ∷ rest) rest end refl behind)

-- A word stands at the front, and behind it no bar.
no_stem_behind : (text : List ℕ) (sets : List (List (List ℕ))) (end : List ℕ)
    → ((rest : List ℕ) → text ≢ 124 ∷ rest) → SpellsWord text sets end
    → ((rest : List ℕ) → end ≢ 124 ∷ rest)
    → (others : List (List (List ℕ))) (rest : List ℕ) → ¬ SpellsStem text others rest
no_stem_behind text sets end no_bar word none [] rest bar = no_bar rest bar
no_stem_behind text sets end no_bar word none (y ∷ others) rest spelled =
    none rest (one-word text sets (y ∷ others) end (124 ∷ rest) word spelled).1

-- A word stands at the front, and behind it a bar or none.
pub stem_found : (table : List (List ℕ)) (text : List ℕ) (letters : List Letter)
    (sets : List (List (List ℕ))) (end : List ℕ) (found : Option (Bor (List ℕ)))
    → ((rest : List ℕ) → text ≢ 124 ∷ rest) → SpellsWord text sets end
    → letters ≡ map (letter_of table) sets
    → MatchOption found ((rest : List ℕ) → end ≢ 124 ∷ rest) (λ rest. end ≡ 124 ∷ rest.now)
    → IsStemFound table text letters found
stem_found table text letters sets end None no_bar word e none =
    no_stem_behind text sets end no_bar word none
stem_found table text letters [] end (Some rest) no_bar word e bar = absurd word
stem_found table text letters (x ∷ sets) end (Some rest) no_bar word e bar =
    let P : List ℕ → Type 0 = SpellsWord text (x ∷ sets) in (x ∷ sets, subst P bar word, e)

-- ---- cycles

no_bytes : (bytes : List ℕ) → true ≡ nat_eq (length bytes) 0 → bytes ≡ []
no_bytes [] e = refl
no_bytes (b ∷ bytes) e = absurd (omega (arith, eqb-true (length (b ∷ bytes)) 0 (sym e)))

pub cycle_found : (table : List (List ℕ)) (text : List ℕ) (letters : List Letter)
    (sets : List (List (List ℕ))) (end : List ℕ) (is_all : Bool)
    → is_all ≡ nat_eq (length end) 0 → SpellsWord text sets end
    → letters ≡ map (letter_of table) sets → IsCycleFound table text letters is_all
cycle_found table text letters sets end true empty word e =
    let P : List ℕ → Type 0 = SpellsWord text sets in (sets, subst P (no_bytes end empty) word, e)
cycle_found table text letters sets end false more word e = λ others whole.
    let none : nat_eq (length end) 0 ≡ true =
    ap (λ l. nat_eq (length l) 0) (one-word text sets others end [] word whole).1 in
    let clash : false ≡ true = more ∙ none in cc

-- ---- lassos

pub no_lasso : (line : List ℕ)
    → ((sets : List (List (List ℕ))) (rest : List ℕ) → ¬ SpellsStem (past_blanks line) sets rest)
    → (said : Spelled) → ¬ SaysLasso line said
no_lasso line none said (rest, stem, cycle) = none said.stem rest stem

pub no_cycle : (text : List ℕ) (sets : List (List (List ℕ))) (rest : List ℕ)
    → SpellsStem text sets rest
    → ((cycle : List (List (List ℕ))) → ¬ SpellsWord (past_blanks rest) cycle [])
    → (said : Spelled) → ¬ SpellsLasso text said
no_cycle text sets rest stem none said (end, other, cycle) =
    let P : List ℕ → Type 0 = λ t. SpellsWord (past_blanks t) said.cycle [] in
    none said.cycle (subst P (sym (one_stem text sets said.stem rest end stem other).1) cycle)

some_letters : (table : List (List ℕ)) (text : List ℕ) (sets : List (List (List ℕ)))
    (end : List ℕ) (letters : List Letter) → SpellsWord text sets end
    → letters ≡ map (letter_of table) sets → letters ≢ []
some_letters table text [] end letters word e none = absurd word
some_letters table text (x ∷ sets) end letters word e none =
    let clash : map (letter_of table) (x ∷ sets) ≡ [] = sym e ∙ none in cc

pub lasso_found : (table : List (List ℕ)) (line : List ℕ) (stem cycle : List Letter)
    (sets : List (List (List ℕ))) (rest : List ℕ) (found : Option (Lasso Letter))
    → SpellsStem (past_blanks line) sets rest → stem ≡ map (letter_of table) sets
    → IsCycleFound table (past_blanks rest) cycle true
    → IfSome found (λ l. (l.stem ≡ stem) × (l.cycle ≡ cycle)) → IfNone found (cycle ≡ [])
    → IsLassoSaid table line found
lasso_found table line stem cycle sets rest None spelled e (round, word, f) made refused =
    absurd (some_letters table (past_blanks rest) round [] cycle word f refused)
lasso_found table line stem cycle sets rest (Some lasso) spelled e (round, word, f) made refused = (
  record { stem = sets; cycle = round },
  (rest, spelled, word),
  λ i. record { stem = (made.0 ∙ e) i; cycle = (made.1 ∙ f) i },
)

-- A text is one lasso.
pub one_lasso : (text : List ℕ) (said other : Spelled) → SpellsLasso text said
    → SpellsLasso text other → said ≡ other
one_lasso text said other (rest, stem, cycle) (end, front, round) =
    let (same, behind) = one_stem text said.stem other.stem rest end stem front in
    let P : List ℕ → Type 0 = λ t. SpellsWord (past_blanks t) said.cycle [] in
    let (whole, none) = one-word (past_blanks end) said.cycle other.cycle [] []
    (subst P behind cycle) round in
    λ i. record { stem = same i; cycle = whole i }

-- A line says one lasso.
pub one_said : (table : List (List ℕ)) (line : List ℕ) (said : Spelled)
    (found : Option (Lasso Letter)) → SaysLasso line said → IsLassoSaid table line found
    → found ≡ Some (lasso_of table said)
one_said table line said None says none = absurd (none said says)
one_said table line said (Some lasso) says (other, also, is) =
    ap Some (is ∙ ap (lasso_of table) (one_lasso (past_blanks line) other said also says))
