-- Rows of truth values as digits, and the parts of runs.
use Rattle.std.proofs.Common.{◌≡◌, ◌≢◌, ℕ, ◌↔◌, Bool, true, false, ◌||◌, nat_eq, List, [], ◌∷◌, ◌++◌, append_assoc, map, refl, sym, ◌∙◌, ap, subst, Option, Some, None}
use Rattle.std.specs.Prelude.{IsTrue, codes}
use Rattle.std.specs.List.{list_all}
use Rattle.std.proofs.lemmas.Bool.{and_parts, and_from, eqb-true}
use Rattle.aig_net.specs.declared.run.Run.{Run}
use Rattle.aig_net.specs.RunTexts.{digit, row_text}
use Rattle.hy_text.specs.Cuts.{cut_at}
use Rattle.cert_text.specs.Lines.{words_of, Say, Speaks, IsSaid}
use Rattle.cert_text.specs.LineParts.{AreRunParts, is_binary}
use Rattle.cert_text.specs.RunLines.{SaysRow, SaysStem, SaysCycle, SaysRun}
use Rattle.cert_text.proofs.Cutting.{pieces_some}
use Rattle.cert_text.proofs.WordsRead.{each_said, said_each, each_step}

digit-of : (b : ℕ) (x y : Bool) → nat_eq b 48 ≡ x → nat_eq b 49 ≡ y → (x || y) ≡ true
    → (bit : Bool) × (b ≡ digit bit)
digit-of b true y zero one some = (false, eqb-true b 48 zero)
digit-of b false true zero one some = (true, eqb-true b 49 one)
digit-of b false false zero one some = absurd (cc)

digits-said : (word : List ℕ) → list_all is_binary word ≡ true
    → (row : List Bool) × (word ≡ map digit row)
digits-said [] all = ([], refl)
digits-said (b ∷ word) all =
    let (here, more) = and_parts (is_binary b) (list_all is_binary word) all in
    let (bit, is) = digit-of b (nat_eq b 48) (nat_eq b 49) refl refl here in
    let (row, rest) = digits-said word more in
    (bit ∷ row, ap (λ x. x ∷ word) is ∙ ap (λ w. digit bit ∷ w) rest)

binary : (bit : Bool) → is_binary (digit bit) ≡ true
binary true = refl
binary false = refl

said-digits : (row : List Bool) → list_all is_binary (map digit row) ≡ true
said-digits [] = refl
said-digits (bit ∷ row) =
    and_from (is_binary (digit bit)) (list_all is_binary (map digit row)) (binary bit)
    (said-digits row)

-- a word that is neither empty nor a dash
pub row_said : (word : List ℕ) (b : Bool) → word ≢ [] → word ≢ codes "-"
    → b ≡ list_all is_binary word → IsTrue b ↔ Speaks SaysRow word
row_said word b some plain is = (
  λ yes. row (digits-said word (sym is ∙ yes)),
  λ (bits, says). is ∙ digits bits says,
)
  where
    row : (bits : List Bool) × (word ≡ map digit bits) → Speaks SaysRow word
    row ([], e) = absurd (some e)
    row (bit ∷ bits, e) = (bit ∷ bits, e)

    digits : (bits : List Bool) → SaysRow word bits → list_all is_binary word ≡ true
    digits [] dash = absurd (plain dash)
    digits (bit ∷ bits) e =
        let P : List ℕ → Type 0 = λ w. list_all is_binary w ≡ true in
        subst P (sym e) (said-digits (bit ∷ bits))

pub no_row : ¬ Speaks SaysRow []
no_row ([], dash) = absurd (cc)
no_row (bit ∷ bits, e) = absurd (cc)

-- ---- runs

-- Where a stem has rows, they are as those of a cycle.
pub stem_is : (text : List ℕ) → text ≢ [] → (rows : List (List Bool))
    → SaysStem text rows ↔ SaysCycle text rows
stem_is text some [] =
    (λ none. absurd (some none), λ said. absurd (no_rows (cut_at 59 text) refl said))
  where
    no_rows : (ps : List (List ℕ)) → cut_at 59 text ≡ ps → ¬ Say SaysRow ps []
    no_rows [] e said = pieces_some 59 text e
    no_rows (p ∷ ps) e said = said
stem_is text some (row ∷ rows) = (λ said. said, λ said. said)

pub stem_said : (text : List ℕ) (b : Bool) → text ≢ [] → IsTrue b ↔ Speaks SaysCycle text
    → IsTrue b ↔ Speaks SaysStem text
stem_said text b some is = (
  λ yes. let (rows, says) = is.0 yes in (rows, (stem_is text some rows).1 says),
  λ (rows, says). is.1 (rows, (stem_is text some rows).0 says),
)

pub stem_read : (text : List ℕ) (found : Option (List (List Bool))) → text ≢ []
    → IsSaid SaysCycle text found → IsSaid SaysStem text found
stem_read text None some none = λ (rows, says). none (rows, (stem_is text some rows).0 says)
stem_read text (Some rows) some says = (stem_is text some rows).1 says

-- The parts of a run are those of its second word, at the bar.
parts-at : (line first rows one stem cycle : List ℕ) → words_of line ≡ first ∷ rows ∷ []
    → AreRunParts line one stem cycle → cut_at 124 rows ≡ stem ∷ cycle ∷ []
parts-at line first rows one stem cycle words are =
    let both = sym words ∙ are.words in
    let same : rows ≡ are.rows = cc in
    ap (cut_at 124) same ∙ are.parts

pub one_word_parts : (line : List ℕ) → ((one two : List ℕ) → words_of line ≢ one ∷ two ∷ [])
    → (first stem cycle : List ℕ) → ¬ AreRunParts line first stem cycle
one_word_parts line none first stem cycle are = none first are.rows are.words

pub no_bar : (line first rows : List ℕ) → words_of line ≡ first ∷ rows ∷ []
    → cut_at 124 rows ≡ rows ∷ [] → (one stem cycle : List ℕ) → ¬ AreRunParts line one stem cycle
no_bar line first rows words alone one stem cycle are =
    let clash = sym alone ∙ parts-at line first rows one stem cycle words are in
    let none : [] ≡ cycle ∷ [] = cc in cc

pub more_bars : (line first rows stem cycle : List ℕ) → words_of line ≡ first ∷ rows ∷ []
    → cut_at 124 rows ≡ stem ∷ cut_at 124 cycle
    → ((round : List ℕ) → cut_at 124 cycle ≢ round ∷ [])
    → (one other round : List ℕ) → ¬ AreRunParts line one other round
more_bars line first rows stem cycle words parts bar one other round are =
    let whole = sym parts ∙ parts-at line first rows one other round words are in
    let rest : cut_at 124 cycle ≡ round ∷ [] = cc in
    bar round rest

pub one_bar : (line first rows stem cycle : List ℕ) → words_of line ≡ first ∷ rows ∷ []
    → cut_at 124 rows ≡ stem ∷ cut_at 124 cycle → cut_at 124 cycle ≡ cycle ∷ []
    → AreRunParts line first stem cycle
one_bar line first rows stem cycle words parts alone =
    record { rows = rows; words = words; parts = parts ∙ ap (λ l. stem ∷ l) alone }

-- What the parts of a run say is what the line says.
pub parts_say : (line first stem cycle : List ℕ) (run : Run) → AreRunParts line first stem cycle
    → SaysRow first run.first → SaysStem stem run.stem → SaysCycle cycle run.cycle
    → SaysRun line run
parts_say line first stem cycle run are row before round =
    (first, are.rows, stem, cycle, are.words, are.parts, row, before, round)

pub said_parts : (line first stem cycle : List ℕ) (run : Run) → AreRunParts line first stem cycle
    → SaysRun line run
    → SaysRow first run.first × SaysStem stem run.stem × SaysCycle cycle run.cycle
said_parts line first stem cycle run are (
  one,
  two,
  other,
  last,
  words,
  parts,
  row,
  before,
  round,
) =
    let both = sym words ∙ are.words in
    let first_is : one ≡ first = cc in
    let rows_is : two ≡ are.rows = cc in
    let halves : other ∷ last ∷ [] ≡ stem ∷ cycle ∷ [] =
    sym parts ∙ ap (cut_at 124) rows_is ∙ are.parts in
    let stem_is : other ≡ stem = cc in
    let cycle_is : last ≡ cycle = cc in
    let F : List ℕ → Type 0 = λ t. SaysRow t run.first in
    let S : List ℕ → Type 0 = λ t. SaysStem t run.stem in
    let C : List ℕ → Type 0 = λ t. SaysCycle t run.cycle in
    (subst F first_is row, subst S stem_is before, subst C cycle_is round)

pub no_run : (line : List ℕ) → ((first stem cycle : List ℕ) → ¬ AreRunParts line first stem cycle)
    → ¬ Speaks SaysRun line
no_run line none (run, (first, rows, stem, cycle, words, parts, row, before, round)) =
    none first stem cycle (record { rows = rows; words = words; parts = parts })

pub run_said : (line first stem cycle : List ℕ) (b : Bool) → AreRunParts line first stem cycle
    → Speaks SaysRow first → Speaks SaysStem stem → IsTrue b ↔ Speaks SaysCycle cycle
    → IsTrue b ↔ Speaks SaysRun line
run_said line first stem cycle b are (row, row_says) (stems, stem_says) is = (
  λ yes. whole (is.0 yes),
  λ (run, says). is.1 (run.cycle, (said_parts line first stem cycle run are says).2),
)
  where
    whole : Speaks SaysCycle cycle → Speaks SaysRun line
    whole (rows, says) =
        let run : Run = record { first = row; stem = stems; cycle = rows } in
        (run, parts_say line first stem cycle run are row_says stem_says says)

-- ---- rows as they are read

same-bits : (row : List Bool) → map (λ b. nat_eq b 49) (map digit row) ≡ row
same-bits [] = refl
same-bits (true ∷ row) = ap (λ l. true ∷ l) (same-bits row)
same-bits (false ∷ row) = ap (λ l. false ∷ l) (same-bits row)

pub row_read : (word : List ℕ) (row : List Bool) → Speaks SaysRow word → word ≢ codes "-"
    → row ≡ map (λ b. nat_eq b 49) word → SaysRow word row
row_read word row ([], dash) apart is = absurd (apart dash)
row_read word row (bit ∷ bits, says) apart is =
    says ∙ ap row_text (sym (is ∙ ap (map (λ b. nat_eq b 49)) says ∙ same-bits (bit ∷ bits)))

-- The rows so far, and what they and those behind them are together.
pub record AreRead (text left : List ℕ) (rows : List (List Bool)) : Type 0 where
  pub back : Speaks SaysCycle text → Speaks SaysCycle left
  pub front : (more : List (List Bool)) → SaysCycle left more → SaysCycle text (rows ++ more)

pub none_read : (text : List ℕ) (rows : List (List Bool)) → rows ≡ [] → AreRead text text rows
none_read text rows none =
    let P : List (List Bool) → Type 0 = AreRead text text in
    subst P (sym none) (record { back = λ said. said; front = λ more said. said })

pub more_read : (text left rest piece : List ℕ) (rows added : List (List Bool)) (row : List Bool)
    → AreRead text left rows → cut_at 59 left ≡ piece ∷ cut_at 59 rest → SaysRow piece row
    → added ≡ rows ++ row ∷ [] → AreRead text rest added
more_read text left rest piece rows added row are cut says is = record {
  back = λ said. behind (are.back said);
  front = λ more said.
      let S : List (List ℕ) → Type 0 = λ ps. Say SaysRow ps (row ∷ more) in
      let T : List (List Bool) → Type 0 = SaysCycle text in
      let whole : T (rows ++ row ∷ more) = are.front (row ∷ more) (subst S (sym cut) (says, said)) in
      subst T (sym (append_assoc rows (row ∷ []) more) ∙ ap (λ l. l ++ more) (sym is)) whole;
}
  where
    behind : Speaks SaysCycle left → Speaks SaysCycle rest
    behind (all, said) =
        each_said SaysRow (cut_at 59 rest)
        ((each_step SaysRow (cut_at 59 left) (cut_at 59 rest) piece cut (row, says)).0
        (said_each SaysRow (cut_at 59 left) all said))
