-- Lassos and runs that were printed are texts.
use Rattle.std.proofs.Common.{◌≡◌, ◌≢◌, ℕ, suc, ◌<◌, Bool, true, false, List, [], ◌∷◌, ◌++◌, length, map, refl, sym, ◌∙◌, ap, subst, arith, append_assoc, ◌⊎◌, inl, inr}
use Rattle.std.specs.Prelude.{decimal, codes}
use Rattle.std.specs.List.{flat_map, join_with_byte}
use Rattle.std.proofs.lemmas.List.{length-map}
use Rattle.hy_bits.specs.Letter.{Letter}
use Rattle.hy_formula.specs.Lassos.{Lasso}
use Rattle.hy_formula.proofs.Each.{each-append}
use Rattle.hy_text.specs.Names.{AreNames}
use Rattle.hy_lasso.specs.LassoLines.{SaysLasso}
use Rattle.hy_lasso.specs.Printed.{printed_line, printed_lasso, printed_lassos, spelled_of}
use Rattle.hy_lasso.specs.Words.{AreLassos}
use Rattle.hy_lasso.proofs.PrintedLines.{line_no_feed, line_says}
use Rattle.aig_net.specs.RunTexts.{digit, row_text, rows_text, run_text, runs_text}
use Rattle.aig_net.specs.declared.run.Run.{Run}
use Rattle.cert_text.specs.declared.question.Question.{Question}
use Rattle.cert_text.specs.declared.question.Question.TheVariants.{Formula, Implication, Equivalence, Circuit}
use Rattle.cert_text.specs.Lines.{Line, Say}
use Rattle.cert_text.specs.RunLines.{SaysRow, SaysStem, SaysCycle, SaysRun, SayRuns}
use Rattle.cert_text.specs.Certificates.{Side, first, second, model, runs, SayLassos, holds_line, side_line, Spells, satisfiable, not_implied, not_equivalent, shown}
use Rattle.cert_text.specs.Texts.{IsText, ended}
use Rattle.cert_text.specs.Printed.{IsPrintableRun, ArePrintableRuns}
use Rattle.cert_text.proofs.Joining.{Lacks, EachLacks, IsFree, AreFree, lacks_nil, lacks_cons, split_joined, joined_lacks, decimal_lacks, lacks_feed}
use Rattle.cert_text.proofs.OneFault.{ended_both}
use Rattle.cert_text.proofs.PrintedLines.{word_lacks, free_words, spelled_number, holds_free, texts_end, free_lines_of, say_lines_of, lines_text}

-- ---- rows

-- a byte that is neither a digit of rows nor a dash
pub record IsApart (byte : ℕ) : Type 0 where
  pub dash : 45 ≢ byte
  pub zero_digit : 48 ≢ byte
  pub one_digit : 49 ≢ byte

digits_lack : (byte : ℕ) (row : List Bool) → IsApart byte → Lacks byte (map digit row)
digits_lack byte [] apart = lacks_nil byte
digits_lack byte (true ∷ row) apart =
    lacks_cons byte 49 (map digit row) apart.one_digit (digits_lack byte row apart)
digits_lack byte (false ∷ row) apart =
    lacks_cons byte 48 (map digit row) apart.zero_digit (digits_lack byte row apart)

row_lacks : (byte : ℕ) (row : List Bool) → IsApart byte → Lacks byte (row_text row)
row_lacks byte [] apart = lacks_cons byte 45 [] apart.dash (lacks_nil byte)
row_lacks byte (b ∷ row) apart = digits_lack byte (b ∷ row) apart

rows_lack : (byte : ℕ) (rows : List (List Bool)) → IsApart byte
    → EachLacks byte (map row_text rows)
rows_lack byte [] apart = tt
rows_lack byte (row ∷ rows) apart = (row_lacks byte row apart, rows_lack byte rows apart)

text_lacks : (byte : ℕ) (rows : List (List Bool)) → IsApart byte → 59 ≢ byte
    → Lacks byte (rows_text rows)
text_lacks byte rows apart joint = joined_lacks byte 59 (map row_text rows) joint (rows_lack byte
    rows apart)

-- one below the dash, or above the digits
apart_from : (byte : ℕ) → (byte < 45) ⊎ (49 < byte) → IsApart byte
apart_from byte (inl below) = record {
  dash = λ e. absurd (omega (arith, below, e));
  zero_digit = λ e. absurd (omega (arith, below, e));
  one_digit = λ e. absurd (omega (arith, below, e));
}
apart_from byte (inr above) = record {
  dash = λ e. absurd (omega (arith, above, e));
  zero_digit = λ e. absurd (omega (arith, above, e));
  one_digit = λ e. absurd (omega (arith, above, e));
}

space_apart : IsApart 32
space_apart = apart_from 32 (inl (omega arith))

feed_apart : IsApart 10
feed_apart = apart_from 10 (inl (omega arith))

bar_apart : IsApart 124
bar_apart = apart_from 124 (inr (omega arith))

joint_apart : IsApart 59
joint_apart = apart_from 59 (inr (omega arith))

rows_say : (rows : List (List Bool)) → Say SaysRow (map row_text rows) rows
rows_say [] = tt
rows_say (row ∷ rows) = (refl, rows_say rows)

cycle_says : (row : List Bool) (rows : List (List Bool))
    → SaysCycle (rows_text (row ∷ rows)) (row ∷ rows)
cycle_says row rows =
    let cut = split_joined 59 (row_text row) (map row_text rows) (rows_lack 59 (row ∷ rows)
    joint_apart) in
    let P : List (List ℕ) → Type 0 = λ ps. Say SaysRow ps (row ∷ rows) in
    subst P (sym cut) (rows_say (row ∷ rows))

some_cycle_says : (rows : List (List Bool)) → 0 < length rows → SaysCycle (rows_text rows) rows
some_cycle_says [] some = absurd (omega arith)
some_cycle_says (row ∷ rows) some = cycle_says row rows

stem_says : (rows : List (List Bool)) → SaysStem (rows_text rows) rows
stem_says [] = refl
stem_says (row ∷ rows) = cycle_says row rows

-- ---- runs

-- the stem and the cycle of a run, with a bar between them
abbrev steps_text : Run → List ℕ
steps_text run = join_with_byte 124 (rows_text run.stem ∷ rows_text run.cycle ∷ [])

abbrev run_line : Run → Line
run_line run = join_with_byte 32 (row_text run.first ∷ steps_text run ∷ [])

run_ends : (run : Run) → run_text run ≡ run_line run ++ 10 ∷ []
run_ends run = simp append_assoc

steps_lack : (byte : ℕ) (run : Run) → IsApart byte → 59 ≢ byte → 124 ≢ byte
    → Lacks byte (steps_text run)
steps_lack byte run apart joint bar =
    joined_lacks byte 124 (rows_text run.stem ∷ rows_text run.cycle ∷ []) bar
    (text_lacks byte run.stem apart joint, (text_lacks byte run.cycle apart joint, tt))

run_lacks : (byte : ℕ) (run : Run) → IsApart byte → 59 ≢ byte → 124 ≢ byte
    → EachLacks byte (row_text run.first ∷ steps_text run ∷ [])
run_lacks byte run apart joint bar =
    (row_lacks byte run.first apart, (steps_lack byte run apart joint bar, tt))

run_free : (run : Run) → IsPrintableRun run → Lacks 10 (run_line run)
run_free run some =
    free_words (row_text run.first ∷ steps_text run ∷ [])
    (run_lacks 10 run feed_apart (λ e. absurd (omega (arith, e))) (λ e. absurd (omega (arith, e))))

run_says : (run : Run) → IsPrintableRun run → SaysRun (run_line run) run
run_says run some = (
  row_text run.first,
  steps_text run,
  rows_text run.stem,
  rows_text run.cycle,
  split_joined 32 (row_text run.first) (steps_text run ∷ [])
      (run_lacks 32 run space_apart (λ e. absurd (omega (arith, e))) (λ e. absurd (omega
      (arith, e)))),
  split_joined 124 (rows_text run.stem) (rows_text run.cycle ∷ []) (
    text_lacks 124 run.stem bar_apart (λ e. absurd (omega (arith, e))),
    (text_lacks 124 run.cycle bar_apart (λ e. absurd (omega (arith, e))), tt),
  ),
  refl,
  stem_says run.stem,
  some_cycle_says run.cycle some,
)

abbrev head_words : List Run → List (List ℕ)
head_words tuple = codes "proof" ∷ codes "runs" ∷ decimal (length tuple) ∷ []

abbrev runs_lines : List Run → List Line
runs_lines tuple = join_with_byte 32 (head_words tuple) ∷ map run_line tuple

head_lacks : (byte : ℕ) (tuple : List Run) → byte < 33 → ArePrintableRuns tuple
    → EachLacks byte (head_words tuple)
head_lacks byte tuple low are =
    let count = decimal_lacks byte (length tuple) (omega arith) are.count in (
      word_lacks byte (codes "proof") low refl,
      (
        word_lacks byte (codes "runs") low refl,
        (count, tt),
      ),
    )

runs_end : (tuple : List Run) → runs_text tuple ≡ ended (runs_lines tuple)
runs_end tuple =
    let head : codes "proof runs " ++ decimal (length tuple) ++ codes "\n"
    ≡ join_with_byte 32 (head_words tuple) ++ 10 ∷ [] = simp append_assoc in
    ap (λ t. t ++ flat_map run_text tuple) head
    ∙ ap (λ t. (join_with_byte 32 (head_words tuple) ++ 10 ∷ []) ++ t)
    (texts_end run_line run_text run_ends tuple)

runs_free : (tuple : List Run) → ArePrintableRuns tuple → AreFree (runs_lines tuple)
runs_free tuple are = (
  lacks_feed (join_with_byte 32 (head_words tuple))
      (free_words (head_words tuple) (head_lacks 10 tuple (omega arith) are)),
  free_lines_of run_line IsPrintableRun run_free tuple are.each,
)

runs_said : (tuple : List Run) → ArePrintableRuns tuple → SayRuns (runs_lines tuple) tuple
runs_said tuple are = record {
  head = join_with_byte 32 (head_words tuple);
  rest = map run_line tuple;
  parts = refl;
  counts = (
    decimal (length tuple),
    split_joined 32 (codes "proof") (codes "runs" ∷ decimal (length tuple) ∷ [])
        (head_lacks 32 tuple (omega arith) are),
    spelled_number (length tuple) are.count,
  );
  each = say_lines_of run_line IsPrintableRun SaysRun run_says tuple are.each;
}

-- ---- lassos

abbrev lasso_lines : List (List ℕ) → List (Lasso Letter) → List Line
lasso_lines table list = map (printed_line table) list

lassos_end : (table : List (List ℕ)) (list : List (Lasso Letter))
    → printed_lassos table list ≡ ended (lasso_lines table list)
lassos_end table [] = refl
lassos_end table (l ∷ list) = ap (λ t. printed_lasso table l ++ t) (lassos_end table list)

lassos_free : (table : List (List ℕ)) (list : List (Lasso Letter)) → AreNames table
    → AreFree (lasso_lines table list)
lassos_free table [] names = tt
lassos_free table (l ∷ list) names =
    (lacks_feed (printed_line table l) (line_no_feed table l names), lassos_free table list names)

lassos_say : (table : List (List ℕ)) (list : List (Lasso Letter)) → AreNames table
    → AreLassos list → Say SaysLasso (lasso_lines table list) (map (spelled_of table) list)
lassos_say table [] names are = tt
lassos_say table (l ∷ list) names are = (
  line_says table l names (are 0 (omega arith)),
  lassos_say table list names (λ v lt. are (suc v) (omega arith)),
)

lassos_said : (table : List (List ℕ)) (list : List (Lasso Letter)) → AreNames table
    → 0 < length list → AreLassos list
    → SayLassos (lasso_lines table list) (map (spelled_of table) list)
lassos_said table list names some are =
    (lassos_say table list names are, omega (arith, some, length-map list (spelled_of table)))

-- ---- texts

pub printed_runs : (table : List (List ℕ)) (holds : Bool) (list : List (Lasso Letter))
    (tuple : List Run) → AreNames table → 0 < length list → AreLassos list
    → ArePrintableRuns tuple
    → IsText Circuit (holds_line holds ++ codes "\n" ++ printed_lassos table list ++ runs_text tuple)
    (runs holds (map (spelled_of table) list) tuple)
printed_runs table holds list tuple names some are printable =
    let lines = lasso_lines table list in
    let certificate = runs holds (map (spelled_of table) list) tuple in
    let text = lines_text Circuit (holds_line holds ∷ (lines ++ runs_lines tuple)) certificate (
      holds_free holds,
      each-append IsFree lines (runs_lines tuple) (lassos_free table list names)
          (runs_free tuple printable),
    )
    (shown lines (runs_lines tuple) refl (lassos_said table list names some are)
    (runs_said tuple printable)) in
    let front = holds_line holds ++ codes "\n" in
    let bytes : front ++ printed_lassos table list ++ runs_text tuple
    ≡ ended (holds_line holds ∷ (lines ++ runs_lines tuple)) =
    append_assoc front (printed_lassos table list) (runs_text tuple)
    ∙ ap (λ t. front ++ (t ++ runs_text tuple)) (lassos_end table list)
    ∙ ap (λ t. front ++ (ended lines ++ t)) (runs_end tuple)
    ∙ ap (λ t. front ++ t) (sym (ended_both lines (runs_lines tuple))) in
    let P : List ℕ → Type 0 = λ b. IsText Circuit b certificate in
    subst P (sym bytes) text

-- Lassos alone, behind the line of an answer.
model_text : (table : List (List ℕ)) (list : List (Lasso Letter)) (question : Question)
    (line : Line) (side : Side) → AreNames table → IsFree line
    → Spells (line ∷ lasso_lines table list) question (model side (map (spelled_of table) list))
    → IsText question (line ++ codes "\n" ++ printed_lassos table list)
    (model side (map (spelled_of table) list))
model_text table list question line side names free spelled =
    let text = lines_text question (line ∷ lasso_lines table list)
    (model side (map (spelled_of table) list)) (free, lassos_free table list names) spelled in
    let P : List ℕ → Type 0 = λ b. IsText question (line ++ codes "\n" ++ b)
    (model side (map (spelled_of table) list)) in
    subst P (sym (lassos_end table list)) text

pub printed_sat : (table : List (List ℕ)) (list : List (Lasso Letter)) → AreNames table
    → 0 < length list → AreLassos list
    → IsText Formula (codes "sat\n" ++ printed_lassos table list)
    (model first (map (spelled_of table) list))
printed_sat table list names some are =
    model_text table list Formula (codes "sat") first names refl
    (satisfiable (lasso_lines table list) refl (lassos_said table list names some are))

pub printed_not_implied : (table : List (List ℕ)) (list : List (Lasso Letter)) → AreNames table
    → 0 < length list → AreLassos list
    → IsText Implication (codes "not implied\n" ++ printed_lassos table list)
    (model first (map (spelled_of table) list))
printed_not_implied table list names some are =
    model_text table list Implication (codes "not implied") first names refl
    (not_implied (lasso_lines table list) refl (lassos_said table list names some are))

side_free : (side : Side) → IsFree (side_line side)
side_free first = refl
side_free second = refl

pub printed_not_equivalent : (table : List (List ℕ)) (side : Side) (list : List (Lasso Letter))
    → AreNames table → 0 < length list → AreLassos list
    → IsText Equivalence (side_line side ++ codes "\n" ++ printed_lassos table list)
    (model side (map (spelled_of table) list))
printed_not_equivalent table side list names some are =
    model_text table list Equivalence (side_line side) side names (side_free side)
    (not_equivalent (lasso_lines table list) refl (lassos_said table list names some are))
