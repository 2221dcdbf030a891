-- What is known of formulas that are read, and of their names.
use Rattle.std.proofs.Common.{ℕ, ◌≤◌, false, Bool, List, [], ◌∷◌, length, refl, ap, arith, length-append}
use Rattle.std.proofs.lemmas.List.Elements.{All-contains, All-nil}
use Rattle.hy_formula.specs.Formulas.{Plain}
use Rattle.hy_formula.specs.Quantifiers.{Each}
use Rattle.hy_formula.proofs.Each.{each-from, each-like}
use Rattle.hy_text.specs.Names.{IsName}
use Rattle.hy_read.specs.Answers.{Answers, read_as}
use Rattle.hy_read.specs.Readings.{IsReading}
use Rattle.hy_read.proofs.ReadFormulas.{all_readings, distinct_names, good_names, old_names}
use Rattle.hy_files.specs.Contents.{IsFormula}
use Rattle.hy_check.specs.Contents.{AreTwo}
use Rattle.cert_laws.specs.GoodTexts.{IsFormulaOver, IsTable}
use Rattle.cert_laws.proofs.Named.{names-grow}

-- The names are those of a table, and the formulas are over it.
pub record AreOver (formulas : List Plain) (names : List (List ℕ)) : Type 0 where
  pub table : IsTable names
  pub over : Each (IsFormulaOver names) formulas

-- Formulas stay over a table that grows.
still-over : (old names : List (List ℕ)) → length old ≤ length names → (formulas : List Plain)
    → Each (IsFormulaOver old) formulas → Each (IsFormulaOver names) formulas
still-over old names few =
    each-like (IsFormulaOver old) (IsFormulaOver names) (λ f over. record {
      some = over.some;
      named = names-grow (length old) (length names) few f.body over.named;
    })

-- a file of one kind, where the names were `old` and then are `new`
record Adds (old new : List (List ℕ)) (formulas : List Plain) : Type 0 where
  pub grown : length old ≤ length new
  pub are : AreOver formulas new

read-adds : (many : Bool) (quantifiers : ℕ) (old new : List (List ℕ)) (bytes : List ℕ)
    (formulas : List Plain) → IsTable old
    → Answers many quantifiers old bytes (read_as formulas new) → Adds old new formulas
read-adds many quantifiers old new bytes formulas table is =
    let (more, grown) = old_names many quantifiers old bytes formulas new is in
    let readings = all_readings many quantifiers old bytes formulas new is in
    record {
      grown = omega (arith, ap length grown, length-append old more);
      are = record {
        table = record {
          are = good_names many quantifiers old bytes formulas new is table.are;
          distinct = distinct_names many quantifiers old bytes formulas new is table.distinct;
        };
        over = each-from (IsFormulaOver new) formulas (λ f among. let reading = All-contains (IsReading quantifiers (length new)) formulas f readings among in
            record { some = omega (arith, reading.some); named = reading.named });
      };
    }

-- ---- formulas that are read

no-names : IsTable []
no-names = record { are = All-nil IsName; distinct = refl }

-- The names of a formula that was read alone are those of a table, and it is over it.
pub formula-over : (quantifiers : ℕ) (bytes : List ℕ) (f : Plain) (names : List (List ℕ)) → IsFormula quantifiers [] bytes f names
    → AreOver (f ∷ []) names
formula-over quantifiers bytes f names is = (read-adds false quantifiers [] names bytes (f ∷ []) no-names is).are

-- So are those of two, one after the other.
pub two-over : (one two : List ℕ) (f g : Plain) (names : List (List ℕ)) → AreTwo one two f g names → AreOver (f ∷ g ∷ []) names
two-over one two f g names (known, is, also) =
    let before = read-adds false 8 [] known one (f ∷ []) no-names is in
    let behind = read-adds false 8 known names two (g ∷ []) before.are.table also in
    let kept = still-over known names behind.grown (f ∷ []) before.are.over in
    record { table = behind.are.table; over = (kept.0, behind.are.over) }
