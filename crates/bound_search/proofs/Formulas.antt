-- What is drawn for a formula says whether the lassos that the members spell satisfy it.
use Rattle.std.proofs.Common.{◌≡◌, ℕ, zero, suc, ◌+◌, ◌*◌, ◌<◌, ◌≤◌, true, List, [], ◌∷◌, length, map, get_or, refl, sym, ap, ◌∙◌, subst, arith}
use Rattle.std.specs.Prelude.{ℤ}
use Rattle.std.specs.FinSet.{contains}
use Rattle.std.proofs.lemmas.Bool.Decides.{Decides-at}
use Rattle.std.proofs.lemmas.List.{length-map}
use Rattle.hy_base.proofs.Places.{below-row}
use Rattle.hy_base.proofs.Truths.{decides-itself}
use Rattle.hy_bits.specs.Letter.{Letter}
use Rattle.hy_formula.specs.Lassos.{Lasso}
use Rattle.hy_formula.specs.Trees.{Tree, vars_below}
use Rattle.hy_formula.specs.Temporal.{Words, Repeats}
use Rattle.hy_formula.specs.declared.prefix.Quant.{Quant}
use Rattle.hy_formula.specs.Quantifiers.{Quantified}
use Rattle.hy_formula.proofs.Each.{each-place}
use Rattle.hy_lasso.specs.Joint.{IsPeriod}
use Rattle.hy_lasso.specs.Words.{no_lasso, letter_at, lasso_words, Meets}
use Rattle.hy_lasso.proofs.LassoWords.{tuple-repeats}
use Rattle.hy_base.specs.Rows.{listed}
use Rattle.hy_base.proofs.Listed.{at-map}
use Rattle.chain_check.specs.Clauses.{IsLiteral}
use Rattle.chain_check.specs.Values.{Assignment}
use Rattle.bound_search.specs.declared.bound.Bound.{Bound}
use Rattle.bound_search.specs.Bounds.{IsBound, IsShort}
use Rattle.bound_search.specs.Names.{names_of, name_place}
use Rattle.bound_search.specs.declared.frame.Frame.{Frame}
use Rattle.bound_search.specs.declared.sheets.Sheet.{Sheet}
use Rattle.bound_search.specs.Rows.{Row, first_or}
use Rattle.bound_search.specs.Choices.{chosen_gates}
use Rattle.bound_search.specs.Shapes.{Shape, shape_of}
use Rattle.bound_search.specs.Sheets.{variables_in, row_of, first_gates}
use Rattle.bound_search.specs.Drawings.{never}
use Rattle.bound_search.specs.Queries.{round, places, variables_of_member, letter_variable, first_gate, letters_row, frame_of, tuple_literal, formula_literal}
use Rattle.bound_search.proofs.Atoms.{EachAtom, atoms-like}
use Rattle.bound_search.proofs.RightGates.{Gives, gives-plain, gives-followed}
use Rattle.bound_search.proofs.Shapes.{tree-shaped}
use Rattle.bound_search.proofs.Saying.{Says, says-variable}
use Rattle.bound_search.proofs.Telling.{IsTold, told-listed}
use Rattle.bound_search.proofs.SheetRows.{IsAtomTold, TellsSheet, row-told, first-sheet-told}
use Rattle.bound_search.proofs.Picking.{IsChoice}
use Rattle.bound_search.proofs.Fitting.{Fits, fits-plain, fits-followed, literal-more}
use Rattle.bound_search.proofs.RowFits.{IsRow, first-literal}
use Rattle.bound_search.proofs.SheetFits.{IsSheetFor, row-chosen, fits-first-sheet}
use Rattle.bound_search.proofs.Choosing.{IsMember, says-chosen, fits-chosen}
use Rattle.bound_search.proofs.Naming.{IsAtomOf, own-atoms, place-within}
use Rattle.bound_search.specs.Spelling.{Spells}
use Rattle.bound_search.proofs.Rounds.{common-some, common-multiple}

module _ (bound : Bound) (ok : IsBound bound) (prefix : List Quant) (body : Tree)
    (known : vars_below (length prefix) body ≡ true) where
  abbrev names : List ℕ
  names = names_of body

  abbrev shape : Shape
  shape = shape_of body

  abbrev frame : Frame
  frame = frame_of bound (length prefix)

  -- one number of a member for each variable
  abbrev pub Chosen : List ℕ → Type 0
  Chosen tuple = IsChoice frame tuple

  member-of : (tuple : List ℕ) → Chosen tuple → (v : ℕ) → v < length tuple →
      get_or tuple v 0 < bound.traces
  member-of tuple (long, each) v lt = each-place (λ k. k < bound.traces) tuple 0 each v lt

  -- ---- the gates

  pub letter-below : (t r i : ℕ) → t < bound.traces → r < length names → i < places bound →
      letter_variable names bound t r i < first_gate names bound
  letter-below t r i few there lt =
      let inner = below-row (places bound) i r (length names) lt there in
      let outer = below-row (variables_of_member names bound) (r * places bound + i) t bound.traces
      (omega (arith, inner)) few in
      omega (arith, outer)

  literals-listed : (n : ℕ) (f : ℕ → ℤ) (i w : ℕ) →
      ((k : ℕ) → i ≤ k → k < i + w → IsLiteral n (f k)) → IsRow w n (listed i w f)
  literals-listed n f i zero all = record { long = refl; literals = tt }
  literals-listed n f i (suc w) all =
      let rest = literals-listed n f (suc i) w (λ k from lt. all k (omega arith) (omega arith)) in
      record {
        long = ap suc rest.long;
        literals = (all i (omega arith) (omega arith), rest.literals);
      }

  abbrev first : ℕ
  first = first_gate names bound

  letters-right : (name v : ℕ) → IsAtomOf names (length prefix) name v → (t : ℕ) →
      t < bound.traces → IsRow (places bound) first (letters_row names bound name t)
  letters-right name v (there, lt) t few =
      let place = place-within name names there in
      literals-listed first _ 0 (places bound) (λ i _ within.
      let below = letter-below t (name_place name names) i few place
      (omega (arith, within)) in
      (omega arith, omega (arith, below)))

  -- The literal of a tuple is one of its sheet.
  fits-tuple : (m : ℕ) → 0 < m → (sheet : Sheet) →
      IsSheetFor frame ok.some_traces 1 (variables_in shape) m sheet →
      (tuple : List ℕ) → Chosen tuple → Fits (tuple_literal frame sheet tuple) m 0 IsLiteral
  fits-tuple m up sheet s tuple choice =
      let row = row_of frame sheet tuple in
      let r = row-chosen frame ok.some_traces 1 (variables_in shape) m sheet s tuple
      choice in
      fits-plain (first_or never row) m IsLiteral (λ o le.
      literal-more m o (first_or never row) le
      (first-literal 1 m never row (omega arith, omega arith) r))

  pub fits-formula : Fits (formula_literal names bound prefix body) first
      (first_gates bound.traces (places bound) (round bound) shape
      + chosen_gates bound.traces 0 (length prefix)) IsLiteral
  fits-formula =
      fits-followed _ _ first (first_gates bound.traces (places bound) (round bound) shape)
      (chosen_gates bound.traces 0 (length prefix)) _
      (IsSheetFor frame ok.some_traces 1 (variables_in shape)) IsLiteral refl
      (fits-first-sheet frame ok.some_traces (round bound) first (omega arith)
      (common-some bound.cycle ok.short_cycle) refl (letters_row names bound) shape
      (atoms-like (IsAtomOf names (length prefix)) _ letters-right shape (own-atoms
      (length prefix) body known)))
      (λ m sheet le s. fits-chosen bound.traces m 0 (omega arith) prefix _
      (λ tuple long each. fits-tuple m (omega arith) sheet s tuple (long, each)))

  -- ---- what the literals say

  module _ (a : Assignment) (sure_is : a 0 ≡ true) (member : ℕ → Lasso Letter)
      (short : (t : ℕ) → t < bound.traces → IsShort bound (member t))
      (spells : (t : ℕ) → t < bound.traces → Spells a names bound t (member t)) where
    -- the lassos chosen
    abbrev tuple_of : List ℕ → List (Lasso Letter)
    tuple_of tuple = map member tuple

    chosen-at : (tuple : List ℕ) (v : ℕ) → v < length tuple →
        get_or (tuple_of tuple) v no_lasso ≡ member (get_or tuple v 0)
    chosen-at tuple v lt = at-map member 0 no_lasso tuple v lt

    period : (tuple : List ℕ) → Chosen tuple →
        IsPeriod (tuple_of tuple) bound.stem (round bound)
    period tuple choice =
        let long : length (tuple_of tuple) ≡ length tuple = length-map tuple member in
        record {
          some = common-some bound.cycle ok.short_cycle;
          stems = λ v lt.
              let there : v < length tuple = omega (arith, long, lt) in
              let few = (short _ (member-of tuple choice v there)).stem in
              let P : Lasso Letter → Type 0 = λ l. length l.stem ≤ bound.stem in
              subst P (sym (chosen-at tuple v there)) few;
          cycles = λ v lt.
              let there : v < length tuple = omega (arith, long, lt) in
              let own = short _ (member-of tuple choice v there) in
              let P : Lasso Letter → Type 0 =
              λ l. Rattle.hy_lasso.specs.Joint.IsMultiple (round bound) (length l.cycle) in
              subst P (sym (chosen-at tuple v there))
              (common-multiple bound.cycle _ own.some own.cycle ok.short_cycle);
        }

    abbrev words : List ℕ → Words
    words tuple = lasso_words (tuple_of tuple)

    repeats : (tuple : List ℕ) → Chosen tuple → Repeats (words tuple) bound.stem (round bound)
    repeats tuple choice = tuple-repeats _ bound.stem (round bound) (period tuple choice)

    alike : (t u : List ℕ) → Chosen t → Chosen u → (v : ℕ) → v < length prefix →
        get_or t v 0 ≡ get_or u v 0 → (name : ℕ) → words t name v ≡ words u name v
    alike t u choice other v lt same name =
        let here = chosen-at t v (omega (arith, lt, choice.0)) in
        let there = chosen-at u v (omega (arith, lt, other.0)) in
        ap (λ (l : Lasso Letter). λ (i : ℕ). contains (letter_at l i) name)
        (here ∙ ap member same ∙ sym there)

    atom-told : (name v : ℕ) → IsAtomOf names (length prefix) name v →
        IsAtomTold a sure_is frame ok.some_traces (round bound) refl words repeats alike
        (letters_row names bound) name v
    atom-told name v (there, lt) = (
      lt,
      λ tuple choice.
          let short : v < length tuple = omega (arith, lt, choice.0) in
          let t : ℕ = get_or tuple v 0 in
          told-listed a _ _ (places bound) (λ i within.
          says-variable a (letter_variable names bound t (name_place name names) i) _
          (Decides-at _ _ (spells t (member-of tuple choice v short) name there i within
          ∙ ap (λ l. contains (letter_at l i) name) (sym (chosen-at tuple v short)))
          (decides-itself _))),
    )

    first-says : (P : ℕ → Type 0) (n : ℕ) (row : Row) → 0 < n → IsTold a P 0 n row →
        Says a (first_or never row) (P 0)
    first-says P n [] some t = absurd (omega (arith, t.long))
    first-says P n (l ∷ row) some t = t.told.0

    abbrev atoms : EachAtom (IsAtomTold a sure_is frame ok.some_traces (round bound) refl words repeats alike
        (letters_row names bound)) shape
    atoms = atoms-like _ _ atom-told shape (own-atoms (length prefix) body known)

    says-tuple : (sheet : Sheet) →
        TellsSheet a sure_is frame ok.some_traces (round bound) refl words repeats alike
        (letters_row names bound) 1 shape sheet → (tuple : List ℕ) → Chosen tuple →
        Gives a (tuple_literal frame sheet tuple) (λ l. Says a l (Meets body (tuple_of tuple)))
    says-tuple sheet t tuple choice =
        let row : Row = row_of frame sheet tuple in
        let P : Tree → Type 0 = λ f. Says a (first_or never row) (Meets f (tuple_of tuple)) in
        gives-plain a _ _ (subst P (tree-shaped body) (first-says _ 1 row (omega arith)
        (row-told a sure_is frame ok.some_traces (round bound) refl words repeats alike
        (letters_row names bound) 1 shape atoms sheet t tuple choice)))

    pub says-formula : Gives a (formula_literal names bound prefix body)
        (λ l. Says a l (Quantified (IsMember bound.traces member) (Meets body) prefix))
    says-formula =
        gives-followed a _ _ _ _
        (first-sheet-told a sure_is frame ok.some_traces (round bound) refl words repeats alike
        (letters_row names bound) shape atoms)
        (λ sheet t. says-chosen a sure_is bound.traces member prefix _ (Meets body)
        (λ tuple long each. says-tuple sheet t tuple (long, each)))
