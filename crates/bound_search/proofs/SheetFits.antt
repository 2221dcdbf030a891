-- Which gates the sheets of bodies are drawn by.
use Rattle.std.proofs.Common.{◌≡◌, ℕ, ◌+◌, ◌*◌, ◌^◌, ◌<◌, ◌≤◌, Bool, true, false, cond, List, [], ◌∷◌, length, get_or, replicate, take, refl, sym, ap, ◌∙◌, subst, arith}
use Rattle.std.specs.Prelude.{ℤ}
use Rattle.std.proofs.lemmas.List.{length-map}
use Rattle.std.proofs.Math.Nat.{pow-zero}
use Rattle.hy_base.specs.Rows.{listed}
use Rattle.hy_base.proofs.Listed.{length-listed}
use Rattle.hy_formula.proofs.Each.{each-like, each-map, each-place}
use Rattle.chain_check.specs.Clauses.{IsLiteral}
use Rattle.bound_search.specs.declared.frame.Frame.{Frame}
use Rattle.bound_search.specs.declared.sheets.Sheet.{Sheet}
use Rattle.bound_search.specs.Drawings.{Drawing, plain, sure, never}
use Rattle.bound_search.specs.Rows.{Row}
use Rattle.bound_search.specs.Shapes.{Shape, constant, atom, one, two, is_temporal_one, is_temporal_two}
use Rattle.bound_search.specs.Sheets.{with_all, variables_in, place_among, tuple_at, row_of, sheet_for, by_choice, of_one, of_two, constant_sheet, sheet, first_places, firsts_of, first_sheet, more_gates, sheet_gates, first_gates}
use Rattle.bound_search.proofs.Atoms.{EachAtom}
use Rattle.bound_search.proofs.Fitting.{Fits, fits-plain, fits-followed, fits-later, fits-either-way, literal-more}
use Rattle.bound_search.proofs.Listing.{AreMany, many-later, fits-listing}
use Rattle.bound_search.proofs.Picking.{IsChoice, pow-one, each-listed, member-below, place-below, tuple-choice}
use Rattle.bound_search.proofs.RowFits.{IsRow, row-more, row-same, row-one, never-literal, sure-literal, fits-by-one, fits-by-two}

module _ (frame : Frame) (some : 0 < frame.traces) (w : ℕ) where
  abbrev n : ℕ
  n = frame.traces

  -- A row of literals of the first m variables stands there for each choice for these variables.
  pub record IsSheetFor (variables : List ℕ) (m : ℕ) (sheet : Sheet) : Type 0 where
    pub own : sheet.variables ≡ variables
    pub rows : AreMany (IsRow w) (n ^ length variables) m sheet.rows

  abbrev later : (m o : ℕ) (row : Row) → m ≤ o → IsRow w m row → IsRow w o row
  later m o row le r = row-more w m o row le r

  sheet-later : (variables : List ℕ) (m o : ℕ) (sheet : Sheet) → m ≤ o →
      IsSheetFor variables m sheet → IsSheetFor variables o sheet
  sheet-later variables m o sheet le s = record {
    own = s.own;
    rows = many-later (IsRow w) later _ m o sheet.rows le s.rows;
  }

  row-there : (variables : List ℕ) (m : ℕ) (sheet : Sheet) → IsSheetFor variables m sheet →
      (k : ℕ) → k < n ^ length variables → IsRow w m (get_or sheet.rows k [])
  row-there variables m sheet s k lt =
      each-place (IsRow w m) sheet.rows [] s.rows.each k (omega (arith, s.rows.many))

  pub row-chosen : (variables : List ℕ) (m : ℕ) (sheet : Sheet) → IsSheetFor variables m sheet →
      (tuple : List ℕ) → IsChoice frame tuple → IsRow w m (row_of frame sheet tuple)
  row-chosen variables m sheet s tuple choice =
      let P : List ℕ → Type 0 = λ vs. IsRow w m (get_or sheet.rows (place_among n vs tuple) []) in
      subst P (sym s.own) (row-there variables m sheet s _
      (place-below n some tuple (member-below n some tuple choice.1) variables))

  fits-sheet-for : (variables : List ℕ) (each : ℕ → Drawing Row) (m g t : ℕ) →
      t ≡ n ^ length variables → ((k : ℕ) → k < t → Fits (each k) m g (IsRow w)) →
      Fits (sheet_for variables each t) m (n ^ length variables * g) (IsSheetFor variables)
  fits-sheet-for variables each m g t e h =
      fits-followed _ _ m (t * g) 0 _ (AreMany (IsRow w) t) (IsSheetFor variables)
      (ap (λ z. z * g + 0) e ∙ omega arith)
      (fits-listing (IsRow w) later each m g t h)
      (λ o rows le r. fits-plain _ o (IsSheetFor variables) (λ u up. record {
        own = refl;
        rows =
            let P : ℕ → Type 0 = λ z. AreMany (IsRow w) z u rows in
            subst P e (many-later (IsRow w) later t o u rows up r);
      }))

  -- What is drawn by a row takes g gates.
  abbrev FitsOne : (Row → Drawing Row) → ℕ → Type 0
  FitsOne draw g = (m : ℕ) (row : Row) → 0 < m → IsRow w m row → Fits (draw row) m g (IsRow w)

  abbrev FitsTwo : (Row → Row → Drawing Row) → ℕ → Type 0
  FitsTwo draw g = (m : ℕ) (left right : Row) → 0 < m → IsRow w m left → IsRow w m right →
      Fits (draw left right) m g (IsRow w)

  fits-one : (variables : List ℕ) (part : Drawing Sheet) (draw : Row → Drawing Row) (m i g : ℕ) →
      0 < m → FitsOne draw g → Fits part m i (IsSheetFor variables) →
      Fits (of_one part draw) m (more_gates n i variables g) (IsSheetFor variables)
  fits-one variables part draw m i g up h p =
      fits-followed _ _ m i (n ^ length variables * g) _ (IsSheetFor variables)
      (IsSheetFor variables) refl p (λ o sheet le s.
      let P : List ℕ → Type 0 = λ vs. Fits (sheet_for vs
      (λ place. draw (get_or sheet.rows place [])) (length sheet.rows)) o
      (n ^ length variables * g) (IsSheetFor variables) in
      subst P (sym s.own) (fits-sheet-for variables _ o g (length sheet.rows) s.rows.many
      (λ k lt. h o (get_or sheet.rows k []) (omega arith)
      (row-there variables o sheet s k (omega (arith, lt, s.rows.many))))))

  fits-choice : (first second : List ℕ) (draw : Row → Row → Drawing Row) (m g : ℕ) → 0 < m →
      FitsTwo draw g → (left right : Sheet) → IsSheetFor first m left →
      IsSheetFor second m right →
      Fits (by_choice frame draw left right) m (n ^ length (with_all first second) * g)
      (IsSheetFor (with_all first second))
  fits-choice first second draw m g up h left right l r =
      let P : List ℕ → Type 0 = λ vs. Fits (sheet_for vs (λ place.
      draw (row_of frame left (tuple_at frame vs place))
      (row_of frame right (tuple_at frame vs place))) (n ^ length vs)) m
      (n ^ length (with_all first second) * g) (IsSheetFor (with_all first second)) in
      let same : with_all left.variables right.variables ≡ with_all first second =
      ap (λ vs. with_all vs right.variables) l.own ∙ ap (with_all first) r.own in
      subst P (sym same) (fits-sheet-for _ _ m g _ refl (λ k lt.
      let choice = tuple-choice frame some (with_all first second) k in
      h m _ _ up (row-chosen first m left l _ choice) (row-chosen second m right r _ choice)))

  fits-two : (first second : List ℕ) (p q : Drawing Sheet) (draw : Row → Row → Drawing Row)
      (m i j g : ℕ) → 0 < m → FitsTwo draw g → Fits p m i (IsSheetFor first) →
      Fits q m j (IsSheetFor second) → Fits (of_two frame p q draw) m
      (more_gates n (i + j) (with_all first second) g) (IsSheetFor (with_all first second))
  fits-two first second p q draw m i j g up h before after =
      let own : ℕ = n ^ length (with_all first second) * g in
      fits-followed _ _ m i (j + own) _ (IsSheetFor first) (IsSheetFor (with_all first second))
      (omega arith) before (λ o left le l.
      fits-followed _ _ o j own (j + own) (IsSheetFor second)
      (IsSheetFor (with_all first second)) refl
      (fits-later q m o j _ le after) (λ u right more r.
      fits-choice first second draw u g (omega arith) h left right
      (sheet-later first o u left more l) r))

  fits-atom : (m : ℕ) (letters : ℕ → Row) (v : ℕ) → ((t : ℕ) → t < n → IsRow w m (letters t)) →
      Fits (plain (record { variables = v ∷ []; rows = listed 0 n letters })) m 0
      (IsSheetFor (v ∷ []))
  fits-atom m letters v h = fits-plain _ m (IsSheetFor (v ∷ [])) (λ o le. record {
    own = refl;
    rows = record {
      many = length-listed 0 n letters ∙ sym (pow-one n);
      each = each-listed (IsRow w o) letters 0 n (λ t _ lt.
          row-more w m o (letters t) le (h t (omega (arith, lt))));
    };
  })

-- ---- bodies

module _ (frame : Frame) (some : 0 < frame.traces) (c m : ℕ) (up : 0 < m) (gone : 0 < c)
    (whole : frame.places ≡ frame.stem + c) (letters : ℕ → ℕ → Row) where
  abbrev s : ℕ
  s = frame.stem

  abbrev w : ℕ
  w = frame.stem + c

  abbrev gates : Shape → ℕ
  gates = sheet_gates frame.traces w c

  -- The sheet of the part takes as many gates as are counted.
  abbrev pub FitsPart : Shape → Type 0
  FitsPart f = Fits (sheet frame letters f) m (gates f) (IsSheetFor frame some w (variables_in f))

  -- The letters of each atom are rows of the first m variables.
  abbrev pub AreRows : Shape → Type 0
  AreRows f = EachAtom (λ name v. (t : ℕ) → t < frame.traces → IsRow w m (letters name t)) f

  literal : (value : Bool) → IsLiteral m (cond value sure never)
  literal true = sure-literal m up
  literal false = never-literal m up

  fits-constant : (value : Bool) →
      Fits (plain (constant_sheet frame value)) m 0 (IsSheetFor frame some w [])
  fits-constant value = fits-plain _ m (IsSheetFor frame some w []) (λ o le.
      let l : ℤ = cond value sure never in
      let P : ℕ → Type 0 = λ z. IsRow w o (replicate z l) in
      let row = row-same w o l (literal-more m o l le (literal value)) in
      record {
        own = refl;
        rows = record { many = sym (pow-zero frame.traces); each = (subst P (sym whole) row, tt) };
      })

  pub fits-sheet : (f : Shape) → AreRows f → FitsPart f
  fits-sheet (constant value) h = fits-constant value
  fits-sheet (atom name v) h = fits-atom frame some w m (letters name) v h
  fits-sheet (one op f) h =
      fits-one frame some w (variables_in f) _ _ m (gates f) _ up
      (λ o row less r. fits-by-one s c o less gone op row r) (fits-sheet f h)
  fits-sheet (two op f g) h =
      fits-two frame some w (variables_in f) (variables_in g) _ _ _ m (gates f) (gates g) _ up
      (λ o left right less p q. fits-by-two s c o less gone op left right p q) (fits-sheet f h.0)
      (fits-sheet g h.1)

  -- ---- first places

  abbrev first : Shape → ℕ
  first = first_gates frame.traces w c

  abbrev pub FitsFirst : Shape → Type 0
  FitsFirst f =
      Fits (first_sheet frame letters f) m (first f) (IsSheetFor frame some 1 (variables_in f))

  fits-firsts : (f : Shape) → AreRows f →
      Fits (firsts_of (sheet frame letters f)) m (gates f)
      (IsSheetFor frame some 1 (variables_in f))
  fits-firsts f h =
      fits-followed _ _ m (gates f) 0 (gates f) (IsSheetFor frame some w (variables_in f))
      (IsSheetFor frame some 1 (variables_in f)) (omega arith) (fits-sheet f h) (λ o part le s.
      fits-plain (first_places part) o (IsSheetFor frame some 1 (variables_in f)) (λ u more.
      record {
        own = s.own;
        rows = record {
          many = length-map part.rows (take 1) ∙ s.rows.many;
          each = each-map (IsRow 1 u) (take 1) part.rows (each-like (IsRow w o) _
              (λ row r. row-more 1 o u _ more (row-one w o row (omega arith) r)) part.rows
              s.rows.each);
        };
      }))

  pub fits-first-sheet : (f : Shape) → AreRows f → FitsFirst f
  fits-first-sheet (constant value) h = fits-firsts (constant value) h
  fits-first-sheet (atom name v) h = fits-firsts (atom name v) h
  fits-first-sheet (one op f) h =
      fits-either-way (is_temporal_one op) _ _ m _ _ _ (fits-firsts (one op f) h)
      (fits-one frame some 1 (variables_in f) _ _ m (first f) _ up
      (λ o row less r. fits-by-one 0 1 o less (omega arith) op row r) (fits-first-sheet f h))
  fits-first-sheet (two op f g) h =
      fits-either-way (is_temporal_two op) _ _ m _ _ _ (fits-firsts (two op f g) h)
      (fits-two frame some 1 (variables_in f) (variables_in g) _ _ _ m (first f) (first g) _ up
      (λ o left right less p q. fits-by-two 0 1 o less (omega arith) op left right p q)
      (fits-first-sheet f h.0) (fits-first-sheet g h.1))
