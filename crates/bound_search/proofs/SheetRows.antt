-- The rows of a sheet say where the part holds.
use Rattle.std.proofs.Common.{◌≡◌, ℕ, ◌+◌, ◌^◌, ◌<◌, Bool, true, false, cond, nat_eq, List, [], ◌∷◌, length, get_or, replicate, take, refl, sym, ap, ◌∙◌, subst, arith}
use Rattle.std.specs.List.{Contains}
use Rattle.std.proofs.lemmas.Bool.Decides.{Decides-eqb}
use Rattle.std.proofs.lemmas.List.{length-map}
use Rattle.std.proofs.Math.Nat.{mod-eq_of_lt, pow-zero}
use Rattle.hy_base.specs.Rows.{listed}
use Rattle.hy_base.proofs.Listed.{at-listed, at-map, length-listed}
use Rattle.hy_formula.specs.Quantifiers.{Each}
use Rattle.hy_formula.specs.Temporal.{endless, Words, Repeats, SatisfiesAt}
use Rattle.hy_formula.proofs.Each.{each-at}
use Rattle.chain_check.specs.Values.{Assignment}
use Rattle.bound_search.specs.declared.connectives.Binary.{Binary}
use Rattle.bound_search.specs.declared.connectives.Unary.{Unary}
use Rattle.bound_search.specs.declared.frame.Frame.{Frame}
use Rattle.bound_search.specs.declared.sheets.Sheet.{Sheet}
use Rattle.bound_search.specs.Drawings.{Drawing, sure, never}
use Rattle.bound_search.specs.Rows.{Row}
use Rattle.bound_search.specs.Shapes.{Shape, constant, atom, one, two, is_temporal_one, is_temporal_two}
use Rattle.bound_search.specs.Sheets.{with_all, variables_in, place_among, member_at, tuple_at, row_of, sheet_for, of_one, of_two, constant_sheet, sheet, firsts_of, first_sheet}
use Rattle.bound_search.proofs.Agreeing.{satisfies-same}
use Rattle.bound_search.proofs.Atoms.{EachAtom, atoms-like}
use Rattle.bound_search.proofs.Listing.{IsListing, gives-listing}
use Rattle.bound_search.proofs.OperatorRows.{told-at-one, told-at-two, told-by-one, told-by-two}
use Rattle.bound_search.proofs.Picking.{IsChoice, pow-one, member-below, place-below, member-chosen, tuple-member, tuple-choice}
use Rattle.bound_search.proofs.RightGates.{Gives, gives-plain, gives-followed}
use Rattle.bound_search.proofs.Saying.{says-sure, says-never}
use Rattle.bound_search.proofs.Shapes.{shape_tree}
use Rattle.bound_search.proofs.Telling.{IsTold, told-first, told-same}
use Rattle.bound_search.proofs.Variables.{own-variables, each-variable}

-- The words of each tuple repeat after c places from s on, and look at a variable's member alone.
module _ (a : Assignment) (sure_is : a 0 ≡ true) (frame : Frame) (some : 0 < frame.traces) (c : ℕ)
    (whole : frame.places ≡ frame.stem + c) (words : List ℕ → Words)
    (repeats : (tuple : List ℕ) → IsChoice frame tuple → Repeats (words tuple) frame.stem c)
    (alike : (t u : List ℕ) → IsChoice frame t → IsChoice frame u → (v : ℕ) →
    v < frame.quantifiers → get_or t v 0 ≡ get_or u v 0 → (name : ℕ) →
    words t name v ≡ words u name v)
    (letters : ℕ → ℕ → Row) where
  abbrev n : ℕ
  n = frame.traces

  abbrev s : ℕ
  s = frame.stem

  abbrev w : ℕ
  w = frame.stem + c

  -- the row says at the first z places whether the body holds of the tuple
  abbrev pub TellsRow : ℕ → Shape → List ℕ → Row → Type 0
  TellsRow z f tuple = IsTold a (SatisfiesAt endless (words tuple) (shape_tree f)) 0 z

  -- the row at each place says where it holds of the choice there
  pub record TellsSheet (z : ℕ) (f : Shape) (sheet : Sheet) : Type 0 where
    pub variables : sheet.variables ≡ variables_in f
    pub rows : IsListing (λ place. TellsRow z f (tuple_at frame (variables_in f) place)) []
        (n ^ length (variables_in f)) sheet.rows

  -- the variable is one of a quantifier, and the letters of each tuple's member say where it holds
  abbrev pub IsAtomTold : ℕ → ℕ → Type 0
  IsAtomTold name v = (v < frame.quantifiers) × ((tuple : List ℕ) → IsChoice frame tuple →
      TellsRow w (atom name v) tuple (letters name (get_or tuple v 0)))

  abbrev Good : Shape → Type 0
  Good f = EachAtom IsAtomTold f

  variables-below : (f : Shape) → Good f → Each (λ v. v < frame.quantifiers) (variables_in f)
  variables-below f h = each-variable _ f (atoms-like IsAtomTold _ (λ name v k. k.0) f h)

  -- The row for a tuple says where the body holds of it.
  pub row-told : (z : ℕ) (f : Shape) → Good f → (sheet : Sheet) → TellsSheet z f sheet →
      (tuple : List ℕ) → IsChoice frame tuple → TellsRow z f tuple (row_of frame sheet tuple)
  row-told z f h sheet t tuple choice =
      let few : (v : ℕ) → get_or tuple v 0 < n = member-below n some tuple choice.1 in
      let vs : List ℕ = variables_in f in
      let place : ℕ = place_among n vs tuple in
      let u : List ℕ = tuple_at frame vs place in
      let below = variables-below f h in
      let agree : EachAtom (λ name v. words u name v ≡ words tuple name v) f =
      atoms-like (λ name v. Contains vs v) _ (λ name v there.
      let lt = each-at _ vs v below there in
      alike u tuple (tuple-choice frame some vs place) choice v lt
      (tuple-member frame some vs place v lt ∙ member-chosen n some tuple few vs v there) name) f
      (own-variables f) in
      let P : List ℕ → Type 0 = λ l. TellsRow z f tuple (get_or sheet.rows (place_among n l tuple) []) in
      let Q : (ℕ → Type 0) → Type 0 = λ S. IsTold a S 0 z (get_or sheet.rows place []) in
      subst P (sym t.variables) (subst Q (satisfies-same (words u) (words tuple) f agree)
      (t.rows.each place (place-below n some tuple few vs)))

  -- ---- one sheet by others

  told-sheet : (z : ℕ) (f : Shape) (each : ℕ → Drawing Row) (t : ℕ) →
      t ≡ n ^ length (variables_in f) → ((k : ℕ) → k < t →
      Gives a (each k) (TellsRow z f (tuple_at frame (variables_in f) k))) →
      Gives a (sheet_for (variables_in f) each t) (TellsSheet z f)
  told-sheet z f each t e h =
      gives-followed a _ _ _ _ (gives-listing _ [] a each t h) (λ rows l.
      gives-plain a _ _ (record {
        variables = refl;
        rows =
            let P : ℕ → Type 0 = λ m.
            IsListing (λ place. TellsRow z f (tuple_at frame (variables_in f) place)) [] m rows in
            subst P e l;
      }))

  -- The rows of an operator are drawn from those of its parts.
  told-one : (z : ℕ) (op : Unary) (f : Shape) (drawn : Drawing Sheet) (draw : Row → Drawing Row) →
      ((tuple : List ℕ) (row : Row) → IsChoice frame tuple → TellsRow z f tuple row →
      Gives a (draw row) (TellsRow z (one op f) tuple)) → Gives a drawn (TellsSheet z f) →
      Gives a (of_one drawn draw) (TellsSheet z (one op f))
  told-one z op f drawn draw h p =
      gives-followed a _ _ _ _ p (λ part t.
      let P : List ℕ → Type 0 = λ vs.
      Gives a (sheet_for vs (λ place. draw (get_or part.rows place [])) (length part.rows))
      (TellsSheet z (one op f)) in
      subst P (sym t.variables) (told-sheet z (one op f) _ (length part.rows) t.rows.many
      (λ k lt. h _ _ (tuple-choice frame some (variables_in f) k)
      (t.rows.each k (omega (arith, lt, t.rows.many))))))

  told-two : (z : ℕ) (op : Binary) (f g : Shape) (first second : Drawing Sheet)
      (draw : Row → Row → Drawing Row) → Good (two op f g) →
      ((tuple : List ℕ) (left right : Row) → IsChoice frame tuple → TellsRow z f tuple left →
      TellsRow z g tuple right → Gives a (draw left right) (TellsRow z (two op f g) tuple)) →
      Gives a first (TellsSheet z f) → Gives a second (TellsSheet z g) →
      Gives a (of_two frame first second draw) (TellsSheet z (two op f g))
  told-two z op f g first second draw good each p q =
      gives-followed a _ _ _ _ p (λ left t. gives-followed a _ _ _ _ q (λ right u.
      let P : List ℕ → Type 0 = λ vs. Gives a (sheet_for vs (λ place.
      draw (row_of frame left (tuple_at frame vs place))
      (row_of frame right (tuple_at frame vs place))) (n ^ length vs)) (TellsSheet z (two op f g)) in
      let all : with_all left.variables right.variables ≡ variables_in (two op f g) =
      ap (λ vs. with_all vs right.variables) t.variables
      ∙ ap (with_all (variables_in f)) u.variables in
      subst P (sym all) (told-sheet z (two op f g) _ _ refl (λ k lt.
      let choice = tuple-choice frame some (variables_in (two op f g)) k in
      each _ _ _ choice (row-told z f good.0 left t _ choice)
      (row-told z g good.1 right u _ choice)))))

  constant-told : (value : Bool) (tuple : List ℕ) →
      TellsRow w (constant value) tuple (replicate w (cond value sure never))
  constant-told true tuple = told-same a _ _ (says-sure a sure_is) 0 w
  constant-told false tuple = told-same a _ _ (says-never a sure_is) 0 w

  told-constant : (value : Bool) → TellsSheet w (constant value) (constant_sheet frame value)
  told-constant value = record {
    variables = refl;
    rows = record {
      many = sym (pow-zero n);
      each = λ k lt.
          let row : ℕ → Row = λ z. replicate z (cond value sure never) in
          let first : 0 ≡ k = omega (arith, lt, pow-zero n) in
          let tuple : List ℕ = tuple_at frame [] k in
          let P : ℕ → Type 0 = λ z. TellsRow w (constant value) tuple (row z) in
          let Q : ℕ → Type 0 =
          λ i. TellsRow w (constant value) tuple (get_or (row frame.places ∷ []) i []) in
          subst Q first (subst P (sym whole) (constant-told value tuple));
    };
  }

  told-atom : (name v : ℕ) → IsAtomTold name v → TellsSheet w (atom name v)
      (record { variables = v ∷ []; rows = listed 0 n (letters name) })
  told-atom name v (lt, told) = record {
    variables = refl;
    rows = record {
      many = length-listed 0 n (letters name) ∙ sym (pow-one n);
      each = λ k less.
          let few : k < n = omega (arith, less, pow-one n) in
          let zero_more : 0 + k ≡ k = omega arith in
          let choice = tuple-choice frame some (v ∷ []) k in
          let own : get_or (tuple_at frame (v ∷ []) k) v 0 ≡ k =
          tuple-member frame some (v ∷ []) k v lt ∙ first-member k v few in
          let row : letters name (get_or (tuple_at frame (v ∷ []) k) v 0)
          ≡ get_or (listed 0 n (letters name)) k [] =
          ap (letters name) (own ∙ sym zero_more) ∙ sym (at-listed 0 n (letters name) [] k few) in
          let P : Row → Type 0 = TellsRow w (atom name v) (tuple_at frame (v ∷ []) k) in
          subst P row (told (tuple_at frame (v ∷ []) k) choice);
    };
  }
    where
      first-member : (k v : ℕ) → k < n → member_at n (v ∷ []) k v ≡ k
      first-member k v few =
          let own : nat_eq v v ≡ true = (Decides-eqb v v).1 refl in
          rw own (mod-eq_of_lt few)

  -- ---- bodies

  pub sheet-told : (f : Shape) → Good f → Gives a (sheet frame letters f) (TellsSheet w f)
  sheet-told (constant value) h = gives-plain a _ _ (told-constant value)
  sheet-told (atom name v) h = gives-plain a _ _ (told-atom name v h)
  sheet-told (one op f) h =
      told-one w op f _ _ (λ tuple row choice.
      told-by-one a sure_is (words tuple) s c (repeats tuple choice) op (shape_tree f) row)
      (sheet-told f h)
  sheet-told (two op f g) h =
      told-two w op f g _ _ _ h (λ tuple left right choice.
      told-by-two a sure_is (words tuple) s c (repeats tuple choice) op (shape_tree f)
      (shape_tree g) left right) (sheet-told f h.0) (sheet-told g h.1)

  -- ---- first places

  first-told : (f : Shape) → Good f →
      Gives a (firsts_of (sheet frame letters f)) (TellsSheet 1 f)
  first-told f h =
      gives-followed a _ _ _ _ (sheet-told f h) (λ part t. gives-plain a _ _ (record {
        variables = t.variables;
        rows = record {
          many = length-map part.rows (take 1) ∙ t.rows.many;
          each = λ k lt.
              let tuple : List ℕ = tuple_at frame (variables_in f) k in
              let gone = (repeats tuple (tuple-choice frame some (variables_in f) k)).some in
              let P : Row → Type 0 = TellsRow 1 f tuple in
              subst P (sym (at-map (take 1) [] [] part.rows k (omega (arith, lt, t.rows.many))))
              (told-first a _ w (get_or part.rows k []) (omega (arith, gone)) (t.rows.each k lt));
        };
      }))

  -- by whether the operator is temporal
  gives-by : (b : Bool) (x y : Drawing Sheet) (P : Sheet → Type 0) → Gives a x P →
      (b ≡ false → Gives a y P) → Gives a (cond b x y) P
  gives-by true x y P p q = p
  gives-by false x y P p q = q refl

  pub first-sheet-told : (f : Shape) → Good f →
      Gives a (first_sheet frame letters f) (TellsSheet 1 f)
  first-sheet-told (constant value) h = first-told (constant value) h
  first-sheet-told (atom name v) h = first-told (atom name v) h
  first-sheet-told (one op f) h =
      gives-by (is_temporal_one op) _ _ _ (first-told (one op f) h) (λ e.
      told-one 1 op f _ _ (λ tuple row choice.
      told-at-one a sure_is (words tuple) op e 0 1 (shape_tree f) row) (first-sheet-told f h))
  first-sheet-told (two op f g) h =
      gives-by (is_temporal_two op) _ _ _ (first-told (two op f g) h) (λ e.
      told-two 1 op f g _ _ _ h (λ tuple left right choice.
      told-at-two a sure_is (words tuple) op e 0 1 (shape_tree f) (shape_tree g) left right)
      (first-sheet-told f h.0) (first-sheet-told g h.1))
