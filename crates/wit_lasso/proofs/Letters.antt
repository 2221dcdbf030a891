-- What is seen of a valuation, one signal more at a time; and of rows and of a run.
use Rattle.std.proofs.Common.{◌≡◌, ◌≢◌, ℕ, zero, suc, ◌+◌, ◌-◌, ◌%◌, ◌<◌, ◌≤◌, Bool, true, false, cond, List, [], ◌∷◌, ◌++◌, length, drop, take, map, get_or, slice_get, IsTrue, Some, Result, Ok, Err, IfOk, unwrap_or, inl, inr, refl, sym, ap, ◌∙◌, subst, arith, length-append}
use Rattle.std.proofs.Math.Nat.{mod-lt}
use Rattle.std.proofs.Math.Seq.{drop-cons}
use Rattle.std.proofs.lemmas.Bool.{cases_eq, cases_lt, ltb-true, false_from_ne_true, and_parts, and_from, cond-true, cond-false}
use Rattle.std.proofs.lemmas.Bool.Decides.{Decides-eqb}
use Rattle.std.proofs.lemmas.List.{get_or_append_left, get_or-append-add, length-map, map-append, take_more}
use Rattle.std.specs.FinSet.{contains, contains-empty, empty, insert, remove}
use Rattle.std.specs.Ordering.{nat_cmp}
use Rattle.hy_bits.specs.BinaryLaws.{contains-insert_other, contains-insert_same, contains-remove_other, contains-remove_same}
use Rattle.hy_bits.specs.Letter.{Letter}
use Rattle.hy_formula.specs.Lassos as letters
use Rattle.hy_lasso.specs.NormalForms.{IsNormal}
use Rattle.hy_lasso.proofs.LassoWords as words
use Rattle.aig_net.specs.declared.run.Run.{Run}
use Rattle.aig_net.specs.declared.run.ValueLasso.{ValueLasso}
use Rattle.aig_net.specs.declared.signals.Signal.{Signal}
use Rattle.aig_net.specs.Executions.{gone, no_values, step_at, value_in}
use Rattle.aig_net.specs.Following.{row_at}
use Rattle.aig_net.specs.Nets.{Net, Valuation, literal_value, variables}
use Rattle.hy_base.specs.Rows.{row}
use Rattle.aig_net.specs.Signals.{are_signals, is_for, literal_of, shown}
use Rattle.aig_net.specs.Simulations.{IsExecutionOf, valuations}
use Rattle.hy_base.proofs.Listed.{at-map}
use Rattle.aig_net.proofs.Rounds as rounds
use Rattle.sym_tableau.specs.Places.{AreWithin}
use Rattle.wit_lasso.specs.Seeing.{AreSeen, Counts, IsSeen, IsTraceOf, ShowsTrace}

-- ---- one signal

module _ (s : Signal) (letter : Letter) where
  counts-by : (v : Valuation) (later : Letter) (b : Bool) → s.var ≡ 0 →
      literal_value v s.literal ≡ b → contains later s.name ≡ b →
      ((q : ℕ) → q ≢ s.name → contains later q ≡ contains letter q) → Counts s v letter later
  counts-by v later b own is here others name =
      elim (cases_eq name s.name) [
        | inl e ↦
            let P : ℕ → Type 0 = λ name. contains later name ≡ cond (is_for name 0 s)
            (literal_value v s.literal) (contains letter name) in
            subst P (sym e) (here ∙ sym is
            ∙ sym (cond-true (is_for s.name 0 s) (literal_value v s.literal)
            (contains letter s.name)
            (and_from _ _ ((Decides-eqb s.name s.name).1 refl) ((Decides-eqb s.var 0).1 own))))
        | inr apart ↦
            others name apart
            ∙ sym (cond-false (is_for name 0 s) (literal_value v s.literal) (contains letter name)
            (false_from_ne_true _ (λ h. apart (sym ((Decides-eqb s.name name).0 (and_parts _ _ h).0)))))
      ]

  pub counts_true : (v : Valuation) → s.var ≡ 0 → literal_value v s.literal ≡ true →
      Counts s v letter (insert letter s.name)
  counts_true v own is = counts-by v (insert letter s.name) true own is
      (contains-insert_same letter s.name) (λ q apart. contains-insert_other letter s.name q apart)

  pub counts_false : (v : Valuation) → s.var ≡ 0 → literal_value v s.literal ≡ false →
      Counts s v letter (remove letter s.name)
  counts_false v own is = counts-by v (remove letter s.name) false own is
      (contains-remove_same letter s.name) (λ q apart. contains-remove_other letter s.name q apart)

  pub counts_none : (v : Valuation) → (s.var ≡ 0 → ⊥) → Counts s v letter letter
  counts_none v other name =
      sym (cond-false (is_for name 0 s) (literal_value v s.literal) (contains letter name)
      (false_from_ne_true _ (λ h. other ((Decides-eqb s.var 0).0 (and_parts _ _ h).1))))

-- ---- all signals, from the last to the first

pub small_name : (signals : List Signal) (i : ℕ) (s : Signal) → IsTrue (are_signals signals) →
    slice_get signals i ≡ Some s → s.name < 64
small_name [] i s are e = absurd (cc)
small_name (x ∷ signals) zero s are e =
    let P : Signal → Type 0 = λ x. x.name < 64 in
    let same : x ≡ s = cc in
    subst P same (ltb-true x.name 64 (and_parts _ _ (and_parts _ _ are).0).0)
small_name (x ∷ signals) (suc i) s are e =
    small_name signals i s (and_parts _ _ are).1 e

pub got : {A : Type 0} (xs : List A) (i : ℕ) (x d : A) → slice_get xs i ≡ Some x →
    (i < length xs) × (get_or xs i d ≡ x)
got [] i x d e = absurd (cc)
got (y ∷ xs) zero x d e = (omega arith, let same : y ≡ x = cc in same)
got (y ∷ xs) (suc i) x d e = let (lt, same) = got xs i x d e in (omega arith, same)

pub seen-none : (signals : List Signal) (v : Valuation) (k : ℕ) → v 0 ≡ false →
    length signals ≤ k → IsSeen (drop k signals) v empty
seen-none signals v k constant le name =
    contains-empty nat_cmp name ∙ sym constant
    ∙ sym (ap (λ s. shown s v name 0) (past signals k le))
  where
    past : (signals : List Signal) (k : ℕ) → length signals ≤ k → drop k signals ≡ []
    past [] zero le = refl
    past [] (suc k) le = refl
    past (s ∷ signals) zero le = absurd (omega arith)
    past (s ∷ signals) (suc k) le = past signals k (omega arith)

pub seen-more : (signals : List Signal) (v : Valuation) (i k : ℕ) (s : Signal)
    (letter later : Letter) → i ≡ suc k → slice_get signals k ≡ Some s →
    IsSeen (drop i signals) v letter → Counts s v letter later → IsSeen (drop k signals) v later
seen-more signals v i k s letter later e at seen counts name =
    let (lt, same) = got signals k s s at in
    let cons : drop k signals ≡ s ∷ drop (suc k) signals =
    drop-cons signals k s lt ∙ ap (λ x. x ∷ drop (suc k) signals) same in
    counts name
    ∙ ap (λ b. cond (is_for name 0 s) (literal_value v s.literal) b)
    (seen name ∙ ap (λ n. shown (drop n signals) v name 0) e)
    ∙ case (is_for name 0 s) ∙ sym (ap (λ l. shown l v name 0) cons)
  where
    case : (b : Bool) → cond b (literal_value v s.literal)
        (shown (drop (suc k) signals) v name 0) ≡ literal_value v (unwrap_or (cond b
        (Some s.literal) (literal_of (drop (suc k) signals) name 0)) 0)
    case true = refl
    case false = refl

-- ---- rows

pub letters_none : (signals : List Signal) (rows : List (List Bool)) →
    AreSeen signals (take 0 rows) []
letters_none signals rows = record {
  many = none rows;
  each = λ i lt. absurd
      (let n = none rows in omega (arith, n, lt));
}
  where
    none : (rows : List (List Bool)) → 0 ≡ length (take 0 rows)
    none [] = refl
    none (x ∷ rows) = refl

pub letters_more : (signals : List Signal) (rows : List (List Bool)) (k : ℕ)
    (seen more : List Letter) (letter : Letter) → k < length rows →
    AreSeen signals (take k rows) seen → IsSeen signals (row (row_at rows k)) letter →
    more ≡ seen ++ letter ∷ [] → AreSeen signals (take (k + 1) rows) more
letters_more signals rows k seen more letter lt are is added =
    let P : List (List Bool) → Type 0 = λ r. AreSeen signals r more in
    let Q : List Letter → Type 0 = AreSeen signals (take k rows ++ row_at rows k ∷ []) in
    let here : List (List Bool) = take k rows ++ row_at rows k ∷ [] in
    let a = length-append (take k rows) (row_at rows k ∷ []) in
    let b = length-append seen (letter ∷ []) in
    let m = are.many in
    subst P (sym (take_more rows k [] lt)) (subst Q (sym added) (record {
      many = omega (arith, a, b, m);
      each = λ i less.
          elim (cases_lt i (length (take k rows))) [
            | inl small ↦ λ name.
                ap (λ l. contains l name) (get_or_append_left seen (letter ∷ []) empty i
                (omega (arith, m, small)))
                ∙ are.each i small name
                ∙ sym (ap (λ r. shown signals (row r) name 0)
                (get_or_append_left (take k rows) (row_at rows k ∷ []) [] i small))
            | inr past ↦ λ name.
                let e : i ≡ length (take k rows) + 0 = omega (arith, a, less, past) in
                let h : i ≡ length seen + 0 = omega (arith, e, m) in
                ap (λ l. contains l name) (ap (λ i. get_or (seen ++ letter ∷ []) i empty) h
                ∙ get_or-append-add seen (letter ∷ []) 0 empty)
                ∙ is name
                ∙ sym (ap (λ r. shown signals (row r) name 0) (ap (row_at here) e
                ∙ get_or-append-add (take k rows) (row_at rows k ∷ []) 0 []))
          ];
    }))

-- ---- a run

-- Each row has a value for each variable, and the constant is false.
pub record AreSound (signals : List Signal) (rows : List (List Bool)) : Type 0 where
  pub within : (i : ℕ) → i < length rows → AreWithin (length (row_at rows i)) signals
  pub constant : (i : ℕ) → i < length rows → row (row_at rows i) 0 ≡ false

sound-all : (net : Net) (signals : List Signal) (run : Run) (values : ValueLasso) →
    IsExecutionOf net run values → AreWithin (variables net) signals →
    AreSound signals (values.stem ++ values.cycle)
sound-all net signals run values is are = record {
  within = λ i lt. let P : ℕ → Type 0 = λ n. AreWithin n signals in
      subst P (sym (is.full i lt)) are;
  constant = λ i lt.
      let a = length-map values.stem row in
      let b = length-map values.cycle row in
      let m = length-append values.stem values.cycle in
      sym (ap (λ (v : Valuation). v 0) (step-row i lt))
      ∙ (is.execution.right i (omega (arith, a, b, m, lt))).constant;
}
  where
    step-row : (i : ℕ) → i < length (values.stem ++ values.cycle) →
        step_at (valuations values) i ≡ row (row_at (values.stem ++ values.cycle) i)
    step-row i lt =
        ap (λ l. value_in l i) (sym (map-append row values.stem values.cycle))
        ∙ at-map row [] no_values (values.stem ++ values.cycle) i lt

pub sound-stem : (net : Net) (signals : List Signal) (run : Run) (values : ValueLasso) →
    IsExecutionOf net run values → AreWithin (variables net) signals →
    AreSound signals values.stem
sound-stem net signals run values is are =
    let whole = sound-all net signals run values is are in
    let m = length-append values.stem values.cycle in
    let at : (i : ℕ) → i < length values.stem →
    row_at (values.stem ++ values.cycle) i ≡ row_at values.stem i =
    λ i lt. get_or_append_left values.stem values.cycle [] i lt in
    record {
      within = λ i lt. let P : List Bool → Type 0 = λ r. AreWithin (length r) signals in
          subst P (at i lt) (whole.within i (omega (arith, m, lt)));
      constant = λ i lt. let P : List Bool → Type 0 = λ r. row r 0 ≡ false in
          subst P (at i lt) (whole.constant i (omega (arith, m, lt)));
    }

pub sound-cycle : (net : Net) (signals : List Signal) (run : Run) (values : ValueLasso) →
    IsExecutionOf net run values → AreWithin (variables net) signals →
    AreSound signals values.cycle
sound-cycle net signals run values is are =
    let whole = sound-all net signals run values is are in
    let m = length-append values.stem values.cycle in
    let at : (i : ℕ) → row_at (values.stem ++ values.cycle) (length values.stem + i)
    ≡ row_at values.cycle i =
    λ i. get_or-append-add values.stem values.cycle i [] in
    record {
      within = λ i lt. let P : List Bool → Type 0 = λ r. AreWithin (length r) signals in
          subst P (at i) (whole.within (length values.stem + i) (omega (arith, m, lt)));
      constant = λ i lt. let P : List Bool → Type 0 = λ r. row r 0 ≡ false in
          subst P (at i) (whole.constant (length values.stem + i) (omega (arith, m, lt)));
    }

-- What is seen row by row is what is seen of the word.
pub shows-rows : (signals : List Signal) (values : ValueLasso) (trace : letters.Lasso Letter) →
    AreSeen signals values.stem trace.stem → AreSeen signals values.cycle trace.cycle →
    0 < length values.cycle → ShowsTrace signals (gone (valuations values)) trace
shows-rows signals values trace stem cycle some i name =
    let a = length-map values.stem row in
    let b = length-map values.cycle row in
    let m = stem.many in
    elim (cases_lt i (length values.stem)) [
      | inl lt ↦
          ap (λ l. contains l name) (words.in-stem empty trace i (omega (arith, m, lt)))
          ∙ stem.each i lt name
          ∙ sym (ap (λ v. shown signals v name 0)
          (rounds.in-stem (valuations values) i (omega (arith, a, lt))
          ∙ at-map row [] no_values values.stem i lt))
      | inr le ↦
          let k : ℕ = (i - length values.stem) % length values.cycle in
          let here : (i - length trace.stem) % length trace.cycle ≡ k =
          ap (λ x. (i - x) % length trace.cycle) stem.many
          ∙ ap (λ x. (i - length values.stem) % x) cycle.many in
          let there : (i - length (map row values.stem)) % length (map row values.cycle) ≡ k =
          ap (λ x. (i - x) % length (map row values.cycle)) a
          ∙ ap (λ x. (i - length values.stem) % x) b in
          let less : k < length values.cycle = mod-lt (i - length values.stem) some in
          ap (λ l. contains l name) (words.in-cycle empty trace i (omega (arith, m, le))
          ∙ ap (λ x. get_or trace.cycle x empty) here)
          ∙ cycle.each k less name
          ∙ sym (ap (λ v. shown signals v name 0)
          (rounds.in-cycle (valuations values) i (omega (arith, a, le))
          ∙ ap (value_in (map row values.cycle)) there
          ∙ at-map row [] no_values values.cycle k less))
    ]

-- the trace of a run, from what is said of that of its values
pub trace-of : {E : Type 0} (net : Net) (signals : List Signal) (run : Run) (values : ValueLasso) →
    IsExecutionOf net run values → (r : Result (letters.Lasso Letter) E) → IfOk r IsNormal →
    IfOk r (ShowsTrace signals (gone (valuations values))) → IfOk r (IsTraceOf net signals run)
trace-of net signals run values is (Ok trace) normal shows = record {
  values = values;
  execution = is;
  normal = normal;
  shows = shows;
}
trace-of net signals run values is (Err e) normal shows = tt
