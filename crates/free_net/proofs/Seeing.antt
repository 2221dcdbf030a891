-- A net of inputs alone: each lasso of letters is what is seen of one of its lasso executions; and what is seen of a
-- lasso of values, as a lasso of letters.
use Rattle.std.proofs.Common.{◌≡◌, ℕ, zero, suc, ◌+◌, ◌-◌, ◌*◌, ◌%◌, ◌<◌, Bool, true, false, ◌&&◌, ◌||◌, cond, nat_eq, List, [], ◌∷◌, ◌++◌, length, map, get_or, IsTrue, Some, None, unwrap_or, All, inl, inr, refl, sym, ap, ◌∙◌, subst, arith, length-append}
use Rattle.std.specs.FinSet.{contains, contains-empty, empty, insert}
use Rattle.std.specs.Ordering.{nat_cmp}
use Rattle.std.specs.List.{list_any}
use Rattle.std.proofs.Math.Nat.{mod-lt}
use Rattle.std.proofs.lemmas.Bool.{cases_eq, cases_lt, ne_eqb}
use Rattle.std.proofs.lemmas.Bool.Decides.{Decides-eqb}
use Rattle.std.proofs.lemmas.List.{get_or-map, length-map, map-append}
use Rattle.hy_base.proofs.Listed.{each-listed, length-listed}
use Rattle.hy_base.proofs.Truths.{and-false}
use Rattle.hy_bits.specs.BinaryLaws.{contains-insert_other, contains-insert_same}
use Rattle.hy_bits.specs.Letter.{Letter}
use Rattle.hy_formula.specs.Lassos as letters
use Rattle.hy_lasso.specs.Words.{letter_at}
use Rattle.hy_lasso.proofs.LassoWords as words
use Rattle.aig_net.specs.declared.signals.Signal.{Signal}
use Rattle.aig_net.specs.Executions.{IsLassoExecution, Lasso, gone, no_values, step_at, steps}
use Rattle.aig_net.specs.Nets.{AreNames, Below, IsNet, Valuation, is_name, literal_value, variables}
use Rattle.aig_net.specs.Signals.{literal_of, shown, visible}
use Rattle.aig_net.proofs.Literals.{below-even, value-even}
use Rattle.sym_tableau.specs.Oracles.{no_names}
use Rattle.wit_lasso.specs.FormulaNets.{AreOwn}
use Rattle.free_net.specs.FreeNets.{free_net, free_signals, is_among}

-- ---- the net, and its signals

pub free-is : (k : ℕ) → IsNet (free_net k)
free-is k = record {
  latches = λ j lt. absurd (omega arith);
  resets = refl;
  ordered = λ j lt. absurd (omega arith);
  turned = λ j lt. absurd (omega arith);
  outputs = λ j lt. absurd (omega arith);
  constraints = λ j lt. absurd (omega arith);
  fairs = λ j lt. absurd (omega arith);
  input_names = unnamed k;
  latch_names = unnamed 0;
  output_names = unnamed 0;
}
  where
    unnamed : (n : ℕ) → AreNames n (no_names n)
    unnamed n = record {
      many = length-listed 0 n (λ _. []);
      good = each-listed [] n (λ _. []) (λ _ name. IsTrue (is_name name)) (λ j lt. refl);
    }

own-vars : (j : ℕ) (names : List ℕ) → All (λ s. s.var ≡ 0) (free_signals j names)
own-vars j [] k d lt = absurd (omega arith)
own-vars j (name ∷ names) zero d lt = refl
own-vars j (name ∷ names) (suc k) d lt = own-vars (suc j) names k d (omega (arith, lt))

own-within : (n j : ℕ) (names : List ℕ) → j + length names < n →
    All (λ s. Below n s.literal) (free_signals j names)
own-within n j [] few k d lt = absurd (omega arith)
own-within n j (name ∷ names) few zero d lt = below-even n (suc j) (omega (arith, few))
own-within n j (name ∷ names) few (suc k) d lt =
    own-within n (suc j) names (omega (arith, few)) k d (omega (arith, lt))

pub free-own : (names : List ℕ) → AreOwn (free_net (length names)) (free_signals 0 names)
free-own names = record {
  own = own-vars 0 names;
  within = own-within (variables (free_net (length names))) 0 names (omega arith);
}

-- the input of a name
pub record HasInput (j : ℕ) (names : List ℕ) (name : ℕ) : Type 0 where
  pub place : ℕ
  pub inside : place < length names
  pub named : get_or names place 0 ≡ name
  pub is : literal_of (free_signals j names) name 0 ≡ Some (2 * suc (j + place))

pub input-of : (j : ℕ) (names : List ℕ) (name : ℕ) → is_among names name ≡ true →
    HasInput j names name
input-of j [] name h = absurd (cc)
input-of j (x ∷ names) name h = at (nat_eq x name) refl h (input-of (suc j) names name)
  where
    at : (b : Bool) → nat_eq x name ≡ b → (b || list_any (λ x. nat_eq x name) names) ≡ true →
        (is_among names name ≡ true → HasInput (suc j) names name) → HasInput j (x ∷ names) name
    at true e found behind = record {
      place = 0;
      inside = omega arith;
      named = (Decides-eqb x name).0 e;
      is =
          let plain : j ≡ j + 0 = omega arith in
          ap (λ b. cond (b && nat_eq 0 0) (Some (2 * suc j))
          (literal_of (free_signals (suc j) names) name 0)) e
          ∙ ap (λ n. Some (2 * suc n)) plain;
    }
    at false e found behind =
        let h = behind found in
        record {
          place = suc h.place;
          inside = let lt = h.inside in omega (arith, lt);
          named = h.named;
          is =
              let p : ℕ = h.place in
              let plain : suc j + p ≡ j + suc p = omega arith in
              ap (λ b. cond (b && nat_eq 0 0) (Some (2 * suc j))
              (literal_of (free_signals (suc j) names) name 0)) e
              ∙ h.is
              ∙ ap (λ n. Some (2 * suc n)) plain;
        }

-- the names that are not among them have none
pub no-input : (j : ℕ) (names : List ℕ) (name : ℕ) → is_among names name ≡ false →
    literal_of (free_signals j names) name 0 ≡ None
no-input j [] name h = refl
no-input j (x ∷ names) name h = at (nat_eq x name) h (no-input (suc j) names name)
  where
    at : (b : Bool) → (b || list_any (λ x. nat_eq x name) names) ≡ false →
        (is_among names name ≡ false → literal_of (free_signals (suc j) names) name 0 ≡ None) →
        cond (b && nat_eq 0 0) (Some (2 * suc j)) (literal_of (free_signals (suc j) names) name 0)
        ≡ None
    at true none behind = absurd (cc)
    at false none behind = behind none

-- ---- lassos of letters, and of values

-- a lasso each of whose items is turned into another
turned-at : {A B : Type 0} (f : A → B) (none : A) (other : B) (l : letters.Lasso A) (i : ℕ) →
    0 < length l.cycle →
    letters.lasso_at other (record { stem = map f l.stem; cycle = map f l.cycle }) i
    ≡ f (letters.lasso_at none l i)
turned-at {A = A} {B = B} f none other l i some =
    let made : letters.Lasso B = record { stem = map f l.stem; cycle = map f l.cycle } in
    let a = length-map l.stem f in
    let b = length-map l.cycle f in
    let k : ℕ = (i - length l.stem) % length l.cycle in
    elim (cases_lt i (length l.stem)) [
      | inl lt ↦
          words.in-stem other made i (omega (arith, a, lt))
          ∙ get_or-map f l.stem i none other lt
          ∙ ap f (sym (words.in-stem none l i lt))
      | inr le ↦
          let here : (i - length made.stem) % length made.cycle ≡ k =
          ap (λ x. (i - x) % length made.cycle) a ∙ ap (λ x. (i - length l.stem) % x) b in
          words.in-cycle other made i (omega (arith, a, le))
          ∙ ap (λ x. get_or made.cycle x other) here
          ∙ get_or-map f l.cycle k none other (mod-lt (i - length l.stem) some)
          ∙ ap f (sym (words.in-cycle none l i le))
    ]

pub letter_values : List ℕ → Letter → Valuation
letter_values names letter zero = false
letter_values names letter (suc j) = contains letter (get_or names j 0)

-- the inputs whose names are in the letters
abbrev pub own_lasso : List ℕ → letters.Lasso Letter → Lasso
own_lasso names l = record {
  stem = map (letter_values names) l.stem;
  cycle = map (letter_values names) l.cycle;
}

module _ (names : List ℕ) (l : letters.Lasso Letter) (some : 0 < length l.cycle) where
  constant : (i : ℕ) → i < steps (own_lasso names l) → step_at (own_lasso names l) i 0 ≡ false
  unfolding letter_values
  constant i lt =
      let a = length-map l.stem (letter_values names) in
      let b = length-map l.cycle (letter_values names) in
      let m = length-append l.stem l.cycle in
      ap (λ (x : List Valuation). get_or x i no_values 0)
      (sym (map-append (letter_values names) l.stem l.cycle))
      ∙ ap (λ (v : Valuation). v 0) (get_or-map (letter_values names) (l.stem ++ l.cycle) i empty no_values
      (omega (arith, a, b, m, lt)))

  pub own-is : IsLassoExecution (free_net (length names)) (own_lasso names l)
  own-is = record {
    some = let b = length-map l.cycle (letter_values names) in omega (arith, b, some);
    starts = λ j lt. absurd (omega arith);
    right = λ i lt. record { constant = constant i lt; gates = λ j less. absurd (omega arith) };
    kept = λ i lt j less. absurd (omega arith);
    goes = λ i lt j less. absurd (omega arith);
    back = λ j less. absurd (omega arith);
    fair = λ j less. absurd (omega arith);
  }

  -- what is seen of it
  pub own-shows : (name i : ℕ) → is_among names name ≡ true →
      visible (free_signals 0 names) (gone (own_lasso names l)) name i
      ≡ contains (letter_at l i) name
  unfolding letter_values
  own-shows name i c =
      let h = input-of 0 names name c in
      let p : ℕ = h.place in
      let plain : 0 + p ≡ p = omega arith in
      ap (λ (v : Valuation). literal_value v (unwrap_or (literal_of (free_signals 0 names) name 0) 0))
      (turned-at (letter_values names) empty no_values l i some)
      ∙ ap (λ o. literal_value (letter_values names (letter_at l i)) (unwrap_or o 0)) h.is
      ∙ ap (λ n. literal_value (letter_values names (letter_at l i)) (2 * suc n)) plain
      ∙ value-even (letter_values names (letter_at l i)) (suc p)
      ∙ ap (λ n. contains (letter_at l i) n) h.named

-- those of the names that are shown
abbrev pub names_shown : List Signal → Valuation → List ℕ → Letter
names_shown signals v [] = empty
names_shown signals v (name ∷ names) =
    cond (shown signals v name 0) (insert (names_shown signals v names) name)
    (names_shown signals v names)

has-shown : (signals : List Signal) (v : Valuation) (name : ℕ) (names : List ℕ) →
    contains (names_shown signals v names) name ≡ (is_among names name && shown signals v name 0)
has-shown signals v name [] = contains-empty nat_cmp name
has-shown signals v name (x ∷ names) =
    elim (cases_eq x name) [
      | inl e ↦
          let P : ℕ → Type 0 = λ x. contains (names_shown signals v (x ∷ names)) name
          ≡ (is_among (x ∷ names) name && shown signals v name 0) in
          subst P (sym e) (same (shown signals v name 0) (has-shown signals v name names))
      | inr apart ↦
          other (shown signals v x 0) apart
          ∙ has-shown signals v name names
          ∙ sym (ap (λ b. (b || is_among names name) && shown signals v name 0) (ne_eqb x name apart))
    ]
  where
    same : (b : Bool) → contains (names_shown signals v names) name ≡ (is_among names name && b) →
        contains (cond b (insert (names_shown signals v names) name) (names_shown signals v names)) name
        ≡ ((nat_eq name name || is_among names name) && b)
    same true behind =
        contains-insert_same (names_shown signals v names) name
        ∙ sym (ap (λ b. (b || is_among names name) && true) ((Decides-eqb name name).1 refl))
    same false behind =
        behind ∙ and-false (is_among names name)
        ∙ sym (and-false (nat_eq name name || is_among names name))

    other : (b : Bool) → (x ≡ name → ⊥) → contains (cond b (insert (names_shown signals v names) x)
        (names_shown signals v names)) name ≡ contains (names_shown signals v names) name
    other true apart = contains-insert_other (names_shown signals v names) x name (λ e. apart (sym e))
    other false apart = refl

-- the letters of what is shown of values
abbrev pub seen_lasso : List Signal → List ℕ → Lasso → letters.Lasso Letter
seen_lasso signals names l = record {
  stem = map (λ v. names_shown signals v names) l.stem;
  cycle = map (λ v. names_shown signals v names) l.cycle;
}

pub seen-shows : (signals : List Signal) (names : List ℕ) (l : Lasso) → 0 < length l.cycle →
    (name i : ℕ) → is_among names name ≡ true →
    contains (letter_at (seen_lasso signals names l) i) name ≡ visible signals (gone l) name i
seen-shows signals names l some name i c =
    ap (λ x. contains x name) (turned-at (λ (v : Valuation). names_shown signals v names) no_values empty
    (record { stem = l.stem; cycle = l.cycle }) i some)
    ∙ has-shown signals (gone l i) name names
    ∙ ap (λ b. b && visible signals (gone l) name i) c
