-- Places looked at one by one.
use Rattle.std.proofs.Common.{◌≡◌, ℕ, zero, suc, ◌+◌, ◌*◌, ◌<◌, Bool, true, false, ◌||◌, ◌&&◌, nat_eq, List, [], ◌∷◌, ◌++◌, length, map, take, slice_get, get_or, bit_or, Option, Some, None, IfSome, IfNone, inl, inr, eq-eqb, refl, sym, ap, ◌∙◌, subst, arith}
use Rattle.std.specs.Bool.{OnFalse}
use Rattle.std.specs.List.{Contains, list_any}
use Rattle.std.specs.Option.{is_some}
use Rattle.std.specs.FinSet.{empty, contains, contains-empty}
use Rattle.std.specs.Ordering.{nat_cmp}
use Rattle.std.proofs.Math.Bool.{or-false}
use Rattle.std.proofs.lemmas.Bool.{OnFalse_at, OnFalse_from, cases_eq, ne_eqb}
use Rattle.std.proofs.lemmas.List.{map_push, take-map}
use Rattle.std.proofs.lemmas.List.Folds.{list_any-append}
use Rattle.hy_base.proofs.Members.{contains-here, contains-later}
use Rattle.hy_bits.specs.Letter.{Letter}
use Rattle.hy_formula.specs.Quantifiers.{Each}
use Rattle.hy_finite.specs.declared.lengths.Lengths.{Lengths}
use Rattle.hy_finite.specs.Traces.{Trace, judged}
use Rattle.hy_formula.specs.Atoms.{IndexedAtom}
use Rattle.fin_monitor.specs.Codes.{one_if, code_of, part_of, joint_letter}
use Rattle.fin_monitor.specs.Machines.{Machine, is_accepting}
use Rattle.fin_monitor.proofs.CodeBits.{code-or}
use Rattle.trace_trie.specs.Numbered.{Numbered}
use Rattle.tuple_walk.specs.declared.place.Place.{Place}
use Rattle.tuple_walk.specs.Places.{HasEnded, letter_or, letter_taken, taken_of, has_taken, is_letter}
use Rattle.tuple_walk.specs.Searches.{IsTupleOf, CanStop, AreEnded}
use Rattle.tuple_walk.proofs.Ending.{goes-on}
use Rattle.tuple_walk.proofs.Lists.{get-of, take-more}
use Rattle.tuple_walk.proofs.Stepping.{left_at}

-- a place among the first n
pub at-member : (n i : ℕ) (ps : List Place) (p : Place) → i < n → slice_get ps i ≡ Some p
    → Contains (map left_at (take n ps)) (left_at p)
at-member zero i ps p lt e = absurd (omega arith)
at-member (suc n) zero [] p lt e = absurd (cc)
at-member (suc n) (suc i) [] p lt e = absurd (cc)
at-member (suc n) zero (q ∷ ps) p lt e =
    let is : q ≡ p = cc in
    let P : List Numbered → Type 0 = Contains (left_at q ∷ map left_at (take n ps)) in
    subst P (ap left_at is) (contains-here (left_at q) (map left_at (take n ps)))
at-member (suc n) (suc i) (q ∷ ps) p lt e =
    contains-later (left_at q) (left_at p) (map left_at (take n ps))
    (at-member n i ps p (omega arith) e)

pub has-ended : (r : Option ℕ) (l : List Numbered) → is_some r ≡ true
    → IfSome r (λ n. Contains l (n, [])) → HasEnded l
has-ended (Some n) l e h = (n, h)
has-ended None l e h = absurd (cc)

pub none-ended : (r : Option ℕ) (l : List Numbered) → is_some r ≡ false
    → IfNone r (¬ HasEnded l) → ¬ HasEnded l
none-ended (Some n) l e h = absurd (cc)
none-ended None l e h = h

pub each-from : {A : Type 0} (P : A → Type 0) (xs : List A) (d : A)
    → ((k : ℕ) → k < length xs → P (get_or xs k d)) → Each P xs
each-from P [] d h = tt
each-from P (x ∷ xs) d h =
    (h 0 (omega arith), each-from P xs d (λ k lt. h (suc k) (omega arith)))

-- one place more
pub ended-more : (n i : ℕ) (ps : List Place) (p : Place) (xs : List Numbered) (x : Numbered)
    → i < n → slice_get ps i ≡ Some p → AreEnded (take i (map left_at (take n ps))) xs
    → Contains (left_at p) x → (HasEnded (left_at p) → x.1 ≡ [])
    → AreEnded (take (suc i) (map left_at (take n ps))) (xs ++ x ∷ [])
ended-more zero i ps p xs x lt e h c f = absurd (omega arith)
ended-more (suc n) zero [] p xs x lt e h c f = absurd (cc)
ended-more (suc n) (suc i) [] p xs x lt e h c f = absurd (cc)
ended-more (suc n) zero (q ∷ ps) p [] x lt e h c f =
    let is : p ≡ q = cc in
    let P : Place → Type 0 = λ r. Contains (left_at r) x × (HasEnded (left_at r) → x.1 ≡ []) in
    let (d, g) = subst P is (c, f) in
    (d, g, tt)
ended-more (suc n) zero (q ∷ ps) p (y ∷ xs) x lt e h c f = absurd h
ended-more (suc n) (suc i) (q ∷ ps) p [] x lt e h c f = absurd h
ended-more (suc n) (suc i) (q ∷ ps) p (y ∷ xs) x lt e h c f =
    (h.0, h.1, ended-more n i ps p xs x (omega arith) e h.2 c f)

pub rejects-accepts : (m : Machine) (lengths : Lengths) (q : ℕ) (ls : List (List Numbered))
    (b : Bool) → 0 < length ls → OnFalse b (¬ CanStop lengths ls)
    → OnFalse b ((ts : List Trace) → IsTupleOf ls ts → judged lengths ts ≡ 0
    → is_accepting m q ≡ true)
rejects-accepts m lengths q ls b some going =
    OnFalse_from b _ (λ e ts h zero_judged.
    absurd (goes-on lengths ls some (OnFalse_at e going) ts h zero_judged))

-- ---- letters

-- whether there is one at one place more
pub any-with : (ps : List Place) (i : ℕ) (p : Place) (b : Bool) → slice_get ps i ≡ Some p
    → b ≡ list_any is_letter (map taken_of (take i ps))
    → (b || has_taken p) ≡ list_any is_letter (map taken_of (take (i + 1) ps))
any-with ps i p b at is =
    let one : suc i ≡ i + 1 = omega arith in
    let before = map taken_of (take i ps) in
    ap (λ a. a || has_taken p) is
    ∙ ap (λ a. list_any is_letter before || a) (sym (or-false (has_taken p)))
    ∙ sym (list_any-append is_letter before (taken_of p ∷ []))
    ∙ ap (list_any is_letter) (sym (map_push taken_of (take i ps) p)
    ∙ ap (map taken_of) (sym (take-more ps i p at)) ∙ ap (λ k. map taken_of (take k ps)) one)

pub get-map : {A B : Type 0} (f : A → B) (n : ℕ) (xs : List A) (i : ℕ) (x : A) → i < n
    → slice_get xs i ≡ Some x → slice_get (map f (take n xs)) i ≡ Some (f x)
get-map f zero xs i x lt e = absurd (omega arith)
get-map f (suc n) [] i x lt e = absurd (cc)
get-map f (suc n) (y ∷ ys) zero x lt e = let is : y ≡ x = cc in ap (λ z. Some (f z)) is
get-map f (suc n) (y ∷ ys) (suc i) x lt e = get-map f n ys i x (omega arith) e

abbrev none_at : ℕ → Letter
none_at v = get_or [] v empty

no-name : (v name : ℕ) → contains (none_at v) name ≡ false
no-name v name = contains-empty nat_cmp name

eqb-suc : (v i : ℕ) → nat_eq (suc v) (suc i) ≡ nat_eq v i
eqb-suc v i = elim (cases_eq v i) [
  | inl e ↦ eq-eqb (suc v) (suc i) (ap suc e) ∙ sym (eq-eqb v i e)
  | inr n ↦ ne_eqb (suc v) (suc i) (λ e. n (omega arith)) ∙ sym (ne_eqb v i n)
]

name-more : (l : List Letter) (i : ℕ) (a : Letter) → slice_get l i ≡ Some a → (name v : ℕ)
    → contains (get_or (take (suc i) l) v empty) name
    ≡ (contains (get_or (take i l) v empty) name || (nat_eq v i && contains a name))
name-more [] i a e name v = absurd (cc)
name-more (b ∷ l) zero a e name zero =
    let is : b ≡ a = cc in
    ap (λ (x : Letter). contains x name) is
    ∙ sym (ap (λ k. k || contains a name) (no-name zero name))
name-more (b ∷ l) zero a e name (suc v) =
    let other : nat_eq (suc v) 0 ≡ false = ne_eqb (suc v) 0 (λ f. omega arith) in
    sym (ap (λ k. contains (none_at v) name || (k && contains a name)) other
    ∙ or-false (contains (none_at v) name))
name-more (b ∷ l) (suc i) a e name zero =
    let other : nat_eq 0 (suc i) ≡ false = ne_eqb 0 (suc i) (λ f. omega arith) in
    sym (ap (λ k. contains b name || (k && contains a name)) other ∙ or-false (contains b name))
name-more (b ∷ l) (suc i) a e name (suc v) =
    name-more l i a e name v
    ∙ ap (λ k. contains (get_or (take i l) v empty) name || (k && contains a name))
    (sym (eqb-suc v i))

-- the part of one letter more
pub code-more : (l : List Letter) (i : ℕ) (a : Letter) (atoms : List IndexedAtom)
    → slice_get l i ≡ Some a
    → bit_or (code_of (joint_letter (take i l)) atoms) (part_of atoms i a)
    ≡ code_of (joint_letter (take (suc i) l)) atoms
code-more l i a atoms e =
    sym (code-or (joint_letter (take i l)) (λ n v. nat_eq v i && contains a n) atoms)
    ∙ (λ j. code_of (λ n v. sym (name-more l i a e n v) j) atoms)

pub code-none : (atoms : List IndexedAtom) → code_of (joint_letter []) atoms ≡ 0
code-none [] = refl
code-none (a ∷ atoms) =
    (λ i. one_if (no-name a.variable a.name i) + 2 * code-none atoms i)

-- the code of what is taken at one place more
pub code-with : (ps : List Place) (i : ℕ) (p : Place) (atoms : List IndexedAtom) (code : ℕ)
    → slice_get ps i ≡ Some p
    → code ≡ code_of (joint_letter (map letter_or (map taken_of (take i ps)))) atoms
    → bit_or code (part_of atoms i (letter_taken p))
    ≡ code_of (joint_letter (map letter_or (map taken_of (take (i + 1) ps)))) atoms
code-with ps i p atoms code at is =
    let letters = map letter_or (map taken_of ps) in
    let one : suc i ≡ i + 1 = omega arith in
    let first : (k : ℕ) → take k letters ≡ map letter_or (map taken_of (take k ps)) =
    λ k. take-map letter_or k (map taken_of ps) ∙ ap (map letter_or) (take-map taken_of k ps) in
    ap (λ c. bit_or c (part_of atoms i (letter_taken p)))
    (is ∙ ap (λ (l : List Letter). code_of (joint_letter l) atoms) (sym (first i)))
    ∙ code-more letters i (letter_taken p) atoms
    (get-of letter_or (map taken_of ps) i (taken_of p) (get-of taken_of ps i p at))
    ∙ ap (λ (l : List Letter). code_of (joint_letter l) atoms)
    (first (suc i) ∙ ap (λ k. map letter_or (map taken_of (take k ps))) one)
