-- Rows that answer each joint letter, as atom after atom is taken in.
use Rattle.std.proofs.Common.{◌≡◌, ◌⊎◌, ℕ, ◌+◌, ◌*◌, ◌<◌, Bool, true, false, not, ◌&&◌, ◌||◌, nat_eq, cond, List, [], ◌∷◌, ◌++◌, length, take, map, inl, inr, refl, sym, ap, ◌∙◌, subst, arith, get_or}
use Rattle.std.specs.Prelude.{replicate}
use Rattle.std.specs.List.{Contains, list_any}
use Rattle.std.specs.FinSet.{empty, contains, insert, contains-empty}
use Rattle.std.specs.Ordering.{nat_cmp}
use Rattle.std.proofs.lemmas.Bool.{cases_lt, eqb-true, eq-eqb, ltb-true, and_parts, and_right}
use Rattle.std.proofs.lemmas.List.{take_more, get_or_append_left, get_or-set_same, get_or-set_other, length-set, get_or-take, get_or-replicate, get_or_past, map-append}
use Rattle.std.proofs.lemmas.List.Folds.{list_any-append}
use Rattle.std.proofs.lemmas.List.Elements.{Contains-append_left, Contains-append_right, Contains-append_cases}
use Rattle.hy_base.proofs.Members.{map-of, map-from, contains-here, contains-later, contains-cases, contains-none}
use Rattle.hy_base.proofs.Truths.{and-false}
use Rattle.hy_bits.specs.BinaryLaws.{contains-insert_same, contains-insert_other}
use Rattle.hy_formula.specs.Quantifiers.{Each}
use Rattle.hy_formula.specs.Trees as tree
use Rattle.hy_formula.specs.Trees.{Tree, vars_below}
use Rattle.hy_formula.specs.declared.atom.Atom.{Atom}
use Rattle.hy_formula.proofs.Each.{each-at, each-append}
use Rattle.hy_formula.specs.Atoms.{IndexedAtom, plain_atom, is_atom, with_atom, with_atoms}
use Rattle.fin_monitor.specs.Codes.{code_of, one_if, joint_letter}
use Rattle.fin_monitor.specs.Machines.{Machine, IsMonitor}
use Rattle.dominance.specs.Choices.{Row, says, with_name, is_asked, IsAnswer, AreRows, row_code}

-- ---- doubling

pub doubled-more : {A : Type 0} (f : A → A) (old made new : List A) (k : ℕ) (x y : A)
    → k < length old → made ≡ old ++ map f (take k old)
    → get_or made k x ≡ x → y ≡ f x → new ≡ made ++ y ∷ [] → new ≡ old ++ map f (take (k + 1) old)
doubled-more f old made new k x y lt is at of more =
    let there : get_or old k x ≡ x = sym (get_or_append_left old (map f (take k old)) x k lt)
    ∙ ap (λ l. get_or l k x) (sym is) ∙ at in
    let last : take (k + 1) old ≡ take k old ++ x ∷ [] = take_more old k x lt
    ∙ ap (λ z. take k old ++ z ∷ []) there in
    more ∙ ap (λ l. l ++ y ∷ []) is ∙ ap (λ z. (old ++ map f (take k old)) ++ z ∷ []) of
    ∙ append-through old (map f (take k old)) (f x ∷ [])
    ∙ ap (λ l. old ++ l) (sym (map-append f (take k old) (x ∷ [])))
    ∙ ap (λ l. old ++ map f l) (sym last)
  where
    append-through : {A : Type 0} (a b c : List A) → (a ++ b) ++ c ≡ a ++ (b ++ c)
    append-through [] b c = refl
    append-through (x ∷ xs) b c = ap (λ l. x ∷ l) (append-through xs b c)

-- ---- atoms below the number of variables

abbrev pub AreBelow : ℕ → List IndexedAtom → Type 0
AreBelow n atoms = Each (λ (a : IndexedAtom). a.variable < n) atoms

module _ (n : ℕ) where
  one-below : (name variable : ℕ) (known : List IndexedAtom) → variable < n → AreBelow n known
      → AreBelow n (with_atom name variable known)
  one-below name variable known lt h = step (list_any (is_atom name variable) known)
    where
      step : (b : Bool) → AreBelow n
          (cond b known (known ++ record { name = name; variable = variable } ∷ []))
      step true = h
      step false = each-append (λ (a : IndexedAtom). a.variable < n) known
          (record { name = name; variable = variable } ∷ []) h (lt, tt)

  pub atoms-below : (f : Tree) (known : List IndexedAtom) → vars_below n f ≡ true → AreBelow n known
      → AreBelow n (with_atoms f known)
  atoms-below tree.always known b h = h
  atoms-below tree.never known b h = h
  atoms-below (tree.atom name variable) known b h =
      one-below name variable known (ltb-true variable n b) h
  atoms-below (tree.not f) known b h = atoms-below f known b h
  atoms-below (tree.next f) known b h = atoms-below f known b h
  atoms-below (tree.finally f) known b h = atoms-below f known b h
  atoms-below (tree.globally f) known b h = atoms-below f known b h
  atoms-below (tree.and f g) known b h = let (x, y) =
      and_parts (vars_below n f) (vars_below n g) b in atoms-below g _ y (atoms-below f known x h)
  atoms-below (tree.or f g) known b h = let (x, y) = and_parts (vars_below n f) (vars_below n g) b in
      atoms-below g _ y (atoms-below f known x h)
  atoms-below (tree.implies f g) known b h = let (x, y) =
      and_parts (vars_below n f) (vars_below n g) b in atoms-below g _ y (atoms-below f known x h)
  atoms-below (tree.iff f g) known b h = let (x, y) =
      and_parts (vars_below n f) (vars_below n g) b in atoms-below g _ y (atoms-below f known x h)
  atoms-below (tree.until f g) known b h = let (x, y) =
      and_parts (vars_below n f) (vars_below n g) b in atoms-below g _ y (atoms-below f known x h)
  atoms-below (tree.release f g) known b h = let (x, y) =
      and_parts (vars_below n f) (vars_below n g) b in atoms-below g _ y (atoms-below f known x h)
  atoms-below (tree.weak f g) known b h = let (x, y) =
      and_parts (vars_below n f) (vars_below n g) b in atoms-below g _ y (atoms-below f known x h)

pub machine-below : (m : Machine) → IsMonitor m → AreBelow m.variables m.atoms
machine-below m is = let P : List IndexedAtom → Type 0 = AreBelow m.variables in
    subst P (sym is.atoms) (atoms-below m.variables m.body [] is.bound tt)

pub atom-below : (n : ℕ) (atoms : List IndexedAtom) → AreBelow n atoms → (a : IndexedAtom)
    → Contains atoms a → a.variable < n
atom-below n atoms h a c = each-at (λ (a : IndexedAtom). a.variable < n) atoms a h c

-- ---- one atom more

is-atom-itself : (a : IndexedAtom) → is_atom a.name a.variable a ≡ true
is-atom-itself a = ap (λ x. x && nat_eq a.variable a.variable) (eq-eqb a.name a.name refl)
    ∙ eq-eqb a.variable a.variable refl

-- whether it is the name and the variable of the atom
same-atom : (a : IndexedAtom) (name variable : ℕ) → ((name ≡ a.name) × (variable ≡ a.variable))
    ⊎ (is_atom name variable a ≡ false)
same-atom a name variable = step (nat_eq a.name name) refl (nat_eq a.variable variable) refl
  where
    step : (b : Bool) → nat_eq a.name name ≡ b → (c : Bool) → nat_eq a.variable variable ≡ c
        → ((name ≡ a.name) × (variable ≡ a.variable)) ⊎ (is_atom name variable a ≡ false)
    step true e true f = inl (sym (eqb-true a.name name e), sym (eqb-true a.variable variable f))
    step true e false f = inr (ap (λ x. x && nat_eq a.variable variable) e ∙ f)
    step false e c f = inr (ap (λ x. x && nat_eq a.variable variable) e)

asked-more : (atoms : List IndexedAtom) (a : IndexedAtom) (place name variable : ℕ)
    → is_asked (atoms ++ a ∷ []) place name variable
    ≡ ((list_any (is_atom name variable) atoms || (is_atom name variable a || false)) && not
    (nat_eq variable place))
asked-more atoms a place name variable =
    ap (λ b. b && not (nat_eq variable place))
    (list_any-append (is_atom name variable) atoms (a ∷ []))

-- elsewhere nothing more is asked
asked-other : (atoms : List IndexedAtom) (a : IndexedAtom) (place name variable : ℕ)
    → is_atom name variable a ≡ false
    → is_asked (atoms ++ a ∷ []) place name variable ≡ is_asked atoms place name variable
asked-other atoms a place name variable other =
    asked-more atoms a place name variable
    ∙ ap (λ b. (list_any (is_atom name variable) atoms || (b || false)) && not
    (nat_eq variable place)) other
    ∙ ap (λ b. b && not (nat_eq variable place)) (or-false (list_any (is_atom name variable) atoms))
  where
    or-false : (b : Bool) → (b || (false || false)) ≡ b
    or-false true = refl
    or-false false = refl

-- the atom itself is asked
asked-now : (atoms : List IndexedAtom) (a : IndexedAtom) (place : ℕ)
    → nat_eq a.variable place ≡ false → is_asked (atoms ++ a ∷ []) place a.name a.variable ≡ true
asked-now atoms a place apart =
    asked-more atoms a place a.name a.variable
    ∙ ap (λ b. (list_any (is_atom a.name a.variable) atoms || (b || false)) && not
    (nat_eq a.variable place)) (is-atom-itself a)
    ∙ ap (λ b. b && not (nat_eq a.variable place))
    (or-true (list_any (is_atom a.name a.variable) atoms))
    ∙ ap not apart
  where
    or-true : (b : Bool) → (b || (true || false)) ≡ true
    or-true true = refl
    or-true false = refl

-- at the place nothing is
pub asked-place : (atoms : List IndexedAtom) (place name : ℕ)
    → is_asked atoms place name place ≡ false
asked-place atoms place name =
    ap (λ b. list_any (is_atom name place) atoms && not b) (eq-eqb place place refl)
    ∙ and-false (list_any (is_atom name place) atoms)

and-of : (b c d : Bool) → b ≡ true → c ≡ d → c ≡ (b && d)
and-of true c d e f = f
and-of false c d e f = absurd (cc)

module _ (row : Row) (name variable : ℕ) where
  says-now : variable < length row → says (with_name name variable row) name variable ≡ true
  says-now lt = ap (λ l. contains l name)
      (get_or-set_same row variable (insert (get_or row variable empty) name) empty lt)
      ∙ contains-insert_same (get_or row variable empty) name

  says-other : (other where_ : ℕ) → ¬ ((other ≡ name) × (where_ ≡ variable)) → variable < length row
      → says (with_name name variable row) other where_ ≡ says row other where_
  says-other other where_ apart lt = elim (cases_lt where_ variable) [
    | inl less ↦ ap (λ l. contains l other)
        (get_or-set_other row variable where_ (insert (get_or row variable empty) name) empty
        (λ e. omega arith))
    | inr ge ↦ elim (cases_lt variable where_) [
      | inl more ↦ ap (λ l. contains l other)
          (get_or-set_other row variable where_ (insert (get_or row variable empty) name) empty
          (λ e. omega arith))
      | inr le ↦
          let same : variable ≡ where_ = omega arith in
          let P : ℕ → Type 0 = λ v. says (with_name name variable row) other v ≡ says row other v in
          subst P same (ap (λ l. contains l other)
          (get_or-set_same row variable (insert (get_or row variable empty) name) empty lt)
          ∙ contains-insert_other (get_or row variable empty) name other (λ e. apart (e, sym same)))
    ]
  ]

-- an atom of the place asks nothing
pub rows-same : (atoms : List IndexedAtom) (a : IndexedAtom) (place : ℕ) (rows : List Row)
    → AreRows atoms place rows → a.variable ≡ place → AreRows (atoms ++ a ∷ []) place rows
rows-same atoms a place rows are at = record {
  long = are.long;
  answers = λ letter. let (row, c, h) = are.answers letter in (
    row,
    c,
    λ name variable. h name variable
        ∙ ap (λ b. b && letter name variable) (sym (same name variable)),
  );
  silent = are.silent;
}
  where
    same : (name variable : ℕ) → is_asked (atoms ++ a ∷ []) place name variable
        ≡ is_asked atoms place name variable
    same name variable = elim (same-atom a name variable) [
      | inl (_, e) ↦
          let is : place ≡ variable = sym (e ∙ at) in
          let P : ℕ → Type 0 = λ v. is_asked (atoms ++ a ∷ []) place name v
          ≡ is_asked atoms place name v in
          subst P is (asked-place (atoms ++ a ∷ []) place name ∙ sym (asked-place atoms place name))
      | inr other ↦ asked-other atoms a place name variable other
    ]

-- another atom doubles the rows
pub rows-double : (atoms : List IndexedAtom) (a : IndexedAtom) (place : ℕ) (rows : List Row)
    → AreRows atoms place rows → nat_eq a.variable place ≡ false → a.variable < 4
    → AreRows (atoms ++ a ∷ []) place (rows ++ map (with_name a.name a.variable) rows)
rows-double atoms a place rows are apart lt =
    record { long = long; answers = answers; silent = silent }
  where
    long : (row : Row) → Contains (rows ++ map (with_name a.name a.variable) rows) row
        → length row ≡ 4
    long row c = elim (Contains-append_cases rows (map (with_name a.name a.variable) rows) row c) [
      | inl old ↦ are.long row old
      | inr new ↦ let (r, d, e) = map-from (with_name a.name a.variable) rows row new in
          ap (λ (q : Row). length q) (sym e) ∙ length-set r a.variable _ ∙ are.long r d
    ]

    silent : (row : Row) → Contains (rows ++ map (with_name a.name a.variable) rows) row
        → (name : ℕ) → says row name place ≡ false
    silent row c name =
        elim (Contains-append_cases rows (map (with_name a.name a.variable) rows) row c) [
          | inl old ↦ are.silent row old name
          | inr new ↦
              let (r, d, e) = map-from (with_name a.name a.variable) rows row new in
              let four = are.long r d in
              ap (λ (q : Row). says q name place) (sym e)
              ∙ says-other r a.name a.variable name place
              (λ (_, f). let g : nat_eq a.variable place ≡ true = eq-eqb a.variable place (sym f) in
              absurd (cc)) (omega arith)
              ∙ are.silent r d name
        ]

    answers : (letter : ℕ → ℕ → Bool) → (row : Row)
        × Contains (rows ++ map (with_name a.name a.variable) rows) row
        × IsAnswer (atoms ++ a ∷ []) place letter row
    answers letter = step (letter a.name a.variable) refl
      where
        step : (b : Bool) → letter a.name a.variable ≡ b → (row : Row)
            × Contains (rows ++ map (with_name a.name a.variable) rows) row
            × IsAnswer (atoms ++ a ∷ []) place letter row
        step true is =
            let (row, c, h) = are.answers letter in
            let four = are.long row c in
            let inside : a.variable < length row = omega arith in (
              with_name a.name a.variable row,
              Contains-append_right rows
                  (map (with_name a.name a.variable) rows) _ (map-of
                  (with_name a.name a.variable) rows row c),
              λ name variable. elim (same-atom a name variable) [
                | inl (e, f) ↦
                    let P : ℕ → ℕ → Type 0 = λ n v. says (with_name a.name a.variable row) n v
                    ≡ (is_asked (atoms ++ a ∷ []) place n v && letter n v) in
                    let Q : ℕ → Type 0 = λ n. P n a.variable in
                    let R : ℕ → Type 0 = P name in
                    subst R (sym f)
                    (subst Q (sym e) (and-of _ _ _ (asked-now atoms a place apart)
                    (says-now row a.name a.variable inside ∙ sym is)))
                | inr other ↦
                    says-other row a.name a.variable name variable
                    (λ (e, f). let g : is_atom name variable a ≡ true =
                    ap (λ n. is_atom n variable a) e ∙ ap (λ v. is_atom a.name v a) f
                    ∙ is-atom-itself a in absurd (cc)) inside
                    ∙ h name variable ∙ ap (λ b. b && letter name variable)
                    (sym (asked-other atoms a place name variable other))
              ],
            )
        step false is =
            let (row, c, h) = are.answers letter in (
              row,
              Contains-append_left rows (map (with_name a.name a.variable) rows) row c,
              λ name variable. elim (same-atom a name variable) [
                | inl (e, f) ↦
                    let P : ℕ → ℕ → Type 0 = λ n v. says row n v
                    ≡ (is_asked (atoms ++ a ∷ []) place n v && letter n v) in
                    let Q : ℕ → Type 0 = λ n. P n a.variable in
                    let R : ℕ → Type 0 = P name in
                    subst R (sym f)
                    (subst Q (sym e) (h a.name a.variable ∙ and_right _ _ is ∙ sym (and_right _ _ is)))
                | inr other ↦ h name variable
                    ∙ ap (λ b. b && letter name variable)
                    (sym (asked-other atoms a place name variable other))
              ],
            )

-- no atom yet
pub rows-none : (place : ℕ) (row : Row) → row ≡ replicate 4 empty → AreRows [] place (row ∷ [])
rows-none place row is = record {
  long = λ r c. ap (λ (q : Row). length q) (sym (one r c)) ∙ ap (λ (q : Row). length q) is;
  answers = λ letter. (row, contains-here row [], λ name variable. none name variable);
  silent = λ r c name. ap (λ (q : Row). says q name place) (sym (one r c)) ∙ none name place;
}
  where
    one : (r : Row) → Contains (row ∷ []) r → row ≡ r
    one r c = elim (contains-cases row r [] c) [
      | inl e ↦ e
      | inr later ↦ absurd (contains-none r later)
    ]

    none : (name variable : ℕ) → says row name variable ≡ false
    none name variable = ap (λ (q : Row). says q name variable) is ∙ elim (cases_lt variable 4) [
      | inl lt ↦ ap (λ l. contains l name) (get_or-replicate 4 variable empty empty lt)
          ∙ contains-empty nat_cmp name
      | inr ge ↦ ap (λ l. contains l name) (get_or_past (replicate 4 empty) variable empty ge)
          ∙ contains-empty nat_cmp name
    ]

-- ---- codes

pub codes-agree : (p q : ℕ → ℕ → Bool) (atoms : List IndexedAtom)
    → ((a : IndexedAtom) → Contains atoms a → p a.name a.variable ≡ q a.name a.variable)
    → code_of p atoms ≡ code_of q atoms
codes-agree p q [] same = refl
codes-agree p q (a ∷ atoms) same =
    ap (λ b. one_if b + 2 * code_of p atoms) (same a (contains-here a atoms))
    ∙ ap (λ n. one_if (q a.name a.variable) + 2 * n)
    (codes-agree p q atoms (λ b c. same b (contains-later a b atoms c)))

-- an atom of the list is asked, but at the place
pub asked-atom : (atoms : List IndexedAtom) (place : ℕ) (a : IndexedAtom) → Contains atoms a
    → is_asked atoms place a.name a.variable ≡ not (nat_eq a.variable place)
asked-atom atoms place a c = ap (λ b. b && not (nat_eq a.variable place)) (any atoms c)
  where
    any : (atoms : List IndexedAtom) → Contains atoms a
        → list_any (is_atom a.name a.variable) atoms ≡ true
    any [] c = absurd (contains-none a c)
    any (b ∷ bs) c = elim (contains-cases b a bs c) [
      | inl e ↦ ap (λ (q : IndexedAtom). is_atom a.name a.variable q || list_any
          (is_atom a.name a.variable) bs) e
          ∙ ap (λ x. x || list_any (is_atom a.name a.variable) bs) (is-atom-itself a)
      | inr later ↦ or-right (is_atom a.name a.variable b) _ (any bs later)
    ]
      where
        or-right : (x y : Bool) → y ≡ true → (x || y) ≡ true
        or-right true y e = refl
        or-right false y e = e

-- what a row says for the variables of a monitor
pub row-says : (m : Machine) → IsMonitor m → (row : Row) (a : IndexedAtom) → Contains m.atoms a
    → joint_letter (take m.variables row) a.name a.variable ≡ says row a.name a.variable
row-says m is row a c = ap (λ l. contains l a.name)
    (get_or-take m.variables row a.variable empty
    (atom-below m.variables m.atoms (machine-below m is) a c))

-- the code of an answer is that of the joint letter without the place
pub answer-code : (m : Machine) → IsMonitor m → (place : ℕ) (letter : ℕ → ℕ → Bool) (row : Row)
    → IsAnswer m.atoms place letter row
    → row_code m row ≡ code_of
    (λ name variable. not (nat_eq variable place) && letter name variable) m.atoms
answer-code m is place letter row h =
    codes-agree (joint_letter (take m.variables row))
    (λ name variable. not (nat_eq variable place) && letter name variable) m.atoms
    (λ a c. row-says m is row a c ∙ h a.name a.variable
    ∙ ap (λ b. b && letter a.name a.variable) (asked-atom m.atoms place a c))

-- ---- atoms one after another

module _ (atoms : List Atom) (k : ℕ) (a : Atom) (lt : k < length atoms)
    (is : a ≡ get_or atoms k a) where
  pub atom-taken : map plain_atom (take (k + 1) atoms) ≡ map plain_atom (take k atoms)
      ++ plain_atom a ∷ []
  atom-taken = ap (λ l. map plain_atom l) (take_more atoms k a lt)
      ∙ map-append plain_atom (take k atoms) (get_or atoms k a ∷ [])
      ∙ ap (λ (x : Atom). map plain_atom (take k atoms) ++ plain_atom x ∷ []) (sym is)

  pub atom-small : (m : Machine) → IsMonitor m → map plain_atom atoms ≡ m.atoms → a.var < 4
  atom-small m mon same =
      let P : List IndexedAtom → Type 0 = λ l. Contains l (plain_atom a) in
      let lt = atom-below m.variables m.atoms (machine-below m mon) (plain_atom a)
      (subst P same (map-of plain_atom atoms a (k, lt, sym is))) in
      let few = mon.few in
      omega arith
