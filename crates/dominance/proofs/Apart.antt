-- Of traces that differ in a name that must agree with another place neither dominates the other.
use Rattle.std.proofs.Common.{◌≡◌, ◌⊎◌, ℕ, zero, suc, ◌<◌, ◌≤◌, Bool, true, false, ◌&&◌, ◌||◌, nat_eq, List, [], ◌∷◌, length, map, take, Some, inl, inr, refl, sym, ap, ◌∙◌, subst, arith, get_or, bit_or}
use Rattle.std.specs.Prelude.{slice_index}
use Rattle.std.specs.List.{Contains}
use Rattle.std.specs.FinSet.{empty, contains}
use Rattle.std.proofs.lemmas.Bool.{cases_lt, eq-eqb, ne_eqb}
use Rattle.std.proofs.lemmas.List.{get_or-map, length-map}
use Rattle.std.proofs.lemmas.Nat.{pow_pos, or_lt}
use Rattle.hy_bits.specs.Binary.{has_one}
use Rattle.hy_bits.specs.Letter.{Letter}
use Rattle.hy_formula.specs.Atoms.{IndexedAtom}
use Rattle.hy_formula.specs.Quantifiers.{Each}
use Rattle.hy_finite.specs.declared.lengths.Lengths.{Lengths}
use Rattle.hy_finite.specs.declared.lengths.Lengths.TheVariants.{Min, Pad}
use Rattle.hy_finite.specs.Traces.{Trace, of_two}
use Rattle.fin_monitor.specs.Codes.{code_of, joint_letter, part_of}
use Rattle.fin_monitor.specs.Machines.{Machine, IsMonitor, codes, states_of, next_state, is_accepting, settled_state}
use Rattle.fin_monitor.proofs.CodeBits.{code-lt, code-or, has-first, has-later}
use Rattle.fin_monitor.proofs.Running.{place-inside}
use Rattle.dominance.specs.Choices.{Row, says, row_code}
use Rattle.dominance.specs.Dominance.{IsTrace, Dominates}
use Rattle.dominance.specs.Runs.{state_on, joint, ended, codes_by, chosen, IsFound}
use Rattle.dominance.specs.Telling.{DifferIn, AreTelling, atom_at, IsTold, AreTold, IsRejected, IsRejectable}
use Rattle.dominance.proofs.Asking.{row-says, machine-below, atom-below}
use Rattle.dominance.proofs.Beside.{column-at}
use Rattle.dominance.proofs.Elements.{each-below}
use Rattle.dominance.proofs.Meaning.{codes-of}
use Rattle.dominance.proofs.Refuting.{pairing_at, found-refutes, refuted-at, told-second}
use Rattle.dominance.proofs.Standing.{state_on-same, ended-before, ended-past}

-- ---- bits of codes

abbrev no_atom : IndexedAtom
no_atom = record { name = 0; variable = 0 }

code-bit : (letter : ℕ → ℕ → Bool) (atoms : List IndexedAtom) (k : ℕ) → k < length atoms
    → has_one (code_of letter atoms) k
    ≡ letter (get_or atoms k no_atom).name (get_or atoms k no_atom).variable
code-bit letter [] k lt = absurd (omega arith)
code-bit letter (a ∷ atoms) zero lt =
    has-first (letter a.name a.variable) (code_of letter atoms)
code-bit letter (a ∷ atoms) (suc k) lt =
    has-later (letter a.name a.variable) (code_of letter atoms) k
    ∙ code-bit letter atoms k (omega arith)

atom-there : (atoms : List IndexedAtom) (k : ℕ) → k < length atoms
    → Contains atoms (get_or atoms k no_atom)
atom-there atoms k lt = (k, lt, itself atoms k lt)
  where
    itself : (atoms : List IndexedAtom) (k : ℕ) → k < length atoms
        → get_or atoms k (get_or atoms k no_atom) ≡ get_or atoms k no_atom
    itself [] k lt = absurd (omega arith)
    itself (a ∷ atoms) zero lt = refl
    itself (a ∷ atoms) (suc k) lt = itself atoms k (omega arith)

module _ (m : Machine) (is : IsMonitor m) (place : ℕ) (row : Row) (l : Letter) (k : ℕ)
    (lt : k < length m.atoms) where
  -- a bit of the code of a letter at the place beside a row
  bit-beside : has_one (bit_or (part_of m.atoms place l) (row_code m row)) k
      ≡ ((nat_eq (atom_at m k).variable place && contains l (atom_at m k).name)
      || says row (atom_at m k).name (atom_at m k).variable)
  bit-beside =
      ap (λ c. has_one c k) (sym (code-or (λ n v. nat_eq v place && contains l n)
      (joint_letter (take m.variables row)) m.atoms))
      ∙ code-bit _ m.atoms k lt
      ∙ ap (λ b. (nat_eq (atom_at m k).variable place && contains l (atom_at m k).name) || b)
      (row-says m is row (atom_at m k) (atom-there m.atoms k lt))

  bit-here : says row (atom_at m k).name place ≡ false → (atom_at m k).variable ≡ place
      → has_one (bit_or (part_of m.atoms place l) (row_code m row)) k
      ≡ contains l (atom_at m k).name
  bit-here silent at =
      bit-beside
      ∙ ap (λ v. (nat_eq v place && contains l (atom_at m k).name)
      || says row (atom_at m k).name v) at
      ∙ ap (λ b. (b && contains l (atom_at m k).name) || says row (atom_at m k).name place)
      (eq-eqb place place refl)
      ∙ ap (λ b. contains l (atom_at m k).name || b) silent
      ∙ or-false (contains l (atom_at m k).name)
    where
      or-false : (b : Bool) → (b || false) ≡ b
      or-false true = refl
      or-false false = refl

  bit-elsewhere : ¬ ((atom_at m k).variable ≡ place)
      → has_one (bit_or (part_of m.atoms place l) (row_code m row)) k
      ≡ says row (atom_at m k).name (atom_at m k).variable
  bit-elsewhere apart =
      bit-beside
      ∙ ap (λ b. (b && contains l (atom_at m k).name)
      || says row (atom_at m k).name (atom_at m k).variable)
      (ne_eqb (atom_at m k).variable place apart)

-- ---- the settled state

module _ (m : Machine) (is : IsMonitor m) (code : ℕ → ℕ) (below : (i : ℕ) → code i < codes m)
  where
    state-within : (n : ℕ) → state_on m code n < states_of m
    state-within zero = is.some
    state-within (suc n) = is.inside _ (place-inside m is _ (code n) (state-within n) (below n))

    -- what has settled accepts
    settled-accepts : (i n : ℕ) → i < n → state_on m code (suc i) ≡ settled_state m
        → is_accepting m (state_on m code n) ≡ true
    settled-accepts i n lt e = ap (is_accepting m) (from n lt) ∙ is.settled
      where
        from : (n : ℕ) → i < n → state_on m code n ≡ settled_state m
        from zero lt = absurd (omega arith)
        from (suc n) lt = elim (cases_lt i n) [
          | inl less ↦ ap (λ q. next_state m q (code n)) (from n less) ∙ is.stays (code n) (below n)
          | inr ge ↦ let same : i ≡ n = omega arith in
              ap (λ k. state_on m code (suc k)) (sym same) ∙ e
        ]

-- ---- two traces that differ

bits-same : (b c : Bool) → ¬ ¬ (b ≡ c) → b ≡ c
bits-same true true h = refl
bits-same true false h = absurd (h (λ e. cc))
bits-same false true h = absurd (h (λ e. cc))
bits-same false false h = refl

of-second : (rule : Lengths) (n : ℕ) → of_two rule n n ≡ n
of-second Min n = omega arith
of-second Pad n = omega arith

before-both : (rule : Lengths) (a n i : ℕ) → i < a → i < n → i < of_two rule a n
before-both Min a n i p q = omega arith
before-both Pad a n i p q = omega arith

module _ (m : Machine) (is : IsMonitor m) (rule : Lengths) (i : ℕ) (lt : i < length m.atoms)
    (told : IsTold m i) (can : IsRejectable m (atom_at m i).variable) (t u : Trace)
    (some_t : IsTrace t) (some_u : IsTrace u) (differ : DifferIn (atom_at m i).name t u) where
  abbrev place : ℕ
  place = (atom_at m i).variable

  abbrev path : List ℕ
  path = (can.paths u some_u).0

  rejected : IsRejected m place can.rows u path
  rejected = (can.paths u some_u).1

  abbrev n : ℕ
  n = length path

  abbrev at : ℕ
  at = differ.0

  abbrev choices : ℕ → ℕ
  choices = codes_by (map (row_code m) can.rows) (chosen path)

  -- the codes of a trace beside the choices, up to their end
  abbrev codes_of : Trace → ℕ → ℕ
  codes_of x = joint (map (part_of m.atoms place) x) (ended choices n)

  choices-below : (k : ℕ) → choices k < codes m
  choices-below k = codes-of (row_code m) (codes m) (pow_pos (length m.atoms))
      (λ row. code-lt _ m.atoms) can.rows (chosen path k)

  codes-below : (x : Trace) (k : ℕ) → codes_of x k < codes m
  codes-below x k = or_lt (length m.atoms) _ _
      (codes-of (part_of m.atoms place) (codes m) (pow_pos (length m.atoms))
      (λ l. code-lt _ m.atoms) x k) (ended-lt (cases_lt k n))
    where
      ended-lt : (k < n) ⊎ (n ≤ k) → ended choices n k < codes m
      ended-lt (inl less) = let P : ℕ → Type 0 = λ c. c < codes m in
          subst P (sym (ended-before choices n k less)) (choices-below k)
      ended-lt (inr past) = let P : ℕ → Type 0 = λ c. c < codes m in
          subst P (sym (ended-past choices n k past)) (pow_pos (length m.atoms))

  at-n : at < n
  at-n = let (k, lt_t, lt_u, apart) = differ in omega (arith, lt_u, rejected.long)

  abbrev row : Row
  row = get_or can.rows (chosen path at) []

  inside-rows : chosen path at < length can.rows
  inside-rows = each-below (length can.rows) path rejected.choices at at-n

  row-there : Contains can.rows row
  row-there = (chosen path at, inside-rows, itself can.rows (chosen path at) inside-rows)
    where
      itself : (rows : List Row) (k : ℕ) → k < length rows
          → get_or rows k (get_or rows k []) ≡ get_or rows k []
      itself [] k lt = absurd (omega arith)
      itself (r ∷ rows) zero lt = refl
      itself (r ∷ rows) (suc k) lt = itself rows k (omega arith)

  -- the code there
  code-there : (x : Trace) → codes_of x at
      ≡ bit_or (part_of m.atoms place (get_or x at empty)) (row_code m row)
  code-there x =
      ap (λ c. bit_or c (ended choices n at)) (column-at m place x at)
      ∙ ap (bit_or (part_of m.atoms place (get_or x at empty)))
      (ended-before choices n at at-n
      ∙ get_or-map (row_code m) can.rows (chosen path at) [] 0 inside-rows)

  -- what the name and the other atom are there
  name-there : (x : Trace) → has_one (codes_of x at) i
      ≡ contains (get_or x at empty) (atom_at m i).name
  name-there x = ap (λ c. has_one c i) (code-there x)
      ∙ bit-here m is place row (get_or x at empty) i lt
      (can.are.silent row row-there (atom_at m i).name) refl

  other-there : (x y : Trace) → has_one (codes_of x at) told.0 ≡ has_one (codes_of y at) told.0
  other-there x y =
      let (j, below, apart, must) = told in
      (ap (λ c. has_one c j) (code-there x)
      ∙ bit-elsewhere m is place row (get_or x at empty) j below apart)
      ∙ sym (ap (λ c. has_one c j) (code-there y)
      ∙ bit-elsewhere m is place row (get_or y at empty) j below apart)

  -- where they differ, the run accepts
  accepts : (x : Trace) (k : ℕ) → at < k
      → ¬ (has_one (codes_of x at) i ≡ has_one (codes_of x at) told.0)
      → is_accepting m (state_on m (codes_of x) k) ≡ true
  accepts x k less apart =
      let (j, below, other, must) = told in
      settled-accepts m is (codes_of x) (codes-below x) at k less
      (must (state_on m (codes_of x) at) (state-within m is (codes_of x) (codes-below x) at)
      (codes_of x at) (codes-below x at) apart)

  rejects : is_accepting m (state_on m (codes_of u) n) ≡ false
  rejects =
      ap (is_accepting m) (state_on-same m (codes_of u)
      (joint (map (part_of m.atoms place) u) choices) n
      (λ k less. ap (bit_or (slice_index (map (part_of m.atoms place) u) k))
      (ended-before choices n k less)))
      ∙ ap (λ k. is_accepting m
      (state_on m (joint (map (part_of m.atoms place) u) choices) k)) rejected.long
      ∙ rejected.rejects

  agrees : has_one (codes_of u at) i ≡ has_one (codes_of u at) told.0
  agrees = bits-same _ _ (λ apart. let e = accepts u n at-n apart in let f = rejects in cc)

  differs : ¬ (has_one (codes_of t at) i ≡ has_one (codes_of t at) told.0)
  differs e =
      let (k, lt_t, lt_u, apart) = differ in
      apart (sym (name-there t) ∙ e ∙ other-there t u ∙ sym agrees ∙ name-there u)

  found : IsFound (pairing_at m rule place can.rows t u) (Some path)
  found =
      let lt_t = length-map t (part_of m.atoms place) in
      let lt_u = length-map u (part_of m.atoms place) in
      let P : ℕ → Type 0 = λ k. Each (λ (c : ℕ). c < k) path in
      let second = told-second rule (length (map (part_of m.atoms place) t))
      (length (map (part_of m.atoms place) u)) in
      let long : length (map (part_of m.atoms place) u) ≡ n = lt_u ∙ sym rejected.long in (
        subst P (sym (length-map can.rows (row_code m))) rejected.choices,
        omega (arith, second, long),
        record {
          upper = accepts t (of_two rule (length (map (part_of m.atoms place) t)) n)
              (before-both rule (length (map (part_of m.atoms place) t)) n at
              (let (k, in_t, in_u, apart) = differ in omega (arith, in_t, lt_t)) at-n) differs;
          lower = ap (λ k. is_accepting m (state_on m (codes_of u) k))
              (ap (λ a. of_two rule a n) long ∙ of-second rule n) ∙ rejects;
        },
      )

  not-over : ¬ Dominates rule m.variables m.body t u
  not-over over =
      let here = atom-below m.variables m.atoms (machine-below m is) (atom_at m i)
      (atom-there m.atoms i lt) in
      let (j, below, apart, must) = told in
      let there = atom-below m.variables m.atoms (machine-below m is) (atom_at m j)
      (atom-there m.atoms j below) in
      refuted-at rule m.variables m.body t u place _
      (found-refutes m is rule can.rows t u some_t some_u place here
      (two (atom_at m j).variable (atom_at m i).variable m.variables there here apart)
      can.are path found)
      (λ before after b a count_before count. over before after b a count)
    where
      two : (a b n : ℕ) → a < n → b < n → ¬ (a ≡ b) → 2 ≤ n
      two a b zero p q r = absurd (omega arith)
      two zero zero (suc zero) p q r = absurd (r refl)
      two (suc a) b (suc zero) p q r = absurd (omega arith)
      two a (suc b) (suc zero) p q r = absurd (omega arith)
      two a b (suc (suc n)) p q r = omega arith

-- names of atoms of a place that must agree with another place tell traces apart
pub told-tell : (m : Machine) → IsMonitor m → (place : ℕ) (names : List ℕ) → AreTold m place names
    → IsRejectable m place → AreTelling m.variables m.body names
told-tell m is place names are can = record {
  small = are.small;
  tell = λ name c rule t u some_t some_u differ.
      let (i, lt, named, at, told) = are.told name c in
      let P : ℕ → Type 0 = λ p. IsRejectable m p in
      let Q : ℕ → Type 0 = λ k. DifferIn k t u in
      not-over m is rule i lt told (subst P (sym at) can) t u some_t some_u
      (subst Q (sym named) differ);
}
