-- Choices beside a trace that stay among states that do not accept.
use Rattle.std.proofs.Common.{◌≡◌, ◌⊎◌, ℕ, zero, suc, ◌<◌, true, not, ◌&&◌, nat_eq, List, [], ◌∷◌, ◌++◌, length, map, Bool, false, inl, inr, refl, sym, ap, ◌∙◌, subst, arith, get_or, bit_or, length-append}
use Rattle.std.specs.Prelude.{IsTrue, slice_index}
use Rattle.std.specs.List.{Contains}
use Rattle.std.specs.FinSet.{empty, contains}
use Rattle.std.proofs.lemmas.Bool.{cases_lt, eqb-true, ne_eqb}
use Rattle.std.proofs.lemmas.List.{get_or_append_left, get_or_past, get_or_default, length-map}
use Rattle.std.proofs.Math.Seq.{get_or-append_seam}
use Rattle.hy_bits.specs.Letter.{Letter}
use Rattle.hy_formula.specs.Quantifiers.{Each}
use Rattle.hy_formula.proofs.Each.{each-append}
use Rattle.hy_finite.specs.Traces.{Trace}
use Rattle.fin_monitor.specs.Codes.{part_of}
use Rattle.hy_formula.specs.Atoms.{IndexedAtom}
use Rattle.fin_monitor.specs.Machines.{Machine, IsMonitor, codes, next_state, states_of}
use Rattle.fin_monitor.specs.Tables.{flag_at}
use Rattle.dominance.specs.Choices.{Row, says, IsAnswer, AreRows, row_code}
use Rattle.dominance.specs.Dominance.{IsTrace}
use Rattle.dominance.specs.Runs.{AreCodesOf, state_on, joint, codes_by, chosen}
use Rattle.dominance.specs.Telling.{AreRejecting, MayStay, IsRejected, IsRejectable}
use Rattle.dominance.proofs.Asking.{codes-agree, row-says, asked-atom, machine-below, atom-below}
use Rattle.dominance.proofs.Beside.{column-at}
use Rattle.dominance.proofs.Standing.{state_on-same}

-- ---- the parts that a place gives

pub codes-more : (m : Machine) (list : List ℕ) (x : ℕ) → AreCodesOf m list → x < codes m
    → AreCodesOf m (list ++ x ∷ [])
codes-more m [] x h lt zero = lt
codes-more m [] x h lt (suc i) = h i
codes-more m (y ∷ ys) x h lt zero = h 0
codes-more m (y ∷ ys) x h lt (suc i) = codes-more m ys x (λ j. h (suc j)) lt i

and-step : (b x y : Bool) → (b ≡ true → x ≡ (b && y)) → (b && x) ≡ (b && y)
and-step true x y h = h refl
and-step false x y h = refl

-- Each letter's part is the code of a row that says it at the place alone.
pub part-given : (m : Machine) → IsMonitor m → (place : ℕ) (letter : Letter) (rows : List Row)
    → AreRows m.atoms m.variables rows → (parts : List ℕ)
    → ((k : ℕ) → k < length rows
    → part_of m.atoms place (get_or (get_or rows k []) place empty)
    ≡ row_code m (get_or rows k []) → Contains parts (row_code m (get_or rows k [])))
    → Contains parts (part_of m.atoms place letter)
part-given m is place letter rows are parts all =
    let (row, (k, lt, e), answer) = are.answers wanted in
    let same : get_or rows k [] ≡ row = get_or_default rows k [] row lt ∙ e in
    let code : row_code m (get_or rows k []) ≡ part_of m.atoms place letter =
    ap (row_code m) same ∙ codes-agree _ _ m.atoms (λ a c. row-says m is row a c ∙ says_it row answer a c) in
    let part : part_of m.atoms place (get_or (get_or rows k []) place empty)
    ≡ part_of m.atoms place letter =
    ap (λ (r : Row). part_of m.atoms place (get_or r place empty)) same
    ∙ codes-agree _ _ m.atoms (λ a c. and-step (nat_eq a.variable place) _ _
    (λ at. ap (λ v. says row a.name v) (sym (eqb-true a.variable place at))
    ∙ says_it row answer a c)) in
    let P : ℕ → Type 0 = Contains parts in
    subst P code (all k lt (part ∙ sym code))
  where
    wanted : ℕ → ℕ → Bool
    wanted name variable = nat_eq variable place && contains letter name

    says_it : (row : Row) → IsAnswer m.atoms m.variables wanted row → (a : IndexedAtom)
        → Contains m.atoms a → says row a.name a.variable ≡ wanted a.name a.variable
    says_it row answer a c =
        let below = atom-below m.variables m.atoms (machine-below m is) a c in
        answer a.name a.variable
        ∙ ap (λ b. b && wanted a.name a.variable)
        (asked-atom m.atoms m.variables a c
        ∙ ap not (ne_eqb a.variable m.variables (λ e. omega arith)))

-- ---- choices that stay

module _ (m : Machine) (place : ℕ) (rows : List Row) (parts : List ℕ) (among : List Bool)
    (rejecting : AreRejecting m among)
    (all : (letter : Letter) → Contains parts (part_of m.atoms place letter))
    (closed : (q : ℕ) → q < states_of m → IsTrue (flag_at among q)
    → MayStay m parts (map (row_code m) rows) among q)
    (start : MayStay m parts (map (row_code m) rows) among 0) where
  -- the codes of the trace and of the choices
  abbrev beside : Trace → List ℕ → ℕ → ℕ
  beside t path = joint (map (part_of m.atoms place) t)
      (codes_by (map (row_code m) rows) (chosen path))

  -- where a run is that stays
  abbrev IsAmong : ℕ → ℕ → Type 0
  IsAmong n q = ((n ≡ 0) × (q ≡ 0)) ⊎ IsTrue (flag_at among q)

  inside : (q : ℕ) → IsTrue (flag_at among q) → q < states_of m
  inside q flag = elim (cases_lt q (length among)) [
    | inl lt ↦ let long = rejecting.long in omega arith
    | inr past ↦ let e = get_or_past among q false past in absurd (cc)
  ]

  stays : (n q : ℕ) → IsAmong n q → MayStay m parts (map (row_code m) rows) among q
  stays n q (inl (none, is)) = let P : ℕ → Type 0 = MayStay m parts (map (row_code m) rows) among in
      subst P (sym is) start
  stays n q (inr flag) = closed q (inside q flag) flag

  path-for : (t : Trace) (n : ℕ) → (path : List ℕ) × Each (λ (k : ℕ). k < length rows) path
      × (length path ≡ n) × IsAmong n (state_on m (beside t path) n)
  path-for t zero = ([], tt, refl, inl (refl, refl))
  path-for t (suc n) =
      let (path, each, long, there) = path-for t n in
      let q : ℕ = state_on m (beside t path) n in
      let (k, lt, flag) = stays n q there (part_of m.atoms place (get_or t n empty))
      (all (get_or t n empty)) in
      let more : List ℕ = path ++ k ∷ [] in
      let last : chosen more n ≡ k =
      ap (get_or_of more) (sym long) ∙ get_or-append_seam path k [] 0 in
      let code : beside t more n
      ≡ bit_or (part_of m.atoms place (get_or t n empty))
      (slice_index (map (row_code m) rows) k) =
      ap (λ x. bit_or x (slice_index (map (row_code m) rows) (chosen more n)))
      (column-at m place t n)
      ∙ ap (λ j. bit_or (part_of m.atoms place (get_or t n empty))
      (slice_index (map (row_code m) rows) j)) last in
      let before : state_on m (beside t more) n ≡ q =
      state_on-same m (beside t more) (beside t path) n
      (λ i less. ap (λ j. bit_or (slice_index (map (part_of m.atoms place) t) i)
      (slice_index (map (row_code m) rows) j))
      (get_or_append_left path (k ∷ []) 0 i (omega arith))) in
      let next : state_on m (beside t more) (suc n)
      ≡ next_state m q (bit_or (part_of m.atoms place (get_or t n empty))
      (slice_index (map (row_code m) rows) k)) =
      ap (λ p. next_state m p (beside t more n)) before ∙ ap (next_state m q) code in
      let P : ℕ → Type 0 = λ p. IsTrue (flag_at among p) in (
        more,
        each-append (λ (j : ℕ). j < length rows) path (k ∷ []) each
            (omega (arith, lt, length-map rows (row_code m)), tt),
        omega (arith, long, length-append path (k ∷ [])),
        inr (subst P (sym next) flag),
      )
    where
      get_or_of : List ℕ → ℕ → ℕ
      get_or_of list i = get_or list i 0

  pub rejectable : AreRows m.atoms place rows → IsRejectable m place
  rejectable are = record { rows = rows; are = are; paths = paths }
    where
      paths : (t : Trace) → IsTrace t → (path : List ℕ) × IsRejected m place rows t path
      paths t some =
          let (path, each, long, there) = path-for t (length t) in (
            path,
            record {
              choices = each;
              long = long;
              rejects = elim there [
                | inl (none, is) ↦ absurd (omega arith)
                | inr flag ↦ rejecting.reject _ flag
              ];
            },
          )
