-- When the order of two traces does not matter: traces of one length tell it, and letters of which
-- the atoms ask.
use Rattle.std.proofs.Common.{◌≡◌, ◌↔◌, ℕ, zero, suc, ◌<◌, max, Bool, true, false, not, ◌&&◌, nat_eq, List, [], ◌∷◌, length, map, None, refl, sym, ap, ◌∙◌, subst, arith, get_or}
use Rattle.std.specs.Prelude.{slice_index, IsTrue}
use Rattle.std.specs.List.{Contains, list_any}
use Rattle.std.specs.FinSet.{empty, contains}
use Rattle.std.specs.Int.Bits.{or_zero_l}
use Rattle.std.proofs.lemmas.Bool.{ne_eqb}
use Rattle.std.proofs.lemmas.List.{get_or-map, length-map}
use Rattle.hy_bits.specs.Letter.{Letter}
use Rattle.hy_formula.specs.Quantifiers.{Each}
use Rattle.hy_formula.specs.Trees.{Tree}
use Rattle.hy_finite.specs.declared.lengths.Lengths.{Lengths}
use Rattle.hy_finite.specs.declared.lengths.Lengths.TheVariants.{Min, Pad}
use Rattle.hy_finite.specs.Traces.{Trace, of_two, trace_words, Meets, fit}
use Rattle.hy_finite.proofs.Agreeing.{fitted, length-fit}
use Rattle.hy_finite.proofs.JudgedLength.{of_two-turned, of_two-some}
use Rattle.hy_formula.specs.Atoms.{IndexedAtom, is_atom}
use Rattle.fin_monitor.specs.Codes.{code_of, joint_letter}
use Rattle.fin_monitor.specs.Machines.{Machine, IsMonitor, is_accepting}
use Rattle.dominance.specs.Dominance.{IsTrace, IsSymmetric}
use Rattle.dominance.specs.Choices.{Row, says, IsAnswer, AreRows, row_code, turned, turned_code}
use Rattle.dominance.specs.Runs.{even_pairing, state_on, joint, ended, judged_state, codes_by, chosen, Differ, IsFound, IsFoundOrNot}
use Rattle.dominance.proofs.Elements.{each-below}
use Rattle.dominance.proofs.Standing.{state_on-same, ended-before}
use Rattle.dominance.proofs.Meaning.{meets-state}
use Rattle.dominance.proofs.Asking.{codes-agree, answer-code, asked-atom, machine-below, atom-below, row-says}

-- ---- traces of one length

abbrev pub IsSymmetricEven : Lengths → Tree → Type 0
IsSymmetricEven rule body = (t u : Trace) → IsTrace t → length t ≡ length u
    → Meets rule body (t ∷ u ∷ []) → Meets rule body (u ∷ t ∷ [])

two-same : (rule : Lengths) (a b : ℕ) → a ≡ b → a ≡ of_two rule a b
two-same Min a b e = omega arith
two-same Pad a b e = omega arith

-- they decide it
pub even-symmetric : (rule : Lengths) (n : ℕ) (body : Tree) → n ≡ 2 → IsSymmetricEven rule body
    → IsSymmetric rule n body
even-symmetric rule n body two e =
    record { two = two; same = λ t u is_t is_u. (back t u is_t is_u, back u t is_u is_t) }
  where
    back : (t u : Trace) → IsTrace t → IsTrace u → Meets rule body (t ∷ u ∷ [])
        → Meets rule body (u ∷ t ∷ [])
    back t u is_t is_u meets =
        let l : ℕ = of_two rule (length t) (length u) in
        let some = of_two-some rule (length t) (length u) is_t is_u in
        let some' = of_two-some rule (length u) (length t) is_u is_t in
        let turn = of_two-turned rule (length u) (length t) in
        let f = fitted rule body (t ∷ u ∷ []) some in
        let g = fitted rule body (u ∷ t ∷ []) some' in
        let lt = length-fit l t in
        let lu = length-fit l u in
        let P : ℕ → Type 0 = λ k. Meets rule body (fit k u ∷ fit k t ∷ []) in
        g.1 (subst P (sym turn)
        (e (fit (of_two rule (length t) (length u)) t)
        (fit (of_two rule (length t) (length u)) u) (omega arith) (lt ∙ sym lu) (f.0 meets)))

-- ---- runs with no column

judged-even : (m : Machine) (code : ℕ → ℕ) (n : ℕ)
    → judged_state m Pad [] code n ≡ state_on m code n
judged-even m code n =
    let e : max 0 n ≡ n = omega arith in
    ap (state_on m (joint [] (ended code n))) e
    ∙ state_on-same m (joint [] (ended code n)) code n
    (λ i lt. or_zero_l (ended code n i) ∙ ended-before code n i lt)

-- the other one of two variables
abbrev other : ℕ → ℕ
other zero = 1
other (suc v) = 0

-- what is said for the other variable, where an atom asks for it there
abbrev crossed : Machine → (ℕ → ℕ → Bool) → ℕ → ℕ → Bool
crossed m f name variable = list_any (is_atom name (other variable)) m.atoms && f name
    (other variable)

abbrev exchanged : (ℕ → ℕ → Bool) → ℕ → ℕ → Bool
exchanged f name variable = f name (other variable)

module _ (m : Machine) (is : IsMonitor m) (two : m.variables ≡ 2) where
  below-two : (a : IndexedAtom) → Contains m.atoms a → a.variable < 2
  below-two a c = let lt = atom-below m.variables m.atoms (machine-below m is) a c in omega arith

  by-atom : (p q : ℕ → ℕ → Bool)
      → ((name variable : ℕ) → variable < 2 → list_any (is_atom name variable) m.atoms ≡ true
      → p name variable ≡ q name variable) → code_of p m.atoms ≡ code_of q m.atoms
  by-atom p q same = codes-agree p q m.atoms
      (λ a c. same a.name a.variable (below-two a c) (there a c))
    where
      first : (b d : Bool) → (b && d) ≡ true → b ≡ true
      first true d e = refl
      first false d e = absurd (cc)

      there : (a : IndexedAtom) → Contains m.atoms a
          → list_any (is_atom a.name a.variable) m.atoms ≡ true
      there a c = first (list_any (is_atom a.name a.variable) m.atoms) (not (nat_eq a.variable 2))
          (asked-atom m.atoms 2 a c
          ∙ ap not (ne_eqb a.variable 2 (λ e. let lt = below-two a c in omega arith)))

  row-code-is : (f : ℕ → ℕ → Bool) (row : Row) → IsAnswer m.atoms 2 f row
      → row_code m row ≡ code_of f m.atoms
  row-code-is f row h = answer-code m is 2 f row h
      ∙ by-atom _ _ (λ name variable lt _. ap (λ b. not b && f name variable)
      (ne_eqb variable 2 (λ e. omega arith)))

  turned-code-is : (f : ℕ → ℕ → Bool) (row : Row) → IsAnswer m.atoms 2 f row
      → turned_code m row ≡ code_of (crossed m f) m.atoms
  turned-code-is f row h = by-atom (joint_letter (turned row)) (crossed m f)
      (λ name variable lt _. cross name variable lt)
    where
      and-true : (b d : Bool) → ((b && true) && d) ≡ (b && d)
      and-true true d = refl
      and-true false d = refl

      cross : (name variable : ℕ) → variable < 2
          → joint_letter (turned row) name variable ≡ crossed m f name variable
      cross name zero lt = h name 1 ∙ and-true (list_any (is_atom name 1) m.atoms) (f name 1)
      cross name (suc zero) lt = h name 0 ∙ and-true (list_any (is_atom name 0) m.atoms) (f name 0)
      cross name (suc (suc v)) lt = absurd (omega arith)

  abbrev word_code : (ℕ → ℕ → ℕ → Bool) → ℕ → ℕ
  word_code w i = code_of (w i) m.atoms

  abbrev accepted : (ℕ → ℕ) → ℕ → Bool
  accepted code n = is_accepting m (state_on m code n)

  accepted-same : (code code' : ℕ → ℕ) (n : ℕ) → ((i : ℕ) → i < n → code i ≡ code' i)
      → accepted code n ≡ accepted code' n
  accepted-same code code' n same = ap (is_accepting m) (state_on-same m code code' n same)

  module _ (rows : List Row) (are : AreRows m.atoms 2 rows) where
    abbrev row_codes : List ℕ
    row_codes = map (row_code m) rows

    abbrev turned_codes : List ℕ
    turned_codes = map (turned_code m) rows

    abbrev choice_of : (ℕ → ℕ → ℕ → Bool) → ℕ → ℕ
    choice_of w i = (are.answers (w i)).1.0

    choice-below : (w : ℕ → ℕ → ℕ → Bool) (i : ℕ) → choice_of w i < length rows
    choice-below w i = (are.answers (w i)).1.1

    at-choice : (f : Row → ℕ) (w : ℕ → ℕ → ℕ → Bool) (i : ℕ)
        → slice_index (map f rows) (choice_of w i) ≡ f ((are.answers (w i)).0)
    at-choice f w i = get_or-map f rows (choice_of w i) ((are.answers (w i)).0) 0 (choice-below w i)
        ∙ ap f (are.answers (w i)).1.2

    upper-is : (w : ℕ → ℕ → ℕ → Bool) (i : ℕ) → codes_by row_codes (choice_of w) i ≡ word_code w i
    upper-is w i = at-choice (row_code m) w i ∙ row-code-is (w i) _ (are.answers (w i)).2

    lower-is : (w : ℕ → ℕ → ℕ → Bool) (i : ℕ)
        → codes_by turned_codes (choice_of w) i ≡ word_code (λ k. crossed m (w k)) i
    lower-is w i = at-choice (turned_code m) w i ∙ turned-code-is (w i) _ (are.answers (w i)).2

    not-apart : (a b : Bool) → ¬ ((a ≡ true) × (b ≡ false)) → ¬ ((b ≡ true) × (a ≡ false)) → a ≡ b
    not-apart true true x y = refl
    not-apart true false x y = absurd (x (refl, refl))
    not-apart false true x y = absurd (y (refl, refl))
    not-apart false false x y = refl

    module _ (there : IsFound (even_pairing m row_codes turned_codes) None)
        (back : IsFound (even_pairing m turned_codes row_codes) None) where
      -- neither search found anything
      crossing : (w : ℕ → ℕ → ℕ → Bool) (n : ℕ)
          → accepted (word_code w) n ≡ accepted (word_code (λ k. crossed m (w k))) n
      crossing w n =
          let c = choice_of w in
          let up = ap (is_accepting m) (judged-even m (codes_by row_codes c) n)
          ∙ accepted-same _ (word_code w) n (λ i lt. upper-is w i) in
          let low = ap (is_accepting m) (judged-even m (codes_by turned_codes c) n)
          ∙ accepted-same _ (word_code (λ k. crossed m (w k))) n (λ i lt. lower-is w i) in
          not-apart _ _
          (λ (a, b). there c (λ i. omega (arith, choice-below w i, length-map rows (row_code m))) n
          (omega arith) (record { upper = up ∙ a; lower = low ∙ b }))
          (λ (a, b). back c
          (λ i. omega (arith, choice-below w i, length-map rows (turned_code m))) n
          (omega arith) (record { upper = low ∙ a; lower = up ∙ b }))

      exchanging : (w : ℕ → ℕ → ℕ → Bool) (n : ℕ)
          → accepted (word_code w) n ≡ accepted (word_code (λ k. exchanged (w k))) n
      exchanging w n =
          crossing w n ∙ crossing (λ k. crossed m (w k)) n
          ∙ accepted-same _ _ n
          (λ i lt. by-atom _ _ (λ name variable below asked. twice (w i) name variable below asked))
          ∙ sym (crossing (λ k. exchanged (w k)) n)
        where
          once : (a b d : Bool) → b ≡ true → (a && (b && d)) ≡ (a && d)
          once a true d e = refl
          once a false d e = absurd (cc)

          twice : (f : ℕ → ℕ → Bool) (name variable : ℕ) → variable < 2
              → list_any (is_atom name variable) m.atoms ≡ true
              → crossed m (crossed m f) name variable ≡ crossed m (exchanged f) name variable
          twice f name zero lt asked = once (list_any (is_atom name 1) m.atoms)
              (list_any (is_atom name 0) m.atoms) (f name 0) asked
          twice f name (suc zero) lt asked =
              once (list_any (is_atom name 0) m.atoms) (list_any (is_atom name 1) m.atoms)
              (f name 1) asked
          twice f name (suc (suc v)) lt asked = absurd (omega arith)

      pub none-symmetric : (rule : Lengths) → IsSymmetric rule m.variables m.body
      none-symmetric rule = even-symmetric rule m.variables m.body two even
        where
          turn : (t u : Trace) (i name variable : ℕ) → variable < 2
              → trace_words (t ∷ u ∷ []) name (other variable) i
              ≡ trace_words (u ∷ t ∷ []) name variable i
          turn t u i name zero lt = refl
          turn t u i name (suc zero) lt = refl
          turn t u i name (suc (suc v)) lt = absurd (omega arith)

          even : IsSymmetricEven rule m.body
          even t u some long meets =
              let w : ℕ → ℕ → ℕ → Bool = λ i name variable. trace_words
              (t ∷ u ∷ []) name variable i in
              let n : ℕ = length t in
              let first = meets-state m is rule (t ∷ u ∷ [])
              (word_code (λ i name variable. trace_words (t ∷ u ∷ []) name variable i))
              (length t) some (two-same rule (length t) (length u) long) (λ i lt. refl) in
              let second = meets-state m is rule (u ∷ t ∷ [])
              (word_code (λ i. exchanged
              (λ name variable. trace_words (t ∷ u ∷ []) name variable i))) (length t) some
              (two-same rule (length t) (length u) long ∙ of_two-turned rule (length t) (length u))
              (λ i lt. by-atom _ _ (λ name variable below asked. turn t u i name variable below)) in
              second.0 (sym
              (exchanging (λ i name variable. trace_words (t ∷ u ∷ []) name variable i)
              (length t)) ∙ first.1 meets)

    -- ---- what a search found

    abbrev row_at : List ℕ → ℕ → Row
    row_at path i = get_or rows (get_or path i 0) []

    abbrev word_of : ℕ → List ℕ → Trace
    word_of variable path = map (λ k. get_or (get_or rows k []) variable empty) path

    module _ (path : List ℕ) (inside : Each (λ (k : ℕ). k < length rows) path) where
      code-at : (f : Row → ℕ) (i : ℕ) → i < length path
          → codes_by (map f rows) (chosen path) i ≡ f (row_at path i)
      code-at f i lt = get_or-map f rows (get_or path i 0) [] 0
          (each-below (length rows) path inside i lt)

      letter-at : (v i name : ℕ) → i < length path
          → contains (get_or (row_at path i) v empty) name
          ≡ contains (get_or (word_of v path) i empty) name
      letter-at v i name lt =
          ap (λ (l : Letter). contains l name)
          (sym (get_or-map (λ k. get_or (get_or rows k []) v empty) path i 0 empty lt))

      says-word : (i name variable : ℕ) → i < length path → variable < 2
          → says (row_at path i) name variable ≡ trace_words
          (word_of 0 path ∷ word_of 1 path ∷ []) name variable i
      says-word i name zero lt below = letter-at 0 i name lt
      says-word i name (suc zero) lt below = letter-at 1 i name lt
      says-word i name (suc (suc v)) lt below = absurd (omega arith)

      turned-word : (i name variable : ℕ) → i < length path → variable < 2
          → joint_letter (turned (row_at path i)) name variable
          ≡ trace_words (word_of 1 path ∷ word_of 0 path ∷ []) name variable i
      turned-word i name zero lt below = letter-at 1 i name lt
      turned-word i name (suc zero) lt below = letter-at 0 i name lt
      turned-word i name (suc (suc v)) lt below = absurd (omega arith)

      joint-row : (i : ℕ) → row_code m (row_at path i) ≡ code_of (says (row_at path i)) m.atoms
      joint-row i = codes-agree _ _ m.atoms (λ a c. row-says m is (row_at path i) a c)

      long-word : (variable : ℕ) → length (word_of variable path) ≡ length path
      long-word variable = length-map path (λ k. get_or (get_or rows k []) variable empty)

      module _ (some : 0 < length path) (rule : Lengths) where
        judged-long : (v w : ℕ) → length path
            ≡ of_two rule (length (word_of v path)) (length (word_of w path))
        judged-long v w = sym (long-word v) ∙ two-same rule _ _ (long-word v ∙ sym (long-word w))

        first-word : (accepted (codes_by row_codes (chosen path)) (length path) ≡ true)
            ↔ Meets rule m.body (word_of 0 path ∷ word_of 1 path ∷ [])
        first-word = meets-state m is rule (word_of 0 path ∷ word_of 1 path ∷ [])
            (codes_by row_codes (chosen path)) (length path) some (judged-long 0 1)
            (λ i lt. code-at (row_code m) i lt ∙ joint-row i
            ∙ by-atom _ _ (λ name variable below asked. says-word i name variable lt below))

        second-word : (accepted (codes_by turned_codes (chosen path)) (length path) ≡ true)
            ↔ Meets rule m.body (word_of 1 path ∷ word_of 0 path ∷ [])
        second-word = meets-state m is rule (word_of 1 path ∷ word_of 0 path ∷ [])
            (codes_by turned_codes (chosen path)) (length path) some (judged-long 1 0)
            (λ i lt. code-at (turned_code m) i lt
            ∙ by-atom _ _ (λ name variable below asked. turned-word i name variable lt below))

        is-trace : (v : ℕ) → IsTrace (word_of v path)
        is-trace v = let l = long-word v in omega arith

        pub there-differs : Differ (even_pairing m row_codes turned_codes) (chosen path)
            (length path) → ¬ IsSymmetric rule m.variables m.body
        there-differs d s =
            let up = ap (is_accepting m)
            (sym (judged-even m (codes_by row_codes (chosen path)) (length path))) ∙ d.upper in
            let low = ap (is_accepting m)
            (sym (judged-even m (codes_by turned_codes (chosen path)) (length path)))
            ∙ d.lower in
            let holds = second-word.1
            ((s.same (word_of 0 path) (word_of 1 path) (is-trace 0) (is-trace 1)).0
            (first-word.0 up)) in
            cc

        pub back-differs : Differ (even_pairing m turned_codes row_codes) (chosen path)
            (length path) → ¬ IsSymmetric rule m.variables m.body
        back-differs d s =
            let up = ap (is_accepting m)
            (sym (judged-even m (codes_by turned_codes (chosen path)) (length path)))
            ∙ d.upper in
            let low = ap (is_accepting m)
            (sym (judged-even m (codes_by row_codes (chosen path)) (length path))) ∙ d.lower in
            let holds = first-word.1
            ((s.same (word_of 0 path) (word_of 1 path) (is-trace 0) (is-trace 1)).1
            (second-word.0 up)) in
            cc

-- ---- the answer

first-some : (m : Machine) (code code' : ℕ → ℕ) (n : ℕ)
    → is_accepting m (judged_state m Pad [] code n) ≡ true
    → is_accepting m (judged_state m Pad [] code' n) ≡ false → 0 < n
first-some m code code' zero a b =
    let e : is_accepting m (judged_state m Pad [] code 0)
    ≡ is_accepting m (judged_state m Pad [] code' 0) =
    ap (is_accepting m) (judged-even m code 0 ∙ sym (judged-even m code' 0)) in
    absurd (cc)
first-some m code code' (suc n) a b = omega arith

pub symmetric-answer : (m : Machine) → IsMonitor m → m.variables ≡ 2 → (rows : List Row)
    → AreRows m.atoms 2 rows → (upper lower lower' upper' : List ℕ) → upper ≡ map (row_code m) rows
    → lower ≡ map (turned_code m) rows → lower' ≡ map (turned_code m) rows
    → upper' ≡ map (row_code m) rows
    → (there back result : Bool) → IsFoundOrNot (even_pairing m upper lower) there
    → IsFoundOrNot (even_pairing m lower' upper') back
    → result ≡ (not there && not back) → (rule : Lengths) → IsTrue result
    ↔ IsSymmetric rule m.variables m.body
symmetric-answer m is two rows are upper lower lower' upper' up low low' up' there back result h k e
    rule =
    let P : List ℕ → List ℕ → Bool → Type 0 =
    λ a b found. IsFoundOrNot (even_pairing m a b) found in
    let Q : List ℕ → Type 0 = λ a. P a lower there in
    let R : List ℕ → Type 0 = λ b. P (map (row_code m) rows) b there in
    let S : List ℕ → Type 0 = λ a. P a upper' back in
    let T : List ℕ → Type 0 = λ b. P (map (turned_code m) rows) b back in
    let U : Bool → Type 0 = λ b. IsTrue b ↔ IsSymmetric rule m.variables m.body in
    subst U (sym e) (step there back (subst R low (subst Q up h)) (subst T up' (subst S low' k)))
  where
    below : (path : List ℕ) → Each (λ (i : ℕ). i < length (map (row_code m) rows)) path
        → Each (λ (i : ℕ). i < length rows) path
    below path h = let P : ℕ → Type 0 = λ n. Each (λ (i : ℕ). i < n) path in
        subst P (length-map rows (row_code m)) h

    below' : (path : List ℕ) → Each (λ (i : ℕ). i < length (map (turned_code m) rows)) path
        → Each (λ (i : ℕ). i < length rows) path
    below' path h = let P : ℕ → Type 0 = λ n. Each (λ (i : ℕ). i < n) path in
        subst P (length-map rows (turned_code m)) h

    step : (there back : Bool) → IsFoundOrNot
        (even_pairing m (map (row_code m) rows) (map (turned_code m) rows)) there
        → IsFoundOrNot (even_pairing m (map (turned_code m) rows) (map (row_code m) rows)) back
        → IsTrue (not there && not back) ↔ IsSymmetric rule m.variables m.body
    step true back (path, (each, told, d)) k =
        let some = first-some m _ _ (length path) d.upper d.lower in (
          λ f. absurd (cc),
          λ s. absurd
              (there-differs m is two rows are path (below path each) some rule d s),
        )
    step false true h (path, (each, told, d)) =
        let some = first-some m _ _ (length path) d.upper d.lower in (
          λ f. absurd (cc),
          λ s. absurd
              (back-differs m is two rows are path (below' path each) some rule d s),
        )
    step false false h k = (λ _. none-symmetric m is two rows are h k rule, λ _. refl)
