-- The runs that are read off the rows of a path are those of the lassos for which it stands.
use Rattle.std.proofs.Common.{◌≡◌, ℕ, zero, suc, ◌+◌, ◌-◌, ◌*◌, ◌^◌, ◌<◌, ◌≤◌, Bool, true, false, not, ◌&&◌, cond, List, [], ◌∷◌, map, take, drop, length, inl, inr, refl, sym, ap, ◌∙◌, subst, arith}
use Rattle.std.proofs.lemmas.Bool.{cases_lt}
use Rattle.std.proofs.lemmas.List.{get_or-drop, get_or-take, length-drop, length-take-le}
use Rattle.hy_base.proofs.Places.{below-row}
use Rattle.aig_net.specs.declared.parts.Reset.{Reset}
use Rattle.aig_net.specs.declared.parts.Reset.TheVariants.{Zero, One, Free}
use Rattle.aig_net.specs.declared.run.Run.{Run}
use Rattle.aig_net.specs.Nets.{Net, IsNet, Valuation, latch_variable, literal_value, reset_at}
use Rattle.hy_base.specs.Rows.{row, listed}
use Rattle.aig_net.specs.Executions.{Word, lasso_of, part, step_at}
use Rattle.aig_net.specs.Following.{row_at}
use Rattle.aig_net.specs.Copies.{own_values}
use Rattle.aig_net.specs.Simulations.{IsRunOf, inputs_of, latches_of}
use Rattle.aig_net.specs.Wires.{wire_value}
use Rattle.aig_net.proofs.Copying.{length-copied}
use Rattle.hy_base.proofs.Listed.{at-listed, length-listed, listed-same}
use Rattle.aig_net.proofs.Disjunctions.{true-or-left, true-or-right}
use Rattle.aig_net.proofs.Literals.{value-even}
use Rattle.self_compose.specs.Copies.{compose, place}
use Rattle.sym_tableau.specs.Oracles.{moved, oracles}
use Rattle.sym_tableau.proofs.Parts.{latch-moved, many-latches, moved-early}
use Rattle.live_safe.specs.declared.safe_net.Path.{Path}
use Rattle.live_safe.specs.declared.safe_net.SafeNet.{SafeNet}
use Rattle.live_safe.specs.Paths.{IsBadPath}
use Rattle.live_safe.specs.Safe as safe
use Rattle.live_safe.specs.Safe.{begun, effective, free_input, has_begun, safe_inputs, safe_latches, saved, shown, to_safe}
use Rattle.live_safe.proofs.SafeGates.{many-safe-latches, next_saved-value, shown-latch, variable-early}
use Rattle.live_safe.proofs.Starts.{start-false}
use Rattle.live_safe.proofs.Unfolding.{is-set-begun, on-first, copy-stays}
use Rattle.live_safe.proofs.Shapes.{count-below}
use Rattle.wit_lasso.specs.FormulaNets.{Tableau, tableau_net}
use Rattle.wit_lasso.specs.PathParts.{AreRows, free_before, is_free_at, own_latches, own_run, start_value, take_place}
use Rattle.wit_lasso.specs.Unfoldings.{AreUnfolded, IsSafeOf, GoesToBad, IsUnfolding, Saves, ShowsInputs, copy_lasso, copy_word}
use Rattle.wit_lasso.proofs.Counting.{free-there, inputs-are, place-is, reset-there}
use Rattle.wit_lasso.proofs.PathLassos.{copy-is, lasso-at, some-saves}

-- ---- the step that saves, by the input `take`

module _ (tab : Net) (k : ℕ) (word : Word) (bad : IsBadPath (to_safe tab) k word) where
  abbrev is-saved : ℕ → Bool
  is-saved i = literal_value (word i) (saved tab)

  abbrev taken : ℕ → Bool
  taken i = word i (suc tab.inputs)

  some-latch : 0 < length (safe_latches tab)
  some-latch = let m = many-safe-latches tab in omega (arith, m)

  saved-first : is-saved 0 ≡ false
  saved-first = value-even (word 0) (suc (safe_inputs tab + 0))
      ∙ start-false tab (word 0) bad.starts 0 some-latch

  saved-next : (i : ℕ) → i < k → is-saved (suc i) ≡ not (not (is-saved i) && not (taken i))
  saved-next i lt =
      value-even (word (suc i)) (suc (safe_inputs tab + 0))
      ∙ bad.along.goes i lt 0 some-latch
      ∙ next_saved-value tab (word i) (bad.along.right i (omega arith))
      ∙ ap (λ b. not (not (is-saved i) && not b)) (value-even (word i) (suc tab.inputs))

  neither : (a b : Bool) → a ≡ false → b ≡ false → not (not a && not b) ≡ false
  neither false false e h = refl
  neither true b e h = absurd (cc)
  neither false true e h = absurd (cc)

  not-yet : (n : ℕ) → n ≤ k → ((i : ℕ) → i < n → taken i ≡ false) → is-saved n ≡ false
  not-yet zero le off = saved-first
  not-yet (suc n) le off =
      saved-next n le
      ∙ neither _ _ (not-yet n (omega arith) (λ i lt. off i (omega arith))) (off n (omega arith))

  from-then : (n : ℕ) → n < k → taken n ≡ true → (d : ℕ) → suc (n + d) ≤ k →
      is-saved (suc (n + d)) ≡ true
  from-then n lt on zero le =
      let e : n + 0 ≡ n = omega arith in
      ap (λ i. is-saved (suc i)) e ∙ saved-next n lt ∙ true-or-right _ _ on
  from-then n lt on (suc d) le =
      let e : n + suc d ≡ suc (n + d) = omega arith in
      ap (λ i. is-saved (suc i)) e ∙ saved-next (suc (n + d)) (omega arith)
      ∙ true-or-left _ _ (from-then n lt on d (omega arith))

  -- the first step whose input `take` is true saves
  pub start-saves : (start : ℕ) → start ≤ k → ((i : ℕ) → i < start → taken i ≡ false) →
      (start < k → taken start ≡ true) → Saves tab k word start
  start-saves start le off on =
      let (other, others, _) = some-saves tab k word bad in
      elim (cases_lt start k) [
        | inl lt ↦ record {
          within = lt;
          before = not-yet start le off;
          later = λ i above below.
              let e : suc (start + (i - suc start)) ≡ i = omega arith in
              ap is-saved (sym e)
              ∙ from-then start lt (on lt) (i - suc start) (omega arith);
        }
        | inr ge ↦ absurd (
            let e : start ≡ k = omega arith in
            let w = others.within in
            let x = others.later start (omega (arith, w, ge)) le in
            let y = not-yet start le off in
            cc)
      ]

-- ---- rows

rows-part : (f : List Bool → List Bool) (g : Valuation → List Bool) (word : Word)
    (rows : List (List Bool)) (s : ℕ) →
    ((i : ℕ) → i < length rows → f (row_at rows i) ≡ g (word (s + i))) →
    map f rows ≡ map g (part word s (length rows))
rows-part f g word [] s same = refl
rows-part f g word (x ∷ rows) s same =
    let here : s + 0 ≡ s = omega arith in
    ap (λ y. y ∷ map f rows) (same 0 (omega arith) ∙ ap (λ i. g (word i)) here)
    ∙ ap (λ l. g (word s) ∷ l) (rows-part f g word rows (suc s) (λ i lt.
    let next : s + suc i ≡ suc s + i = omega arith in
    same (suc i) (omega arith) ∙ ap (λ j. g (word j)) next))

part-long : (g : Valuation → List Bool) (word : Word) (s a b : ℕ) → a ≡ b →
    map g (part word s a) ≡ map g (part word s b)
part-long g word s a b e = ap (λ n. map g (part word s n)) e

-- ---- one path

module _ (net : Net) (good : IsNet net) (n : ℕ) (some : 0 < n) (t : Tableau) (path : Path)
    (word : Word) (shows : ShowsInputs (to_safe (tableau_net net n t)) path word)
    (bad : IsBadPath (to_safe (tableau_net net n t)) (length path.inputs) word) where
  abbrev tab : Net
  tab = tableau_net net n t

  abbrev all : Net
  all = compose net n

  abbrev rows : List (List Bool)
  rows = path.inputs

  abbrev k : ℕ
  k = length path.inputs

  abbrev own : ℕ → Word
  own c = copy_word net n t word c

  -- the inputs of a copy
  own-input : (i c j : ℕ) → i < k → c < n → j < net.inputs →
      row (row_at rows i) (j * n + c) ≡ own c i (suc j)
  own-input i c j lt few less =
      let f = inputs-are net good n t in
      let small : j * n + c < net.inputs * n = below-row n c j net.inputs few less in
      let early = moved-early all t.nodes (suc (j * n + c)) (omega (arith, small)) in
      shows.rows i (j * n + c) lt (omega (arith, f, small))
      ∙ sym (value-even (word i) (suc (j * n + c)))
      ∙ ap (literal_value (word i)) (sym (variable-early tab (suc (j * n + c)) (omega (
        arith,
        small,
      ))))
      ∙ ap (shown tab (word i)) (sym early)

  own-row : (i c : ℕ) → i < k → c < n →
      own_values net.inputs n c (row_at rows i) ≡ inputs_of net (own c i)
  own-row i c lt few =
      listed-same 0 net.inputs (λ j. row (row_at rows i) (j * n + c)) (λ j. own c i (suc j))
      (λ j _ less. own-input i c j lt few (omega (arith, less)))

  -- ---- the latches of a copy at the start

  begun-off : has_begun tab ≡ true → literal_value (word 0) (begun tab) ≡ false
  begun-off e =
      let m = many-safe-latches tab in
      let one : length (safe_latches tab) ≡ suc (length tab.fairs
      + (length tab.latches + (length tab.latches + 1))) =
      m ∙ ap (λ b. suc (length tab.fairs + (length tab.latches + (length tab.latches
      + (let x : ℕ = cond b 1 0 in x))))) e in
      let u : ℕ = suc (length tab.fairs + (length tab.latches + length tab.latches)) in
      value-even (word 0) (suc (safe_inputs tab + u))
      ∙ start-false tab (word 0) bad.starts u (omega (arith, one))

  -- the latch of the copies that is latch j of copy c
  abbrev there : ℕ → ℕ → ℕ
  there j c = oracles t.nodes + suc (j * n + c)

  latch-there : (j c : ℕ) → latch_variable tab (there j c) ≡ moved all t.nodes
      (place n c (latch_variable net j))
  latch-there j c =
      let e : (net.inputs + j) * n + c ≡ net.inputs * n + (j * n + c) = omega arith in
      latch-moved all t.nodes (j * n + c)
      ∙ ap (λ x. moved all t.nodes (suc x)) (sym e)

  few-latches : (j c : ℕ) → j < length net.latches → c < n → there j c < length tab.latches
  few-latches j c lt few =
      let a = many-latches all t.nodes in
      let b : length all.latches ≡ length net.latches * n = length-copied n _ net.latches in
      let small = below-row n c j (length net.latches) few lt in
      omega (arith, a, b, small)

  -- the place of the inputs of free latches
  abbrev at-free : ℕ
  at-free = suc (take_place net n (to_safe tab).net.inputs)

  own-latch : 0 < k → (j c : ℕ) → j < length net.latches → c < n →
      start_value (reset_at net.resets j)
      (row (drop at-free (row_at rows 0)) (free_before net.resets j * n + c)) ≡ own c 0
      (latch_variable net j)
  own-latch pos j c lt few =
      at (reset_at net.resets j) refl
      ∙ sym (shown-latch tab (word 0) (bad.along.right 0 (omega arith)) (there j c)
      (few-latches j c lt few))
      ∙ ap (shown tab (word 0)) (latch-there j c)
    where
      less : j < length net.resets
      less = omega (arith, good.resets, lt)

      is-there : reset_at tab.resets (there j c) ≡ reset_at net.resets j
      is-there = reset-there net good n t j c less few

      set-there : (r : Reset) → reset_at net.resets j ≡ r → safe.is_set r ≡ true →
          literal_value (word 0) (begun tab) ≡ false
      set-there r e is =
          begun-off (is-set-begun tab (there j c) (few-latches j c lt few)
          (ap safe.is_set (is-there ∙ e) ∙ is))

      wire-of : (r : Reset) → reset_at net.resets j ≡ r →
          wire_value (word 0) (effective tab (there j c) r) ≡ wire_value (word 0)
          (effective tab (there j c) (reset_at tab.resets (there j c)))
      wire-of r e = ap (λ x. wire_value (word 0) (effective tab (there j c) x))
          (sym (is-there ∙ e))

      at : (r : Reset) → reset_at net.resets j ≡ r →
          start_value r (row (drop at-free (row_at rows 0)) (free_before net.resets j * n + c))
          ≡ wire_value (word 0) (effective tab (there j c) (reset_at tab.resets (there j c)))
      at Zero e =
          let m = many-safe-latches tab in
          let f = few-latches j c lt few in
          sym (value-even (word 0) (suc (safe_inputs tab + suc (length tab.fairs + there j c)))
          ∙ start-false tab (word 0) bad.starts (suc (length tab.fairs + there j c))
          (omega (arith, m, f)))
          ∙ wire-of Zero e
      at One e = sym (on-first _ _ (set-there One e refl)) ∙ wire-of One e
      at Free e =
          let f = inputs-are net good n t in
          let p = place-is net good n t (to_safe tab).net.inputs refl in
          let is : is_free_at net.resets j ≡ true = ap safe.is_free e in
          let count = free-there net good n t j c less few is in
          let u : ℕ = free_before net.resets j * n + c in
          let v : ℕ = tab.inputs + suc u in
          let at-row : at-free + u ≡ v = omega (arith, p) in
          let same : free_input tab (there j c) ≡ 2 * suc v = ap (λ x. 2 * suc (tab.inputs
          + suc x)) count in
          get_or-drop at-free (row_at rows 0) u false ∙ ap (row (row_at rows 0)) at-row
          ∙ shows.rows 0 v pos (within f) ∙ sym (value-even (word 0) (suc v))
          ∙ ap (literal_value (word 0)) (sym same)
          ∙ sym (copy-stays _ _ _ (set-there Free e refl)) ∙ wire-of Free e
        where
          within : safe_inputs tab ≡ net.inputs * n + oracles t.nodes + suc
              (free_before net.resets (length net.resets) * n) →
              tab.inputs + suc (free_before net.resets j * n + c) < (to_safe tab).net.inputs
          within f =
              let less' = count-below (is_free_at net.resets) (length net.resets) j less
              (ap safe.is_free e) in
              let row = below-row n c (free_before net.resets j)
              (free_before net.resets (length net.resets)) few less' in
              omega (arith, f, row)

  own-start : 0 < k → (c : ℕ) → c < n →
      own_latches net.resets n c (drop at-free (row_at rows 0)) ≡ latches_of net (own c 0)
  own-start pos c few =
      let value : ℕ → Bool = λ j. start_value (reset_at net.resets j)
      (row (drop at-free (row_at rows 0)) (free_before net.resets j * n + c)) in
      ap (λ m. listed 0 m value) good.resets
      ∙ listed-same 0 (length net.latches) value (λ j. own c 0 (latch_variable net j))
      (λ j _ lt. own-latch pos j c (omega (arith, lt)) few)

  -- ---- the runs

  module _ (start : ℕ) (within : start ≤ k)
      (off : (i : ℕ) → i < start → row (row_at rows i) (take_place net n (to_safe tab).net.inputs)
      ≡ false)
      (on : start < k → row (row_at rows start) (take_place net n (to_safe tab).net.inputs)
      ≡ true) where
    take-row : (i : ℕ) → i < k →
        row (row_at rows i) (take_place net n (to_safe tab).net.inputs) ≡ word i (suc tab.inputs)
    take-row i lt =
        let p = place-is net good n t (to_safe tab).net.inputs refl in
        let f = inputs-are net good n t in
        ap (row (row_at rows i)) p
        ∙ shows.rows i tab.inputs lt (omega (arith, f))

    saves : Saves tab k word start
    saves = start-saves tab k word bad start within
        (λ i lt. sym (take-row i (omega arith)) ∙ off i lt) (λ lt. sym (take-row start lt) ∙ on lt)

    abbrev run : ℕ → Run
    run c = own_run net n (take_place net n (to_safe tab).net.inputs) rows start c

    front-rows : (i : ℕ) → i < length (take start rows) →
        (row_at (take start rows) i ≡ row_at rows i) × (i < k)
    front-rows i lt =
        let many = length-take-le start rows within in
        (get_or-take start rows i [] (omega (arith, many, lt)), omega (arith, many, lt))

    run-is : (c : ℕ) → c < n → IsRunOf net (copy_lasso net n t word k start c) (run c)
    run-is c few = record {
      first = own-start (omega (arith, saves.within)) c few
          ∙ ap (latches_of net) (sym (first-step start (k - start) (own c) (omega (
            arith,
            saves.within,
          ))));
      stem =
          rows-part (own_values net.inputs n c) (inputs_of net) (own c) (take start rows) 0
          (λ i lt.
          let (e, less) = front-rows i lt in
          let plain : i ≡ 0 + i = omega arith in
          ap (own_values net.inputs n c) e ∙ own-row i c less few
          ∙ ap (λ x. inputs_of net (own c x)) plain)
          ∙ part-long (inputs_of net) (own c) 0 (length (take start rows)) start
          (length-take-le start rows within);
      cycle =
          rows-part (own_values net.inputs n c) (inputs_of net) (own c) (drop start rows) start
          (λ i lt.
          let many = length-drop start rows in
          ap (own_values net.inputs n c) (get_or-drop start rows i [])
          ∙ own-row (start + i) c (omega (arith, many, lt)) few)
          ∙ part-long (inputs_of net) (own c) start (length (drop start rows)) (k - start)
          (length-drop start rows);
    }
      where
        first-step : (s m : ℕ) (w : Word) → 0 < s + m → step_at (lasso_of w s m) 0 ≡ w 0
        first-step zero zero w lt = absurd (omega arith)
        first-step zero (suc m) w lt = refl
        first-step (suc s) m w lt = refl

    pub unfolded : AreUnfolded net n t k word (listed 0 n run)
    unfolded = record {
      save = start;
      saves = saves;
      many = length-listed 0 n run;
      executions = copy-is net good n some t k word start saves.within
          (lasso-at tab k word bad start saves);
      runs_are = λ c few.
          let plain : 0 + c ≡ c = omega arith in
          let P : Run → Type 0 = IsRunOf net (copy_lasso net n t word k start c) in
          subst P (sym (at-listed 0 n run _ c few ∙ ap run plain)) (run-is c few);
    }

-- ---- for whatever closure and word

-- where the inputs of a path's rows stand
pub places_fit : (net : Net) (n : ℕ) (safe : SafeNet) → IsNet net → IsSafeOf net n safe →
    (free_before net.resets (length net.resets) * n + suc (take_place net n safe.net.inputs)
    ≡ safe.net.inputs) × (net.inputs * n ≤ take_place net n safe.net.inputs)
places_fit net n safe good (t, e) =
    let i : safe.net.inputs ≡ safe_inputs (tableau_net net n t) =
    ap (λ (s : SafeNet). s.net.inputs) e in
    let f = inputs-are net good n t in
    (omega (arith, i, f), omega (arith, i, f))

pub unfolds : (net : Net) (n : ℕ) (safe : SafeNet) (path : Path) (start : ℕ) (runs : List Run) →
    IsNet net → 0 < n → start ≤ length path.inputs →
    ((i : ℕ) → i < start →
    row (row_at path.inputs i) (take_place net n safe.net.inputs) ≡ false) →
    (start < length path.inputs →
    row (row_at path.inputs start) (take_place net n safe.net.inputs) ≡ true) →
    runs ≡ listed 0 n (own_run net n (take_place net n safe.net.inputs) path.inputs start) →
    IsUnfolding net n safe path runs
unfolds net n safe path start runs good some within off on are t word e shows bad =
    let made : SafeNet = to_safe (tableau_net net n t) in
    let P : SafeNet → Type 0 = λ s.
    ShowsInputs s path word → IsBadPath s (length path.inputs) word →
    ((i : ℕ) → i < start → row (row_at path.inputs i) (take_place net n s.net.inputs) ≡ false) →
    (start < length path.inputs →
    row (row_at path.inputs start) (take_place net n s.net.inputs) ≡ true) →
    runs ≡ listed 0 n (own_run net n (take_place net n s.net.inputs) path.inputs start) →
    AreUnfolded net n t (length path.inputs) word runs in
    let Q : List Run → Type 0 = AreUnfolded net n t (length path.inputs) word in
    let there : P made = λ shows bad off on are. subst Q (sym are)
    (unfolded net good n some t path word shows bad start within off on) in
    subst P (sym e) there shows bad off on are

pub unfolds_at : (net : Net) (n : ℕ) (safe : SafeNet) (path : Path) (rows : List (List Bool))
    (place start : ℕ) (runs : List Run) → rows ≡ path.inputs →
    place ≡ take_place net n safe.net.inputs → IsNet net → 0 < n → start ≤ length rows →
    ((i : ℕ) → i < start → row (row_at rows i) place ≡ false) →
    (start < length rows → row (row_at rows start) place ≡ true) →
    runs ≡ listed 0 n (own_run net n place rows start) → IsUnfolding net n safe path runs
unfolds_at net n safe path rows place start runs same at good some =
    let P : List (List Bool) → ℕ → Type 0 = λ rows place. start ≤ length rows →
    ((i : ℕ) → i < start → row (row_at rows i) place ≡ false) →
    (start < length rows → row (row_at rows start) place ≡ true) →
    runs ≡ listed 0 n (own_run net n place rows start) → IsUnfolding net n safe path runs in
    let Q : ℕ → Type 0 = P rows in
    let R : List (List Bool) → Type 0 = λ rows. P rows (take_place net n safe.net.inputs) in
    subst Q (sym at) (subst R (sym same)
    (unfolds net n safe path start runs good some))

-- A path to bad has a step.
some-rows : (net : Net) (n : ℕ) (safe : SafeNet) (path : Path) → IsSafeOf net n safe →
    GoesToBad safe path → 0 < length path.inputs
some-rows net n safe path (t, e) (word, _, bad) =
    let P : SafeNet → Type 0 = λ s. IsBadPath s (length path.inputs) word in
    let (save, saves, _) = some-saves (tableau_net net n t) (length path.inputs) word
    (subst P e bad) in
    omega (arith, saves.within)

pub rows_fit : (net : Net) (n : ℕ) (safe : SafeNet) (path : Path) (rows : List (List Bool))
    (place : ℕ) → rows ≡ path.inputs → place ≡ take_place net n safe.net.inputs → IsNet net →
    safe.net.inputs < 2 ^ 32 → IsSafeOf net n safe → GoesToBad safe path → AreRows net n place rows
rows_fit net n safe path rows place same at good small of goes =
    let (whole, front) = places_fit net n safe good of in
    let (word, shows, _) = goes in
    let P : List (List Bool) → Type 0 = AreRows net n place in
    subst P (sym same) (record {
      some = some-rows net n safe path of goes;
      inputs = omega (arith, at, front);
      small = omega (arith, whole, small);
      long = λ i lt. let l = shows.inputs i lt in omega (arith, l, at, whole);
    })

-- the place of the input that saves, as it is computed
pub place-computed : (net : Net) (n : ℕ) (safe : SafeNet) (inputs free many : ℕ)
    (resets slice : List Reset) → IsNet net → IsSafeOf net n safe → inputs ≡ safe.net.inputs →
    free ≡ free_before slice (length slice) → slice ≡ resets → resets ≡ net.resets → many ≡ n →
    (suc (free * many) ≤ inputs) × (inputs - free * many - 1 ≡ take_place net n safe.net.inputs)
place-computed net n safe inputs free many resets slice good of is count as-slice as-resets times =
    let product : free * many ≡ free_before net.resets (length net.resets) * n =
    ap (λ x. x * many) (count ∙ ap (λ r. free_before r (length r)) (as-slice ∙ as-resets))
    ∙ ap (λ y. free_before net.resets (length net.resets) * y) times in
    let (whole, front) = places_fit net n safe good of in
    (omega (arith, product, whole, is), omega (arith, product, whole, is))
