-- The runs of the universal copies are those of lasso executions.
use Rattle.std.proofs.Common.{◌≡◌, ℕ, suc, ◌+◌, ◌-◌, ◌*◌, ◌%◌, ◌<◌, ◌≤◌, Bool, false, List, [], ◌∷◌, ◌++◌, map, drop, get_or, length, length-append, inl, inr, refl, sym, ap, ◌∙◌, subst, arith}
use Rattle.std.proofs.Math.Nat.{mod-eq_of_lt}
use Rattle.std.proofs.lemmas.Bool.{cases_lt}
use Rattle.std.proofs.lemmas.Grind.{get_or_after_one}
use Rattle.std.proofs.lemmas.List.{get_or-drop, get_or-take, get_or_append_left, get_or-append_right, length-drop, length-map, length-take-le, map-append}
use Rattle.std.proofs.lemmas.Nat.{mul-add-lt}
use Rattle.aig_net.specs.declared.run.Run.{Run}
use Rattle.aig_net.specs.declared.run.ValueLasso.{ValueLasso}
use Rattle.aig_net.specs.Nets.{IsNet, Net, Valuation, literal_value, variables}
use Rattle.hy_base.specs.Rows.{row}
use Rattle.aig_net.specs.Copies.{own_values}
use Rattle.aig_net.specs.Executions.{IsLassoExecution, Lasso, Recurs, Word, gone, lasso_of, no_values, part as stretch, step_at, value_in}
use Rattle.aig_net.specs.Following.{row_at}
use Rattle.aig_net.specs.Rows.{input_row, latch_row}
use Rattle.aig_net.specs.Simulations.{IsExecutionOf, valuations, IsRunOf, inputs_of, latches_of}
use Rattle.aig_net.proofs.Closings.{gone-execution, recurring-execution}
use Rattle.hy_base.proofs.Listed.{append-each, at-listed, at-map, each-map, listed-same}
use Rattle.aig_net.proofs.Literals.{value-even}
use Rattle.aig_net.proofs.Rounds.{in-cycle, in-stem, length-part, recurring}
use Rattle.strat_compose.specs.declared.parts.Parts.{Parts}
use Rattle.hy_formula.specs.Atoms.{IndexedAtom}
use Rattle.strat_compose.specs.Driving.{driven, parts_of}
use Rattle.strat_compose.specs.Groups.{part, placed}
use Rattle.strat_compose.proofs.Completing.{executions}
use Rattle.strat_compose.proofs.Fitting.{many-driven_latches}
use Rattle.strat_compose.proofs.Placing.{placed-input, placed-latch}
use Rattle.strat_compose.specs.Runs.{HasCopies, universal_run}
use Rattle.strat_compose.proofs.Winning.{part-recurs}

module _ (net strategy : Net) (m e : ℕ) (signal : ℕ → ℕ) (atoms : List IndexedAtom)
    (c : ℕ) (few : c < m) where
  abbrev parts : Parts
  parts = parts_of net strategy m e

  abbrev all : Net
  all = driven net strategy parts signal atoms

  -- what copy c has in a valuation of the driven net
  abbrev shown : Valuation → Valuation
  shown v u = literal_value v (placed net parts.universal c u)

  own-inputs : (values : List Bool) →
      own_values net.inputs m c (input_row all values) ≡ inputs_of net (shown (row values))
  own-inputs values =
      listed-same 0 net.inputs _ _ (λ j le lt.
      let low = mul-add-lt j m c net.inputs (omega arith) few in
      let plain : 0 + (j * m + c) ≡ j * m + c = omega arith in
      let up : 1 + (j * m + c) ≡ suc (j * m + c) = omega arith in
      get_or-take (net.inputs * m) (drop 1 values) (j * m + c) false (omega (arith, low))
      ∙ get_or_after_one values (j * m + c) false ∙ ap (row values) up
      ∙ sym (ap (literal_value (row values)) (placed-input net parts.universal c j (omega arith)
      ∙ at-listed 0 (net.inputs * m) (λ k. 2 * suc k) 0 (j * m + c) (omega (arith, low))
      ∙ ap (λ k. 2 * suc k) plain) ∙ value-even (row values) (suc (j * m + c))))

  own-latches : (values : List Bool) →
      own_values (length net.latches) m c (latch_row all values) ≡ latches_of net (shown (row values))
  own-latches values =
      listed-same 0 (length net.latches) _ _ (λ j le lt.
      let low = mul-add-lt j m c (length net.latches) (omega arith) few in
      let long = many-driven_latches net strategy m e in
      get_or-take (length all.latches) (drop (suc all.inputs) values) (j * m + c) false
      (omega (arith, low, long))
      ∙ get_or-drop (suc all.inputs) values (j * m + c) false
      ∙ sym (ap (literal_value (row values)) (placed-latch net parts.universal c j (omega arith))
      ∙ value-even (row values) (suc (net.inputs * m) + (j * m + c))))

  -- the inputs in rows of values are those in a stretch of a word that shows them
  rows-shown : (word : Word) (s : ℕ) (rows : List (List Bool)) →
      ((i : ℕ) → i < length rows → word (s + i) ≡ shown (row (row_at rows i))) →
      map (own_values net.inputs m c) (map (input_row all) rows)
      ≡ map (inputs_of net) (stretch word s (length rows))
  rows-shown word s [] same = refl
  rows-shown word s (values ∷ rows) same =
      let here : s + 0 ≡ s = omega arith in
      ap (λ x. x ∷ map (own_values net.inputs m c) (map (input_row all) rows)) (own-inputs values
      ∙ ap (inputs_of net) (sym (same 0 (omega arith)) ∙ ap word here))
      ∙ ap (λ l. inputs_of net (word s) ∷ l) (rows-shown word (suc s) rows (λ i lt.
      let on : suc s + i ≡ s + suc i = omega arith in ap word on ∙ same (suc i) (omega arith)))

-- the steps of a lasso as places of its word; it stands in aig_net, too
step-gone : (lasso : Lasso) (i : ℕ) → i < length lasso.stem + length lasso.cycle →
    step_at lasso i ≡ gone lasso i
step-gone lasso i lt =
    elim (cases_lt i (length lasso.stem)) [
      | inl early ↦ get_or_append_left lasso.stem lasso.cycle no_values i early
          ∙ sym (in-stem lasso i early)
      | inr late ↦
          let once : (i - length lasso.stem) % length lasso.cycle ≡ i - length lasso.stem =
          mod-eq_of_lt (omega arith) in
          get_or-append_right lasso.stem lasso.cycle (length lasso.stem) i no_values refl late
          ∙ ap (λ x. get_or lasso.cycle x no_values) (sym once) ∙ sym (in-cycle lasso i late)
    ]

module _ (net strategy : Net) (m e : ℕ) (signal : ℕ → ℕ) (atoms : List IndexedAtom)
    (good : IsNet net) (fine : IsNet strategy) (run : Run) (values : ValueLasso)
    (is : IsExecutionOf (driven net strategy (parts_of net strategy m e) signal atoms) run values)
    (c : ℕ) (few : c < m) where
  abbrev whole : Net
  whole = driven net strategy (parts_of net strategy m e) signal atoms

  abbrev lasso : Lasso
  lasso = valuations values

  abbrev s : ℕ
  s = length lasso.stem

  abbrev p : ℕ
  p = length lasso.cycle

  abbrev word : Word
  word = part net (parts_of net strategy m e).universal c (gone lasso)

  abbrev seen : Valuation → Valuation
  seen = shown net strategy m e signal atoms c few

  -- the lasso of the copy
  abbrev pub own : Lasso
  own = lasso_of word s p

  recurs : Recurs word s p
  recurs = part-recurs net (parts_of net strategy m e).universal c lasso is.execution.some

  pub own-execution : IsLassoExecution net own
  own-execution =
      let run = gone-execution whole lasso is.execution in
      recurring-execution net word s p recurs
      ((executions net strategy m e signal atoms good fine (gone lasso) (record {
        starts = run.run.starts;
        right = run.run.right;
        goes = run.run.goes;
      })).0 run c few)

  stem-shown : (i : ℕ) → i < length values.stem → word (0 + i) ≡ seen (row (row_at values.stem i))
  stem-shown i lt =
      let plain : 0 + i ≡ i = omega arith in
      let many = length-map values.stem row in
      ap (λ k. seen (gone lasso k)) plain
      ∙ ap seen (in-stem lasso i (omega (arith, many, lt))
      ∙ at-map row [] no_values values.stem i lt)

  cycle-shown : (i : ℕ) → i < length values.cycle →
      word (s + i) ≡ seen (row (row_at values.cycle i))
  cycle-shown i lt =
      let many = length-map values.cycle row in
      let back : s + i - s ≡ i = omega arith in
      let once : (s + i - s) % p ≡ i = ap (λ k. k % p) back
      ∙ mod-eq_of_lt (omega (arith, many, lt)) in
      ap seen (in-cycle lasso (s + i) (omega arith) ∙ ap (value_in lasso.cycle) once
      ∙ at-map row [] no_values values.cycle i lt)

  first-shown : step_at own 0 ≡ seen (row (row_at (values.stem ++ values.cycle) 0))
  first-shown =
      let there : length own.cycle ≡ p = length-part word s p in
      let some : 0 < p = is.execution.some in
      let same : gone own ≡ word = λ x. λ i v. recurring word s p recurs i v x in
      let rows = ap (λ l. value_in l 0) (sym (map-append row values.stem values.cycle)) in
      let long = length-append values.stem values.cycle in
      let many = length-map values.cycle row in
      step-gone own 0 (omega (arith, there, some)) ∙ ap (λ (w : Word). w 0) same
      ∙ ap seen (sym (step-gone lasso 0 (omega (arith, some))) ∙ rows
      ∙ at-map row [] no_values (values.stem ++ values.cycle) 0 (omega (arith, long, some, many)))

  pub own-run : IsRunOf net own (universal_run net m run c)
  own-run = record {
    first = ap (own_values (length net.latches) m c) (sym is.first)
        ∙ own-latches net strategy m e signal atoms c few
        (row_at (values.stem ++ values.cycle) 0)
        ∙ ap (latches_of net) (sym first-shown);
    stem = ap (map (own_values net.inputs m c)) (sym is.stem)
        ∙ rows-shown net strategy m e signal atoms c few word 0 values.stem stem-shown
        ∙ ap (λ n. map (inputs_of net) (stretch word 0 n)) (sym (length-map values.stem row));
    cycle = ap (map (own_values net.inputs m c)) (sym is.cycle)
        ∙ rows-shown net strategy m e signal atoms c few word s values.cycle cycle-shown
        ∙ ap (λ n. map (inputs_of net) (stretch word s n)) (sym (length-map values.cycle row));
  }

  pub own-same : (i v : ℕ) → gone own i v ≡ word i v
  own-same = recurring word s p recurs

module _ (net strategy : Net) (m e : ℕ) (signal : ℕ → ℕ) (atoms : List IndexedAtom) (run : Run)
    (values : ValueLasso)
    (is : IsExecutionOf (driven net strategy (parts_of net strategy m e) signal atoms) run values)
  where
    abbrev given : Net
    given = driven net strategy (parts_of net strategy m e) signal atoms

    -- the rows of the run have the values of all copies
    row-long : (vs : List Bool) → length vs ≡ variables given →
        net.inputs * m ≤ length (input_row given vs)
    row-long vs full =
        let tail = length-drop 1 vs in
        let front = length-take-le (net.inputs * m) (drop 1 vs) (omega (arith, tail, full)) in
        omega (arith, front)

    rows-long : (rows : List (List Bool)) →
        ((k : ℕ) → k < length rows → length (row_at rows k) ≡ variables given) → (k : ℕ) →
        k < length (map (input_row given) rows) →
        net.inputs * m ≤ length (row_at (map (input_row given) rows) k)
    rows-long rows full =
        each-map (input_row given) [] [] rows (λ _ vs. net.inputs * m ≤ length vs)
        (λ k lt. row-long (row_at rows k) (full k lt))

    pub has-copies : HasCopies net m run
    has-copies =
        let long = length-append values.stem values.cycle in
        let many = length-map values.cycle row in
        let (stem, cycle) = append-each [] values.stem values.cycle
        (λ _ vs. length vs ≡ variables given) is.full in
        let P : List (List Bool) → Type 0 = λ rows. (k : ℕ) → k < length rows →
        net.inputs * m ≤ length (row_at rows k) in
        let full = is.full 0 (omega (arith, long, many, is.execution.some)) in
        let latches = many-driven_latches net strategy m e in
        let tail = length-drop (suc given.inputs) (row_at (values.stem ++ values.cycle) 0) in
        let front = length-take-le (length given.latches)
        (drop (suc given.inputs) (row_at (values.stem ++ values.cycle) 0))
        (omega (arith, tail, full)) in
        record {
          first = omega (arith, front, latches, ap length is.first);
          stem = subst P is.stem (rows-long values.stem stem);
          cycle = subst P is.cycle (rows-long values.cycle cycle);
        }
