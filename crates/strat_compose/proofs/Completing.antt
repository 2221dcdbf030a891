-- An execution of the driven net has executions of the circuit and a completion of them for parts.
use Rattle.std.proofs.Common.{◌≡◌, ℕ, suc, ◌+◌, ◌*◌, ◌<◌, ◌↔◌, List, ◌++◌, map, get_or, length, length-append, sym, ap, ◌∙◌, subst, arith}
use Rattle.std.proofs.lemmas.List.{length-map}
use Rattle.std.proofs.lemmas.Nat.{mul-add-lt}
use Rattle.aig_net.specs.declared.parts.Reset.TheVariants.{Zero}
use Rattle.aig_net.specs.Nets.{AreRight, IsNet, IsRight, IsStart, IsStep, Net, ResetTo, Valuation, and_at, and_value, first_and, literal_at, literal_value, no_and, reset_at}
use Rattle.aig_net.specs.Executions.{IsExecution, Word}
use Rattle.hy_base.proofs.Listed.{append-each}
use Rattle.aig_net.proofs.Literals.{value-under}
use Rattle.aig_net.proofs.Wiring.{made-right}
use Rattle.aig_net.specs.Copies.{copied}
use Rattle.aig_net.proofs.Copying.{at-copied, length-copied}
use Rattle.strat_compose.specs.declared.group.Group.{Group}
use Rattle.strat_compose.specs.declared.parts.Parts.{Parts}
use Rattle.hy_formula.specs.Atoms.{IndexedAtom}
use Rattle.strat_compose.specs.Completions.{Goes, IsCompletion}
use Rattle.strat_compose.specs.Driving.{IsStrategy, conjunction, driven, driven_ands, kept, owed_literals, parts_of, same_reset, settled, settled_net}
use Rattle.strat_compose.specs.Groups.{ands_in, literal_in, literals_in, part, placed}
use Rattle.strat_compose.proofs.Demands.{copies-fair, copies-true}
use Rattle.strat_compose.proofs.Fitting.{many-driven_latches, many-driven_resets}
use Rattle.strat_compose.proofs.GroupRuns.{group-right, group-starts, group-steps}
use Rattle.strat_compose.proofs.Placing.{many-ands, many-literals, placed-input}

-- what each of three lists has that stand one behind the other
three : {A : Type 0} (d : A) (xs ys zs : List A) (a b : ℕ) → length xs ≡ a → length ys ≡ b →
    (P : ℕ → A → Type 0) → ((j : ℕ) → j < length ((xs ++ ys) ++ zs) →
    P j (get_or ((xs ++ ys) ++ zs) j d)) → ((j : ℕ) → j < length xs → P j (get_or xs j d))
    × ((j : ℕ) → j < length ys → P (a + j) (get_or ys j d))
    × ((j : ℕ) → j < length zs → P (a + b + j) (get_or zs j d))
three d xs ys zs a b many more P all =
    let (front, last) = append-each d (xs ++ ys) zs P all in
    let (first, second) = append-each d xs ys P front in
    let both : length (xs ++ ys) ≡ a + b = length-append xs ys ∙ omega (arith, many, more) in
    let Q : ℕ → Type 0 = λ k. (j : ℕ) → j < length ys → P (k + j) (get_or ys j d) in
    let R : ℕ → Type 0 = λ k. (j : ℕ) → j < length zs → P (k + j) (get_or zs j d) in
    (first, subst Q many second, subst R both last)

module _ (net strategy : Net) (m e : ℕ) (signal : ℕ → ℕ) (atoms : List IndexedAtom)
    (good : IsNet net) (fine : IsNet strategy) where
  abbrev parts : Parts
  parts = parts_of net strategy m e

  abbrev all : Net
  all = driven net strategy parts signal atoms

  abbrev above : Group
  above = parts.universal

  abbrev between : Group
  between = parts.player

  abbrev below : Group
  below = parts.existential

  -- ---- what the gates, starts and steps of the whole say of each part

  abbrev Gates : Net → Group → Valuation → Type 0
  Gates own group v = (u : ℕ) → u < length (ands_in own group) →
      v (group.gate + u) ≡ and_value v (and_at (ands_in own group) u)

  gates : (v : Valuation) → IsRight all v →
      Gates net above v × Gates strategy between v × Gates net below v
  gates v right =
      let P : ℕ → Type 0 = λ first. AreRight first (kept net strategy parts).ands v in
      let first : first_and all ≡ above.gate =
      ap (λ k. suc (net.inputs * m + k)) (many-driven_latches net strategy m e) in
      let (own, _) = made-right above.gate (driven_ands net strategy parts)
      (conjunction (owed_literals net parts)) v (subst P first right.gates) in
      let moves : length (ands_in strategy between) ≡ length strategy.ands =
      many-ands strategy between ∙ omega arith in
      let (a, b, c) = three no_and (ands_in net above) (ands_in strategy between)
      (ands_in net below) (length net.ands * m) (length strategy.ands) (many-ands net above) moves
      (λ j x. v (above.gate + j) ≡ and_value v x) own in (
        a,
        λ u lt. let at : between.gate + u ≡ above.gate + (length net.ands * m + u) = omega arith in
            ap v at ∙ b u lt,
        λ u lt. let at : below.gate + u
            ≡ above.gate + (length net.ands * m + length strategy.ands + u) = omega arith in
            ap v at ∙ c u lt,
      )

  abbrev Starts : Net → Group → Valuation → Type 0
  Starts own group v = (u : ℕ) → u < length (copied group.copies same_reset own.resets) →
      ResetTo (reset_at (copied group.copies same_reset own.resets) u) (v (group.latch + u))

  starts : (v : Valuation) → IsStart all v →
      Starts net above v × Starts (settled_net net) below v × Starts strategy between v
  starts v start =
      let n : length (copied m same_reset net.resets) ≡ length net.latches * m =
      length-copied m same_reset net.resets ∙ ap (λ k. k * m) good.resets in
      let x : length (copied e same_reset (map settled net.resets)) ≡ length net.latches * e =
      length-copied e same_reset (map settled net.resets)
      ∙ ap (λ k. k * e) (length-map net.resets settled ∙ good.resets) in
      let nm : length net.resets * m ≡ length net.latches * m = ap (λ k. k * m) good.resets in
      let ne : length net.resets * e ≡ length net.latches * e = ap (λ k. k * e) good.resets in
      let same : length all.resets ≡ length all.latches =
      omega (
        arith,
        many-driven_resets net strategy m e,
        many-driven_latches net strategy m e,
        nm,
        ne,
        fine.resets,
      ) in
      let (a, b, c) = three Zero (copied m same_reset net.resets)
      (copied e same_reset (map settled net.resets)) (copied 1 same_reset strategy.resets)
      (length net.latches * m) (length net.latches * e) n x
      (λ j r. ResetTo r (v (suc (net.inputs * m + j))))
      (λ j lt. start j (omega (arith, lt, same))) in (
        λ u lt. let at : suc (net.inputs * m + u) ≡ above.latch + u = omega arith in
            let Q : ℕ → Type 0 = λ k. ResetTo (reset_at (copied m same_reset net.resets) u) (v k) in
            subst Q at (a u lt),
        λ u lt. let at : suc (net.inputs * m + (length net.latches * m + u)) ≡ below.latch + u =
            omega arith in
            let Q : ℕ → Type 0 = λ k. ResetTo (reset_at (copied e same_reset
            (map settled net.resets)) u) (v k) in subst Q at (b u lt),
        λ u lt. let at :
            suc (net.inputs * m + (length net.latches * m + length net.latches * e + u))
            ≡ between.latch + u = omega arith in
            let Q : ℕ → Type 0 = λ k. ResetTo (reset_at (copied 1 same_reset strategy.resets) u)
            (v k) in subst Q at (c u lt),
      )

  abbrev Steps : Net → Group → Valuation → Valuation → Type 0
  Steps own group v w = (u : ℕ) → u < length (literals_in own group own.latches) →
      w (group.latch + u) ≡ literal_value v (literal_at (literals_in own group own.latches) u)

  steps : (v w : Valuation) → IsStep all v w →
      Steps net above v w × Steps net below v w × Steps strategy between v w
  steps v w step =
      let (a, b, c) = three 0 (literals_in net above net.latches)
      (literals_in net below net.latches) (literals_in strategy between strategy.latches)
      (length net.latches * m) (length net.latches * e) (many-literals net above net.latches)
      (many-literals net below net.latches)
      (λ j l. w (suc (net.inputs * m + j)) ≡ literal_value v l) step in (
        λ u lt. let at : above.latch + u ≡ suc (net.inputs * m + u) = omega arith in
            ap w at ∙ a u lt,
        λ u lt. let at : below.latch + u ≡ suc (net.inputs * m + (length net.latches * m + u)) =
            omega arith in ap w at ∙ b u lt,
        λ u lt. let at : between.latch + u
            ≡ suc (net.inputs * m + (length net.latches * m + length net.latches * e + u)) =
            omega arith in ap w at ∙ c u lt,
      )

  -- ---- the parts of an execution

  module _ (word : Word) (run : Goes all word) where
    pub universal-goes : (c : ℕ) → c < m → Goes net (part net above c word)
    universal-goes c few = record {
      starts = group-starts net above c few (word 0) good.resets (starts (word 0) run.starts).0;
      right = λ i. group-right net above c few (word i) (run.right i).constant
          (gates (word i) (run.right i)).0;
      goes = λ i. group-steps net above c few (word i) (word (suc i))
          (steps (word i) (word (suc i)) (run.goes i)).0;
    }

    player-goes : Goes strategy (part strategy between 0 word)
    player-goes =
        let few : 0 < 1 = omega arith in
        record {
          starts = group-starts strategy between 0 few (word 0) fine.resets
              (starts (word 0) run.starts).2;
          right = λ i. group-right strategy between 0 few (word i) (run.right i).constant
              (gates (word i) (run.right i)).1;
          goes = λ i. group-steps strategy between 0 few (word i) (word (suc i))
              (steps (word i) (word (suc i)) (run.goes i)).2;
        }

    existential-goes : (d : ℕ) → d < e → Goes (settled_net net) (part net below d word)
    existential-goes d few = record {
      starts = group-starts (settled_net net) below d few (word 0)
          (length-map net.resets settled ∙ good.resets) (starts (word 0) run.starts).1;
      right = λ i.
          let own = group-right net below d few (word i) (run.right i).constant
          (gates (word i) (run.right i)).2 in
          record { constant = own.constant; gates = own.gates };
      goes = λ i. group-steps net below d few (word i) (word (suc i))
          (steps (word i) (word (suc i)) (run.goes i)).1;
    }

    pub completes : IsStrategy net strategy m e → IsCompletion net strategy m e
        (λ c. part net above c word) (part strategy between 0 word) (λ d. part net below d word)
    completes shape = record {
      plays = player-goes;
      reads = λ c j i few row.
          let low = mul-add-lt j m c net.inputs row few in
          let at : (j * m + c) * 1 + 0 ≡ j * m + c = omega arith in
          ap (literal_value (word i)) (placed-input strategy between 0 (j * m + c)
          (omega (arith, low, shape.inputs)) ∙ ap (literal_at above.inputs) at
          ∙ sym (placed-input net above c j row));
      copies = existential-goes;
      driven = λ d j i few row.
          let low = mul-add-lt j e d net.inputs row few in
          let at : j * e + d ≡ (j * e + d) * 1 + 0 = omega arith in
          ap (literal_value (word i)) (placed-input net below d j row
          ∙ ap (literal_at below.inputs) at
          ∙ at-copied 1 (literal_in strategy between) strategy.outputs 0 0 (j * e + d) 0
          (omega (arith, low, shape.outputs)) (omega arith))
          ∙ value-under (word i) (placed strategy between 0)
          (literal_at strategy.outputs (j * e + d));
    }

    pub executions : IsExecution all word
        ↔ ((c : ℕ) → c < m → IsExecution net (part net above c word))
    executions = (
      λ is c few.
          let goes = universal-goes c few in
          record {
            run = record {
              starts = goes.starts;
              right = goes.right;
              goes = goes.goes;
              kept = λ i. (copies-true net above word net.constraints i).0 (is.run.kept i) c few;
            };
            fair = (copies-fair net above word).0 is.fair c few;
          },
      λ are. record {
        run = record {
          starts = run.starts;
          right = run.right;
          goes = run.goes;
          kept = λ i. (copies-true net above word net.constraints i).1
              (λ c few. (are c few).run.kept i);
        };
        fair = (copies-fair net above word).1 (λ c few. (are c few).fair);
      },
    )
