-- Rows that follow and come back are the lasso executions of a run.
use Rattle.std.proofs.Common.{◌≡◌, ℕ, suc, ◌+◌, ◌-◌, ◌<◌, Bool, List, [], ◌++◌, length, map, take, drop, IsTrue, inl, inr, sym, ap, ◌∙◌, subst, arith, length-append}
use Rattle.std.proofs.Math.Seq.{take-append_seam, drop-append_seam}
use Rattle.std.proofs.lemmas.Bool.{cases_lt}
use Rattle.std.proofs.lemmas.List.{map-append, get_or-map, get_or-append-add, length-map, get_or_past}
use Rattle.aig_net.specs.declared.run.Run.{Run}
use Rattle.aig_net.specs.declared.run.ValueLasso.{ValueLasso}
use Rattle.aig_net.specs.Nets.{Net, IsNet, IsRight, IsStart, IsStep, AllTrue, Valuation, literal_at, literal_value}
use Rattle.hy_base.specs.Rows.{row}
use Rattle.aig_net.specs.Rows.{input_row, latch_row}
use Rattle.aig_net.specs.Executions.{no_values, value_in, steps, step_at}
use Rattle.aig_net.specs.Following.{Follows, IsStartRow, IsRound, row_at, AreFull}
use Rattle.aig_net.specs.Simulations.{valuations, IsExecutionOf}
use Rattle.aig_net.proofs.States.{start-row, row-start, step-row, row-step}
use Rattle.aig_net.proofs.Follows.{follows-append, follows-split, follows-length, follows-only, follows-inputs, follows-linked, follows-end, linked-follows, AreLinked}

abbrev pub all : ValueLasso → List (List Bool)
all values = values.stem ++ values.cycle

value-row : (rows : List (List Bool)) (i : ℕ) → value_in (map row rows) i ≡ row (row_at rows i)
value-row rows i =
    elim (cases_lt i (length rows)) [
      | inl lt ↦ get_or-map row rows i [] no_values lt
      | inr le ↦
          let many : length (map row rows) ≡ length rows = length-map rows row in
          get_or_past (map row rows) i no_values (omega (arith, many))
          ∙ sym (ap row (get_or_past rows i [] le))
    ]

step-at-row : (values : ValueLasso) (i : ℕ) →
    step_at (valuations values) i ≡ row (row_at (all values) i)
step-at-row values i = ap (λ l. value_in l i) (sym (map-append row values.stem values.cycle))
    ∙ value-row (all values) i

steps-rows : (values : ValueLasso) → steps (valuations values) ≡ length (all values)
steps-rows values =
    let a : length (map row values.stem) ≡ length values.stem = length-map values.stem row in
    let b : length (map row values.cycle) ≡ length values.cycle = length-map values.cycle row in
    let c : length (all values) ≡ length values.stem + length values.cycle =
    length-append values.stem values.cycle in
    omega (arith, a, b, c)

cycle-first : (values : ValueLasso) →
    row_at (all values) (length values.stem) ≡ row_at values.cycle 0
cycle-first values =
    let e : length values.stem + 0 ≡ length values.stem = omega arith in
    ap (row_at (all values)) (sym e) ∙ get_or-append-add values.stem values.cycle 0 []

module _ (net : Net) (good : IsNet net) where
  -- ---- rows that follow are an execution

  pub execution : (run : Run) (m last : List Bool) (stem cycle : List (List Bool)) →
      IsStartRow net.resets run.first → Follows net run.first run.stem stem m →
      Follows net m run.cycle cycle last → IsRound net cycle last →
      IsExecutionOf net run (record { stem = stem; cycle = cycle })
  execution run m last stem cycle starts f g round = record {
    full = λ k lt. (linked.good k lt).full;
    first = linked.first some;
    stem = follows-inputs net run.first m run.stem stem f;
    cycle = follows-inputs net m last run.cycle cycle g;
    execution = record {
      some = let b : length (map row cycle) ≡ length cycle = length-map cycle row in
          omega (arith, b, round.some);
      starts =
          let S : Valuation → Type 0 = IsStart net in
          let R : List Bool → Type 0 = IsStartRow net.resets in
          subst S (sym (at 0)) (row-start net (row_at rows 0) good.resets
          (subst R (sym (linked.first some)) starts));
      right = λ i lt. let P : Valuation → Type 0 = IsRight net in
          subst P (sym (at i)) (linked.good i (omega (arith, many, lt))).right;
      kept = λ i lt. let P : Valuation → Type 0 = AllTrue net.constraints in
          subst P (sym (at i)) (linked.good i (omega (arith, many, lt))).kept;
      goes = λ i lt. step i (suc i) (row-step net (row_at rows i) (row_at rows (suc i))
          (linked.goes i (omega (arith, many, lt))));
      back =
          let k : ℕ = steps (valuations values) - 1 in
          let ends : suc k ≡ length rows = omega (arith, many, some) in
          let short : length (map row stem) ≡ length stem = length-map stem row in
          step k (length (map row stem))
          (row-step net (row_at rows k) (row_at rows (length (map row stem)))
          (ap (λ n. latch_row net (row_at rows n)) short ∙ ap (latch_row net) (cycle-first values)
          ∙ round.back ∙ follows-end net run.first last
          (run.stem ++ run.cycle) rows whole k ends));
      fair = λ j lt.
          let seen = round.fair j lt in
          let b : length (map row cycle) ≡ length cycle = length-map cycle row in
          let P : Valuation → Type 0 = λ v. IsTrue (literal_value v (literal_at net.fairs j)) in (
            seen.place,
            omega (arith, b, seen.below),
            subst P
                (sym (value-row cycle seen.place)) seen.seen,
          );
    };
  }
    where
      values : ValueLasso
      values = record { stem = stem; cycle = cycle }

      rows : List (List Bool)
      rows = stem ++ cycle

      whole : Follows net run.first (run.stem ++ run.cycle) rows last
      whole = follows-append net run.first m last run.stem run.cycle stem cycle f g

      linked : AreLinked net run.first rows
      linked = follows-linked net run.first last (run.stem ++ run.cycle) rows whole

      at : (i : ℕ) → step_at (valuations values) i ≡ row (row_at rows i)
      at i = step-at-row values i

      many : steps (valuations values) ≡ length rows
      many = steps-rows values

      some : 0 < length rows
      some = let c : length rows ≡ length stem + length cycle = length-append stem cycle in
          omega (arith, c, round.some)

      step : (i k : ℕ) → IsStep net (row (row_at rows i)) (row (row_at rows k)) →
          IsStep net (step_at (valuations values) i) (step_at (valuations values) k)
      step i k is =
          let P : Valuation → Type 0 = λ v. IsStep net v (row (row_at rows k)) in
          let Q : Valuation → Type 0 = IsStep net (step_at (valuations values) i) in
          subst Q (sym (at k)) (subst P (sym (at i)) is)

  -- ---- an execution is of rows that follow

  -- how the rows of an execution come about
  pub record Comes (run : Run) (values : ValueLasso) : Type 0 where
    pub middle : List Bool
    pub last : List Bool
    pub starts : IsStartRow net.resets run.first
    pub stem : Follows net run.first run.stem values.stem middle
    pub cycle : Follows net middle run.cycle values.cycle last
    pub round : IsRound net values.cycle last

  linked : (run : Run) (values : ValueLasso) → IsExecutionOf net run values →
      AreLinked net run.first (all values)
  linked run values is = record {
    good = λ k lt. record {
      full = is.full k lt;
      right = let P : Valuation → Type 0 = IsRight net in
          subst P (step-at-row values k) (is.execution.right k (omega (arith, many, lt)));
      kept = let P : Valuation → Type 0 = AllTrue net.constraints in
          subst P (step-at-row values k) (is.execution.kept k (omega (arith, many, lt)));
    };
    first = λ some. is.first;
    goes = λ k lt.
        let P : Valuation → Type 0 = λ v. IsStep net v (step_at (valuations values) (suc k)) in
        let Q : Valuation → Type 0 = IsStep net (row (row_at (all values) k)) in
        step-row net (row_at (all values) k) (row_at (all values) (suc k)) (is.full (suc k) lt)
        (subst Q (step-at-row values (suc k))
        (subst P (step-at-row values k) (is.execution.goes k (omega (arith, many, lt)))));
  }
    where
      many : steps (valuations values) ≡ length (all values)
      many = steps-rows values

  pub comes : (run : Run) (values : ValueLasso) → IsExecutionOf net run values → Comes run values
  comes run values is =
      let (last, own) = linked-follows net run.first (all values) (linked run values is) in
      let inputs : map (input_row net) (all values) ≡ run.stem ++ run.cycle =
      map-append (input_row net) values.stem values.cycle
      ∙ ap (λ x. x ++ map (input_row net) values.cycle) is.stem
      ∙ ap (λ x. run.stem ++ x) is.cycle in
      let I : List (List Bool) → Type 0 = λ x. Follows net run.first x (all values) last in
      let whole : I (run.stem ++ run.cycle) = subst I inputs own in
      let (m, xs, ys, e, f, g) = follows-split net run.first last run.stem run.cycle
      (all values) whole in
      let few : length (map (input_row net) values.stem) ≡ length values.stem =
      length-map values.stem (input_row net) in
      let many : length xs ≡ length values.stem =
      follows-length net run.first m run.stem xs f ∙ sym (ap length is.stem) ∙ few in
      let stem : xs ≡ values.stem = sym (take-append_seam xs ys) ∙ ap (take (length xs)) (sym e)
      ∙ ap (λ n. take n (all values)) many ∙ take-append_seam values.stem values.cycle in
      let cycle : ys ≡ values.cycle =
      sym (drop-append_seam xs ys) ∙ ap (drop (length xs)) (sym e)
      ∙ ap (λ n. drop n (all values)) many ∙ drop-append_seam values.stem values.cycle in
      let F : List (List Bool) → Type 0 = λ x. Follows net run.first run.stem x m in
      let G : List (List Bool) → Type 0 = λ x. Follows net m run.cycle x last in
      record {
        middle = m;
        last = last;
        starts =
            let S : Valuation → Type 0 = IsStart net in
            let R : List Bool → Type 0 = IsStartRow net.resets in
            subst R is.first (start-row net (row_at (all values) 0) good.resets (is.full 0 some)
            (subst S (step-at-row values 0) is.execution.starts));
        stem = subst F stem f;
        cycle = subst G cycle g;
        round = record {
          some = omega (arith, is.execution.some, cycles);
          back =
              let P : Valuation → Type 0 = λ v. IsStep net v
              (step_at (valuations values) (length (map row values.stem))) in
              let Q : Valuation → Type 0 = IsStep net
              (row (row_at (all values) (steps (valuations values) - 1))) in
              let at : length (map row values.stem) < length (all values) =
              omega (arith, stems, cycles, total, is.execution.some) in
              let ends : suc (steps (valuations values) - 1) ≡ length (all values) =
              omega (arith, steps-rows values, some) in
              ap (latch_row net) (sym (cycle-first values))
              ∙ ap (λ n. latch_row net (row_at (all values) n)) (sym stems)
              ∙ step-row net (row_at (all values) (steps (valuations values) - 1))
              (row_at (all values) (length (map row values.stem))) (is.full _ at)
              (subst Q (step-at-row values (length (map row values.stem)))
              (subst P (step-at-row values (steps (valuations values) - 1)) is.execution.back))
              ∙ sym (follows-end net run.first last (run.stem ++ run.cycle) (all values) whole
              (steps (valuations values) - 1) ends);
          fair = λ j lt.
              let (k, below, seen) = is.execution.fair j lt in
              let P : Valuation → Type 0 = λ v. IsTrue (literal_value v (literal_at net.fairs j)) in
              record {
                place = k;
                below = omega (arith, below, cycles);
                seen =
                    subst P (value-row values.cycle k) seen;
              };
        };
      }
    where
      stems : length (map row values.stem) ≡ length values.stem
      stems = length-map values.stem row

      cycles : length (map row values.cycle) ≡ length values.cycle
      cycles = length-map values.cycle row

      total : length (all values) ≡ length values.stem + length values.cycle
      total = length-append values.stem values.cycle

      some : 0 < length (all values)
      some = omega (arith, total, cycles, is.execution.some)

-- ---- what is no execution

pub not_started : (net : Net) → IsNet net → (run : Run) → ¬ IsStartRow net.resets run.first →
    (values : ValueLasso) → ¬ IsExecutionOf net run values
not_started net good run none values is = none (comes net good run values is).starts

pub no_stem : (net : Net) → IsNet net → (run : Run) →
    ((rows : List (List Bool)) (last : List Bool) → ¬ Follows net run.first run.stem rows last) →
    (values : ValueLasso) → ¬ IsExecutionOf net run values
no_stem net good run none values is = let c = comes net good run values is in
    none values.stem c.middle c.stem

pub no_cycle : (net : Net) → IsNet net → (run : Run) (m : List Bool) (stem : List (List Bool)) →
    Follows net run.first run.stem stem m →
    ((rows : List (List Bool)) (last : List Bool) → ¬ Follows net m run.cycle rows last) →
    (values : ValueLasso) → ¬ IsExecutionOf net run values
no_cycle net good run m stem f none values is =
    let c = comes net good run values is in
    let (_, e) =
    follows-only net good.ordered run.first m c.middle run.stem stem values.stem f c.stem in
    let P : List Bool → Type 0 = λ x. Follows net x run.cycle values.cycle c.last in
    none values.cycle c.last (subst P (sym e) c.cycle)

pub no_round : (net : Net) → IsNet net →
    (run : Run) (m last : List Bool) (stem cycle : List (List Bool)) →
    Follows net run.first run.stem stem m → Follows net m run.cycle cycle last →
    ¬ IsRound net cycle last → (values : ValueLasso) → ¬ IsExecutionOf net run values
no_round net good run m last stem cycle f g none values is =
    let c = comes net good run values is in
    let (_, e) =
    follows-only net good.ordered run.first m c.middle run.stem stem values.stem f c.stem in
    let P : List Bool → Type 0 = λ x. Follows net x run.cycle values.cycle c.last in
    let (rows, ends) = follows-only net good.ordered m last c.last run.cycle cycle values.cycle g
    (subst P (sym e) c.cycle) in
    let R : List Bool → Type 0 = IsRound net cycle in
    let S : List (List Bool) → Type 0 = λ x. IsRound net x c.last in
    none (subst R (sym ends) (subst S (sym rows) c.round))

pub follows_full : (net : Net) (l m : List Bool) (inputs rows : List (List Bool)) →
    Follows net l inputs rows m → AreFull net rows
follows_full net l m inputs rows f k lt = ((follows-linked net l m inputs rows f).good k lt).full

-- a run has one lasso of values
pub one_of_run : (net : Net) → IsNet net → (run : Run) (a b : ValueLasso) →
    IsExecutionOf net run a → IsExecutionOf net run b → a ≡ b
one_of_run net good run a b is is' =
    let c = comes net good run a is in
    let d = comes net good run b is' in
    let (stems, middles) =
    follows-only net good.ordered run.first c.middle d.middle run.stem a.stem b.stem c.stem
    d.stem in
    let P : List Bool → Type 0 = λ x. Follows net x run.cycle a.cycle c.last in
    let (cycles, _) =
    follows-only net good.ordered d.middle c.last d.last run.cycle a.cycle b.cycle
    (subst P middles c.cycle) d.cycle in
    let V : Type 0 = ValueLasso in
    let from : List (List Bool) → V = λ x. record { stem = x; cycle = a.cycle } in
    let to : List (List Bool) → V = λ x. record { stem = b.stem; cycle = x } in
    ap from stems ∙ ap to cycles
