-- Executions that recur have a completion, which recurs.
use Rattle.std.proofs.Common.{◌≡◌, ℕ, suc, ◌+◌, ◌*◌, ◌/◌, ◌%◌, ◌<◌, ◌≤◌, Bool, true, false, sym, ap, ◌∙◌, subst, arith}
use Rattle.std.proofs.Math.Nat.{mod-lt}
use Rattle.std.proofs.lemmas.List.{length-map}
use Rattle.std.proofs.lemmas.Nat.{div-mul-add, mod-mul-add, mul-add-lt}
use Rattle.hy_base.proofs.Listed.{at-map}
use Rattle.aig_net.specs.declared.parts.Reset.{Reset}
use Rattle.aig_net.specs.declared.parts.Reset.TheVariants.{Zero, One, Free}
use Rattle.aig_net.specs.Nets.{IsNet, Net, ResetTo, latch_variable, literal_at, literal_value, reset_at}
use Rattle.aig_net.specs.Executions.{IsExecution, Recurs, Word}
use Rattle.aig_net.specs.Running.{IsRunOn}
use Rattle.aig_net.proofs.Literals.{value-same}
use Rattle.aig_net.proofs.Periods.{Repeats, common}
use Rattle.aig_net.proofs.Running.{some-run}
use Rattle.strat_compose.specs.Completions.{AreRight, Goes, IsCompletion}
use Rattle.strat_compose.specs.Driving.{AreSet, IsStrategy, settled, settled_net}

-- `one_run` of aig_net
abbrev pub RunsRecur : Type 0
RunsRecur = (net : Net) (inputs : ℕ → ℕ → Bool) (latches : ℕ → Bool) (word : Word) (s p : ℕ) →
    IsNet net → IsRunOn net inputs latches word → Recurs inputs s p →
    (t : ℕ) × (k : ℕ) × (s ≤ t) × Recurs word t (k * p)

-- ---- runs from resets

abbrev is_one : Reset → Bool
is_one One = true
is_one _ = false

own-reset : (r : Reset) → (r ≡ Free → ⊥) → ResetTo r (is_one r)
own-reset Zero set = λ i. false
own-reset One set = λ i. true
own-reset Free set = absurd (set (λ i. Free))

-- A net without uninitialised latches goes on any inputs.
module _ (net : Net) (good : IsNet net) (set : AreSet net.resets) (inputs : ℕ → ℕ → Bool) where
  abbrev first : ℕ → Bool
  first j = is_one (reset_at net.resets j)

  abbrev run : (word : Word) × IsRunOn net inputs first word
  run = some-run net inputs first good

  abbrev pub run-word : Word
  run-word = run.0

  pub run-goes : Goes net run-word
  run-goes = record {
    starts = λ j lt.
        let P : Bool → Type 0 = ResetTo (reset_at net.resets j) in
        subst P (sym (run.1.first j lt))
        (own-reset (reset_at net.resets j) (set j (omega (arith, lt, good.resets))));
    right = run.1.obeys.right;
    goes = run.1.obeys.goes;
  }

  pub run-given : (i j : ℕ) → j < net.inputs → run-word i (suc j) ≡ inputs i j
  run-given = run.1.given

  pub run-recurs : RunsRecur → (s p : ℕ) → Recurs inputs s p → Repeats run-word
  run-recurs recur s p again =
      let (t, k, _, is) = recur net inputs first run-word s p good run.1 again in (t, k * p, is)

-- ---- the circuit of the existential copies

settled-set : (r : Reset) → settled r ≡ Free → ⊥
settled-set Zero e = cc
settled-set One e = cc
settled-set Free e = cc

pub settled-starts : (net : Net) → AreSet (settled_net net).resets
settled-starts net j row free =
    let many = length-map net.resets settled in
    let here = at-map settled Zero Zero net.resets j (omega (arith, row, many)) in
    settled-set (reset_at net.resets j) (sym here ∙ free)

pub settled-good : (net : Net) → IsNet net → IsNet (settled_net net)
settled-good net good = record {
  latches = good.latches;
  resets = length-map net.resets settled ∙ good.resets;
  ordered = good.ordered;
  turned = good.turned;
  outputs = good.outputs;
  constraints = good.constraints;
  fairs = good.fairs;
  input_names = good.input_names;
  latch_names = good.latch_names;
  output_names = good.output_names;
}

settled-reset : (r : Reset) (b : Bool) → ResetTo (settled r) b → ResetTo r b
settled-reset Zero b is = is
settled-reset One b is = is
settled-reset Free b is = tt

-- What goes from the settled resets, and is right, is an execution of the circuit.
pub settled-execution : (net : Net) (e d : ℕ) (made : ℕ → Word) → IsNet net → d < e →
    Goes (settled_net net) (made d) → AreRight net e made → IsExecution net (made d)
settled-execution net e d made good few goes right = record {
  run = record {
    starts = λ j lt.
        let here = at-map settled Zero Zero net.resets j (omega (arith, lt, good.resets)) in
        let P : Reset → Type 0 = λ r. ResetTo r (made d 0 (latch_variable net j)) in
        settled-reset (reset_at net.resets j) (made d 0 (latch_variable net j))
        (subst P here (goes.starts j lt));
    right = λ i. record {
      constant = (goes.right i).constant;
      gates = (goes.right i).gates;
    };
    goes = goes.goes;
    kept = λ i. right.kept d i few;
  };
  fair = right.fair d few;
}

-- ---- the completion

-- what m words have together: variable j + 1 of word c at place j * m + c
abbrev together : ℕ → (ℕ → Word) → ℕ → ℕ → Bool
together m words i k = words (k % m) i (suc (k / m))

together-is : (m : ℕ) (words : ℕ → Word) (c j i : ℕ) → c < m →
    together m words i (j * m + c) ≡ words c i (suc j)
together-is m words c j i few =
    ap (λ x. words x i (suc ((j * m + c) / m))) (mod-mul-add j m c few)
    ∙ ap (λ x. words c i (suc x)) (div-mul-add j m c few)

module _ (net strategy : Net) (m e : ℕ) (good : IsNet net) (fine : IsNet strategy)
    (shape : IsStrategy net strategy m e) (some : 0 < m) (given : ℕ → Word) where
  abbrev pub player : Word
  player = run-word strategy fine shape.starts (together m given)

  -- the inputs of existential copy d
  abbrev driving : ℕ → ℕ → ℕ → Bool
  driving d i j = literal_value (player i) (literal_at strategy.outputs (j * e + d))

  abbrev pub made : ℕ → Word
  made d = run-word (settled_net net) (settled-good net good) (settled-starts net) (driving d)

  pub completed : IsCompletion net strategy m e given player made
  completed = record {
    plays = run-goes strategy fine shape.starts (together m given);
    reads = λ c j i few row.
        let low = mul-add-lt j m c net.inputs row few in
        run-given strategy fine shape.starts (together m given) i (j * m + c)
        (omega (arith, low, shape.inputs))
        ∙ together-is m given c j i few;
    copies = λ d few. run-goes (settled_net net) (settled-good net good) (settled-starts net)
        (driving d);
    driven = λ d j i few row. run-given (settled_net net) (settled-good net good)
        (settled-starts net) (driving d) i j row;
  }

  module _ (recur : RunsRecur) (again : (c : ℕ) → c < m → Repeats (given c)) where
    player-recurs : Repeats player
    player-recurs =
        let (s, p, long, each) = common m given again in
        run-recurs strategy fine shape.starts (together m given) recur s p (record {
          some = long;
          same = λ i k le. (each (k % m) (mod-lt k some)).same i (suc (k / m)) le;
        })

    pub made-recurs : (d : ℕ) → Repeats (made d)
    made-recurs d =
        let (s, p, is) = player-recurs in
        run-recurs (settled_net net) (settled-good net good) (settled-starts net) (driving d) recur
        s p (record {
          some = is.some;
          same = λ i j le. value-same (player (i + p)) (player i)
              (literal_at strategy.outputs (j * e + d)) (is.same i _ le);
        })
