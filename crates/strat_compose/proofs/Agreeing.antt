-- Words that agree on the variables of a net.
use Rattle.std.proofs.Common.{◌≡◌, ℕ, suc, ◌<◌, Bool, sym, ◌∙◌, arith}
use Rattle.std.proofs.lemmas.List.{length-map}
use Rattle.aig_net.specs.declared.parts.Reset.{Reset}
use Rattle.aig_net.specs.declared.parts.Reset.TheVariants.{Zero, One, Free}
use Rattle.aig_net.specs.Nets.{AllTrue, Below, IsNet, Net, ResetTo, latch_variable, literal_at, literal_value, reset_at, variables}
use Rattle.aig_net.specs.Executions.{IsExecution, IsFair, Word}
use Rattle.hy_base.proofs.Listed.{at-map}
use Rattle.aig_net.proofs.Literals.{value-same}
use Rattle.aig_net.specs.Running.{Obeys}
use Rattle.aig_net.proofs.Running.{one-run}
use Rattle.strat_compose.specs.Completions.{AreRight, Goes}
use Rattle.strat_compose.specs.Driving.{AreSet, settled, settled_net}

abbrev pub Agree : Net → Word → Word → Type 0
Agree net v w = (i u : ℕ) → u < variables net → v i u ≡ w i u

module _ (net : Net) (v w : Word) (agree : Agree net v w) where
  pub literal-agrees : (i l : ℕ) → Below (variables net) l →
      literal_value (v i) l ≡ literal_value (w i) l
  literal-agrees i l below = value-same (v i) (w i) l (agree i _ below)

  kept-agrees : IsNet net → (i : ℕ) → AllTrue net.constraints (v i) → AllTrue net.constraints (w i)
  kept-agrees good i kept j row =
      sym (literal-agrees i (literal_at net.constraints j) (good.constraints j row)) ∙ kept j row

  fair-agrees : IsNet net → IsFair net v → IsFair net w
  fair-agrees good fair j row i =
      let (k, from, is) = fair j row i in
      (k, from, sym (literal-agrees k (literal_at net.fairs j) (good.fairs j row)) ∙ is)

  pub execution-agrees : IsNet net → Goes net w → IsExecution net v → IsExecution net w
  execution-agrees good goes is = record {
    run = record {
      starts = goes.starts;
      right = goes.right;
      goes = goes.goes;
      kept = λ i. kept-agrees good i (is.run.kept i);
    };
    fair = fair-agrees good is.fair;
  }

pub right-agrees : (net : Net) → IsNet net → (e : ℕ) (v w : ℕ → Word) →
    ((d : ℕ) → d < e → Agree net (v d) (w d)) → AreRight net e v → AreRight net e w
right-agrees net good e v w agree are = record {
  kept = λ d i few. kept-agrees net (v d) (w d) (agree d few) good i (are.kept d i few);
  fair = λ d few. fair-agrees net (v d) (w d) (agree d few) good (are.fair d few);
}

pub obeys : (net : Net) (word : Word) → Goes net word → Obeys net word
obeys net word goes = record { right = goes.right; goes = goes.goes }

-- ---- words that start at resets

one-start : (r : Reset) (a b : Bool) → (r ≡ Free → ⊥) → ResetTo r a → ResetTo r b → a ≡ b
one-start Zero a b set p q = p ∙ sym q
one-start One a b set p q = p ∙ sym q
one-start Free a b set p q = absurd (set (λ i. Free))

pub settled-set : (r : Reset) → settled r ≡ Free → ⊥
settled-set Zero e = cc
settled-set One e = cc
settled-set Free e = cc

-- Words of a net without uninitialised latches agree where their inputs do.
pub set-agree : (net : Net) (v w : Word) → IsNet net → AreSet net.resets → Goes net v →
    Goes net w → ((i j : ℕ) → j < net.inputs → v i (suc j) ≡ w i (suc j)) → Agree net v w
set-agree net v w good set goes goes' inputs =
    one-run net v w good (obeys net v goes) (obeys net w goes') (record {
      inputs = inputs;
      first = λ j row.
          one-start (reset_at net.resets j) (v 0 (latch_variable net j))
          (w 0 (latch_variable net j)) (set j (omega (arith, row, good.resets)))
          (goes.starts j row) (goes'.starts j row);
    })

pub settled-starts : (net : Net) → AreSet (settled_net net).resets
settled-starts net j row free =
    let here = at-map settled Zero Zero net.resets j (omega (
      arith,
      row,
      length-map net.resets settled,
    )) in
    settled-set (reset_at net.resets j) (sym here ∙ free)

pub settled-good : (net : Net) → IsNet net → IsNet (settled_net net)
settled-good net good = record {
  latches = good.latches;
  resets = length-map net.resets settled ∙ good.resets;
  ordered = good.ordered;
  turned = good.turned;
  outputs = good.outputs;
  constraints = good.constraints;
  fairs = good.fairs;
  input_names = good.input_names;
  latch_names = good.latch_names;
  output_names = good.output_names;
}
