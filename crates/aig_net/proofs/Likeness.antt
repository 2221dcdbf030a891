-- Valuations that agree on the variables of a net.
use Rattle.std.proofs.Common.{◌≡◌, ℕ, ◌+◌, ◌<◌, List, Bool, sym, ◌∙◌, subst, arith}
use Rattle.aig_net.specs.Nets.{Net, Valuation, IsNet, ResetTo, AllBelow, literal_at, reset_at, and_at, latch_variable, first_and, variables, IsRight, IsStart, IsStep, AllTrue}
use Rattle.aig_net.proofs.GateLemmas.{and-same}
use Rattle.aig_net.proofs.Literals.{value-same}

abbrev pub Alike : Net → Valuation → Valuation → Type 0
Alike net v w = (u : ℕ) → u < variables net → v u ≡ w u

module _ (net : Net) (good : IsNet net) where
  pub true-alike : (literals : List ℕ) (v w : Valuation) → AllBelow (variables net) literals →
      Alike net v w → AllTrue literals v → AllTrue literals w
  true-alike literals v w all same is j lt =
      sym (value-same v w (literal_at literals j) (same _ (all j lt))) ∙ is j lt

  pub start-alike : (v w : Valuation) → Alike net v w → IsStart net v → IsStart net w
  start-alike v w same starts j lt =
      let P : Bool → Type 0 = ResetTo (reset_at net.resets j) in
      subst P (same (latch_variable net j) (omega arith)) (starts j lt)

  pub right-alike : (v w : Valuation) → Alike net v w → IsRight net v → IsRight net w
  right-alike v w same right = record {
    constant = sym (same 0 (omega arith)) ∙ right.constant;
    gates = λ j lt.
        let (l, r) = good.ordered j lt in
        sym (same (first_and net + j) (omega arith)) ∙ right.gates j lt
        ∙ and-same v w (and_at net.ands j) (same _ (omega (arith, l))) (same _ (omega (arith, r)));
  }

  pub step-alike : (v w v' w' : Valuation) → Alike net v v' → Alike net w w' → IsStep net v w →
      IsStep net v' w'
  step-alike v w v' w' same same' goes j lt =
      sym (same' (latch_variable net j) (omega arith)) ∙ goes j lt
      ∙ value-same v v' (literal_at net.latches j) (same _ (good.latches j lt))
