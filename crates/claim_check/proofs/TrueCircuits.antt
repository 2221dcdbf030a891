-- What good certificates say of circuits is so.
use Rattle.std.proofs.Common.{◌≡◌, ℕ, Bool, true, false, not, List, sym, subst}
use Rattle.hy_formula.specs.Formulas.{Plain}
use Rattle.hy_formula.specs.Normals.{Signed}
use Rattle.hy_bits.specs.Letter.{Letter}
use Rattle.hy_formula.specs.Lassos.{Lasso}
use Rattle.aig_net.specs.declared.run.Run.{Run}
use Rattle.aig_net.specs.declared.signals.Signal.{Signal}
use Rattle.aig_net.specs.Nets.{Net}
use Rattle.net_names.specs.Names.{AreSignals}
use Rattle.cnf_frames.specs.declared.inductions.InductionProof.{InductionProof}
use Rattle.wit_lasso.specs.Satisfaction.{Satisfies}
use Rattle.formula_nets.specs.Posed.{is_existential}
use Rattle.cert_text.specs.Certificates.{Certificate, model, refuted, both, induction, runs}
use Rattle.claim_check.specs.Claims.{circuit}
use Rattle.claim_check.specs.Good.{AreGoodRuns, IsGood, lassos_over, safe_net}
use Rattle.induction_judge.specs.Good.{IsGoodInduction}
use Rattle.claim_check.specs.Truths.{IsSaid, Says}

-- What is said of one fact is said of another that is so exactly where the one is.
signed-same : {P Q : Type 0} (b : Bool) → (P → Q) → (Q → P) → Signed b P → Signed b Q
signed-same true f g is = f is
signed-same false f g is = λ q. is (g q)

module _ (net : Net) (names : List (List ℕ)) (f : Plain) where
  -- The circuit satisfies the formula, its names said by these signals.
  abbrev pub Holds : List Signal → Type 0
  Holds signals = Satisfies net signals f.prefix f.body

  abbrev pub SayTheSame : Type 0
  SayTheSame =
      (a b : List Signal) → AreSignals net names f.body a → AreSignals net names f.body b
      → Holds a → Holds b

  module _ (same : SayTheSame)
      (proved : (signals : List Signal) (proof : InductionProof)
      → AreSignals net names f.body signals → IsGoodInduction (safe_net net signals f) proof
      → Signed (not (is_existential f.prefix)) (Holds signals))
      (shown : (signals : List Signal) (list : List (Lasso Letter)) (tuple : List Run)
      → AreGoodRuns net signals f list tuple
      → Signed (is_existential f.prefix) (Holds signals)) where
    said : (holds b : Bool) → holds ≡ b → (a : List Signal) → AreSignals net names f.body a
        → Signed b (Holds a) → Says holds net names f
    said holds b e a one is other two =
        let S : Bool → Type 0 = λ b. Signed b (Holds other) in
        subst S (sym e) (signed-same b (same a other one two) (same other a two one) is)

    pub circuit-true : (c : Certificate) → IsGood names (circuit net f) c
        → IsSaid names (circuit net f) c
    circuit-true (model side lassos) good = absurd good
    circuit-true (refuted proof) good = absurd good
    circuit-true (both one two) good = absurd good
    circuit-true (induction holds proof) (wants, (signals, are, good)) =
        said holds (not (is_existential f.prefix)) wants signals are
        (proved signals proof are good)
    circuit-true (runs holds lassos tuple) (wants, (signals, are, good)) =
        said holds (is_existential f.prefix) wants signals are
        (shown signals (lassos_over names lassos) tuple good)
