-- What good certificates say of formulas is so.
use Rattle.std.proofs.Common.{ℕ, ◌↔◌, List, length, inl, inr}
use Rattle.hy_bits.specs.Letter.{Letter}
use Rattle.hy_formula.specs.Formulas.{Plain}
use Rattle.hy_formula.specs.Lassos.{Lasso}
use Rattle.hy_formula.specs.Temporal.{Decided}
use Rattle.hy_lasso.specs.Words.{AreLassos, Satisfies}
use Rattle.ea_reduce.specs.Fulfilled.{IsFulfillable}
use Rattle.ea_reduce.specs.Plans.{PlainPlan, plan_tasks}
use Rattle.ltl_closure.specs.Jobs.{closure_of, forms_of}
use Rattle.ltl_closure.proofs.Closing.{closure-numbers}
use Rattle.aig_net.specs.Executions.{Word}
use Rattle.live_safe.specs.Paths.{IsBadPath}
use Rattle.live_safe.specs.declared.safe_net.SafeNet.{SafeNet}
use Rattle.cnf_frames.specs.Facts.{IsSafe}
use Rattle.cnf_frames.specs.Proofs.{IsInductionProof}
use Rattle.cnf_frames.specs.declared.inductions.InductionProof.{InductionProof}
use Rattle.formula_nets.proofs.MadeSafe.{OnLatches, over-safe}
use Rattle.free_net.specs.FreeNets.{plan_inputs, plan_names, plan_safe, plan_signals}
use Rattle.free_net.specs.Reduced.{IsReduced}
use Rattle.free_net.proofs.Seeing.{free-is, free-own}
use Rattle.rank_proofs.specs.declared.rank_proof.RankProof.{RankProof}
use Rattle.cert_text.specs.Certificates.{Certificate, Refutation, first, second, model, ranks, free, refuted, both, induction, runs}
use Rattle.claim_check.specs.Claims.{formula, implication, equivalence}
use Rattle.claim_check.specs.Good.{IsGood, Refutes, lassos_over, plan_against, reduction}
use Rattle.claim_check.specs.Truths.{AreApart, Implies, IsSaid, IsSatisfiable}

-- Nothing fulfils a plan that a proof refutes.
abbrev pub IsRefuting : PlainPlan → Type 0
IsRefuting plan = (proof : Refutation) → Refutes plan proof → ¬ IsFulfillable plan

-- The safe net of a plan is one.
plan-is-safe : (plan : PlainPlan) → IsReduced plan → OnLatches → IsSafe (plan_safe plan)
plan-is-safe plan reduced on-latches =
    over-safe (plan_inputs plan) (plan_signals plan) plan.vars
    (free-is (length (plan_names plan))) (free-own (plan_names plan)) reduced.some
    (closure_of (plan_tasks plan)) (closure-numbers (forms_of (plan_tasks plan))).parts on-latches

-- Rank proofs refute, and so do proofs that no path of the safe net is bad.
pub refuting : (plan : PlainPlan) → IsReduced plan → OnLatches
    → (IsFulfillable plan → (k : ℕ) × (word : Word) × IsBadPath (plan_safe plan) k word)
    → ((safe : SafeNet) (proof : InductionProof) → IsSafe safe → IsInductionProof safe proof
    → (k : ℕ) (word : Word) → ¬ IsBadPath safe k word)
    → ((proof : RankProof) → Refutes plan (ranks proof) → ¬ IsFulfillable plan)
    → IsRefuting plan
refuting plan reduced on-latches path unreached ranked (ranks proof) good = ranked proof good
refuting plan reduced on-latches path unreached ranked (free proof) good = λ is.
    let (k, word, bad) = path is in
    unreached (plan_safe plan) proof (plan-is-safe plan reduced on-latches) good.0 k word bad

-- Each list satisfies a formula or does not.
abbrev pub IsDeciding : Type 0
IsDeciding =
    (f : Plain) (list : List (Lasso Letter)) → AreLassos list → Decided (Satisfies list f.prefix f.body)

pub formula-true : (names : List (List ℕ)) (f : Plain)
    → IsFulfillable (reduction f) ↔ IsSatisfiable f → IsRefuting (reduction f)
    → (c : Certificate) → IsGood names (formula f) c → IsSaid names (formula f) c
formula-true names f exactly never (model first lassos) good =
    (lassos_over names lassos, good.some, good.lassos, good.satisfies)
formula-true names f exactly never (model second lassos) good = absurd good
formula-true names f exactly never (refuted proof) good = λ is. never proof good (exactly.1 is)
formula-true names f exactly never (both one two) good = absurd good
formula-true names f exactly never (induction holds proof) good = absurd good
formula-true names f exactly never (runs holds lassos tuple) good = absurd good

-- What no list tells apart is implied.
implied : (f g : Plain) → IsDeciding → ¬ AreApart f g → Implies f g
implied f g decide none list some are is =
    elim (decide g list are) [
      | inl so ↦ so
      | inr fails ↦ absurd (none (
        list,
        record {
          model = record { some = some; lassos = are; satisfies = is };
          fails = fails;
        },
      ))
    ]

not_apart : (f g : Plain) → IsDeciding → IsFulfillable (plan_against f g) ↔ AreApart f g
    → IsRefuting (plan_against f g) → (proof : Refutation) → Refutes (plan_against f g) proof
    → Implies f g
not_apart f g decide exactly never proof good =
    implied f g decide (λ apart. never proof good (exactly.1 apart))

pub implication-true : (names : List (List ℕ)) (f g : Plain) → IsDeciding
    → IsFulfillable (plan_against f g) ↔ AreApart f g → IsRefuting (plan_against f g)
    → (c : Certificate) → IsGood names (implication f g) c → IsSaid names (implication f g) c
implication-true names f g decide exactly never (model first lassos) good =
    (lassos_over names lassos, good)
implication-true names f g decide exactly never (model second lassos) good = absurd good
implication-true names f g decide exactly never (refuted proof) good =
    not_apart f g decide exactly never proof good
implication-true names f g decide exactly never (both one two) good = absurd good
implication-true names f g decide exactly never (induction holds proof) good = absurd good
implication-true names f g decide exactly never (runs holds lassos tuple) good = absurd good

pub equivalence-true : (names : List (List ℕ)) (f g : Plain) → IsDeciding
    → IsFulfillable (plan_against f g) ↔ AreApart f g → IsRefuting (plan_against f g)
    → IsFulfillable (plan_against g f) ↔ AreApart g f → IsRefuting (plan_against g f)
    → (c : Certificate) → IsGood names (equivalence f g) c → IsSaid names (equivalence f g) c
equivalence-true names f g decide there never back also (model first lassos) good =
    (lassos_over names lassos, good)
equivalence-true names f g decide there never back also (model second lassos) good =
    (lassos_over names lassos, good)
equivalence-true names f g decide there never back also (refuted proof) good = absurd good
equivalence-true names f g decide there never back also (both one two) good =
    (not_apart f g decide there never one good.0, not_apart g f decide back also two good.1)
equivalence-true names f g decide there never back also (induction holds proof) good = absurd good
equivalence-true names f g decide there never back also (runs holds lassos tuple) good =
    absurd good
