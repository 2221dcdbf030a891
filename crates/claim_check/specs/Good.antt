-- When a certificate is good for a claim. All else is not: a verdict with the evidence of another
-- one may be a text, and is no good.
use Rattle.std.specs.Prelude.{◌≡◌, ℕ, Bool, not, List, map, length}
use Rattle.hy_bits.specs.Letter.{Letter}
use Rattle.hy_formula.specs.Formulas.{Plain}
use Rattle.hy_formula.specs.Lassos.{Lasso}
use Rattle.hy_lasso.specs.LassoLines.{Spelled, lasso_of}
use Rattle.ltl_tableau.specs.Ranks.{IsRankProof}
use Rattle.ea_reduce.specs.Fulfilled as lists
use Rattle.ea_reduce.specs.Plans as plans
use Rattle.ea_reduce.specs.Plans.{PlainPlan}
use Rattle.rank_proofs.specs.Proofs.{plain_proof, plan_nodes, plan_roots}
use Rattle.aig_net.specs.declared.run.Run.{Run}
use Rattle.aig_net.specs.declared.signals.Signal.{Signal}
use Rattle.aig_net.specs.Nets.{Net}
use Rattle.net_names.specs.Names.{AreSignals}
use Rattle.live_safe.specs.declared.safe_net.SafeNet.{SafeNet}
use Rattle.free_net.specs.FreeNets.{plan_safe}
use Rattle.formula_nets.specs.Posed.{checked_safe, is_existential}
use Rattle.formula_nets.specs.Witnesses.{AreWitnesses}
use Rattle.cert_text.specs.Certificates.{Certificate, Refutation, first, second, model, ranks, free, refuted, both, induction, runs}
use Rattle.induction_judge.specs.Good.{IsGoodInduction}
use Rattle.claim_check.specs.Claims.{Claim, formula, implication, equivalence, circuit}

-- ---- lists of lassos, and proofs that there are none

-- the lassos that are spelled, over a table of names
abbrev pub lassos_over : List (List ℕ) → List Spelled → List (Lasso Letter)
lassos_over names lassos = map (lasso_of names) lassos

-- the plan of a formula
abbrev pub reduction : Plain → PlainPlan
reduction f = plans.reduction f.prefix f.body

-- the plan of a formula that is to hold and of another that is not to
abbrev pub plan_against : Plain → Plain → PlainPlan
plan_against f g = plans.implication f.prefix f.body g.prefix g.body

-- The list satisfies the formula.
abbrev pub IsModel : Plain → List (Lasso Letter) → Type 0
IsModel f list = lists.IsModel f.prefix f.body list

-- The list satisfies the first formula, and not the second.
abbrev pub Separates : Plain → Plain → List (Lasso Letter) → Type 0
Separates f g list = lists.Separates f.prefix f.body g.prefix g.body list

-- The proof shows that no lassos fulfil the plan: by ranks of its branches, or since no path of the
-- safe net of its free net is bad.
abbrev pub Refutes : PlainPlan → Refutation → Type 0
Refutes plan (ranks proof) = IsRankProof (plan_nodes plan) (plan_roots plan) (plain_proof proof)
Refutes plan (free proof) = IsGoodInduction (plan_safe plan) proof

-- ---- circuits

-- the safe net in which a path is looked for
abbrev pub safe_net : Net → List Signal → Plain → SafeNet
safe_net net signals f = checked_safe net signals f.prefix f.body

-- The value is that of a formula whose safe net has no path to bad: a universal one holds, an
-- existential one does not.
abbrev pub WantsInduction : Plain → Bool → Type 0
WantsInduction f holds = holds ≡ not (is_existential f.prefix)

-- The value is that of a formula of which runs show what it says: an existential one holds, a
-- universal one does not.
abbrev pub WantsRuns : Plain → Bool → Type 0
WantsRuns f holds = holds ≡ is_existential f.prefix

-- The runs show what the formula says of the circuit, and the lassos are what is seen of them.
abbrev pub AreGoodRuns : Net → List Signal → Plain → List (Lasso Letter) → List Run → Type 0
AreGoodRuns net signals f list tuple =
    AreWitnesses net signals (length f.prefix) f.body (is_existential f.prefix) list tuple

-- ---- certificates

-- The names are those of the table by which the formulas of the claim were read.
abbrev pub IsGood : List (List ℕ) → Claim → Certificate → Type 0
IsGood names (formula f) (model first lassos) = IsModel f (lassos_over names lassos)
IsGood names (formula f) (refuted proof) = Refutes (reduction f) proof
IsGood names (implication f g) (model first lassos) = Separates f g (lassos_over names lassos)
IsGood names (implication f g) (refuted proof) = Refutes (plan_against f g) proof
IsGood names (equivalence f g) (model first lassos) = Separates f g (lassos_over names lassos)
IsGood names (equivalence f g) (model second lassos) = Separates g f (lassos_over names lassos)
IsGood names (equivalence f g) (both one two) =
    Refutes (plan_against f g) one × Refutes (plan_against g f) two
IsGood names (circuit net f) (induction holds proof) =
    WantsInduction f holds × ((signals : List Signal) × AreSignals net names f.body signals
    × IsGoodInduction (safe_net net signals f) proof)
IsGood names (circuit net f) (runs holds lassos tuple) =
    WantsRuns f holds × ((signals : List Signal) × AreSignals net names f.body signals
    × AreGoodRuns net signals f (lassos_over names lassos) tuple)
IsGood names _ _ = ⊥
