-- What a check of a circuit against a formula answers.
use Rattle.std.specs.Prelude.{◌≡◌, ℕ, ◌<◌, ◌≤◌, ◌⊎◌, Bool, true, false, not, List, [], length, Option, Some, None, Result, Ok, Err}
use Rattle.hy_base.specs.Limits.{most}
use Rattle.hy_base.specs.declared.limit.Kind.TheVariants.{Closure}
use Rattle.hy_bits.specs.Letter.{Letter}
use Rattle.hy_formula.specs.Classes.{class_of}
use Rattle.hy_formula.specs.Lassos as letters
use Rattle.hy_formula.specs.Trees.{Tree}
use Rattle.hy_formula.specs.declared.prefix.Quant.{Quant}
use Rattle.ltl_closure.specs.declared.closure_error.ClosureError.{ClosureError}
use Rattle.ltl_closure.specs.declared.closure_error.ClosureError.TheVariants as closures
use Rattle.aig_net.specs.declared.run.Run.{Run}
use Rattle.aig_net.specs.declared.signals.Signal.{Signal}
use Rattle.aig_net.specs.Nets.{Net}
use Rattle.net_names.specs.declared.name_error.NameError.{NameError}
use Rattle.net_names.specs.declared.name_error.NameError.TheVariants as bad_names
use Rattle.net_names.specs.Names.{IsFirstBad}
use Rattle.live_safe.specs.declared.safe_net.SafeNet.{SafeNet}
use Rattle.wit_lasso.specs.Satisfaction.{Satisfies}
use Rattle.cnf_frames.specs.declared.inductions.InductionProof.{InductionProof}
use Rattle.cnf_frames.specs.declared.queries.FrameError.TheVariants as frame
use Rattle.cnf_frames.specs.Facts.{AllIn, IsInductive}
use Rattle.cnf_frames.specs.Proofs.{AreKeepsWithin, AreKept, AreQueriesWithin, IsInductionProof}
use Rattle.cnf_frames.specs.ProofTexts.{AreSimple}
use Rattle.formula_nets.specs.Posed.{IsPosed, IsTaken, checked_safe, is_existential, members}
use Rattle.formula_nets.specs.Witnesses.{AreWitnesses}
use Rattle.k_induct.specs.Verdicts.{IsDeep, IsStopped, IsVerdict}
use Rattle.k_induct.specs.declared.verdict.SafeProof.{SafeProof}
use Rattle.k_induct.specs.declared.verdict.Verdict.TheVariants as verdict
use Rattle.invar_find.specs.declared.kept.Kept.{Kept}
use Rattle.invar_find.specs.Kepts as kepts
use Rattle.mc_core.specs.declared.ask.Ask.{Ask}
use Rattle.mc_core.specs.declared.checked.Checked.{Checked}
use Rattle.mc_core.specs.declared.checked.Checked.TheVariants.{Holds, Violated, UnknownDepth, UnknownConflicts}
use Rattle.mc_core.specs.declared.mc_error.McError.{McError}
use Rattle.mc_core.specs.declared.mc_error.McError.TheVariants.{Prefix, Limit, CnfLimit, Name, Memory}

-- ---- what an answer carries

-- A proof by induction of no more steps than were asked for, each of whose queries is within its limits; none of its
-- facts is a clause where no search for clauses was asked for.
pub record IsProved (safe : SafeNet) (ask : Ask) (proof : InductionProof) : Type 0 where
  pub right : IsInductionProof safe proof
  pub low : proof.depth ≤ ask.depth
  pub within : AreQueriesWithin safe proof
  pub simple : ask.calls ≡ 0 → AreSimple proof.inv

-- such a proof, if there is one
abbrev pub IsProof : SafeNet → Ask → Option InductionProof → Type 0
IsProof safe ask None = ⊥
IsProof safe ask (Some proof) = IsProved safe ask proof

-- Runs and no proof, where the value is true, and else a proof and no runs.
abbrev pub IsEvidence : Bool → Net → List Signal → List Quant → Tree → Ask →
    List (letters.Lasso Letter) → List Run → Option InductionProof → Type 0
IsEvidence true net signals prefix body ask traces runs proof =
    AreWitnesses net signals (length prefix) body (is_existential prefix) traces runs
    × (proof ≡ None)
IsEvidence false net signals prefix body ask traces runs proof =
    (traces ≡ []) × (runs ≡ []) × IsProof (checked_safe net signals prefix body) ask proof

-- The facts that are used: none where they are not asked for.
abbrev pub IsKept : Bool → SafeNet → ℕ → Kept → Type 0
IsKept true safe conflicts kept = (kept.inv ≡ []) × (kept.logs ≡ []) × (kept.spent ≡ [])
IsKept false safe conflicts kept = kepts.IsKept safe conflicts kept

-- ---- answers

abbrev pub IsChecked : Net → List Signal → List Quant → Tree → Ask → Checked → Type 0
IsChecked net signals prefix body ask (Holds traces runs proof) =
    Satisfies net signals prefix body
    × IsEvidence (is_existential prefix) net signals prefix body ask traces runs proof
IsChecked net signals prefix body ask (Violated traces runs proof) =
    (¬ Satisfies net signals prefix body)
    × IsEvidence (not (is_existential prefix)) net signals prefix body ask traces runs proof
IsChecked net signals prefix body ask (UnknownDepth depth kept path) =
    (depth ≡ ask.depth)
    × IsKept ask.plain (checked_safe net signals prefix body) ask.conflicts kept
    × IsDeep (checked_safe net signals prefix body) kept.inv ask.depth path
IsChecked net signals prefix body ask (UnknownConflicts conflicts k step kept log) =
    (conflicts ≡ ask.conflicts)
    × IsKept ask.plain (checked_safe net signals prefix body) ask.conflicts kept
    × IsVerdict (checked_safe net signals prefix body) kept.inv ask.depth ask.conflicts
    (verdict.Spent k step log)

-- the refusal of a body that has no closure
abbrev pub of_closure : ClosureError → McError
of_closure closures.Limit = Limit (record { kind = Closure; limit = most Closure })
of_closure closures.Memory = Memory

-- the refusal of a body that has no signals
abbrev pub of_names : NameError → McError
of_names (bad_names.Bad name twice) = Name name twice
of_names bad_names.Memory = Memory

-- what the work meets; want of memory needs no cause
abbrev pub IsWorkRefusal : SafeNet → Ask → McError → Type 0
IsWorkRefusal safe ask (Limit limit) =
    (ask.plain ≡ false) × kepts.IsStopped safe (frame.Limit limit)
IsWorkRefusal safe ask (CnfLimit kind limit kept) =
    IsKept ask.plain safe ask.conflicts kept
    × IsStopped safe kept.inv ask.depth (frame.Limit (record { kind = kind; limit = limit }))
IsWorkRefusal safe ask Memory = Unit {0}
IsWorkRefusal safe ask _ = ⊥

-- the answer that the circuit satisfies the formula, or that it does not
abbrev pub answered : Bool → List (letters.Lasso Letter) → List Run → Option InductionProof →
    Checked
answered true traces runs proof = Holds traces runs proof
answered false traces runs proof = Violated traces runs proof

-- Facts that a proof by induction may use.
pub record IsUsable (safe : SafeNet) (kept : Kept) : Type 0 where
  pub inside : AllIn (length safe.net.latches) kept.inv
  pub inductive : IsInductive safe.net kept.inv
  pub logs : AreKept safe kept.inv kept.logs
  pub within : AreKeepsWithin safe kept.inv

-- the proof of which these are the facts, and this is what stands behind them
abbrev pub whole_proof : Kept → SafeProof → InductionProof
whole_proof kept proof = record {
  inv = kept.inv;
  depth = proof.depth;
  keep = kept.logs;
  base = proof.base;
  step = proof.step;
}

-- ---- refusals, in this order: the class, the closure, the names, and what the work meets

abbrev pub IsRefused : Net → List (List ℕ) → List Quant → Tree → Ask → McError → Type 0
IsRefused net names prefix body ask (Prefix class) =
    (class ≡ class_of prefix) × (¬ IsTaken prefix)
IsRefused net names prefix body ask (Limit limit) =
    (IsTaken prefix × ((most Closure < members prefix body) × (limit.kind ≡ Closure)
    × (limit.limit ≡ most Closure)))
    ⊎ ((signals : List Signal) × IsPosed net names prefix body signals
    × IsWorkRefusal (checked_safe net signals prefix body) ask (Limit limit))
IsRefused net names prefix body ask (CnfLimit kind limit kept) =
    (signals : List Signal) × IsPosed net names prefix body signals
    × IsWorkRefusal (checked_safe net signals prefix body) ask (CnfLimit kind limit kept)
IsRefused net names prefix body ask (Name name twice) =
    IsTaken prefix × (members prefix body ≤ most Closure)
    × IsFirstBad net names body name twice
IsRefused net names prefix body ask Memory = Unit {0}

-- what `check` answers; want of memory needs no cause
abbrev pub IsAnswer : Net → List (List ℕ) → List Quant → Tree → Ask → Result Checked McError →
    Type 0
IsAnswer net names prefix body ask (Ok checked) =
    (signals : List Signal) × IsPosed net names prefix body signals
    × IsChecked net signals prefix body ask checked
IsAnswer net names prefix body ask (Err e) = IsRefused net names prefix body ask e
