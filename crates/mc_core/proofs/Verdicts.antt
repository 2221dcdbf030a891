-- What verdicts on the safe net of a formula say of the formula.
use Rattle.std.proofs.Common.{◌≡◌, ℕ, ◌≤◌, ◌⊎◌, Bool, true, false, not, List, [], length, Option, Some, None, inl, inr, refl, sym, subst, arith}
use Rattle.hy_bits.specs.Letter.{Letter}
use Rattle.hy_formula.specs.Lassos as letters
use Rattle.hy_formula.specs.Normals.{Signed}
use Rattle.hy_formula.specs.Trees.{Tree}
use Rattle.hy_formula.specs.declared.prefix.Quant.{Quant}
use Rattle.aig_net.specs.declared.run.Run.{Run}
use Rattle.aig_net.specs.declared.signals.Signal.{Signal}
use Rattle.aig_net.specs.Nets.{Net}
use Rattle.live_safe.specs.declared.safe_net.Path.{Path}
use Rattle.live_safe.specs.declared.safe_net.SafeNet.{SafeNet}
use Rattle.cnf_frames.specs.declared.inductions.InductionProof.{InductionProof}
use Rattle.cnf_frames.specs.declared.queries.Asked.TheVariants.{Base}
use Rattle.cnf_frames.specs.ProofTexts.{AreSimple}
use Rattle.k_induct.specs.declared.verdict.SafeProof.{SafeProof}
use Rattle.k_induct.specs.Replies.{IsAnswer}
use Rattle.k_induct.specs.Verdicts.{IsSafeProof}
use Rattle.invar_find.specs.declared.kept.Kept.{Kept}
use Rattle.wit_lasso.specs.Satisfaction.{Satisfies}
use Rattle.wit_lasso.specs.Unfoldings.{GoesToBad}
use Rattle.formula_nets.specs.Posed.{checked_safe, is_existential}
use Rattle.formula_nets.specs.Witnesses.{AreWitnesses}
use Rattle.mc_core.specs.declared.ask.Ask.{Ask}
use Rattle.mc_core.specs.declared.checked.Checked.{Checked}
use Rattle.mc_core.specs.declared.decision.Decision.{Decision}
use Rattle.mc_core.specs.declared.decision.Decision.TheVariants.{Path as Shortest, FarPath}
use Rattle.mc_core.specs.Answers.{IsChecked, IsEvidence, IsProved, IsUsable, answered, whole_proof}
use Rattle.mc_core.specs.Decisions.{IsDecision}

pub proved : (safe : SafeNet) (ask : Ask) (kept : Kept) (proof : SafeProof) (depth : ℕ) →
    depth ≤ ask.depth → IsUsable safe kept → (ask.calls ≡ 0 → AreSimple kept.inv) →
    IsSafeProof safe kept.inv depth proof → IsProved safe ask (whole_proof kept proof)
proved safe ask kept proof depth few usable simple is = record {
  right = record {
    inside = usable.inside;
    starts = usable.inductive.starts;
    keeps = usable.logs;
    bases = is.base;
    step = is.step;
  };
  low = let w = is.within in omega (arith, few, w);
  within = record { keeps = usable.within; bases = is.base_within; step = is.step_within };
  simple = simple;
}

-- Either path that is decided answers the query.
pub met : (safe : SafeNet) (ask : Ask) (decision : Decision) (path : Path) →
    IsDecision safe ask decision → (decision ≡ Shortest path) ⊎ (decision ≡ FarPath path) →
    IsAnswer safe (Base (length path.inputs)) path
met safe ask decision path is (inl shortest) =
    let D : Decision → Type 0 = IsDecision safe ask in
    (subst D shortest is).bad
met safe ask decision path is (inr far) =
    let D : Decision → Type 0 = IsDecision safe ask in
    (subst D far is).1

-- The path answers the query, so it goes to bad.
pub goes-to-bad : (safe : SafeNet) (path : Path) → IsAnswer safe (Base (length path.inputs)) path →
    GoesToBad safe path
goes-to-bad _ path (word, bad, shows, _) =
    (word, record { inputs = shows.inputs; rows = shows.rows }, bad)

module _ (net : Net) (signals : List Signal) (prefix : List Quant) (body : Tree) (ask : Ask) where
  abbrev Evidence : Bool → List (letters.Lasso Letter) → List Run → Option InductionProof → Type 0
  Evidence = λ b. IsEvidence b net signals prefix body ask

  abbrev Sat : Type 0
  Sat = Satisfies net signals prefix body

  by-proof : (b : Bool) → b ≡ is_existential prefix → Signed (not b) Sat →
      (proof : InductionProof) → Evidence false [] [] (Some proof) →
      IsChecked net signals prefix body ask (answered (not b) [] [] (Some proof))
  by-proof true e fails proof is =
      let E : Bool → Type 0 = λ b. Evidence (not b) [] [] (Some proof) in
      (fails, subst E e is)
  by-proof false e holds proof is =
      let E : Bool → Type 0 = λ b. Evidence b [] [] (Some proof) in
      (holds, subst E e is)

  pub proof-answer : (proof : InductionProof) → Signed (not (is_existential prefix)) Sat →
      IsProved (checked_safe net signals prefix body) ask proof → (checked : Checked) →
      checked ≡ answered (not (is_existential prefix)) [] [] (Some proof) →
      IsChecked net signals prefix body ask checked
  proof-answer proof decided is checked made =
      let C : Checked → Type 0 = IsChecked net signals prefix body ask in
      subst C (sym made) (by-proof (is_existential prefix) refl decided proof (refl, refl, is))

  by-path : (b : Bool) → b ≡ is_existential prefix → Signed b Sat →
      (traces : List (letters.Lasso Letter)) (runs : List Run) →
      AreWitnesses net signals (length prefix) body (is_existential prefix) traces runs →
      IsChecked net signals prefix body ask (answered b traces runs None)
  by-path true e holds traces runs w =
      let E : Bool → Type 0 = λ b. Evidence b traces runs None in
      (holds, subst E e (w, refl))
  by-path false e fails traces runs w =
      let E : Bool → Type 0 = λ b. Evidence (not b) traces runs None in
      (fails, subst E e (w, refl))

  pub path-answer : Signed (is_existential prefix) Sat → (traces : List (letters.Lasso Letter))
      (runs : List Run) →
      AreWitnesses net signals (length prefix) body (is_existential prefix) traces runs →
      (checked : Checked) → checked ≡ answered (is_existential prefix) traces runs None →
      IsChecked net signals prefix body ask checked
  path-answer decided traces runs w checked made =
      let C : Checked → Type 0 = IsChecked net signals prefix body ask in
      subst C (sym made) (by-path (is_existential prefix) refl decided traces runs w)
