use mathlib.Core.Bool.{beq}
use Rattle.std.proofs.Common.{◌≡◌, ◌↔◌, ◌≤◌, Bool, Decides, IsTrue, List, [], ◌∷◌, ◌++◌, length, ap, sym, ◌∙◌, subst}
use Rattle.std.specs.Prelude.{IfErr, IfOk, not}
use Rattle.std.proofs.lemmas.Bool.Decides.{Decides-eqb}
use Rattle.std.proofs.lemmas.Slice.Eq.{slice_eq-Decides}
use Rattle.hy_text.specs.Lines.{lines_of}
use Rattle.hy_formula.specs.Formulas.{plain_formula}
use Rattle.hy_formula.specs.Trees.{tree_of}
use Rattle.aig_net.specs.declared.run.Run.{Run}
use Rattle.aig_net.specs.Nets.{variables}
use Rattle.live_safe.specs.declared.safe_net.SafeNet.{SafeNet}
use Rattle.cnf_frames.specs.declared.inductions.InductionProof.{InductionProof}
use Rattle.wit_lasso.specs.FormulaNets.{formula_safe}
use Rattle.formula_nets.specs.Posed.{IsPosed}
use Rattle.formula_nets.specs.Witnesses.{AreWitnesses}
use Rattle.cert_text.specs.InductionLines.{SayInductionProof}
use Rattle.cert_text.specs.Lines.{Line}
use Rattle.cert_text.specs.RunLines.{SayRuns}
use Rattle.induction_judge.specs.Good.{IsGoodInduction}
use Rattle.claim_check.specs.Counting.{IsQueryRefusal}
use Rattle.claim_check.proofs.WeighedCircuits.{else_so, other_so, proof_answered, runs_weighed, same_so, then_not}
use Rattle.claim_check.proofs.WeighedFormulas.{empty_so, filled_so}
use Rattle.claim_check.proofs.circuits.weigh.Goals as goal

pub judge_runs-requires-clause-within : goal.judge_runs-requires-clause-within
judge_runs-requires-clause-within c =
    let own = c.signals_are_own.ensures c.args.net.now c.args.names.now (tree_of c.args.f.now.body)
    c.args.posed.now.signals c.variables.ensures.net c.requires.signals in
    own.within

pub is_unreached-requires-clause-own : goal.is_unreached-requires-clause-own
is_unreached-requires-clause-own c =
    c.signals_are_own.ensures c.args.net.now c.args.names.now (tree_of c.args.f.now.body)
    c.args.posed.now.signals c.variables.ensures.net c.requires.signals

pub is_unreached-requires-clause-room : goal.is_unreached-requires-clause-room
is_unreached-requires-clause-room c =
    let posed : IsPosed c.args.net.now c.args.names.now c.args.f.now.prefix
    (tree_of c.args.f.now.body) c.args.posed.now.signals = record {
      taken = c.requires.taken;
      few = c.requires.within.members.0;
      signals_are = c.requires.signals;
    } in
    let P : Bool → Type 0 = λ b. variables (formula_safe c.args.net.now c.args.posed.now.signals
    (length c.args.f.now.prefix) (tree_of c.args.f.now.body) b).net ≤ 2147483648 in
    subst P (sym c.requires.kind) (c.requires.room c.args.posed.now.signals posed)

pub returns-then-wants_runs : goal.returns-then-wants_runs
returns-then-wants_runs c certificate read =
    let P : Line → Type 0 = λ l. Decides c.eq.result (c.args.read.now.head.now ≡ l) in
    let exactly =
    subst P c.as_slice.ensures (slice_eq-Decides Decides-eqb _ _ c.eq.result c.eq.ensures) in
    let wants = same_so c.eq.result c.args.existential c.if-wants_runs.true ∙ c.requires.kind in
    let some = filled_so (length c.args.read.now.list) c.is_empty.result c.is_empty.ensures
    (then_not (beq c.eq.result c.args.existential) c.is_empty.result
    c.if-wants_runs-is_empty.false c.if-wants_runs.true) in
    let Q : Bool → Type 0 = λ b. (lines : List Line) (tuple : List Run)
    → lines_of c.args.read.now.evidence.now ≡ lines ++ [] ∷ [] → SayRuns lines tuple
    → IsTrue c.in_ok-runs.runs ↔ AreWitnesses c.args.net.now c.args.posed.now.signals
    (length c.args.f.now.prefix) (tree_of c.args.f.now.body) b c.args.read.now.list tuple in
    runs_weighed c.args.net.now c.args.names.now (plain_formula c.args.f.now)
    c.args.read.now.head.now c.args.read.now.list c.args.read.now.evidence.now c.eq.result exactly
    c.args.posed.now.signals c.requires.signals certificate read wants some c.in_ok-runs.runs
    (subst Q c.requires.kind c.in_ok-runs.ensures)

pub returns : goal.returns
returns c certificate read =
    let P : Line → Type 0 = λ l. Decides c.eq.result (c.args.read.now.head.now ≡ l) in
    let exactly =
    subst P c.as_slice.ensures (slice_eq-Decides Decides-eqb _ _ c.eq.result c.eq.ensures) in
    let wants = other_so c.eq.result c.args.existential c.if-wants_runs.false
    ∙ ap not c.requires.kind in
    let none = empty_so (length c.args.read.now.list) c.is_empty.result c.is_empty.ensures
    (else_so (beq c.eq.result c.args.existential) c.is_empty.result
    c.if-wants_runs-is_empty.false c.if-wants_runs.false) in
    let safe : Bool → SafeNet = λ b. formula_safe c.args.net.now c.args.posed.now.signals
    (length c.args.f.now.prefix) (tree_of c.args.f.now.body) b in
    let Q : Bool → Type 0 = λ b. IfOk c.is_unreached.result (λ good. (lines : List Line)
    (proof : InductionProof) → lines_of c.args.read.now.evidence.now ≡ lines ++ [] ∷ []
    → SayInductionProof lines proof → IsTrue good ↔ IsGoodInduction (safe b) proof) in
    let R : Bool → Type 0 = λ b. IfErr c.is_unreached.result (λ e. (lines : List Line)
    (proof : InductionProof) → lines_of c.args.read.now.evidence.now ≡ lines ++ [] ∷ []
    → SayInductionProof lines proof → IsQueryRefusal (safe b) proof e) in
    proof_answered c.args.net.now c.args.names.now (plain_formula c.args.f.now)
    c.args.read.now.head.now c.args.read.now.list c.args.read.now.evidence.now c.eq.result exactly
    c.args.posed.now.signals c.requires.signals certificate read wants none
    c.is_unreached.result (subst Q c.requires.kind c.is_unreached.ensures.judged)
    (subst R c.requires.kind c.is_unreached.ensures.refused)
