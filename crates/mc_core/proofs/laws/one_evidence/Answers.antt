use Rattle.std.proofs.Common.{◌<◌, Bool, true, false, not, List, length, Option, Some, None, sym, ◌∙◌, arith}
use Rattle.hy_bits.specs.Letter.{Letter}
use Rattle.hy_formula.specs.Lassos as letters
use Rattle.hy_formula.specs.Trees.{Tree}
use Rattle.hy_formula.specs.declared.prefix.Quant.{Quant}
use Rattle.aig_net.specs.declared.run.Run.{Run}
use Rattle.aig_net.specs.declared.signals.Signal.{Signal}
use Rattle.aig_net.specs.Nets.{Net}
use Rattle.cnf_frames.specs.declared.inductions.InductionProof.{InductionProof}
use Rattle.formula_nets.specs.Posed.{is_existential}
use Rattle.mc_core.specs.declared.ask.Ask.{Ask}
use Rattle.mc_core.specs.declared.checked.Checked.{Checked}
use Rattle.mc_core.specs.declared.checked.Checked.TheVariants.{Holds, Violated, UnknownDepth, UnknownConflicts}
use Rattle.mc_core.specs.Answers.{IsChecked, IsEvidence}
use Rattle.mc_core.specs.Evidence.{IsOneOf, HasOneEvidence}
use Rattle.mc_core.proofs.laws.one_evidence.Goals as goal

module _ (net : Net) (signals : List Signal) (prefix : List Quant) (body : Tree)
    (some : 0 < length prefix) where
  one-of : (b : Bool) (ask : Ask) (traces : List (letters.Lasso Letter)) (runs : List Run)
      (proof : Option InductionProof)
      → IsEvidence b net signals prefix body ask traces runs proof → IsOneOf traces runs proof
  one-of true ask traces runs None (shown, none) =
      (omega (arith, shown.many_runs, some), shown.many_traces ∙ sym shown.many_runs)
  one-of true ask traces runs (Some proof) (shown, none) = absurd (cc)
  one-of false ask traces runs None (no_traces, no_runs, none) = absurd none
  one-of false ask traces runs (Some proof) (no_traces, no_runs, is) = (no_traces, no_runs)

  one-evidence : (ask : Ask) (checked : Checked) → IsChecked net signals prefix body ask checked
      → HasOneEvidence checked
  one-evidence ask (Holds traces runs proof) (holds, evidence) =
      one-of (is_existential prefix) ask traces runs proof evidence
  one-evidence ask (Violated traces runs proof) (fails, evidence) =
      one-of (not (is_existential prefix)) ask traces runs proof evidence
  one-evidence ask (UnknownDepth depth kept path) is = tt
  one-evidence ask (UnknownConflicts conflicts k step kept log) is = tt

pub returns : goal.returns
returns c net signals prefix body ask checked some is =
    one-evidence net signals prefix body some ask checked is
