-- How a run of a command goes through its files.
use Rattle.std.proofs.Common.{◌≡◌, Bool, List, [], ◌∷◌, Err, refl, sym, subst}
use Rattle.hy_base.specs.declared.shelf.Shelf.{Ghosts}
use Rattle.hy_formula.specs.Formulas.{Plain}
use Rattle.aig_net.specs.Nets.{Net}
use Rattle.mc_core.specs.declared.ask.Ask.{Ask}
use Rattle.hy_files.specs.Contents.{IsFormula, IsNoFormula}
use Rattle.hy_files.specs.Steps.{Fails, Takes}
use Rattle.hy_files.specs.declared.fault.FileFault.{FileFault}
use Rattle.circuit_files.specs.Circuits.{IsCircuit, IsNoCircuit}
use Rattle.hy_run.specs.Names.{Text}
use Rattle.hy_run.specs.Refusals.{file_refusal}
use Rattle.hy_run.specs.Runs.{Follows}
use Rattle.hy_run.proofs.Steps.{Onward, begin, finish, pass, stop}
use Rattle.mc_tool.specs.Checking.{IsCheck}
use Rattle.mc_tool.specs.Driving.{IsDrive}
use Rattle.mc_tool.specs.Rules.{mc_rules}
use Rattle.mc_tool.specs.declared.verdict.Question.{Question}
use Rattle.mc_tool.specs.declared.verdict.Question.TheVariants.{Check, CheckByStrategy}
use Rattle.mc_tool.proofs.Checking.{Said}

module _ {S : Type 0} (g : Ghosts S) (old : S) (question : Question) (one two : Text) (rest : List Text) where
  -- The run ends at the circuit.
  pub ends_at_circuit : (files : List Text) → files ≡ one ∷ two ∷ rest → (new : S) (any : List Text) (fault : FileFault)
      → Fails g old new one IsNoCircuit fault → Follows mc_rules g old new question files any (Err (file_refusal 0 fault))
  ends_at_circuit files are new any fault fails =
      let ends = stop mc_rules question (one ∷ two ∷ rest) g old old one (two ∷ rest) [] [] (begin mc_rules question (one ∷ two ∷ rest) g old) new any
      IsNoCircuit (λ bytes fault is. is) fault fails in
      subst (λ fs. Follows mc_rules g old new question fs any (Err (file_refusal 0 fault))) (sym are) ends

  module _ (mid : S) (net : Net) (first : Takes g old mid one (λ bytes. IsCircuit bytes net)) where
    behind_circuit : Onward mc_rules question (one ∷ two ∷ rest) g old mid (two ∷ rest) (first.bytes ∷ []) []
    behind_circuit =
        pass mc_rules question (one ∷ two ∷ rest) g old old one (two ∷ rest) [] [] (begin mc_rules question (one ∷ two ∷ rest) g old) mid []
        (λ bytes. IsCircuit bytes net) first (net, first.is, refl)

    -- It ends at the formula.
    pub ends_at_formula : (files : List Text) → files ≡ one ∷ two ∷ rest → (new : S) (any : List Text) (fault : FileFault)
        → Fails g mid new two (IsNoFormula 4 []) fault → Follows mc_rules g old new question files any (Err (file_refusal 1 fault))
    ends_at_formula files are new any fault fails =
        let ends = stop mc_rules question (one ∷ two ∷ rest) g old mid two rest (first.bytes ∷ []) [] behind_circuit new any (IsNoFormula 4 [])
        (λ bytes fault is. is) fault fails in
        subst (λ fs. Follows mc_rules g old new question fs any (Err (file_refusal 1 fault))) (sym are) ends

    module _ (late : S) (f : Plain) (names : List Text) (second : Takes g mid late two (λ bytes. IsFormula 4 [] bytes f names)) where
      pub behind_formula : Onward mc_rules question (one ∷ two ∷ rest) g old late rest (first.bytes ∷ second.bytes ∷ []) names
      behind_formula =
          pass mc_rules question (one ∷ two ∷ rest) g old mid two rest (first.bytes ∷ []) [] behind_circuit late names
          (λ bytes. IsFormula 4 [] bytes f names) second (f, second.is)

module _ {S : Type 0} (g : Ghosts S) (old mid late : S) (one two : Text) (net : Net) (first : Takes g old mid one (λ bytes. IsCircuit bytes net))
    (f : Plain) (names : List Text) (second : Takes g mid late two (λ bytes. IsFormula 4 [] bytes f names)) (ask : Ask) where
  -- The run follows the check.
  pub check_follows : (proof : Bool) (files : List Text) → files ≡ one ∷ two ∷ [] → (answer : Said) → IsCheck net names f ask answer
      → Follows mc_rules g old late (Check ask proof) files names answer
  check_follows proof files are answer is =
      let comes = finish mc_rules (Check ask proof) (one ∷ two ∷ []) g old late (first.bytes ∷ second.bytes ∷ []) names answer
      (behind_formula g old (Check ask proof) one two [] mid net first late f names second) (net, f, first.is, second.is, is) in
      subst (λ fs. Follows mc_rules g old late (Check ask proof) fs names answer) (sym are) comes

  module _ (new : S) (three : Text) (files : List Text) (are : files ≡ one ∷ two ∷ three ∷ []) where
    -- It ends at the strategy.
    pub ends_at_strategy : (any : List Text) (fault : FileFault) → Fails g late new three IsNoCircuit fault
        → Follows mc_rules g old new (CheckByStrategy ask) files any (Err (file_refusal 2 fault))
    ends_at_strategy any fault fails =
        let ends = stop mc_rules (CheckByStrategy ask) (one ∷ two ∷ three ∷ []) g old late three [] (first.bytes ∷ second.bytes ∷ []) names
        (behind_formula g old (CheckByStrategy ask) one two (three ∷ []) mid net first late f names second) new any IsNoCircuit
        (λ bytes fault is. is) fault fails in
        subst (λ fs. Follows mc_rules g old new (CheckByStrategy ask) fs any (Err (file_refusal 2 fault))) (sym are) ends

    -- The run follows the check by the strategy.
    pub drive_follows : (player : Net) (third : Takes g late new three (λ bytes. IsCircuit bytes player)) (answer : Said)
        → IsDrive net player names f ask answer → Follows mc_rules g old new (CheckByStrategy ask) files names answer
    drive_follows player third answer is =
        let comes = finish mc_rules (CheckByStrategy ask) (one ∷ two ∷ three ∷ []) g old new (first.bytes ∷ second.bytes ∷ third.bytes ∷ []) names answer
        (pass mc_rules (CheckByStrategy ask) (one ∷ two ∷ three ∷ []) g old late three [] (first.bytes ∷ second.bytes ∷ []) names
        (behind_formula g old (CheckByStrategy ask) one two (three ∷ []) mid net first late f names second) new names
        (λ bytes. IsCircuit bytes player) third (player, third.is, refl))
        (net, player, f, first.is, second.is, third.is, is) in
        subst (λ fs. Follows mc_rules g old new (CheckByStrategy ask) fs names answer) (sym are) comes
