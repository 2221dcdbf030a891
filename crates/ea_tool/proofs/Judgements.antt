-- What a judgement of lassos comes to is the answer of the run.
use Rattle.std.proofs.Common.{◌≡◌, ◌⊎◌, ℕ, List, [], ◌∷◌, Err, inl, inr, refl, sym, subst, ◌∙◌}
use Rattle.hy_base.specs.declared.limit.Limit.{Limit as Past}
use Rattle.hy_base.specs.declared.shelf.Shelf.{Ghosts}
use Rattle.hy_bits.specs.Letter.{Letter}
use Rattle.hy_formula.specs.Formulas.{Plain}
use Rattle.hy_formula.specs.Lassos.{Lasso}
use Rattle.hy_formula.specs.Trees.{Tree}
use Rattle.hy_formula.specs.declared.prefix.Quant.{Quant}
use Rattle.hy_lasso.specs.declared.error.HoldsError.{HoldsError}
use Rattle.hy_lasso.specs.declared.error.HoldsError.TheVariants.{Memory as OfMemory, Limit as OfLimit}
use Rattle.hy_lasso.specs.Joint.{IsJudged}
use Rattle.hy_lasso.specs.Limits.{joint_limit}
use Rattle.hy_files.specs.Contents.{IsFormula}
use Rattle.hy_files.specs.Steps.{Takes, Fails}
use Rattle.hy_files.specs.declared.fault.FileFault.{FileFault}
use Rattle.hy_run.specs.Refusals.{file_refusal}
use Rattle.hy_run.specs.Runs.{Answer, Follows}
use Rattle.hy_run.specs.declared.refusal.Refusal.TheVariants.{Limit}
use Rattle.hy_run.proofs.Steps.{finish, pass, stop}
use Rattle.ea_tool.specs.Judging.{IsJudgement, too_joint}
use Rattle.ea_tool.specs.Lassos.{AreLassos, AreNoLassos}
use Rattle.ea_tool.specs.Rules.{ea_rules}
use Rattle.ea_tool.specs.declared.verdict.EaFault.{EaFault}
use Rattle.ea_tool.specs.declared.verdict.EaVerdict.{EaVerdict}
use Rattle.ea_tool.specs.declared.verdict.Question.TheVariants.{Judge}
use Rattle.ea_tool.proofs.Reading.{past_first}

module _ {S : Type 0} (g : Ghosts S) (old mid new : S) (formula file : List ℕ) (f : Plain) (names : List (List ℕ))
    (first : Takes g old mid formula (λ bytes. IsFormula 8 [] bytes f names)) where
  -- The run ends at the file of lassos.
  pub ends_at_lassos : (any : List (List ℕ)) (fault : FileFault) → Fails g mid new file (AreNoLassos names) fault
      → Follows ea_rules g old new Judge (formula ∷ file ∷ []) any (Err (file_refusal 1 fault))
  ends_at_lassos any fault fails =
      stop ea_rules Judge (formula ∷ file ∷ []) g old mid file [] (first.bytes ∷ []) names
      (past_first Judge formula (file ∷ []) g old mid f names first) new any (AreNoLassos names) (λ bytes f is. is) fault fails

  -- The run follows the judgement.
  pub judgement_follows : (list : List (Lasso Letter)) → Takes g mid new file (λ bytes. AreLassos names bytes list)
      → (answer : Answer EaVerdict EaFault) → IsJudgement f.prefix f.body list answer
      → Follows ea_rules g old new Judge (formula ∷ file ∷ []) names answer
  judgement_follows list second answer is =
      finish ea_rules Judge (formula ∷ file ∷ []) g old new (first.bytes ∷ second.bytes ∷ []) names answer
      (pass ea_rules Judge (formula ∷ file ∷ []) g old mid file [] (first.bytes ∷ []) names
      (past_first Judge formula (file ∷ []) g old mid f names first) new names (λ bytes. AreLassos names bytes list) second
      ((list, second.is), refl))
      (f, list, first.is, second.is, is)

-- An error of a judgement is what it says.
pub error-judged : (prefix : List Quant) (body : Tree) (list : List (Lasso Letter)) (e : HoldsError) (l : Past) → e ≡ OfLimit l
    → (e ≡ OfLimit joint_limit → ¬ IsJudged list) → (e ≡ OfLimit joint_limit) ⊎ (e ≡ OfMemory)
    → IsJudgement prefix body list (Err (Limit l.kind l.limit))
error-judged prefix body list e l is long (inl f) =
    let same : OfLimit joint_limit ≡ OfLimit l = sym f ∙ is in
    let limits : joint_limit ≡ l = cc in
    let P : Past → Type 0 = λ m. IsJudgement prefix body list (Err (Limit m.kind m.limit)) in
    subst P limits (too_joint (long f))
error-judged prefix body list e l is long (inr f) = let same : OfMemory ≡ OfLimit l = sym f ∙ is in cc
