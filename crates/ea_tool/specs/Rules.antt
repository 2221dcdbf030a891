-- The rules of `eahyper`: what its words ask, what its files are to be, what a question comes to, and how that is printed.
use Rattle.std.specs.Prelude.{◌≡◌, ℕ, zero, suc, Bool, true, false, List, [], ◌∷◌}
use Rattle.hy_bits.specs.Letter.{Letter}
use Rattle.hy_formula.specs.Formulas.{Plain}
use Rattle.hy_formula.specs.Lassos.{Lasso}
use Rattle.hy_files.specs.Contents.{IsFormula, IsNoFormula}
use Rattle.hy_files.specs.declared.fault.FileFault.{FileFault}
use Rattle.hy_run.specs.Names.{Text}
use Rattle.hy_run.specs.Rules.{Rules}
use Rattle.hy_run.specs.Runs.{Answer}
use Rattle.ea_tool.specs.Agreeing.{Agree}
use Rattle.ea_tool.specs.Deciding.{IsDecision, IsRelated}
use Rattle.ea_tool.specs.Finding.{IsSearch}
use Rattle.ea_tool.specs.Judging.{IsJudgement}
use Rattle.ea_tool.specs.Lassos.{AreLassos, AreNoLassos}
use Rattle.ea_tool.specs.Texts.{text_of, status_of, fault_line, fault_status}
use Rattle.ea_tool.specs.Words.{AsksFor}
use Rattle.ea_tool.specs.declared.verdict.EaFault.{EaFault}
use Rattle.ea_tool.specs.declared.verdict.EaVerdict.{EaVerdict}
use Rattle.ea_tool.specs.declared.verdict.Question.{Question}
use Rattle.ea_tool.specs.declared.verdict.Question.TheVariants.{Judge, Decide, Relate, Find}

-- whether file k of a question is one of lassos; all others are formulas
abbrev pub has_lassos : Question → ℕ → Bool
has_lassos question zero = false
has_lassos Judge (suc k) = true
has_lassos _ (suc k) = false

-- The bytes are lassos, or else a formula of at most eight quantifiers.
abbrev pub IsTextIn : Bool → List Text → List ℕ → List Text → Type 0
IsTextIn true old bytes new = ((list : List (Lasso Letter)) × AreLassos old bytes list) × (new ≡ old)
IsTextIn false old bytes new = (f : Plain) × IsFormula 8 old bytes f new

abbrev pub IsRefusedIn : Bool → List Text → List ℕ → FileFault → Type 0
IsRefusedIn true old bytes fault = AreNoLassos old bytes fault
IsRefusedIn false old bytes fault = IsNoFormula 8 old bytes fault

-- What the question comes to where its files have these bytes and names.
abbrev pub ComesTo : Question → List (List ℕ) → List Text → Answer EaVerdict EaFault → Type 0
ComesTo Judge (one ∷ two ∷ []) names answer =
    (f : Plain) × (list : List (Lasso Letter)) × IsFormula 8 [] one f names × AreLassos names two list
    × IsJudgement f.prefix f.body list answer
ComesTo (Decide engine proof) (one ∷ []) names answer =
    (f : Plain) × IsFormula 8 [] one f names × IsDecision f engine answer
ComesTo (Relate relation engine proof) (one ∷ two ∷ []) names answer =
    (f : Plain) × (g : Plain) × (known : List Text) × IsFormula 8 [] one f known × IsFormula 8 known two g names
    × IsRelated relation f g engine answer
ComesTo (Find bound conflicts) (one ∷ []) names answer =
    (f : Plain) × IsFormula 8 [] one f names × IsSearch bound conflicts f answer
ComesTo _ _ names answer = ⊥

abbrev pub ea_rules : Rules Question EaVerdict EaFault
ea_rules = record {
  asks = AsksFor;
  is_text = λ question k old bytes new. IsTextIn (has_lassos question k) old bytes new;
  is_refused = λ question k old bytes fault. IsRefusedIn (has_lassos question k) old bytes fault;
  comes = ComesTo;
  text = text_of;
  status = status_of;
  own_line = λ files fault. fault_line fault;
  own_status = fault_status;
  agrees = Agree;
}
