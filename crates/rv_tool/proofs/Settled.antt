-- The rules are settled.
use Rattle.std.proofs.Common.{◌≡◌, ℕ, zero, suc, true, List, [], ◌∷◌, sym, ap, subst, ◌∙◌}
use Rattle.hy_formula.specs.Formulas.{Plain}
use Rattle.hy_text.specs.Lines.{lines_of}
use Rattle.hy_finite.specs.declared.event.Placed.{Placed}
use Rattle.hy_finite.proofs.OneAnswer.{one-events}
use Rattle.hy_files.specs.Faults.{line_fault}
use Rattle.hy_files.specs.declared.fault.FileFault.{FileFault}
use Rattle.hy_files.proofs.Texts.{refused_once, text_not_refused, text_once}
use Rattle.hy_run.specs.Laws.{AgreeOrShort, AreSettled}
use Rattle.hy_run.specs.Names.{Text}
use Rattle.rv_tool.specs.Agreeing.{same as says_same}
use Rattle.rv_tool.specs.Monitoring.{RvAnswer, IsOutcome}
use Rattle.rv_tool.specs.Rules.{AreEvents, ComesTo, IsRefusedBy, IsTextOf, lengths_of, rv_rules}
use Rattle.rv_tool.specs.Texts.{drops}
use Rattle.rv_tool.specs.declared.verdict.Question.{Question}
use Rattle.rv_tool.specs.declared.verdict.Question.TheVariants.{Monitor, MonitorMade}
use Rattle.rv_tool.proofs.Asking.{asks_once}
use Rattle.rv_tool.proofs.EventFiles.{good-not_refused, one-refusal}
use Rattle.rv_tool.proofs.Outcomes.{outcomes-agree}

names_once : (k : ℕ) (old : List Text) (bytes : List ℕ) (new later : List Text) → IsTextOf k old bytes new → IsTextOf k old bytes later → new ≡ later
names_once zero old bytes new later (formulas, one) (others, two) = (text_once true 4 old bytes formulas others new later one two).1
names_once (suc k) old bytes new later (good, e) (also, f) = e ∙ sym f

fault_once : (k : ℕ) (old : List Text) (bytes : List ℕ) (a b : FileFault) → IsRefusedBy k old bytes a → IsRefusedBy k old bytes b → a ≡ b
fault_once zero old bytes a b one two = refused_once true 4 old bytes a b one two
fault_once (suc k) old bytes a b (line, one, e) (other, two, f) = e ∙ ap line_fault (one-refusal bytes line other one two) ∙ sym f

text_apart : (k : ℕ) (old : List Text) (bytes : List ℕ) (new : List Text) (fault : FileFault) → IsTextOf k old bytes new → ¬ IsRefusedBy k old bytes fault
text_apart zero old bytes new fault (formulas, is) refused = text_not_refused true 4 old bytes formulas new fault is refused
text_apart (suc k) old bytes new fault (good, e) (line, refused, f) = good-not_refused bytes line good refused

-- There is one list of events.
events_once : (question : Question) (contents : List (List ℕ)) (names : List Text) (events others : List Placed) → AreEvents question contents names events
    → AreEvents question contents names others → events ≡ others
events_once (Monitor lengths drop) [] names events others one two = absurd one
events_once (Monitor lengths drop) (traces ∷ []) names events others one two = one-events names 1 (lines_of traces) events others one two
events_once (Monitor lengths drop) (traces ∷ x ∷ contents) names events others one two = absurd one
events_once (MonitorMade count lengths drop) [] names events others one two = one ∙ sym two
events_once (MonitorMade count lengths drop) (x ∷ contents) names events others one two = absurd one

comes_once : (question : Question) (contents : List (List ℕ)) (names : List Text) (a b : RvAnswer) → ComesTo question contents names a
    → ComesTo question contents names b → AgreeOrShort rv_rules a b
comes_once question [] names a b one two = absurd one
comes_once question (specs ∷ contents) names a b (formulas, text, one) (others, also, two) =
    let alike = (text_once true 4 [] specs formulas others names names text also).0 in
    let P : List Plain → Type 0 = λ fs. IsOutcome (lengths_of question) (drops question) fs (AreEvents question contents names) a in
    outcomes-agree (lengths_of question) (drops question) others (AreEvents question contents names) a b (events_once question contents names)
    (subst P alike one) two

pub rv_settled : AreSettled rv_rules
rv_settled = record {
  command = asks_once;
  text = λ question. names_once;
  fault = λ question. fault_once;
  apart = λ question. text_apart;
  answer = comes_once;
  same = says_same;
}
