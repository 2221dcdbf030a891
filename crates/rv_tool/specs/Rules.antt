-- The rules of `rvhyper`: what its words ask, what its files are to be, what a question comes to, and how that is printed.
use Rattle.std.specs.Prelude.{◌≡◌, ℕ, zero, suc, List, [], ◌∷◌}
use Rattle.hy_formula.specs.Formulas.{Plain}
use Rattle.hy_formula.specs.Quantifiers.{Each}
use Rattle.hy_text.specs.Lines.{lines_of}
use Rattle.hy_text.specs.declared.line_error.LineError.{LineError}
use Rattle.hy_finite.specs.EventAnswers.{IsRefusal}
use Rattle.hy_finite.specs.EventFiles.{IsEventFile}
use Rattle.hy_finite.specs.EventLines.{IsGood}
use Rattle.hy_finite.specs.declared.event.Placed.{Placed}
use Rattle.hy_finite.specs.declared.lengths.Lengths.{Lengths}
use Rattle.made_traces.specs.MadeTraces.{made_traces}
use Rattle.hy_files.specs.Contents.{AreNoSpecs, AreSpecs}
use Rattle.hy_files.specs.Faults.{line_fault}
use Rattle.hy_files.specs.declared.fault.FileFault.{FileFault}
use Rattle.hy_run.specs.Names.{Text}
use Rattle.hy_run.specs.Rules.{Rules}
use Rattle.rv_tool.specs.Agreeing.{Agree}
use Rattle.rv_tool.specs.Monitoring.{RvAnswer, IsOutcome, whole_traces}
use Rattle.rv_tool.specs.Texts.{drops, text_of, status_of, own_line, own_status}
use Rattle.rv_tool.specs.Words.{asks}
use Rattle.rv_tool.specs.declared.verdict.Question.{Question}
use Rattle.rv_tool.specs.declared.verdict.Question.TheVariants.{Monitor, MonitorMade}
use Rattle.rv_tool.specs.declared.verdict.RvFault.{RvFault}
use Rattle.rv_tool.specs.declared.verdict.RvVerdict.{RvVerdict}

-- ---- files

-- The first file has formulas of at most four quantifiers, and a line of the second says nothing or an event.
abbrev pub IsTextOf : ℕ → List Text → List ℕ → List Text → Type 0
IsTextOf zero old bytes new = (formulas : List Plain) × AreSpecs 4 old bytes formulas new
IsTextOf (suc k) old bytes new = Each IsGood (lines_of bytes) × (new ≡ old)

abbrev pub IsRefusedBy : ℕ → List Text → List ℕ → FileFault → Type 0
IsRefusedBy zero old bytes fault = AreNoSpecs 4 old bytes fault
IsRefusedBy (suc k) old bytes fault = (line : LineError) × IsRefusal bytes line × (fault ≡ line_fault line)

-- ---- questions

-- the rule of lengths
abbrev pub lengths_of : Question → Lengths
lengths_of (Monitor lengths drop) = lengths
lengths_of (MonitorMade count lengths drop) = lengths

-- The events are these, by the files behind the first and the names of its formulas: those of the second file, or made
-- traces.
abbrev pub AreEvents : Question → List (List ℕ) → List Text → List Placed → Type 0
AreEvents (Monitor lengths drop) (traces ∷ []) names events = IsEventFile names traces events
AreEvents (MonitorMade count lengths drop) [] names events = events ≡ whole_traces 0 (made_traces names count)
AreEvents _ _ names events = ⊥

-- The first file has formulas, and on the events these come to this.
abbrev pub ComesTo : Question → List (List ℕ) → List Text → RvAnswer → Type 0
ComesTo question [] names answer = ⊥
ComesTo question (specs ∷ others) names answer =
    (formulas : List Plain) × AreSpecs 4 [] specs formulas names
    × IsOutcome (lengths_of question) (drops question) formulas (AreEvents question others names) answer

-- ---- all together

abbrev pub rv_rules : Rules Question RvVerdict RvFault
rv_rules = record {
  asks = asks;
  is_text = λ question. IsTextOf;
  is_refused = λ question. IsRefusedBy;
  comes = ComesTo;
  text = λ question names. text_of question;
  status = status_of;
  own_line = own_line;
  own_status = own_status;
  agrees = Agree;
}
