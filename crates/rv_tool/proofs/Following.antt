-- How a run goes through its files to what its question comes to.
use Rattle.std.proofs.Common.{◌≡◌, ℕ, zero, suc, Bool, List, [], ◌∷◌, length, Ok, Err, inl, inr, refl, sym, subst, arith, length-append}
use Rattle.hy_base.specs.Shelf.{ReadsFile}
use Rattle.hy_base.specs.declared.reading.FileError.{FileError}
use Rattle.hy_base.specs.declared.shelf.Shelf.{Ghosts}
use Rattle.hy_formula.specs.Formulas.{Plain}
use Rattle.hy_formula.specs.Quantifiers.{Each}
use Rattle.hy_text.specs.Lines.{lines_of}
use Rattle.hy_finite.specs.EventLines.{IsGood}
use Rattle.hy_finite.specs.declared.lengths.Lengths.{Lengths}
use Rattle.made_traces.specs.MadeTraces.{made_trace, made_traces}
use Rattle.hy_files.specs.Contents.{AreNoSpecs, AreSpecs}
use Rattle.hy_files.specs.Faults.{line_fault, read_fault}
use Rattle.hy_files.specs.Steps.{Fails, Takes, refused, unread}
use Rattle.hy_files.specs.declared.fault.FileFault.{FileFault}
use Rattle.hy_run.specs.Names.{Text}
use Rattle.hy_run.specs.Refusals.{file_refusal}
use Rattle.hy_run.specs.Runs.{Follows}
use Rattle.hy_run.proofs.Steps.{Onward, begin, finish, pass, stop}
use Rattle.rv_tool.specs.Monitoring.{RvAnswer, IsOutcome, whole_traces}
use Rattle.rv_tool.specs.Rules.{AreEvents, IsRefusedBy, lengths_of, rv_rules}
use Rattle.rv_tool.specs.Texts.{drops}
use Rattle.rv_tool.specs.Watching.{IsLinesAnswer}
use Rattle.rv_tool.specs.declared.verdict.Question.{Question}
use Rattle.rv_tool.specs.declared.verdict.Question.TheVariants.{Monitor, MonitorMade}

module _ (question : Question) (specs : Text) (others : List Text) {S : Type 0} (g : Ghosts S) (old : S) where
  abbrev files : List Text
  files = specs ∷ others

  -- The run ends at the formulas.
  pub ends_at_formulas : (new : S) (any : List Text) (fault : FileFault) → Fails g old new specs (AreNoSpecs 4 []) fault
      → Follows rv_rules g old new question files any (Err (file_refusal 0 fault))
  ends_at_formulas new any fault fails =
      stop rv_rules question files g old old specs others [] [] (begin rv_rules question files g old) new any (AreNoSpecs 4 [])
      (λ bytes fault r. r) fault fails

  module _ (mid : S) (formulas : List Plain) (names : List Text)
      (first : Takes g old mid specs (λ bytes. AreSpecs 4 [] bytes formulas names)) where
    behind : Onward rv_rules question files g old mid others (first.bytes ∷ []) names
    behind =
        pass rv_rules question files g old old specs others [] [] (begin rv_rules question files g old) mid names
        (λ bytes. AreSpecs 4 [] bytes formulas names) first (formulas, first.is)

    -- All files were read, and the run follows what the formulas come to.
    outcome_follows : (new : S) (contents : List (List ℕ)) (a : RvAnswer) → Onward rv_rules question files g old new [] (first.bytes ∷ contents) names
        → IsOutcome (lengths_of question) (drops question) formulas (AreEvents question contents names) a
        → Follows rv_rules g old new question files names a
    outcome_follows new contents a on outcome =
        finish rv_rules question files g old new (first.bytes ∷ contents) names a on (formulas, first.is, outcome)

-- ---- the events of a file

module _ (specs traces : Text) (lengths : Lengths) (drop : Bool) {S : Type 0} (g : Ghosts S) (old mid new : S) (formulas : List Plain) (names : List Text)
    (first : Takes g old mid specs (λ bytes. AreSpecs 4 [] bytes formulas names)) where
  abbrev asked : Question
  asked = Monitor lengths drop

  abbrev both : List Text
  both = specs ∷ traces ∷ []

  abbrev read_first : Onward rv_rules asked both g old mid (traces ∷ []) (first.bytes ∷ []) names
  read_first = behind asked specs (traces ∷ []) g old mid formulas names first

  -- The run ends at the file of events.
  ends_at_events : (any : List Text) (fault : FileFault) → Fails g mid new traces (IsRefusedBy 1 names) fault
      → Follows rv_rules g old new asked both any (Err (file_refusal 1 fault))
  ends_at_events any fault fails =
      stop rv_rules asked both g old mid traces [] (first.bytes ∷ []) names read_first new any (IsRefusedBy 1 names)
      (λ bytes fault r. r) fault fails

  -- The file of events was not read.
  pub unread_follows : (any : List Text) (fault : FileFault) (error : FileError) → ReadsFile g mid new traces (Err error) → fault ≡ read_fault error
      → Follows rv_rules g old new asked both any (Err (file_refusal 1 fault))
  unread_follows any fault error came said =
      let P : FileFault → Type 0 = λ f. Follows rv_rules g old new asked both any (Err (file_refusal 1 f)) in
      subst P (sym said) (ends_at_events any (read_fault error) (unread error came))

  -- The run follows what comes of the lines.
  pub lines_follow : (bytes : List ℕ) → ReadsFile g mid new traces (Ok bytes) → (a : RvAnswer)
      → IsLinesAnswer lengths drop formulas names bytes a → Follows rv_rules g old new asked both names a
  lines_follow bytes came a (inl (good, outcome)) =
      outcome_follows asked specs (traces ∷ []) g old mid formulas names first new (bytes ∷ []) a
      (pass rv_rules asked both g old mid traces [] (first.bytes ∷ []) names read_first new names (λ bs. Each IsGood (lines_of bs))
      (record { bytes = bytes; read = came; is = good }) (good, refl)) outcome
  lines_follow bytes came a (inr (fault, refusal, e)) =
      let P : RvAnswer → Type 0 = λ b. Follows rv_rules g old new asked both names b in
      subst P (sym e) (ends_at_events names (line_fault fault) (refused bytes (line_fault fault) came (fault, refusal, refl)))

-- ---- made traces

-- The run follows what comes of made traces.
pub made_follow : (specs : Text) (count : ℕ) (lengths : Lengths) (drop : Bool) {S : Type 0} (g : Ghosts S) (old new : S) (formulas : List Plain) (names : List Text)
    → Takes g old new specs (λ bytes. AreSpecs 4 [] bytes formulas names) → (a : RvAnswer)
    → IsOutcome lengths drop formulas (λ es. es ≡ whole_traces 0 (made_traces names count)) a
    → Follows rv_rules g old new (MonitorMade count lengths drop) (specs ∷ []) names a
made_follow specs count lengths drop g old new formulas names first a outcome =
    let question = MonitorMade count lengths drop in
    outcome_follows question specs [] g old new formulas names first new [] a (behind question specs [] g old new formulas names first) outcome

-- There are as many made traces as were asked for.
pub length-made : (known : List (List ℕ)) (n : ℕ) → length (made_traces known n) ≡ n
length-made known zero = refl
length-made known (suc n) = omega (arith, length-append (made_traces known n) (made_trace known n ∷ []), length-made known n)
