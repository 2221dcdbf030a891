-- What the passes over the lines keep.
use Rattle.std.specs.Prelude.{◌≡◌, ℕ, suc, ◌+◌, ◌*◌, ◌≤◌, Bool, true, false, List, map, length, slice_index_or, slice_set, Option, Some, None, Result, Ok, Err}
use Rattle.std.specs.List.{range_with_len}
use Rattle.aiger_body.specs.declared.error.AigerError.{AigerError}
use Rattle.aiger_body.specs.declared.header.Header.{Header}
use Rattle.aiger_body.specs.declared.section.Section.{Section}
use Rattle.aiger_body.specs.declared.section.Section.TheVariants.{Inputs, Latches, Outputs, Constraints, Fairs, Gates}
use Rattle.aiger_body.specs.declared.content.Content.{Content}
use Rattle.aiger_body.specs.declared.lines.Lines.{Lines}
use Rattle.aiger_body.specs.Texts.{is_ended, is_feed}
use Rattle.aig_order.specs.Firsts.{first_some}
use Rattle.aiger_body.specs.Files.{line, line_start, section, row, is_right, defined_before, counted, section_rows, literals, first_number, latch_of, gate_of}
use Rattle.aiger_body.specs.Outcomes.{of_line}
use Rattle.aiger_body.specs.Answers.{Tells}
use Rattle.aiger_body.specs.Keeping.{keep, keep_all}

-- Counted line k begins at this byte; each line before it has a byte.
pub record IsStart (bytes : List ℕ) (k at : ℕ) : Type 0 where
  pub place : at ≡ line_start bytes k
  pub within : at ≤ length bytes
  pub early : k ≤ at

-- what the line says is what it is to say
pub record IsRow (h : Header) (bytes : List ℕ) (k next : ℕ) (said : List ℕ) : Type 0 where
  pub same : said ≡ row h bytes k
  pub ended : is_ended is_feed (line bytes k) ≡ true
  pub right : is_right h (section h bytes k) (row h bytes k) ≡ true
  pub start : IsStart bytes (suc k) next

abbrev pub IsRowAnswer : Header → List ℕ → ℕ → ℕ → Result ℕ AigerError → List ℕ → Type 0
IsRowAnswer h bytes k at (Ok next) said = IsRow h bytes k next said
IsRowAnswer h bytes k at (Err e) said = Tells (of_line h bytes k) e

-- Each variable up to the greatest is marked exactly where a line before line k defines it.
pub record AreMarks (h : Header) (bytes : List ℕ) (k : ℕ) (marks : List Bool) : Type 0 where
  pub long : length marks ≡ h.top + 1
  pub each : (v : ℕ) → v ≤ h.top → slice_index_or marks v false ≡ defined_before h bytes k v

-- the k lines that have been read
pub record AreLines (h : Header) (bytes : List ℕ) (k : ℕ) (lines : Lines) : Type 0 where
  pub count : lines.line ≡ k
  pub start : IsStart bytes k lines.at
  pub clear : first_some k (of_line h bytes) ≡ None
  pub marks : h.binary ≡ false → AreMarks h bytes k lines.marks
  pub small : lines.content.justice ≤ 10000000000 * k

abbrev pub IsLineAnswer : Header → List ℕ → Section → Lines → Lines → Result (Unit {0}) AigerError → Type 0
IsLineAnswer h bytes s old new (Ok _) = AreLines h bytes (suc old.line) new × (new.content ≡ keep s (row h bytes old.line) old.content)
IsLineAnswer h bytes s old new (Err e) = Tells (of_line h bytes old.line) e

-- the rows of lines that follow one another
abbrev pub rows_from : Header → List ℕ → ℕ → ℕ → List (List ℕ)
rows_from h bytes k count = map (row h bytes) (range_with_len k count)

abbrev pub IsSectionAnswer : Header → List ℕ → Section → ℕ → Lines → Lines → Result (Unit {0}) AigerError → Type 0
IsSectionAnswer h bytes s count old new (Ok _) =
    AreLines h bytes (old.line + count) new × (new.content ≡ keep_all s (rows_from h bytes old.line count) old.content)
IsSectionAnswer h bytes s count old new (Err e) = Tells (first_some (old.line + count) (of_line h bytes)) e

-- what the counted lines say
abbrev pub line_content : Header → List ℕ → Content
line_content h bytes = record {
  inputs = map first_number (section_rows h bytes Inputs);
  latches = map latch_of (section_rows h bytes Latches);
  outputs = map first_number (section_rows h bytes Outputs);
  constraints = map first_number (section_rows h bytes Constraints);
  justice = literals h bytes;
  fairs = map first_number (section_rows h bytes Fairs);
  gates = map gate_of (section_rows h bytes Gates);
}

-- all counted lines
pub record AllRead (h : Header) (bytes : List ℕ) (lines : Lines) : Type 0 where
  pub start : IsStart bytes (counted h bytes) lines.at
  pub clear : first_some (counted h bytes) (of_line h bytes) ≡ None
  pub marks : h.binary ≡ false → AreMarks h bytes (counted h bytes) lines.marks
  pub content : lines.content ≡ line_content h bytes
  pub few : literals h bytes ≤ 10000000000 * 67108864

abbrev pub IsSectionsAnswer : Header → List ℕ → Lines → Result (Unit {0}) AigerError → Type 0
IsSectionsAnswer h bytes lines (Ok _) = AllRead h bytes lines
IsSectionsAnswer h bytes lines (Err e) = Tells (first_some (counted h bytes) (of_line h bytes)) e

abbrev pub IsLinesAnswer : Header → List ℕ → Result Lines AigerError → Type 0
IsLinesAnswer h bytes (Ok lines) = AllRead h bytes lines
IsLinesAnswer h bytes (Err e) = Tells (first_some (counted h bytes) (of_line h bytes)) e

-- The variable that a line defines is marked now, or it was before.
abbrev pub IsMarkAnswer : Option ℕ → List Bool → List Bool → Bool → Type 0
IsMarkAnswer None old new fresh = (new ≡ old) × (fresh ≡ true)
IsMarkAnswer (Some v) old new true = (new ≡ slice_set old v true) × (slice_index_or old v false ≡ false)
IsMarkAnswer (Some v) old new false = (new ≡ old) × (slice_index_or old v false ≡ true)
