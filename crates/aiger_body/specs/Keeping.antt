-- What is kept of the counted lines.
use Rattle.std.specs.Prelude.{ℕ, ◌+◌, ◌<◌, ◌^◌, List, [], ◌∷◌, ◌++◌, slice_index}
use Rattle.aiger_body.specs.declared.section.Section.{Section}
use Rattle.aiger_body.specs.declared.section.Section.TheVariants.{Inputs, Latches, Outputs, Bads, Constraints, Sizes, Justices, Fairs, Gates}
use Rattle.aiger_body.specs.declared.content.Content.{Content}
use Rattle.aiger_body.specs.Files.{first_number, latch_of, gate_of}

-- numbers below 2 to the power of 32
abbrev pub AreWords : List ℕ → Type 0
AreWords row = (k : ℕ) → slice_index row k < 2 ^ 32

-- The line of a section has such numbers, but for a justice size.
abbrev pub HasWords : Section → List ℕ → Type 0
HasWords Sizes row = slice_index row 0 < 10 ^ 10
HasWords _ row = AreWords row

abbrev pub empty : Content
empty = record { inputs = []; latches = []; outputs = []; constraints = []; justice = 0; fairs = []; gates = [] }

-- with the line of the section
abbrev pub keep : Section → List ℕ → Content → Content
keep Inputs row c = record c { inputs = c.inputs ++ first_number row ∷ [] }
keep Latches row c = record c { latches = c.latches ++ latch_of row ∷ [] }
keep Outputs row c = record c { outputs = c.outputs ++ first_number row ∷ [] }
keep Bads row c = c
keep Constraints row c = record c { constraints = c.constraints ++ first_number row ∷ [] }
keep Sizes row c = record c { justice = c.justice + first_number row }
keep Justices row c = c
keep Fairs row c = record c { fairs = c.fairs ++ first_number row ∷ [] }
keep Gates row c = record c { gates = c.gates ++ gate_of row ∷ [] }

abbrev pub keep_all : Section → List (List ℕ) → Content → Content
keep_all s [] c = c
keep_all s (row ∷ rows) c = keep_all s rows (keep s row c)
