-- What the calls of a shelf keep, and what comes of reading its files.
use Rattle.std.specs.Prelude.{◌≡◌, ℕ, ◌<◌, ◌≤◌, List, [], ◌∷◌, ◌++◌, length, Option, Some, None, Result, Ok, Err}
use Rattle.hy_base.specs.Counts.{Rose}
use Rattle.hy_base.specs.Talks.{Call, opened, not_opened, gave, at_end, not_read}
use Rattle.hy_base.specs.declared.shelf.Shelf.{Ghosts}
use Rattle.hy_base.specs.declared.reading.TheConstants.{BYTES_LIMIT}
use Rattle.hy_base.specs.declared.reading.FileError.{FileError}
use Rattle.hy_base.specs.declared.reading.FileError.TheVariants.{OpenFailed, ReadFailed, Limit, Memory}

-- the bytes of each file, by its name
abbrev pub Files : Type 0
Files = List ℕ → Option (List ℕ)

-- The file has these bytes, within the limit.
pub record HasBytes (files : Files) (name bytes : List ℕ) : Type 0 where
  pub told : files name ≡ Some bytes
  pub few : length bytes ≤ BYTES_LIMIT

-- The file has more bytes than the limit.
pub record IsTooLong (files : Files) (name : List ℕ) : Type 0 where
  pub bytes : List ℕ
  pub told : files name ≡ Some bytes
  pub many : BYTES_LIMIT < length bytes

-- No call changes the files, stops telling, unmakes a sound shelf or lowers a count of faults.
pub record KeepsShelf {S : Type 0} (g : Ghosts S) (old new : S) : Type 0 where
  pub tells : g.tells old → g.tells new
  pub files : g.file new ≡ g.file old
  pub sound : g.is_sound old → g.is_sound new
  pub open_faults : g.open_faults old ≤ g.open_faults new
  pub read_faults : g.read_faults old ≤ g.read_faults new

-- Reads, one after another, gave these bytes.
pub data Gave {S : Type 0} (g : Ghosts S) (old : S) : List ℕ → S → Type 0 where
  nothing : Gave g old [] old
  more : (bytes piece : List ℕ) (mid new : S) → Gave g old bytes mid → g.called mid (gave piece) new
      → Gave g old (bytes ++ piece) new

-- The file was opened, and reads gave these bytes of it.
pub record Begun {S : Type 0} (g : Ghosts S) (old : S) (name bytes : List ℕ) (new : S) : Type 0 where
  pub opening : S
  pub opened : g.called old (opened name) opening
  pub given : Gave g opening bytes new

-- After that came this call.
pub record Ended {S : Type 0} (g : Ghosts S) (old : S) (name bytes : List ℕ) (call : Call) (new : S) : Type 0 where
  pub last : S
  pub begun : Begun g old name bytes last
  pub called : g.called last call new

-- The file was read from its front to its end.
pub record ReadsWhole {S : Type 0} (g : Ghosts S) (old new : S) (name bytes : List ℕ) : Type 0 where
  pub said : Ended g old name bytes at_end new
  pub has : g.tells old → HasBytes (g.file old) name bytes
  pub few : length bytes ≤ BYTES_LIMIT
  pub opened : g.tells old → g.open_name new ≡ Some name
  pub ended : g.tells old → g.rest new ≡ []

-- An open failed: it was counted, and a sound shelf lacks the file.
pub record FailsToOpen {S : Type 0} (g : Ghosts S) (old new : S) (name : List ℕ) : Type 0 where
  pub said : g.called old (not_opened name) new
  pub counted : Rose (g.open_faults old) (g.open_faults new)
  pub closed : g.tells old → g.open_name new ≡ None
  pub lacks : g.is_sound old → g.file old name ≡ None

-- A read of the file failed: it was counted, and the shelf was not sound.
pub record FailsToRead {S : Type 0} (g : Ghosts S) (old new : S) (name : List ℕ) : Type 0 where
  pub bytes : List ℕ
  pub said : Ended g old name bytes not_read new
  pub counted : Rose (g.read_faults old) (g.read_faults new)
  pub in_file : g.tells old → g.open_name new ≡ Some name
  pub unsound : g.is_sound old → ⊥

-- Reads gave more bytes than the limit.
pub record ReadsTooMuch {S : Type 0} (g : Ghosts S) (old new : S) (name : List ℕ) : Type 0 where
  pub bytes : List ℕ
  pub said : Begun g old name bytes new
  pub many : BYTES_LIMIT < length bytes
  pub long : g.tells old → IsTooLong (g.file old) name

-- Memory ran out within the file.
pub record RunsShort {S : Type 0} (g : Ghosts S) (old new : S) (name : List ℕ) : Type 0 where
  pub bytes : List ℕ
  pub said : Begun g old name bytes new

-- what comes of reading a file
abbrev pub Read : Type 0
Read = Result (List ℕ) FileError

-- This came of reading the file of that name, by outcomes.
abbrev pub CameOfRead : {S : Type 0} → Ghosts S → S → S → List ℕ → Read → Type 0
CameOfRead g old new name (Ok bytes) = ReadsWhole g old new name bytes
CameOfRead g old new name (Err OpenFailed) = FailsToOpen g old new name
CameOfRead g old new name (Err ReadFailed) = FailsToRead g old new name
CameOfRead g old new name (Err Limit) = ReadsTooMuch g old new name
CameOfRead g old new name (Err Memory) = RunsShort g old new name

-- This came of reading the file of that name, and no more was done to the shelf than calls do. So what the shelf tells
-- of a second file, and the counts that rise over it, are those of the shelf before the first.
pub record ReadsFile {S : Type 0} (g : Ghosts S) (old new : S) (name : List ℕ) (read : Read) : Type 0 where
  pub keeps : KeepsShelf g old new
  pub came : CameOfRead g old new name read

-- What was said where this came of reading what is left of the open file.
abbrev pub RestSaid : {S : Type 0} → Ghosts S → S → S → Read → Type 0
RestSaid {S} g old new (Ok bytes) = (last : S) × Gave g old bytes last × g.called last at_end new
RestSaid g old new (Err OpenFailed) = ⊥
RestSaid {S} g old new (Err ReadFailed) = (bytes : List ℕ) × (last : S) × Gave g old bytes last × g.called last not_read new
RestSaid g old new (Err Limit) = (bytes : List ℕ) × Gave g old bytes new × (BYTES_LIMIT < length bytes)
RestSaid g old new (Err Memory) = (bytes : List ℕ) × Gave g old bytes new

-- This came of reading the first of these files, one after another: the others were not opened.
abbrev pub ReadsFiles : {S : Type 0} → Ghosts S → S → S → List (List ℕ) → List Read → Type 0
ReadsFiles g old new names [] = old ≡ new
ReadsFiles g old new [] (read ∷ reads) = ⊥
ReadsFiles {S} g old new (name ∷ names) (read ∷ reads) =
    (mid : S) × ReadsFile g old mid name read × ReadsFiles g mid new names reads
