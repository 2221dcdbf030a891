-- What a shelf and a sink in memory show, and what their calls do.
use Rattle.std.specs.Prelude.{◌≡◌, ℕ, List, [], ◌++◌, Option, Some, None}
use Rattle.hy_base.specs.Counts.{Rose}
use Rattle.hy_base.specs.Files.{file_of}
use Rattle.hy_base.specs.Talks.{Call, opened, not_opened, gave, at_end, not_read, Put, took, not_taken}
use Rattle.hy_base.specs.declared.mem_shelf.File.{File}

-- A shelf: its files, the open one and what is left of it, how many calls were made, the numbers of
-- those that are to fail, and the faults so far.
pub record Store : Type 0 where
  pub files : List File
  pub open_name : Option (List ℕ)
  pub rest : List ℕ
  pub made : ℕ
  pub fail : List ℕ
  pub open_faults : ℕ
  pub read_faults : ℕ

-- A sink: what it was given, the room that is left, the most bytes of one call, how many calls were
-- made, the numbers of those that are to fail, and the faults so far.
pub record Buffer : Type 0 where
  pub given : List ℕ
  pub room : ℕ
  pub most : ℕ
  pub made : ℕ
  pub fail : List ℕ
  pub faults : ℕ

-- Of a call that failed a count of faults rose: that of opens, or that of reads.
abbrev pub CountsCall : ℕ → ℕ → ℕ → ℕ → Call → Type 0
CountsCall opens reads opens' reads' (opened name) = opens' ≡ opens
CountsCall opens reads opens' reads' (not_opened name) = Rose opens opens'
CountsCall opens reads opens' reads' (gave bytes) = reads' ≡ reads
CountsCall opens reads opens' reads' at_end = reads' ≡ reads
CountsCall opens reads opens' reads' not_read = Rose reads reads'

-- What a call of a shelf in memory does to the open file and to what is left of it.
abbrev pub MovesTo : Store → Store → Call → Type 0
MovesTo old new (opened name) = (new.open_name ≡ Some name) × (file_of old.files name ≡ Some new.rest)
MovesTo old new (not_opened name) = (new.open_name ≡ None) × (new.rest ≡ [])
MovesTo old new (gave bytes) = (new.open_name ≡ old.open_name) × (old.rest ≡ bytes ++ new.rest)
MovesTo old new at_end = (new.open_name ≡ old.open_name) × (old.rest ≡ []) × (new.rest ≡ [])
MovesTo old new not_read = (new.open_name ≡ old.open_name) × (new.rest ≡ old.rest)

-- A call of a shelf in memory.
pub record Leads (old : Store) (call : Call) (new : Store) : Type 0 where
  pub counts : CountsCall old.open_faults old.read_faults new.open_faults new.read_faults call
  pub moves : MovesTo old new call

-- Of a put that failed the count of faults rose.
abbrev pub CountsPut : ℕ → ℕ → Put → Type 0
CountsPut faults faults' (took bytes) = faults' ≡ faults
CountsPut faults faults' not_taken = Rose faults faults'

-- What a put adds to the bytes that a sink in memory was given.
abbrev pub Adds : List ℕ → List ℕ → Put → Type 0
Adds given given' (took bytes) = given' ≡ given ++ bytes
Adds given given' not_taken = given' ≡ given

-- A put into a sink in memory.
pub record Fills (old : Buffer) (put : Put) (new : Buffer) : Type 0 where
  pub counts : CountsPut old.faults new.faults put
  pub adds : Adds old.given new.given put
