-- What a step says that reads one file and takes its text, or tells why it does not.
use Rattle.std.specs.Prelude.{ℕ, List, Ok, Err}
use Rattle.hy_base.specs.Shelf.{ReadsFile}
use Rattle.hy_base.specs.declared.reading.FileError.{FileError}
use Rattle.hy_base.specs.declared.shelf.Shelf.{Ghosts}
use Rattle.hy_files.specs.Faults.{read_fault}
use Rattle.hy_files.specs.declared.fault.FileFault.{FileFault}
use Rattle.hy_files.specs.declared.fault.FileFault.TheVariants.{Memory}

-- The file was read, and its bytes are such a text.
pub record Takes {S : Type 0} (g : Ghosts S) (old new : S) (name : List ℕ) (is_text : List ℕ → Type 0) : Type 0 where
  pub bytes : List ℕ
  pub read : ReadsFile g old new name (Ok bytes)
  pub is : is_text bytes

-- The file is not taken, by this fault: it was not read, memory ran out, or its bytes are refused.
pub data Fails {S : Type 0} (g : Ghosts S) (old new : S) (name : List ℕ) (is_refused : List ℕ → FileFault → Type 0) : FileFault → Type 0 where
  unread : (error : FileError) → ReadsFile g old new name (Err error) → Fails g old new name is_refused (read_fault error)
  spent : (bytes : List ℕ) → ReadsFile g old new name (Ok bytes) → Fails g old new name is_refused Memory
  refused : (bytes : List ℕ) (fault : FileFault) → ReadsFile g old new name (Ok bytes) → is_refused bytes fault
      → Fails g old new name is_refused fault
