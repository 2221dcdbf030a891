-- The faults of files: which of them stands for what a reader says.
use Rattle.std.specs.Prelude.{◌≡◌}
use Rattle.hy_base.specs.Limits.{most}
use Rattle.hy_base.specs.declared.limit.Kind.TheVariants.{Length}
use Rattle.hy_base.specs.declared.reading.FileError.{FileError}
use Rattle.hy_base.specs.declared.reading.FileError.TheVariants as reading
use Rattle.hy_text.specs.declared.line_error.LineError.{LineError}
use Rattle.hy_text.specs.declared.line_error.LineError.TheVariants as lines
use Rattle.hy_read.specs.Answers.{Answer as Found, faulty, free, over, read_as}
use Rattle.hy_read.specs.Contract.{kind_of_count}
use Rattle.hy_read.specs.declared.error.ReadError.{ReadError}
use Rattle.hy_read.specs.declared.error.ReadError.TheVariants as formulas
use Rattle.hy_files.specs.declared.fault.FileFault.{FileFault}
use Rattle.hy_files.specs.declared.fault.FileFault.TheVariants.{Open, Read, Bytes, Syntax, Unbound, Count, Line, Memory}

-- the fault of a file that was not read
abbrev pub read_fault : FileError → FileFault
read_fault reading.OpenFailed = Open
read_fault reading.ReadFailed = Read
read_fault reading.Limit = Bytes
read_fault reading.Memory = Memory

-- What is found in a formula text refuses it, by this fault.
abbrev pub Refuses : Found → FileFault → Type 0
Refuses (faulty token byte) f = f ≡ Syntax token byte
Refuses (free byte) f = f ≡ Unbound byte
Refuses (over count number) f = f ≡ Count (kind_of_count count) number
Refuses (read_as formulas names) f = ⊥

-- the fault that a reader of formulas answers
abbrev pub text_fault : ReadError → FileFault
text_fault (formulas.Syntax token byte) = Syntax token byte
text_fault (formulas.Unbound byte) = Unbound byte
text_fault (formulas.Limit past) = Count past.kind past.limit
text_fault formulas.Memory = Memory

-- the fault of a file of lines
abbrev pub line_fault : LineError → FileFault
line_fault (lines.Syntax line) = Line line
line_fault lines.Limit = Count Length (most Length)
line_fault lines.Memory = Memory
