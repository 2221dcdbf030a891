-- What verdicts and own refusals print, and their statuses.
use Rattle.std.specs.Prelude.{ℕ, ◌-◌, List, [], ◌++◌, length, codes, decimal, slice_index_or}
use Rattle.hy_files.specs.ErrorLines.{name_line}
use Rattle.hy_run.specs.Names.{Text}
use Rattle.hy_check.specs.declared.answer.CertFault.{CertFault}
use Rattle.hy_check.specs.declared.answer.CertFault.TheVariants.{Name, Certificate}
use Rattle.hy_check.specs.declared.answer.CheckVerdict.{CheckVerdict}
use Rattle.hy_check.specs.declared.answer.CheckVerdict.TheVariants.{Accepted, Rejected}

-- the last of the files, by names or by bytes
abbrev pub last_of : List (List ℕ) → List ℕ
last_of files = slice_index_or files (length files - 1) []

-- what `out` receives with a verdict
abbrev pub text_of : CheckVerdict → List ℕ
text_of Accepted = codes "accepted\n"
text_of Rejected = codes "rejected\n"

-- its exit status
abbrev pub status_of : CheckVerdict → ℕ
status_of Accepted = 0
status_of Rejected = 1

-- the line of a certificate, in the file of this name, that goes wrong
abbrev pub certificate_line : List ℕ → ℕ → List ℕ
certificate_line name line = codes "error E14 " ++ name ++ codes ": line " ++ decimal line ++ codes "\n"

-- the error line of an own refusal, where the command has files of these names
abbrev pub own_line : List Text → CertFault → List ℕ
own_line files (Name name twice) = name_line name twice
own_line files (Certificate line) = certificate_line (last_of files) line

-- its exit status
abbrev pub own_status : CertFault → ℕ
own_status fault = 2
