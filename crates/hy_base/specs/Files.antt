-- Files in memory: which one a name means, which one is open, and what is left of it.
use Rattle.std.specs.Prelude.{ℕ, Bool, List, [], Option, Some, None, find, option_map, slice_get, drop, nat_eq}
use Rattle.std.specs.Cmp.Lexicographic.{pointwise}
use Rattle.hy_base.specs.declared.mem_shelf.File.{File}
use Rattle.hy_base.specs.declared.mem_shelf.Place.{Place}

-- whether a file has this name
abbrev pub has_name : List ℕ → File → Bool
has_name name file = pointwise nat_eq file.name name

-- the bytes of the first file with this name
abbrev pub file_of : List File → List ℕ → Option (List ℕ)
file_of files name = option_map (λ file. file.bytes) (find (has_name name) files)

-- the open file
abbrev pub open_file_of : List File → Option Place → Option File
open_file_of files None = None
open_file_of files (Some place) = slice_get files place.file

-- the name of the open file
abbrev pub open_name_of : List File → Option Place → Option (List ℕ)
open_name_of files place = option_map (λ file. file.name) (open_file_of files place)

-- what stands after the first `n` bytes of the file
abbrev pub after : Option File → ℕ → List ℕ
after None n = []
after (Some file) n = drop n file.bytes

-- what is left of the open file
abbrev pub rest_of : List File → Option Place → List ℕ
rest_of files None = []
rest_of files (Some place) = after (slice_get files place.file) place.position
