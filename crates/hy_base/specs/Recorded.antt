-- What the logs of a shelf and of a sink have, and which calls reads and writes are.
use Rattle.std.specs.Prelude.{◌≡◌, ℕ, ◌<◌, List, [], ◌∷◌, ◌++◌, length, map, Ok, Err}
use Rattle.std.specs.List.{concat}
use Rattle.hy_base.specs.Shelf.{Read}
use Rattle.hy_base.specs.Talks.{Call, opened, not_opened, gave, at_end, not_read, Put, took, not_taken}
use Rattle.hy_base.specs.declared.reading.TheConstants.{BYTES_LIMIT}
use Rattle.hy_base.specs.declared.reading.FileError.TheVariants.{OpenFailed, ReadFailed, Limit, Memory}
use Rattle.hy_base.specs.declared.shelf_call.ShelfCall.{ShelfCall}
use Rattle.hy_base.specs.declared.shelf_call.ShelfCall.TheVariants as shelf
use Rattle.hy_base.specs.declared.sink_call.SinkCall.{SinkCall}
use Rattle.hy_base.specs.declared.sink_call.SinkCall.TheVariants as sink

-- the entry of a call
abbrev pub shelf_entry : Call → ShelfCall
shelf_entry (opened name) = shelf.Opened name
shelf_entry (not_opened name) = shelf.NotOpened name
shelf_entry (gave bytes) = shelf.Gave bytes
shelf_entry at_end = shelf.AtEnd
shelf_entry not_read = shelf.NotRead

-- the entry of a put
abbrev pub sink_entry : Put → SinkCall
sink_entry (took bytes) = sink.Took bytes
sink_entry not_taken = sink.NotTaken

-- the calls that open a file and read these pieces of it
abbrev pub begins : List ℕ → List (List ℕ) → List Call
begins name pieces = opened name ∷ map gave pieces

-- These calls, and no others, are made where this comes of reading the file of that name.
abbrev pub AreCalls : List ℕ → Read → List Call → Type 0
AreCalls name (Ok bytes) calls =
    (pieces : List (List ℕ)) × (concat pieces ≡ bytes) × (calls ≡ begins name pieces ++ at_end ∷ [])
AreCalls name (Err OpenFailed) calls = calls ≡ not_opened name ∷ []
AreCalls name (Err ReadFailed) calls = (pieces : List (List ℕ)) × (calls ≡ begins name pieces ++ not_read ∷ [])
AreCalls name (Err Limit) calls =
    (pieces : List (List ℕ)) × (BYTES_LIMIT < length (concat pieces)) × (calls ≡ begins name pieces)
AreCalls name (Err Memory) calls = (pieces : List (List ℕ)) × (calls ≡ begins name pieces)

-- The same for the first of these files, one after another.
abbrev pub AreReads : List (List ℕ) → List Read → List Call → Type 0
AreReads names [] calls = calls ≡ []
AreReads [] (read ∷ reads) calls = ⊥
AreReads (name ∷ names) (read ∷ reads) calls =
    (first : List Call) × (others : List Call) × AreCalls name read first × AreReads names reads others × (calls ≡ first ++ others)
