-- Which bytes are a file of events, one event on a line. A name that the table lacks is passed over.
use Rattle.std.specs.Prelude.{◌≡◌, ℕ, suc, ◌⊎◌, List, [], ◌∷◌, map}
use Rattle.hy_bits.specs.Letter.{Letter as NameSet}
use Rattle.hy_text.specs.Lines.{FirstFault as FirstFaultBy}
pub use Rattle.hy_text.specs.Lines.{lines_of}
use Rattle.hy_text.specs.Sets.{letter_of}
use Rattle.hy_finite.specs.declared.event.Event.{Event}
use Rattle.hy_finite.specs.declared.event.Event.TheVariants.{Whole, Letter, End, Save, Back}
use Rattle.hy_finite.specs.declared.event.Placed.{Placed}
use Rattle.hy_finite.specs.EventLines.{Said, word, letter, finish, save, back, SaysNothing, Says, IsFaulty, IsTooLong, IsText}

-- the event that is said, its names by the numbers that a table gives them
abbrev pub event_of : List (List ℕ) → Said → Event
event_of table (word sets) = Whole (map (letter_of table) sets)
event_of table (letter n names) = Letter n (letter_of table names)
event_of table (finish n) = End n
event_of table save = Save
event_of table back = Back

-- the letters of a whole trace, or else these
abbrev pub letters_or : List NameSet → Event → List NameSet
letters_or letters (Whole trace) = trace
letters_or letters _ = letters

-- The lines, of which the first has number n, say these events.
abbrev pub SayEvents : List (List ℕ) → ℕ → List (List ℕ) → List Placed → Type 0
SayEvents table n [] events = events ≡ []
SayEvents table n (line ∷ lines) events =
    (SaysNothing line × SayEvents table (suc n) lines events)
    ⊎ ((said : Said) × (rest : List Placed) × Says line said ×
    (events ≡ record { line = n; event = event_of table said } ∷ rest)
    × SayEvents table (suc n) lines rest)

-- The file is these events.
abbrev pub IsEventFile : List (List ℕ) → List ℕ → List Placed → Type 0
IsEventFile table bytes events = SayEvents table 1 (lines_of bytes) events

-- Of the lines, of which the first has number n, line k is the first that is no text.
abbrev pub FirstFault : ℕ → List (List ℕ) → ℕ → Type 0
FirstFault n lines k = FirstFaultBy IsText IsFaulty n lines k

-- Some line is a trace that is too long.
abbrev pub SomeTooLong : List (List ℕ) → Type 0
SomeTooLong [] = ⊥
SomeTooLong (line ∷ lines) = IsTooLong line ⊎ SomeTooLong lines
