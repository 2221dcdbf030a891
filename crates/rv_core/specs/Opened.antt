-- Open sessions by their numbers, and what becomes of them.
use Rattle.std.specs.Prelude.{◌≡◌, ℕ, ◌+◌, ◌<◌, ◌≤◌, nat_eq, if◌then◌else◌, List, [], ◌∷◌, ◌++◌, length, Option, Some, None}
use Rattle.std.specs.Map.{lookup}
use Rattle.hy_base.specs.declared.limit.Kind.TheVariants as kind
use Rattle.hy_bits.specs.Letter.{Letter}
use Rattle.rv_core.specs.declared.rv_error.RvError.{RvError}
use Rattle.rv_core.specs.declared.rv_error.RvError.TheVariants as error

-- open sessions, each by its number and its letters, in any order
abbrev pub Open : Type 0
Open = List (ℕ × List Letter)

-- the letters of a session, where it is open
abbrev pub letters_in : ℕ → Open → Option (List Letter)
letters_in n sessions = lookup (nat_eq n) sessions

-- There are few sessions, and each has 1 to 1,024 letters.
pub record AreOpen (sessions : Open) : Type 0 where
  pub few : length sessions ≤ 1024
  pub letters : (n : ℕ) (word : List Letter) → letters_in n sessions ≡ Some word
      → (1 ≤ length word) × (length word ≤ 1024)

-- Session n has these letters, or is not open, and the others are as before.
abbrev pub Puts : ℕ → Option (List Letter) → Open → Open → Type 0
Puts n letters old new = (m : ℕ)
    → letters_in m new ≡ (if nat_eq n m then letters else letters_in m old)

-- The letter goes last in its session, which is opened where it was not open.
pub data Extends (n : ℕ) (a : Letter) (old new : Open) : Type 0 where
  longer : (word : List Letter) → letters_in n old ≡ Some word → length word < 1024
      → Puts n (Some (word ++ a ∷ [])) old new → length new ≡ length old → Extends n a old new
  opened : letters_in n old ≡ None → length old < 1024
      → Puts n (Some (a ∷ [])) old new → length new ≡ length old + 1 → Extends n a old new

-- why a letter is not taken
abbrev pub IsNotTaken : ℕ → Open → RvError → Type 0
IsNotTaken n old (error.Limit kind.Length) =
    (word : List Letter) × (letters_in n old ≡ Some word) × (1024 ≤ length word)
IsNotTaken n old (error.Limit kind.Sessions) = (letters_in n old ≡ None) × (1024 ≤ length old)
IsNotTaken n old error.Memory = Unit {0}
IsNotTaken n old _ = ⊥

-- The session is not open any more.
pub record Closes (n : ℕ) (old new : Open) : Type 0 where
  pub gone : Puts n None old new
  pub fewer : length new + 1 ≡ length old

-- why a letter does not go behind these
abbrev pub IsNotLonger : List Letter → RvError → Type 0
IsNotLonger word (error.Limit kind.Length) = 1024 ≤ length word
IsNotLonger word error.Memory = Unit {0}
IsNotLonger word _ = ⊥
