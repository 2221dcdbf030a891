-- What events make of the traces that arrived, of the open sessions and of the saves.
use Rattle.std.specs.Prelude.{◌≡◌, ℕ, Bool, true, false, nat_eq, nat_lt, if◌then◌else◌, List, [], ◌∷◌, ◌++◌, length, Option, Some, None}
use Rattle.hy_bits.specs.Letter.{Letter}
use Rattle.hy_finite.specs.Traces.{Trace, most_letters}
use Rattle.hy_finite.specs.declared.event.Event.{Event}
use Rattle.hy_finite.specs.declared.event.Event.TheVariants as event

-- an open session: its number, and its letters so far
pub record Session : Type 0 where
  pub number : ℕ
  pub letters : List Letter

-- the traces that arrived, in their order, and the open sessions
pub record Present : Type 0 where
  pub arrived : List Trace
  pub sessions : List Session

-- the present and the saves, the last save first
pub record History : Type 0 where
  pub present : Present
  pub saves : List Present

abbrev pub empty_history : History
empty_history = record { present = record { arrived = []; sessions = [] }; saves = [] }

-- why an event is refused
pub data Refusal : Type 0 where
  no_session : Refusal
  no_save : Refusal
  too_long : Refusal
  too_many_sessions : Refusal
  too_many_saves : Refusal

abbrev pub most_sessions : ℕ
most_sessions = 1024

abbrev pub most_saves : ℕ
most_saves = 64

-- the letters of a session, where it is open
abbrev pub letters_of : ℕ → List Session → Option (List Letter)
letters_of n [] = None
letters_of n (s ∷ ss) = if nat_eq n s.number then Some s.letters else letters_of n ss

-- the letter last in its session, which is opened where it is not open
abbrev pub extended : ℕ → Letter → List Session → List Session
extended n a [] = record { number = n; letters = a ∷ [] } ∷ []
extended n a (s ∷ ss) =
    if nat_eq n s.number then record { number = s.number; letters = s.letters ++ a ∷ [] } ∷ ss
    else s ∷ extended n a ss

-- the sessions but for that with the number
abbrev pub closed : ℕ → List Session → List Session
closed n [] = []
closed n (s ∷ ss) = if nat_eq n s.number then closed n ss else s ∷ closed n ss

-- what an event does: it is refused, or leads on
pub data Step : Type 0 where
  refused : Refusal → Step
  goes : History → Step

abbrev pub with_sessions : History → List Session → History
with_sessions h ss =
    record { present = record { arrived = h.present.arrived; sessions = ss }; saves = h.saves }

abbrev pub with_trace : History → Trace → List Session → History
with_trace h t ss =
    record {
      present = record { arrived = h.present.arrived ++ t ∷ []; sessions = ss };
      saves =
          h.saves;
    }

abbrev pub letter_step : History → ℕ → Letter → Option (List Letter) → Step
letter_step h n a (Some word) =
    if nat_lt (length word) most_letters then goes
    (with_sessions h (extended n a h.present.sessions))
    else refused too_long
letter_step h n a None =
    if nat_lt (length h.present.sessions) most_sessions then goes
    (with_sessions h (extended n a h.present.sessions))
    else refused too_many_sessions

abbrev pub end_step : History → ℕ → Option (List Letter) → Step
end_step h n (Some word) = goes (with_trace h word (closed n h.present.sessions))
end_step h n None = refused no_session

abbrev pub save_step : History → Step
save_step h =
    if nat_lt (length h.saves) most_saves then goes
    (record { present = h.present; saves = h.present ∷ h.saves })
    else refused too_many_saves

abbrev pub back_step : List Present → Step
back_step [] = refused no_save
back_step (p ∷ ps) = goes (record { present = p; saves = ps })

abbrev pub step : History → Event → Step
step h (event.Whole t) = goes (with_trace h t h.present.sessions)
step h (event.Letter n a) = letter_step h n a (letters_of n h.present.sessions)
step h (event.End n) = end_step h n (letters_of n h.present.sessions)
step h event.Save = save_step h
step h event.Back = back_step h.saves

-- a trace arrives by the event, if it is not refused
abbrev pub arrives : Event → Bool
arrives (event.Whole t) = true
arrives (event.End n) = true
arrives _ = false

-- A trace arrives by the event, which is not refused.
abbrev pub BringsTrace : History → Event → Type 0
BringsTrace h e = (arrives e ≡ true) × ((next : History) × (step h e ≡ goes next))
