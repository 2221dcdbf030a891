-- What lines do, taken one after another: each says nothing or an event that leads on, or it stops the watch.
use Rattle.std.specs.Prelude.{◌≡◌, ℕ, suc, ◌<◌, ◌≤◌, Bool, true, false, nat_lt, List, [], ◌∷◌, ◌++◌, length, Option, Some, None, Ok, Err}
use Rattle.hy_base.specs.Limits.{most}
use Rattle.hy_base.specs.declared.limit.Kind.TheVariants as kinds
use Rattle.hy_base.specs.declared.reading.TheConstants.{BYTES_LIMIT}
use Rattle.hy_finite.specs.EventFiles.{event_of}
use Rattle.hy_finite.specs.EventLines.{Said, SaysNothing, Says, IsShort, IsFaulty, IsTooLong}
use Rattle.hy_finite.specs.declared.event.Event.{Event}
use Rattle.hy_finite.specs.declared.lengths.Lengths.{Lengths}
use Rattle.rv_core.specs.Endings.{Spec, IsClean}
use Rattle.rv_core.specs.Histories.{BringsTrace, History, Refusal, empty_history, refused, goes, step, arrives}
use Rattle.rv_core.specs.Replies.{IsFound, error_of}
use Rattle.rv_core.specs.declared.rv_error.RvError.{RvError}
use Rattle.hy_run.specs.Runs.{Answer}
use Rattle.hy_run.specs.declared.refusal.Refusal as refusals
use Rattle.hy_run.specs.declared.refusal.Refusal.TheVariants.{Limit, Own, Memory}
use Rattle.rv_tool.specs.Refused.{event_refused}
use Rattle.rv_tool.specs.declared.verdict.RvVerdict.{RvVerdict}
use Rattle.rv_tool.specs.declared.verdict.RvVerdict.TheVariants.{Violation}
use Rattle.rv_watch.specs.Texts.{count_line}
use Rattle.rv_watch.specs.declared.verdict.WatchFault.{WatchFault}
use Rattle.rv_watch.specs.declared.verdict.WatchFault.TheVariants.{Line, Session, Traces, Lines}

abbrev pub WatchAnswer : Type 0
WatchAnswer = Answer RvVerdict WatchFault

-- most lines that are numbered
abbrev pub most_lines : ℕ
most_lines = 18446744073709551615

-- most traces that are present when one more comes
abbrev pub most_traces : ℕ
most_traces = 2147483648

-- ---- where a watch is

-- What came of the lines so far.
pub record Course : Type 0 where
  pub history : History
  -- how many lines were taken
  pub lines : ℕ
  -- how many traces arrived since the last line of counts, or since the first event
  pub since : ℕ
  -- the lines of counts
  pub said : List (List ℕ)

abbrev pub start : Course
start = record { history = empty_history; lines = 0; since = 0; said = [] }

-- behind a line by which no trace arrived
abbrev pub behind : Course → History → Course
behind c h = record { history = h; lines = suc c.lines; since = c.since; said = c.said }

-- behind an arrival of which no counts are due yet, or else are
abbrev pub counted_if : Bool → Course → History → Course
counted_if true c h = record { history = h; lines = suc c.lines; since = suc c.since; said = c.said }
counted_if false c h = record { history = h; lines = suc c.lines; since = 0; said = c.said ++ count_line h.present ∷ [] }

-- behind an arrival: a line of counts is due where it is the n-th since the last one
abbrev pub counted : Option ℕ → Course → History → Course
counted None c h = behind c h
counted (Some n) c h = counted_if (nat_lt (suc c.since) n) c h

-- The line is within its limit, and can be numbered.
abbrev pub IsWithin : Course → List ℕ → Type 0
IsWithin c line = (length line ≤ BYTES_LIMIT) × (c.lines < most_lines)

-- A trace can come: those that are present are not too many.
abbrev pub HasRoom : Course → Type 0
HasRoom c = length c.history.present.arrived < most_traces

-- A trace comes by the event, but there are too many.
abbrev pub IsCrowded : Course → Event → Type 0
IsCrowded c e = BringsTrace c.history e × (most_traces ≤ length c.history.present.arrived)

-- why a line is refused whose event is answered by this error
abbrev pub event_refusal : ℕ → RvError → refusals.Refusal WatchFault
event_refusal line = event_refused (Session line)

-- ---- what lines do, by a rule of lengths, formulas, the names of a table, and how often counts are due

module _ (lengths : Lengths) (specs : List Spec) (table : List (List ℕ)) where
  -- A line leads from one course to another.
  pub data Takes (every : Option ℕ) (c : Course) (line : List ℕ) : Course → Type 0 where
    silent : IsWithin c line → SaysNothing line → Takes every c line (behind c c.history)
    quiet : (said : Said) (h : History) → IsWithin c line → Says line said → IsShort said
        → step c.history (event_of table said) ≡ goes h → arrives (event_of table said) ≡ false
        → Takes every c line (behind c h)
    arrived : (said : Said) (h : History) → IsWithin c line → Says line said → IsShort said → HasRoom c
        → step c.history (event_of table said) ≡ goes h → arrives (event_of table said) ≡ true
        → IsClean lengths specs h.present.arrived → Takes every c line (counted every c h)

  -- Lines, one after another, lead from one course to another.
  abbrev pub Leads : Option ℕ → Course → List (List ℕ) → Course → Type 0
  Leads every c [] end = end ≡ c
  Leads every c (line ∷ lines) end = (next : Course) × Takes every c line next × Leads every next lines end

  -- An event stops the watch, and so is answered: it brings a trace behind too many, is refused, or brings a trace after
  -- which the traces that arrived violate a formula.
  pub data EventStops (c : Course) (e : Event) : WatchAnswer → Type 0 where
    crowded : IsCrowded c e → EventStops c e (Err (Own Traces))
    refuses : (r : Refusal) → step c.history e ≡ refused r
        → EventStops c e (Err (event_refusal (suc c.lines) (error_of r)))
    violates : (h : History) (s trace : ℕ) (tuple : List ℕ) → HasRoom c → step c.history e ≡ goes h → arrives e ≡ true
        → IsFound lengths specs h.present.arrived s trace tuple → EventStops c e (Ok (Violation s trace tuple))

  -- A line stops the watch, and so is answered: it is past its limit, cannot be numbered, is no text, is a trace that is
  -- too long, or says an event that does.
  pub data Stops (c : Course) (line : List ℕ) : WatchAnswer → Type 0 where
    large : BYTES_LIMIT < length line → Stops c line (Err (Limit kinds.Bytes BYTES_LIMIT))
    uncounted : length line ≤ BYTES_LIMIT → most_lines ≤ c.lines → Stops c line (Err (Own Lines))
    faulty : IsWithin c line → IsFaulty line → Stops c line (Err (Own (Line (suc c.lines))))
    long : IsWithin c line → IsTooLong line → Stops c line (Err (Limit kinds.Length (most kinds.Length)))
    says_event : (said : Said) (answer : WatchAnswer) → IsWithin c line → Says line said → IsShort said
        → EventStops c (event_of table said) answer → Stops c line answer
