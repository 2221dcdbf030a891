-- What `rvhyper` answers: how the formulas are counted, and what comes of the events, one after another: those of a
-- file, or made traces.
use Rattle.std.specs.Prelude.{◌≡◌, ℕ, zero, suc, Bool, List, [], ◌∷◌, length, map, Ok, Err}
use Rattle.std.specs.List.{Contains, AllZip}
use Rattle.hy_base.specs.Limits.{most}
use Rattle.hy_base.specs.declared.limit.Kind.{Kind}
use Rattle.hy_base.specs.declared.limit.Kind.TheVariants.{Closure, Atoms, Table}
use Rattle.hy_formula.specs.declared.classes.Class.{Class}
use Rattle.hy_formula.specs.Formulas.{Plain}
use Rattle.hy_formula.specs.Quantifiers.{Each}
use Rattle.hy_formula.specs.Trees.{Tree}
use Rattle.hy_finite.specs.declared.event.Event.{Event}
use Rattle.hy_finite.specs.declared.event.Event.TheVariants.{Whole}
use Rattle.hy_finite.specs.declared.event.Placed.{Placed}
use Rattle.hy_finite.specs.declared.lengths.Lengths.{Lengths}
use Rattle.hy_finite.specs.Traces.{Trace}
use Rattle.fin_monitor.specs.Limits.{HasLargeClosure, HasSmallClosure, HasManyAtoms, HasFewAtoms, HasLargeTable, IsTaken}
use Rattle.rv_core.specs.Endings.{Spec, Ending, clean, refusal, violation, Ends}
use Rattle.rv_core.specs.Histories.{History, empty_history}
use Rattle.rv_core.specs.Keeping.{IsKeptCount}
use Rattle.rv_core.specs.Replies.{IsFound, error_of}
use Rattle.rv_core.specs.declared.rv_error.RvError.{RvError}
use Rattle.hy_run.specs.Classes.{AreTaken, FirstUntaken, by_class, is_universal}
use Rattle.hy_run.specs.Runs.{Answer}
use Rattle.hy_run.specs.declared.refusal.Refusal.{Refusal}
use Rattle.hy_run.specs.declared.refusal.Refusal.TheVariants.{Prefix, Limit, Own, Memory}
use Rattle.rv_tool.specs.Refused.{event_refused}
use Rattle.rv_tool.specs.declared.verdict.RvFault.{RvFault}
use Rattle.rv_tool.specs.declared.verdict.RvFault.TheVariants.{Session}
use Rattle.rv_tool.specs.declared.verdict.RvVerdict.{RvVerdict}
use Rattle.rv_tool.specs.declared.verdict.RvVerdict.TheVariants.{NoViolation, Violation}

abbrev pub RvAnswer : Type 0
RvAnswer = Answer RvVerdict RvFault

-- ---- the formulas

abbrev pub AreUniversal : List Plain → Type 0
AreUniversal formulas = AreTaken (by_class is_universal) formulas

-- It holds of the body of some formula.
abbrev pub SomePlain : (Tree → Type 0) → List Plain → Type 0
SomePlain Q formulas = (f : Plain) × Contains formulas f × Q f.body

-- It holds of the body of each.
abbrev pub EachPlain : (Tree → Type 0) → List Plain → Type 0
EachPlain Q formulas = Each (λ (f : Plain). Q f.body) formulas

-- The formulas have a count of this kind past its limit: each kind over all of them before the next.
abbrev pub AreTooLarge : List Plain → Kind → Type 0
AreTooLarge formulas Closure = SomePlain HasLargeClosure formulas
AreTooLarge formulas Atoms = EachPlain HasSmallClosure formulas × SomePlain HasManyAtoms formulas
AreTooLarge formulas Table =
    EachPlain HasSmallClosure formulas × EachPlain HasFewAtoms formulas × SomePlain HasLargeTable formulas
AreTooLarge formulas _ = ⊥

-- what a formula says of tuples
abbrev pub spec_of : Plain → Spec
spec_of f = record { variables = length f.prefix; body = f.body }

abbrev pub specs_of : List Plain → List Spec
specs_of formulas = map spec_of formulas

-- ---- the events

-- why a line is refused whose event is answered by this error
abbrev pub event_refusal : ℕ → RvError → Refusal RvFault
event_refusal line = event_refused (Session line)

-- The traces that arrived violate a formula, the first such one by this number, and so is answered: by that formula, the
-- last trace, and a tuple.
pub record IsViolation (lengths : Lengths) (specs : List Spec) (arrived : List Trace) (spec : ℕ)
    (answer : RvAnswer) : Type 0 where
  pub trace : ℕ
  pub tuple : List ℕ
  pub found : IsFound lengths specs arrived spec trace tuple
  pub answered : answer ≡ Ok (Violation spec trace tuple)

-- For each formula, in turn, so many of the traces that arrived are kept: all of them or, where dominated ones are
-- dropped, the leaders.
abbrev pub AreKeptCounts : Lengths → Bool → List Spec → List Trace → List ℕ → Type 0
AreKeptCounts lengths drop specs arrived counts =
    AllZip (λ (spec : Spec) (count : ℕ). IsKeptCount lengths drop spec arrived count) specs counts

-- No event was refused or violated a formula, and so is answered: by how many traces arrived, how many of them are
-- kept for each formula, and how many sessions are open.
pub record IsNoViolation (lengths : Lengths) (drop : Bool) (specs : List Spec) (h : History) (answer : RvAnswer) : Type 0 where
  pub kept : List ℕ
  pub counts : AreKeptCounts lengths drop specs h.present.arrived kept
  pub answered : answer ≡ Ok (NoViolation (length h.present.arrived) kept (length h.present.sessions))

-- the events, each of a line
abbrev pub events_of : List Placed → List Event
events_of placed = map (λ (p : Placed). p.event) placed

-- the line of an event, by the number of the event, counted from 0
abbrev pub line_of : List Placed → ℕ → ℕ
line_of [] k = 0
line_of (p ∷ placed) zero = p.line
line_of (p ∷ placed) (suc k) = line_of placed k

-- The answer that an ending of the events brings. Of dropping dominated traces only the counts behind the last event
-- speak.
abbrev pub Brings : Lengths → Bool → List Spec → List Placed → Ending → RvAnswer → Type 0
Brings lengths drop specs placed (clean h) answer = IsNoViolation lengths drop specs h answer
Brings lengths drop specs placed (refusal k r) answer =
    answer ≡ Err (event_refusal (line_of placed k) (error_of r))
Brings lengths drop specs placed (violation k s h) answer =
    IsViolation lengths specs h.present.arrived s answer

-- The events, one after another, come to this answer: they end so, and that brings it.
pub record ComesTo (lengths : Lengths) (drop : Bool) (specs : List Spec) (placed : List Placed)
    (answer : RvAnswer) : Type 0 where
  pub ending : Ending
  pub ends : Ends lengths specs 0 empty_history (events_of placed) ending
  pub brings : Brings lengths drop specs placed ending answer

-- Events that are so come to this answer.
abbrev pub EventsCome : Lengths → Bool → List Spec → (List Placed → Type 0) → RvAnswer → Type 0
EventsCome lengths drop specs AreSo answer =
    (events : List Placed) × AreSo events × ComesTo lengths drop specs events answer

-- traces as events in their order, the first of them in place k
abbrev pub whole_traces : ℕ → List Trace → List Placed
whole_traces k [] = []
whole_traces k (t ∷ ts) = record { line = k; event = Whole t } ∷ whole_traces (suc k) ts

-- What formulas come to on events that are so: the first of these that is met, or memory ran out.
pub data IsOutcome (lengths : Lengths) (drop : Bool) (formulas : List Plain) (AreSo : List Placed → Type 0) : RvAnswer → Type 0 where
  untaken : (place : ℕ) (class : Class) → FirstUntaken (by_class is_universal) formulas place class
      → IsOutcome lengths drop formulas AreSo (Err (Prefix 0 class))
  too_large : (kind : Kind) → AreUniversal formulas → AreTooLarge formulas kind
      → IsOutcome lengths drop formulas AreSo (Err (Limit kind (most kind)))
  done : (answer : RvAnswer) → AreUniversal formulas → EachPlain IsTaken formulas → EventsCome lengths drop (specs_of formulas) AreSo answer
      → IsOutcome lengths drop formulas AreSo answer
  spent : IsOutcome lengths drop formulas AreSo (Err Memory)
