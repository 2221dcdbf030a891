-- What a monitor answers to an event, and to events one after another.
use Rattle.std.specs.Prelude.{◌≡◌, ℕ, suc, ◌<◌, Bool, true, false, List, [], ◌∷◌, length, All, Result, Ok, Err}
use Rattle.hy_base.specs.declared.limit.Kind.TheVariants as kind
use Rattle.hy_finite.specs.declared.event.Event.{Event}
use Rattle.hy_finite.specs.declared.event.Event.TheVariants as event
use Rattle.hy_finite.specs.declared.lengths.Lengths.{Lengths}
use Rattle.hy_finite.specs.Traces.{Trace, ViolatesBy, picked}
use Rattle.rv_core.specs.declared.reply.Reply.{Reply}
use Rattle.rv_core.specs.declared.reply.Reply.TheVariants.{Quiet, Arrived, Violation}
use Rattle.rv_core.specs.declared.arrival.Arrival.{Arrival}
use Rattle.rv_core.specs.declared.arrival.Arrival.TheVariants as arrival
use Rattle.rv_core.specs.declared.rv_error.RvError.{RvError}
use Rattle.rv_core.specs.declared.rv_error.RvError.TheVariants as error
use Rattle.rv_core.specs.Histories.{History, Refusal, no_session, no_save, too_long, too_many_sessions, too_many_saves, refused, goes, step, arrives}
use Rattle.rv_core.specs.Endings.{Spec, spec_at, FirstViolated, Ending, clean, refusal, violation}
use Rattle.rv_core.specs.Held.{Held, specs_of, StandsFor}

abbrev pub error_of : Refusal → RvError
error_of no_session = error.NoLetter
error_of no_save = error.NoSave
error_of too_long = error.Limit kind.Length
error_of too_many_sessions = error.Limit kind.Sessions
error_of too_many_saves = error.Limit kind.Saves

-- All events but a back take memory.
abbrev pub takes_memory : Event → Bool
takes_memory event.Back = false
takes_memory (event.Whole t) = true
takes_memory (event.Letter n a) = true
takes_memory (event.End n) = true
takes_memory event.Save = true

-- The list violates the spec by these of its traces, one for each variable, by their numbers.
pub record IsViolatedBy (rule : Lengths) (spec : Spec) (list : List Trace)
    (tuple : List ℕ) : Type 0 where
  pub long : length tuple ≡ spec.variables
  pub inside : All (λ k. k < length list) tuple
  pub violates : ViolatesBy rule spec.variables spec.body list (picked list tuple)

-- What is answered where a trace arrives by which the list violates a spec: the first such spec,
-- the number of the trace, and a tuple.
pub record IsFound (rule : Lengths) (specs : List Spec) (list : List Trace) (s trace : ℕ)
    (tuple : List ℕ) : Type 0 where
  pub first : FirstViolated rule specs list s
  pub last : suc trace ≡ length list
  pub by_tuple : IsViolatedBy rule (spec_at specs s) list tuple

-- The answer to an event of a monitor that stood for a history, and what the monitor stands for
-- then.
pub data IsAnswer (old new : Held) (e : Event) (h : History) : Result Reply RvError → Type 0 where
  quiet : (next : History) → step h e ≡ goes next → arrives e ≡ false → StandsFor new next
      → IsAnswer old new e h (Ok Quiet)
  arrived : (next : History) → step h e ≡ goes next → arrives e ≡ true → StandsFor new next
      → IsAnswer old new e h (Ok (Arrived (length h.present.arrived)))
  violated : (next : History) (s trace : ℕ) (tuple : List ℕ) → step h e ≡ goes next
      → arrives e ≡ true
      → IsFound old.rule (specs_of old) next.present.arrived s trace tuple → new.clean ≡ false
      → IsAnswer old new e h (Ok (Violation s trace tuple))
  refused_by : (r : Refusal) → step h e ≡ refused r → StandsFor new h
      → IsAnswer old new e h (Err (error_of r))
  spent : takes_memory e ≡ true → StandsFor new h → IsAnswer old new e h (Err error.Memory)

-- What a call of `event` says: the specs and the rule stay, and its answer is right for each
-- history that the monitor stood for.
pub record Answers (old new : Held) (e : Event) (result : Result Reply RvError) : Type 0 where
  pub rule : new.rule ≡ old.rule
  pub specs : specs_of new ≡ specs_of old
  pub right : (h : History) → StandsFor old h → IsAnswer old new e h result

-- The answer where the trace with this number arrived, and this came of it.
abbrev pub IsReplyTo : ℕ → Arrival → Reply → Type 0
IsReplyTo trace arrival.Same reply = reply ≡ Arrived trace
IsReplyTo trace (arrival.Clean kept) reply = reply ≡ Arrived trace
IsReplyTo trace (arrival.Violation spec tuple) reply = reply ≡ Violation spec trace tuple

-- how a run of calls ends: behind its last event, or at an event, by its number, that was answered
-- by an error or a violation
pub data Stop : Type 0 where
  through : Held → Stop
  error_at : ℕ → RvError → Stop
  violation_at : (event spec trace : ℕ) → List ℕ → Stop

-- The events, the first of them with number k, are given to the monitor one after another, up to
-- the first that is answered by an error or a violation.
pub data Runs : ℕ → Held → List Event → Stop → Type 0 where
  at_end : (k : ℕ) (m : Held) → Runs k m [] (through m)
  on_quiet : (k : ℕ) (m next : Held) (e : Event) (es : List Event) (stop : Stop)
      → Answers m next e (Ok Quiet)
      → Runs (suc k) next es stop → Runs k m (e ∷ es) stop
  on_arrival : (k : ℕ) (m next : Held) (e : Event) (es : List Event) (stop : Stop) (trace : ℕ)
      → Answers m next e (Ok (Arrived trace)) → Runs (suc k) next es stop → Runs k m (e ∷ es) stop
  at_violation : (k : ℕ) (m next : Held) (e : Event) (es : List Event) (s trace : ℕ)
      (tuple : List ℕ)
      → Answers m next e (Ok (Violation s trace tuple))
      → Runs k m (e ∷ es) (violation_at k s trace tuple)
  at_error : (k : ℕ) (m next : Held) (e : Event) (es : List Event) (error : RvError)
      → Answers m next e (Err error) → Runs k m (e ∷ es) (error_at k error)

-- The calls end as the events do: with what the monitor stands for, at the same event and for the
-- same cause, or at the same event with a violation.
abbrev pub EndsAs : Lengths → List Spec → Ending → Stop → Type 0
EndsAs rule specs (clean h) (through m) = StandsFor m h
EndsAs rule specs (refusal k r) (error_at n e) = (n ≡ k) × (e ≡ error_of r)
EndsAs rule specs (violation k s h) (violation_at n spec trace tuple) =
    (n ≡ k) × (spec ≡ s) × IsFound rule specs h.present.arrived spec trace tuple
EndsAs rule specs (clean h) _ = ⊥
EndsAs rule specs (refusal k r) _ = ⊥
EndsAs rule specs (violation k s h) _ = ⊥
