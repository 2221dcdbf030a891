-- Events, given to a monitor one after another.
use Rattle.std.proofs.Common.{◌≡◌, ◌⊎◌, ℕ, suc, ◌+◌, ◌≤◌, Bool, true, false, nat_lt, if◌then◌else◌, List, [], ◌∷◌, ◌++◌, length, Option, Some, None, Ok, Err, Result, inl, inr, refl, sym, ap, subst, ◌∙◌, arith}
use Rattle.std.proofs.lemmas.List.{length-append}
use Rattle.hy_bits.specs.Letter.{Letter}
use Rattle.hy_finite.specs.declared.event.Event.{Event}
use Rattle.hy_finite.specs.declared.event.Event.TheVariants as event
use Rattle.hy_finite.specs.declared.event.Placed.{Placed}
use Rattle.hy_finite.specs.declared.lengths.Lengths.{Lengths}
use Rattle.hy_finite.specs.Traces.{Trace, most_letters}
use Rattle.rv_core.specs.declared.reply.Reply.{Reply}
use Rattle.rv_core.specs.declared.reply.Reply.TheVariants.{Quiet, Arrived, Violation}
use Rattle.rv_core.specs.declared.rv_error.RvError.{RvError}
use Rattle.rv_core.specs.declared.rv_error.RvError.TheVariants as errors
use Rattle.rv_core.specs.Endings.{Spec, Ending, clean, refusal, violation, Ends}
use Rattle.rv_core.specs.declared.saved.Saved.{Saved}
use Rattle.rv_core.specs.Held.{Held, AreSaves, StandsFor, specs_of}
use Rattle.rv_core.specs.Histories.{Present, History, empty_history, Refusal, too_long, too_many_sessions, too_many_saves, refused, goes, step, letters_of, letter_step, end_step, back_step, with_sessions, with_trace, extended, closed, most_sessions, most_saves}
use Rattle.rv_core.specs.Replies.{error_of, IsFound, IsAnswer, quiet, arrived, violated, refused_by, spent, Answers, Stop, through, error_at, violation_at, Runs, at_end, at_violation, at_error, EndsAs}
use Rattle.rv_core.proofs.Ending.{ends-some}
use Rattle.rv_tool.specs.declared.verdict.RvVerdict.TheVariants as verdicts
use Rattle.rv_tool.specs.Monitoring.{RvAnswer, event_refusal, events_of, line_of, IsNoViolation, Brings, EventsCome}
use Rattle.rv_tool.specs.Watching.{OrMemory, OrFault, AreLeft, count_left, AreNumbered, AreGood, AreRead, IsAhead, IsThrough, IsWatched}
use Rattle.rv_tool.specs.declared.source.Source.{Source}
use Rattle.rv_tool.specs.declared.watching.Watched.{Watched}
use Rattle.rv_tool.proofs.Sources.{some-left}

pub or-memory : {P Q : Type 0} {a : RvAnswer} → (P → Q) → OrMemory a P → OrMemory a Q
or-memory f (inl e) = inl e
or-memory f (inr p) = inr (f p)

pub or-fault : {P Q : Type 0} (source : Source) (a : RvAnswer) → (P → Q) → OrFault source a P → OrFault source a Q
or-fault source a f (inl (good, p)) = inl (good, f p)
or-fault source a f (inr fault) = inr fault

-- ---- one event

-- The event leads from a history to one that the monitor then stands for.
pub record GoesOn (h : History) (e : Event) (new : Held) : Type 0 where
  pub next : History
  pub steps : step h e ≡ goes next
  pub stands : StandsFor new next

module _ (old new : Held) (e : Event) (h : History) where
  pub goes-quiet : (r : Result Reply RvError) → r ≡ Ok Quiet → IsAnswer old new e h r → GoesOn h e new
  goes-quiet _ same (quiet next steps silent stands) = record { next = next; steps = steps; stands = stands }
  goes-quiet _ same (arrived next steps loud stands) = absurd (cc)
  goes-quiet _ same (violated next s trace tuple steps loud found unclean) = absurd (cc)
  goes-quiet _ same (refused_by r steps stands) = absurd (cc)
  goes-quiet _ same (spent takes stands) = absurd (cc)

  pub goes-arrived : (r : Result Reply RvError) (trace : ℕ) → r ≡ Ok (Arrived trace) → IsAnswer old new e h r → GoesOn h e new
  goes-arrived _ trace same (quiet next steps silent stands) = absurd (cc)
  goes-arrived _ trace same (arrived next steps loud stands) = record { next = next; steps = steps; stands = stands }
  goes-arrived _ trace same (violated next s t tuple steps loud found unclean) = absurd (cc)
  goes-arrived _ trace same (refused_by r steps stands) = absurd (cc)
  goes-arrived _ trace same (spent takes stands) = absurd (cc)

-- ---- one event more

placed-more : (done : List Placed) (p : Placed) (more : List Placed) → (done ++ p ∷ []) ++ more ≡ done ++ p ∷ more
placed-more [] p more = refl
placed-more (q ∷ done) p more = ap (λ ps. q ∷ ps) (placed-more done p more)

events-more : (done : List Placed) (p : Placed) (more : List Event) → events_of (done ++ p ∷ []) ++ more ≡ events_of done ++ p.event ∷ more
events-more [] p more = refl
events-more (q ∷ done) p more = ap (λ es. q.event ∷ es) (events-more done p more)

events-append : (done more : List Placed) → events_of (done ++ more) ≡ events_of done ++ events_of more
events-append [] more = refl
events-append (q ∷ done) more = ap (λ es. q.event ∷ es) (events-append done more)

length-more : (done : List Placed) (p : Placed) → length (done ++ p ∷ []) ≡ suc (length done)
length-more [] p = refl
length-more (q ∷ done) p = ap suc (length-more done p)

-- The line of the event behind these is its own.
line-there : (done : List Placed) (p : Placed) (more : List Placed) → line_of (done ++ p ∷ more) (length done) ≡ p.line
line-there [] p more = refl
line-there (q ∷ done) p more = line-there done p more

-- ---- how many traces there are

shorter-save : (rule : Lengths) (drop : Bool) (specs : List Spec) (list : List Trace) (ss : List Saved) (p : Present)
    (ps : List Present) → AreSaves rule drop specs list ss (p ∷ ps) → length p.arrived ≤ length list
shorter-save rule drop specs list [] p ps are = absurd are
shorter-save rule drop specs list (s ∷ ss) p ps (save, rest) = save.fewer

-- An event brings at most one trace.
one-more : (m : Held) (h : History) (e : Event) (next : History) → StandsFor m h → step h e ≡ goes next
    → length next.present.arrived ≤ suc (length h.present.arrived)
one-more m h (event.Whole t) next stands e =
    let same : next ≡ with_trace h t h.present.sessions = cc in
    rw same (omega (arith, length-append h.present.arrived (t ∷ [])))
one-more m h (event.Letter n a) next stands e = by-letters (letters_of n h.present.sessions) e
  where
    by-test : (b : Bool) (r : Refusal) → (if b then goes (with_sessions h (extended n a h.present.sessions)) else refused r) ≡ goes next
        → length next.present.arrived ≤ suc (length h.present.arrived)
    by-test true r f = let same : next ≡ with_sessions h (extended n a h.present.sessions) = cc in rw same (omega arith)
    by-test false r f = absurd (cc)

    by-letters : (o : Option (List Letter)) → letter_step h n a o ≡ goes next → length next.present.arrived ≤ suc (length h.present.arrived)
    by-letters (Some letters) f = by-test (nat_lt (length letters) most_letters) too_long f
    by-letters None f = by-test (nat_lt (length h.present.sessions) most_sessions) too_many_sessions f
one-more m h (event.End n) next stands e = by-letters (letters_of n h.present.sessions) e
  where
    by-letters : (o : Option (List Letter)) → end_step h n o ≡ goes next → length next.present.arrived ≤ suc (length h.present.arrived)
    by-letters (Some letters) f =
        let same : next ≡ with_trace h letters (closed n h.present.sessions) = cc in
        rw same (omega (arith, length-append h.present.arrived (letters ∷ [])))
    by-letters None f = absurd (cc)
one-more m h event.Save next stands e = by-test (nat_lt (length h.saves) most_saves) e
  where
    by-test : (b : Bool) → (if b then goes (record { present = h.present; saves = h.present ∷ h.saves }) else refused too_many_saves) ≡ goes next
        → length next.present.arrived ≤ suc (length h.present.arrived)
    by-test true f = let same : next ≡ record { present = h.present; saves = h.present ∷ h.saves } = cc in rw same (omega arith)
    by-test false f = absurd (cc)
one-more m h event.Back next stands e = by-saves h.saves stands.saves e
  where
    by-saves : (ps : List Present) → AreSaves m.rule m.drop (specs_of m) h.present.arrived m.saves ps → back_step ps ≡ goes next
        → length next.present.arrived ≤ suc (length h.present.arrived)
    by-saves [] are f = absurd (cc)
    by-saves (p ∷ ps) are f =
        let same : next ≡ record { present = p; saves = ps } = cc in
        let le = shorter-save m.rule m.drop (specs_of m) h.present.arrived m.saves p ps are in
        rw same (omega (arith, le))

-- ---- one event after another

-- The events before these were given to the monitor, and none of them was refused or violated a formula: however the
-- calls with later ones stop, so do those with all.
pub record Passed (start left : Source) (first m : Held) : Type 0 where
  pub done : List Placed
  pub history : History
  pub stands : StandsFor m history
  pub specs_are : specs_of m ≡ specs_of first
  pub rule : m.rule ≡ first.rule
  pub dropping : m.drop ≡ first.drop
  pub few : length history.present.arrived + count_left left ≤ count_left start
  pub numbered : AreNumbered left
  pub good : AreGood start → AreGood left
  pub read : AreRead start left
  pub before : (more : List Placed) → AreLeft left more → AreLeft start (done ++ more)
  pub runs : (more : List Event) (stop : Stop) → Runs (length done) m more stop → Runs 0 first (events_of done ++ more) stop

pub passed-none : (start : Source) (m : Held) → StandsFor m empty_history → AreNumbered start → Passed start start m m
passed-none start m stands numbered = record {
  done = [];
  history = empty_history;
  stands = stands;
  specs_are = refl;
  rule = refl;
  dropping = refl;
  few = omega arith;
  numbered = numbered;
  good = λ good. good;
  read = λ found left. left;
  before = λ more left. left;
  runs = λ more stop runs. runs;
}

-- ---- how calls stop

-- the law of `rv_core` on calls: they stop as their events end, or memory ran out
abbrev pub RunsEnd : Type 0
RunsEnd =
    (k : ℕ) (m : Held) (h : History) (events : List Event) (stop : Stop) (x : Ending) → StandsFor m h → Runs k m events stop
    → Ends m.rule (specs_of m) k h events x → EndsAs m.rule (specs_of m) x stop ⊎ ((n : ℕ) × (stop ≡ error_at n errors.Memory))

-- Calls with the events of a source stop as these end, and that brings the answer.
stopped-comes : RunsEnd → (start : Source) (first : Held) (placed : List Placed) (stop : Stop) (a : RvAnswer) → StandsFor first empty_history
    → AreLeft start placed → Runs 0 first (events_of placed) stop → ((n : ℕ) → ¬ (stop ≡ error_at n errors.Memory))
    → ((x : Ending) → EndsAs first.rule (specs_of first) x stop → Brings first.rule first.drop (specs_of first) placed x a)
    → EventsCome first.rule first.drop (specs_of first) (AreLeft start) a
stopped-comes law start first placed stop a stands left runs no_memory brings =
    let (x, ends) = ends-some first.rule (specs_of first) 0 empty_history (events_of placed) in
    (placed, left, record { ending = x; ends = ends; brings = brings x (by x (law 0 first empty_history (events_of placed) stop x stands runs ends)) })
  where
    by : (x : Ending) → EndsAs first.rule (specs_of first) x stop ⊎ ((n : ℕ) × (stop ≡ error_at n errors.Memory))
        → EndsAs first.rule (specs_of first) x stop
    by x (inl as_stop) = as_stop
    by x (inr (n, memory)) = absurd (no_memory n memory)

violation-brings : (lengths : Lengths) (drop : Bool) (specs : List Spec) (placed : List Placed) (n s trace : ℕ) (tuple : List ℕ) (x : Ending)
    → EndsAs lengths specs x (violation_at n s trace tuple) → Brings lengths drop specs placed x (Ok (verdicts.Violation s trace tuple))
violation-brings lengths drop specs placed n s trace tuple (clean h) as_stop = absurd as_stop
violation-brings lengths drop specs placed n s trace tuple (refusal k r) as_stop = absurd as_stop
violation-brings lengths drop specs placed n s trace tuple (violation k t h) (at, same, found) =
    let P : ℕ → Type 0 = λ q. IsFound lengths specs h.present.arrived q trace tuple in
    record {
      trace = trace;
      tuple = tuple;
      found = subst P same found;
      answered = ap (λ q. Ok (verdicts.Violation q trace tuple)) same;
    }

refusal-brings : (lengths : Lengths) (drop : Bool) (specs : List Spec) (placed : List Placed) (n line : ℕ) (e : RvError) (x : Ending)
    → line_of placed n ≡ line → EndsAs lengths specs x (error_at n e) → Brings lengths drop specs placed x (Err (event_refusal line e))
refusal-brings lengths drop specs placed n line e (clean h) there as_stop = absurd as_stop
refusal-brings lengths drop specs placed n line e (violation k s h) there as_stop = absurd as_stop
refusal-brings lengths drop specs placed n line e (refusal k r) there (at, same) =
    ap (λ f. Err (event_refusal line f)) same
    ∙ ap (λ l. Err (event_refusal l (error_of r))) (sym there ∙ ap (line_of placed) at)

is-memory : (e : RvError) → (e ≡ errors.Memory) ⊎ (¬ (e ≡ errors.Memory))
is-memory errors.Memory = inl refl
is-memory errors.NoLetter = inr (λ e. absurd (cc))
is-memory errors.NoSave = inr (λ e. absurd (cc))
is-memory (errors.Limit kind) = inr (λ e. absurd (cc))

module _ (start old : Source) (first m : Held) (before : Passed start old first m) where
  -- what is read of the source that was left
  pub read-on : (new : Source) → AreRead old new → AreRead start new
  read-on new read found left = before.read found (read found left)

  module _ (placed : Placed) (new : Source) (m' : Held) (ahead : IsAhead old new placed) where
    -- all events, where these are behind the next one
    all-left : (more : List Placed) → AreLeft new more → AreLeft start (before.done ++ placed ∷ more)
    all-left more left = before.before (placed ∷ more) (ahead.before more left)

    module _ (reply : Result Reply RvError) (said : Answers m m' placed.event reply) where
      pub passed-more : AreRead old new → m'.drop ≡ m.drop → GoesOn before.history placed.event m'
          → ((more : List Event) (stop : Stop) → Runs (suc (length before.done)) m' more stop → Runs (length before.done) m (placed.event ∷ more) stop)
          → Passed start new first m'
      passed-more read drops goes_on call =
          let more_traces = one-more m before.history placed.event goes_on.next before.stands goes_on.steps in
          let fewer = ahead.fewer in
          let few = before.few in
          let N : ℕ → List Event → Stop → Type 0 = λ n more stop. Runs n m' more stop in
          record {
            done = before.done ++ placed ∷ [];
            history = goes_on.next;
            stands = goes_on.stands;
            specs_are = said.specs ∙ before.specs_are;
            rule = said.rule ∙ before.rule;
            dropping = drops ∙ before.dropping;
            few = omega (arith, more_traces, fewer, few);
            numbered = ahead.numbered;
            good = λ good. ahead.good (before.good good);
            read = read-on new read;
            before = λ more left.
                let P : List Placed → Type 0 = AreLeft start in
                subst P (sym (placed-more before.done placed more)) (all-left more left);
            runs = λ more stop runs.
                let P : List Event → Type 0 = λ es. Runs 0 first es stop in
                let Q : ℕ → Type 0 = λ n. Runs n m' more stop in
                subst P (sym (events-more before.done placed more))
                (before.runs (placed.event ∷ more) stop
                (call more stop (subst Q (length-more before.done placed) runs)));
          }

    -- Calls with all events, of which these are behind the next one, stop at it.
    all-run : (more : List Placed) (stop : Stop) → Runs (length before.done) m (placed.event ∷ events_of more) stop
        → Runs 0 first (events_of (before.done ++ placed ∷ more)) stop
    all-run more stop runs =
        let P : List Event → Type 0 = λ es. Runs 0 first es stop in
        subst P (sym (events-append before.done (placed ∷ more))) (before.runs (placed.event ∷ events_of more) stop runs)

    pub violation-comes : RunsEnd → (s trace : ℕ) (tuple : List ℕ) → Answers m m' placed.event (Ok (Violation s trace tuple)) → StandsFor first empty_history → AreGood start
        → EventsCome first.rule first.drop (specs_of first) (AreLeft start) (Ok (verdicts.Violation s trace tuple))
    violation-comes law s trace tuple said stands good =
        let (more, left) = some-left new (ahead.good (before.good good)) in
        let n = length before.done in
        stopped-comes law start first (before.done ++ placed ∷ more) (violation_at n s trace tuple) (Ok (verdicts.Violation s trace tuple)) stands
        (all-left more left) (all-run more (violation_at n s trace tuple) (at_violation n m m' placed.event (events_of more) s trace tuple said))
        (λ k e. absurd (cc))
        (violation-brings first.rule first.drop (specs_of first) (before.done ++ placed ∷ more) n s trace tuple)

    pub error-comes : RunsEnd → (e : RvError) → Answers m m' placed.event (Err e) → StandsFor first empty_history → AreGood start
        → (e ≡ errors.Memory) ⊎ EventsCome first.rule first.drop (specs_of first) (AreLeft start) (Err (event_refusal placed.line e))
    error-comes law e said stands good = by (is-memory e)
      where
        by : (e ≡ errors.Memory) ⊎ (¬ (e ≡ errors.Memory))
            → (e ≡ errors.Memory) ⊎ EventsCome first.rule first.drop (specs_of first) (AreLeft start) (Err (event_refusal placed.line e))
        by (inl memory) = inl memory
        by (inr other) =
            let (more, left) = some-left new (ahead.good (before.good good)) in
            let n = length before.done in
            inr
            (stopped-comes law start first (before.done ++ placed ∷ more) (error_at n e) (Err (event_refusal placed.line e)) stands
            (all-left more left) (all-run more (error_at n e) (at_error n m m' placed.event (events_of more) e said))
            (λ k same. other (let memory : e ≡ errors.Memory = cc in memory))
            (λ x. refusal-brings first.rule first.drop (specs_of first) (before.done ++ placed ∷ more) n placed.line e x
            (line-there before.done placed more)))

  pub passed-all : RunsEnd → StandsFor first empty_history → AreLeft old [] → IsThrough first.rule (specs_of first) start m
  passed-all law stands none =
      let all = before.done ++ [] in
      let n = length before.done in
      let P : List Event → Type 0 = λ es. Runs 0 first es (through m) in
      let (x, ends) = ends-some first.rule (specs_of first) 0 empty_history (events_of all) in
      by x ends
      (law 0 first empty_history (events_of all) (through m) x stands
      (subst P (sym (events-append before.done [])) (before.runs [] (through m) (at_end n m))) ends)
    where
      by : (x : Ending) → Ends first.rule (specs_of first) 0 empty_history (events_of (before.done ++ [])) x
          → EndsAs first.rule (specs_of first) x (through m) ⊎ ((n : ℕ) × (through m ≡ error_at n errors.Memory))
          → IsThrough first.rule (specs_of first) start m
      by (clean h) ends (inl stands_then) = record {
        placed = before.done ++ [];
        left = before.before [] none;
        history = h;
        ends = ends;
        stands = stands_then;
      }
      by (refusal k r) ends (inl as_stop) = absurd as_stop
      by (violation k s h) ends (inl as_stop) = absurd as_stop
      by x ends (inr (n, memory)) = absurd (cc)

-- ---- the answer

-- Behind the last event the events come to what the monitor says for each history that it stands for.
pub through-comes : (lengths : Lengths) (drop : Bool) (specs : List Spec) (source : Source) (m : Held) (a : RvAnswer)
    → IsThrough lengths specs source m → ((h : History) → StandsFor m h → IsNoViolation lengths drop specs h a)
    → EventsCome lengths drop specs (AreLeft source) a
through-comes lengths drop specs source m a is counts =
    (is.placed, is.left, record { ending = clean is.history; ends = is.ends; brings = counts is.history is.stands })

-- What was found with a monitor is answered by what it holds then, of the same formulas and rule.
pub watched-comes : (old new : Held) (source : Source) (w : Watched) (a : RvAnswer) → specs_of new ≡ specs_of old → new.rule ≡ old.rule
    → new.drop ≡ old.drop → IsWatched old.rule old.drop (specs_of old) source new w
    → (IsWatched new.rule new.drop (specs_of new) source new w → OrMemory a (EventsCome new.rule new.drop (specs_of new) (AreLeft source) a))
    → OrMemory a (EventsCome old.rule old.drop (specs_of old) (AreLeft source) a)
watched-comes old new source w a specs rule dropping watched answered =
    let P : List Spec → Type 0 = λ s. IsWatched old.rule old.drop s source new w in
    let Q : Lengths → Type 0 = λ l. IsWatched l old.drop (specs_of new) source new w in
    let R : Bool → Type 0 = λ d. IsWatched new.rule d (specs_of new) source new w in
    let S : List Spec → Type 0 = λ s. OrMemory a (EventsCome old.rule old.drop s (AreLeft source) a) in
    let T : Lengths → Type 0 = λ l. OrMemory a (EventsCome l old.drop (specs_of new) (AreLeft source) a) in
    let U : Bool → Type 0 = λ d. OrMemory a (EventsCome new.rule d (specs_of new) (AreLeft source) a) in
    subst S specs
    (subst T rule
    (subst U dropping (answered (subst R (sym dropping) (subst Q (sym rule) (subst P (sym specs) watched))))))
