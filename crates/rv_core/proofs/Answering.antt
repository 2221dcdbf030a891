-- The answer to each event is right for each history that the monitor stands for.
use Rattle.std.proofs.Common.{◌≡◌, ◌↔◌, ℕ, ◌+◌, ◌<◌, ◌≤◌, true, false, List, [], ◌∷◌, ◌++◌, length, reverse, Option, Some, None, is_some, IsTrue, Ok, Err, nat_eq, refl, sym, ap, ◌∙◌, subst, arith}
use Rattle.std.proofs.lemmas.Bool.{eqb-true}
use Rattle.std.proofs.lemmas.List.{reverse-append}
use Rattle.hy_base.specs.declared.limit.Kind.TheVariants as kind
use Rattle.hy_bits.specs.Letter.{Letter}
use Rattle.hy_finite.specs.declared.event.Event.{Event}
use Rattle.hy_finite.specs.declared.event.Event.TheVariants as event
use Rattle.hy_finite.specs.Traces.{Trace}
use Rattle.trace_trie.specs.Numbered.{Numbered}
use Rattle.dominance.specs.Dominance.{IsTrace}
use Rattle.rv_core.specs.declared.reply.Reply.{Reply}
use Rattle.rv_core.specs.declared.reply.Reply.TheVariants.{Quiet, Arrived, Violation}
use Rattle.rv_core.specs.declared.rv_error.RvError.{RvError}
use Rattle.rv_core.specs.declared.rv_error.RvError.TheVariants as error
use Rattle.rv_core.specs.declared.saved.Saved.{Saved}
use Rattle.rv_core.specs.declared.arrival.Arrival.{Arrival}
use Rattle.rv_core.specs.declared.arrival.Arrival.TheVariants as arrival
use Rattle.rv_core.specs.Histories.{BringsTrace, Session, History, too_long, too_many_sessions, too_many_saves, no_session, no_save, extended, closed, with_trace, refused, goes, step, arrives, back_step}
use Rattle.rv_core.specs.Opened.{Open, letters_in, Extends, longer, opened, IsNotTaken, Closes}
use Rattle.rv_core.specs.Held.{Held, AreSessions, StandsFor}
use Rattle.rv_core.specs.Arrivals.{AreNext, FirstFound, IsArrival, after_arrival}
use Rattle.rv_core.specs.Replies.{takes_memory, IsAnswer, quiet, arrived, violated, refused_by, spent, Answers, IsReplyTo}
use Rattle.rv_core.proofs.SessionLists.{sessions-extended, sessions-closed}
use Rattle.rv_core.proofs.Stepping.{goes-longer, goes-opened, refused-long, refused-many, goes-end, refused-end, goes-save, refused-save}
use Rattle.rv_core.proofs.Standing.{changed, with_saves, saved_of, back_to, arrival-stands, arrival-found, letter-stands, save-stands, back-stands, none-saved, saves-there}

-- ---- a letter

pub answered-letter : (m : Held) (n : ℕ) (a : Letter) (os : Open) → Extends n a m.sessions os
    → Answers m (changed m m.kept m.arrived os m.clean) (event.Letter n a) (Ok Quiet)
answered-letter m n a os x = record { rule = refl; specs = refl; right = λ h s. by x h s }
  where
    by : Extends n a m.sessions os → (h : History) → StandsFor m h
        → IsAnswer m (changed m m.kept m.arrived os m.clean) (event.Letter n a) h (Ok Quiet)
    by (longer word known short puts same) h s =
        quiet (record {
          present =
              record { arrived = h.present.arrived; sessions = extended n a h.present.sessions };
          saves = h.saves;
        })
        (goes-longer h n a word (sym (s.sessions.letters n) ∙ known) short) refl
        (letter-stands m os h (extended n a h.present.sessions) s
        (sessions-extended n a m.sessions os h.present.sessions s.sessions x))
    by (opened known few puts more) h s =
        quiet (record {
          present =
              record { arrived = h.present.arrived; sessions = extended n a h.present.sessions };
          saves = h.saves;
        })
        (goes-opened h n a (sym (s.sessions.letters n) ∙ known) (omega (arith, s.sessions.count)))
        refl
        (letter-stands m os h (extended n a h.present.sessions) s
        (sessions-extended n a m.sessions os h.present.sessions s.sessions x))

pub refused-letter : (m : Held) (n : ℕ) (a : Letter) (e : RvError) → IsNotTaken n m.sessions e
    → Answers m m (event.Letter n a) (Err e)
refused-letter m n a e no_letter =
    record { rule = refl; specs = refl; right = λ h s. by e no_letter h s }
  where
    by : (e : RvError) → IsNotTaken n m.sessions e → (h : History) → StandsFor m h
        → IsAnswer m m (event.Letter n a) h (Err e)
    by (error.Limit kind.Length) (word, known, long) h s =
        refused_by too_long (refused-long h n a word (sym (s.sessions.letters n) ∙ known) long) s
    by (error.Limit kind.Sessions) (known, many) h s =
        refused_by too_many_sessions
        (refused-many h n a (sym (s.sessions.letters n) ∙ known)
        (omega (arith, s.sessions.count))) s
    by (error.Limit _) x h s = absurd x
    by error.Memory x h s = spent refl s
    by error.NoLetter x h s = absurd x
    by error.NoSave x h s = absurd x

-- ---- a trace arrives

-- The event brings the trace, and leaves these open sessions.
abbrev pub Brings : Held → Event → Trace → Open → Type 0
Brings m e t os =
    (h : History) → StandsFor m h
    → (ss : List Session) × (step h e ≡ goes (with_trace h t ss)) × AreSessions os ss

pub whole-brings : (m : Held) (t : Trace) → Brings m (event.Whole t) t m.sessions
whole-brings m t h s = (h.present.sessions, refl, s.sessions)

pub end-brings : (m : Held) (n : ℕ) (word : Trace) (os : Open) → letters_in n m.sessions ≡ Some word
    → Closes n m.sessions os
    → Brings m (event.End n) word os
end-brings m n word os known closes h s = (
  closed n h.present.sessions,
  goes-end h n word (sym (s.sessions.letters n) ∙ known),
  sessions-closed n word m.sessions os h.present.sessions s.sessions known closes,
)

module _ (m : Held) (e : Event) (t : Trace) (os : Open) (brings : Brings m e t os)
    (is : arrives e ≡ true) (more : IsTrace t) where
  answered-clean : (kept : List (List Numbered))
      → AreNext m.rule m.drop m.machines m.arrived t m.kept kept
      → Answers m (changed m kept (m.arrived + 1) os m.clean) e (Ok (Arrived m.arrived))
  answered-clean kept next = record {
    rule = refl;
    specs = refl;
    right = λ h s.
        let (ss, goes-on, sessions) = brings h s in
        let P : ℕ → Type 0 =
        λ n. IsAnswer m (changed m kept (m.arrived + 1) os m.clean) e h (Ok (Arrived n)) in
        subst P (sym s.count)
        (arrived (with_trace h t ss) goes-on is
        (arrival-stands m kept os h t ss s more next sessions));
  }

  answered-violated : (k : ℕ) (tuple : List ℕ)
      → FirstFound m.rule m.machines m.arrived t m.kept k tuple
      → Answers m (changed m m.kept (m.arrived + 1) os false) e (Ok (Violation k m.arrived tuple))
  answered-violated k tuple found = record {
    rule = refl;
    specs = refl;
    right = λ h s.
        let (ss, goes-on, sessions) = brings h s in
        violated (with_trace h t ss) k m.arrived tuple goes-on is
        (arrival-found m h t k tuple s more found) refl;
  }

  pub answered-arrival : (a : Arrival) (reply : Reply) → IsReplyTo m.arrived a reply
      → IsArrival m t a
      → Answers m (after_arrival (changed m m.kept m.arrived os m.clean) a) e (Ok reply)
  answered-arrival arrival.Same reply r next =
      let P : Reply → Type 0 =
      λ q. Answers m (changed m m.kept (m.arrived + 1) os m.clean) e (Ok q) in
      subst P (sym r) (answered-clean m.kept next)
  answered-arrival (arrival.Clean kept) reply r next =
      let P : Reply → Type 0 =
      λ q. Answers m (changed m kept (m.arrived + 1) os m.clean) e (Ok q) in
      subst P (sym r) (answered-clean kept next)
  answered-arrival (arrival.Violation k tuple) reply r first =
      let P : Reply → Type 0 =
      λ q. Answers m (changed m m.kept (m.arrived + 1) os false) e (Ok q) in
      subst P (sym r) (answered-violated k tuple first)

pub memory-answer : (m : Held) (e : Event) → takes_memory e ≡ true
    → Answers m m e (Err error.Memory)
memory-answer m e takes = record { rule = refl; specs = refl; right = λ h s. spent takes s }

-- also behind a step by which what is kept stays the same lists
pub memory-kept : (m : Held) (e : Event) (kept : List (List Numbered)) → takes_memory e ≡ true
    → kept ≡ m.kept → Answers m (record m { kept = kept }) e (Err error.Memory)
memory-kept m e kept takes same =
    let P : List (List Numbered) → Type 0 =
    λ ks. Answers m (record m { kept = ks }) e (Err error.Memory) in
    subst P (sym same) (memory-answer m e takes)

pub no-end : (m : Held) (n : ℕ) → letters_in n m.sessions ≡ None
    → Answers m m (event.End n) (Err error.NoLetter)
no-end m n none = record {
  rule = refl;
  specs = refl;
  right = λ h s. refused_by no_session (refused-end h n (sym (s.sessions.letters n) ∙ none)) s;
}

-- Where no letters are known there are none.
pub none-known : (word : Option Trace) → ((t : Trace) → ¬ (word ≡ Some t)) → word ≡ None
none-known None none = refl
none-known (Some t) none = absurd (none t refl)

-- ---- whether a trace comes

pub whole-comes : (h : History) (t : Trace) → BringsTrace h (event.Whole t)
whole-comes h t = (refl, (with_trace h t h.present.sessions, refl))

-- By the end of a session one comes where letters of it are known.
pub end-comes : (m : Held) (n : ℕ) (word : Option Trace) → word ≡ letters_in n m.sessions
    → IsTrue (is_some word) ↔ ((t : Trace) × (letters_in n m.sessions ≡ Some t))
end-comes m n None e =
    (λ no. absurd (cc), λ (t, known). absurd (let clash : None ≡ Some t = e ∙ known in cc))
end-comes m n (Some t) e = (λ yes. (t, sym e), λ came. refl)

pub end-leads : (m : Held) (n : ℕ) (word : Option Trace) → word ≡ letters_in n m.sessions
    → (h : History) → StandsFor m h → IsTrue (is_some word) ↔ BringsTrace h (event.End n)
end-leads m n None e h s = (
  λ no. absurd (cc),
  λ (loud, (next, on)).
      let not_open = refused-end h n (sym (s.sessions.letters n) ∙ sym e) in
      absurd (let clash : refused no_session ≡ goes next = sym not_open ∙ on in cc),
)
end-leads m n (Some t) e h s = (
  λ yes.
      let on = goes-end h n t (sym (s.sessions.letters n) ∙ sym e) in
      (refl, (with_trace h t (closed n h.present.sessions), on)),
  λ came. refl,
)

-- ---- a save and a back

pub answered-save : (m : Held) → length m.saves < 64
    → Answers m (with_saves m (saved_of m ∷ m.saves)) event.Save (Ok Quiet)
answered-save m few = record {
  rule = refl;
  specs = refl;
  right = λ h s.
      quiet (record { present = h.present; saves = h.present ∷ h.saves })
      (goes-save h (omega (arith, saves-there m h s, few))) refl (save-stands m h s);
}

pub many-saves : (m : Held) → 64 ≤ length m.saves
    → Answers m m event.Save (Err (error.Limit kind.Saves))
many-saves m many = record {
  rule = refl;
  specs = refl;
  right = λ h s.
      refused_by too_many_saves (refused-save h (omega (arith, saves-there m h s, many))) s;
}

pub answered-back : (m : Held) (x : Saved) (xs : List Saved) → m.saves ≡ x ∷ xs
    → Answers m (back_to m x xs) event.Back (Ok Quiet)
answered-back m x xs e = record {
  rule = refl;
  specs = refl;
  right = λ h s.
      let (p, ps, known, stands) = back-stands m x xs h s e in
      quiet (record { present = p; saves = ps }) (ap back_step known) refl stands;
}

pub no-back : (m : Held) → m.saves ≡ [] → Answers m m event.Back (Err error.NoSave)
no-back m none = record {
  rule = refl;
  specs = refl;
  right = λ h s. refused_by no_save (ap back_step (none-saved m h s none)) s;
}

-- ---- saves, the last one first

pub reverse-push : (saves : List Saved) (x : Saved) → reverse (saves ++ x ∷ []) ≡ x ∷ reverse saves
reverse-push saves x = reverse-append saves (x ∷ [])

pub none-left : (saves : List Saved) → nat_eq (length saves) 0 ≡ true → reverse saves ≡ []
none-left saves e = ap reverse (by saves (eqb-true (length saves) 0 e))
  where
    by : (xs : List Saved) → length xs ≡ 0 → xs ≡ []
    by [] f = refl
    by (x ∷ xs) f = absurd (omega arith)
