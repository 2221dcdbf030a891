-- What an event leads to where it is not refused.
use Rattle.std.proofs.Common.{◌≡◌, ℕ, ◌<◌, ◌≤◌, Bool, true, false, cond, nat_lt, List, [], ◌∷◌, length, Option, Some, None, refl, ap, ◌∙◌}
use Rattle.std.proofs.lemmas.Bool.{lt-ltb, le-ltb}
use Rattle.hy_bits.specs.Letter.{Letter}
use Rattle.hy_finite.specs.Traces.{Trace, most_letters}
use Rattle.hy_finite.specs.declared.event.Event.TheVariants as event
use Rattle.rv_core.specs.Histories.{Present, History, most_sessions, most_saves, letters_of, extended, closed, with_sessions, with_trace, refused, goes, too_long, too_many_sessions, too_many_saves, no_session, step, letter_step, end_step, back_step}

pub step-whole : (h : History) (t : Trace) (next : History) → step h (event.Whole t) ≡ goes next
    → next ≡ with_trace h t h.present.sessions
step-whole h t next e = cc

pub step-letter : (h : History) (n : ℕ) (a : Letter) (next : History)
    → step h (event.Letter n a) ≡ goes next
    → next ≡ with_sessions h (extended n a h.present.sessions)
step-letter h n a next e = opened (letters_of n h.present.sessions) e
  where
    short : (b : Bool)
        → cond b (goes (with_sessions h (extended n a h.present.sessions)))
        (refused too_long) ≡ goes next
        → next ≡ with_sessions h (extended n a h.present.sessions)
    short true e = cc
    short false e = absurd (cc)

    few : (b : Bool)
        → cond b (goes (with_sessions h (extended n a h.present.sessions)))
        (refused too_many_sessions) ≡ goes next
        → next ≡ with_sessions h (extended n a h.present.sessions)
    few true e = cc
    few false e = absurd (cc)

    opened : (o : Option (List Letter)) → letter_step h n a o ≡ goes next
        → next ≡ with_sessions h (extended n a h.present.sessions)
    opened (Some word) e = short (nat_lt (length word) most_letters) e
    opened None e = few (nat_lt (length h.present.sessions) most_sessions) e

pub step-end : (h : History) (n : ℕ) (next : History) → step h (event.End n) ≡ goes next
    → (word : Trace) × (letters_of n h.present.sessions ≡ Some word) ×
    (next ≡ with_trace h word (closed n h.present.sessions))
step-end h n next e = opened (letters_of n h.present.sessions) refl e
  where
    opened : (o : Option (List Letter)) → letters_of n h.present.sessions ≡ o
        → end_step h n o ≡ goes next
        → (word : Trace) × (letters_of n h.present.sessions ≡ Some word) ×
        (next ≡ with_trace h word (closed n h.present.sessions))
    opened (Some word) known e = (word, known, cc)
    opened None known e = absurd (cc)

pub step-save : (h next : History) → step h event.Save ≡ goes next
    → next ≡ record { present = h.present; saves = h.present ∷ h.saves }
step-save h next e = few (nat_lt (length h.saves) most_saves) e
  where
    few : (b : Bool)
        → cond b (goes (record { present = h.present; saves = h.present ∷ h.saves }))
        (refused too_many_saves) ≡ goes next
        → next ≡ record { present = h.present; saves = h.present ∷ h.saves }
    few true e = cc
    few false e = absurd (cc)

pub step-back : (h next : History) → step h event.Back ≡ goes next
    → (p : Present) × (ps : List Present) × (h.saves ≡ p ∷ ps)
    × (next ≡ record { present = p; saves = ps })
step-back h next e = popped h.saves refl e
  where
    popped : (saves : List Present) → h.saves ≡ saves → back_step saves ≡ goes next
        → (p : Present) × (ps : List Present) × (h.saves ≡ p ∷ ps)
        × (next ≡ record { present = p; saves = ps })
    popped [] known e = absurd (cc)
    popped (p ∷ ps) known e = (p, ps, known, cc)

-- ---- when an event is refused, and when not

module _ (h : History) (n : ℕ) (a : Letter) where
  -- of an open session its length decides
  open-step : (word : List Letter) → letters_of n h.present.sessions ≡ Some word → (b : Bool)
      → nat_lt (length word) most_letters ≡ b → step h (event.Letter n a)
      ≡ cond b (goes (with_sessions h (extended n a h.present.sessions))) (refused too_long)
  open-step word known b fits =
      ap (letter_step h n a) known
      ∙ ap (λ x. cond x (goes (with_sessions h (extended n a h.present.sessions))) (refused too_long))
      fits

  -- of one that is not open how many are
  new-step : letters_of n h.present.sessions ≡ None → (b : Bool)
      → nat_lt (length h.present.sessions) most_sessions ≡ b → step h (event.Letter n a)
      ≡ cond b (goes (with_sessions h (extended n a h.present.sessions)))
      (refused too_many_sessions)
  new-step known b few =
      ap (letter_step h n a) known
      ∙ ap (λ x. cond x (goes (with_sessions h (extended n a h.present.sessions)))
      (refused too_many_sessions)) few

  pub goes-longer : (word : List Letter) → letters_of n h.present.sessions ≡ Some word
      → length word < 1024
      → step h (event.Letter n a) ≡ goes (with_sessions h (extended n a h.present.sessions))
  goes-longer word known short = open-step word known true (lt-ltb (length word) most_letters short)

  pub goes-opened : letters_of n h.present.sessions ≡ None → length h.present.sessions < 1024
      → step h (event.Letter n a) ≡ goes (with_sessions h (extended n a h.present.sessions))
  goes-opened known few =
      new-step known true (lt-ltb (length h.present.sessions) most_sessions few)

  pub refused-long : (word : List Letter) → letters_of n h.present.sessions ≡ Some word
      → 1024 ≤ length word → step h (event.Letter n a) ≡ refused too_long
  refused-long word known long = open-step word known false (le-ltb (length word) most_letters long)

  pub refused-many : letters_of n h.present.sessions ≡ None → 1024 ≤ length h.present.sessions
      → step h (event.Letter n a) ≡ refused too_many_sessions
  refused-many known many =
      new-step known false (le-ltb (length h.present.sessions) most_sessions many)

pub goes-end : (h : History) (n : ℕ) (word : Trace) → letters_of n h.present.sessions ≡ Some word
    → step h (event.End n) ≡ goes (with_trace h word (closed n h.present.sessions))
goes-end h n word known = ap (end_step h n) known

pub refused-end : (h : History) (n : ℕ) → letters_of n h.present.sessions ≡ None
    → step h (event.End n) ≡ refused no_session
refused-end h n known = ap (end_step h n) known

pub goes-save : (h : History) → length h.saves < 64
    → step h event.Save ≡ goes (record { present = h.present; saves = h.present ∷ h.saves })
goes-save h few =
    let fits : nat_lt (length h.saves) most_saves ≡ true = lt-ltb (length h.saves) most_saves few in
    ap (λ b. cond b (goes (record { present = h.present; saves = h.present ∷ h.saves }))
    (refused too_many_saves)) fits

pub refused-save : (h : History) → 64 ≤ length h.saves → step h event.Save ≡ refused too_many_saves
refused-save h many =
    let full : nat_lt (length h.saves) most_saves ≡ false =
    le-ltb (length h.saves) most_saves many in
    ap (λ b. cond b (goes (record { present = h.present; saves = h.present ∷ h.saves }))
    (refused too_many_saves)) full
