-- Where tuples have no position left.
use Rattle.std.proofs.Common.{◌≡◌, ℕ, zero, suc, ◌<◌, true, List, [], ◌∷◌, length, map, inl, inr, refl, sym, ap, ◌∙◌, subst, arith}
use Rattle.std.specs.List.{Contains}
use Rattle.hy_base.proofs.Members.{contains-here, contains-later, contains-cases, contains-none, map-from}
use Rattle.hy_formula.specs.Quantifiers.{Each}
use Rattle.hy_finite.specs.declared.lengths.Lengths.{Lengths}
use Rattle.hy_finite.specs.declared.lengths.Lengths.TheVariants.{Min, Pad}
use Rattle.hy_finite.specs.Traces.{Trace, judged, trace_words}
use Rattle.fin_monitor.specs.Machines.{Machine, IsMonitor, next_state, is_accepting, settled_state, code_at}
use Rattle.fin_monitor.proofs.CodeBits.{code-lt}
use Rattle.trace_trie.specs.Numbered.{Numbered, tail}
use Rattle.tuple_walk.specs.Finds.{numbers_of, traces_of}
use Rattle.tuple_walk.specs.Places.{HasEnded}
use Rattle.tuple_walk.specs.Searches.{state_over, AreFrom, IsTupleOf, HasAt, Sought, IsTupleIn, AreAccepted, IsAccepted, CanStop, AreEnded, AreStopped}
use Rattle.tuple_walk.proofs.Stepping.{all-judged}
use Rattle.tuple_walk.proofs.Choosing.{length-tuple}

pub ended-trace : (l : List Numbered) → Contains (traces_of l) [] → HasEnded l
ended-trace l c =
    let ((n, t), d, e) = map-from (λ (p : Numbered). p.1) l [] c in
    let P : Trace → Type 0 = λ u. Contains l (n, u) in
    (n, subst P e d)

none-ended : (ls : List (List Numbered)) (ts : List Trace)
    → ((l : List Numbered) → Contains ls l → ¬ HasEnded l) → IsTupleOf ls ts
    → Each (λ (t : Trace). 0 < length t) ts
none-ended [] [] none_so h = tt
none-ended [] (t ∷ ts) none_so h = absurd h
none-ended (l ∷ ls) [] none_so h = absurd h
none-ended (l ∷ ls) ([] ∷ ts) none_so h =
    absurd (none_so l (contains-here l ls) (ended-trace l h.0))
none-ended (l ∷ ls) ((a ∷ t) ∷ ts) none_so h =
    (omega arith, none-ended ls ts (λ k c. none_so k (contains-later l k ls c)) h.1)

all-ended : (ls : List (List Numbered)) (ts : List Trace) → IsTupleOf ls ts
    → judged Pad ts ≡ 0 → Each HasEnded ls
all-ended [] [] h e = tt
all-ended [] (t ∷ ts) h e = absurd h
all-ended (l ∷ ls) [] h e = absurd h
all-ended (l ∷ []) ([] ∷ []) h e = (ended-trace l h.0, tt)
all-ended (l ∷ []) ((a ∷ t) ∷ []) h e = absurd (omega arith)
all-ended (l ∷ []) (t ∷ u ∷ ts) h e = absurd h.1
all-ended (l ∷ k ∷ ls) (t ∷ []) h e = absurd h.1
all-ended (l ∷ k ∷ ls) ([] ∷ u ∷ ts) h e =
    (ended-trace l h.0, all-ended (k ∷ ls) (u ∷ ts) h.1 (omega arith))
all-ended (l ∷ k ∷ ls) ((a ∷ t) ∷ u ∷ ts) h e = absurd (omega arith)

-- where none can stop each tuple has a position
pub goes-on : (lengths : Lengths) (ls : List (List Numbered)) → 0 < length ls
    → (¬ CanStop lengths ls) → (ts : List Trace) → IsTupleOf ls ts → ¬ (judged lengths ts ≡ 0)
goes-on Min ls some none_so ts h e =
    let long = all-judged Min ts (omega (arith, length-tuple ls ts h))
    (none-ended ls ts (λ l c ended. none_so (l, c, ended)) h) in
    omega arith
goes-on Pad ls some none_so ts h e = none_so (all-ended ls ts h e)

pub ended-from : (ls : List (List Numbered)) (ps : List Numbered) → AreEnded ls ps → AreFrom ls ps
ended-from [] [] h = tt
ended-from [] (p ∷ ps) h = absurd h
ended-from (l ∷ ls) [] h = absurd h
ended-from (l ∷ ls) (p ∷ ps) h = (h.0, ended-from ls ps h.2)

one-ended : (ls : List (List Numbered)) (ps : List Numbered) → AreEnded ls ps
    → (l : List Numbered) → Contains ls l → HasEnded l → judged Min (traces_of ps) ≡ 0
one-ended [] ps h l c e = absurd (contains-none l c)
one-ended (k ∷ ls) [] h l c e = absurd h
one-ended (k ∷ []) (p ∷ []) h l c e = elim (contains-cases k l [] c) [
  | inl is ↦ ap length (h.1 (subst HasEnded (sym is) e))
  | inr later ↦ absurd (contains-none l later)
]
one-ended (k ∷ []) (p ∷ o ∷ ps) h l c e = absurd h.2
one-ended (k ∷ j ∷ ls) (p ∷ []) h l c e = absurd h.2
one-ended (k ∷ j ∷ ls) (p ∷ o ∷ ps) h l c e = elim (contains-cases k l (j ∷ ls) c) [
  | inl is ↦ omega (arith, ap length (h.1 (subst HasEnded (sym is) e)))
  | inr later ↦ omega (arith, one-ended (j ∷ ls) (o ∷ ps) h.2 l later e)
]

each-ended : (ls : List (List Numbered)) (ps : List Numbered) → AreEnded ls ps → Each HasEnded ls
    → judged Pad (traces_of ps) ≡ 0
each-ended [] [] h e = refl
each-ended [] (p ∷ ps) h e = absurd h
each-ended (l ∷ ls) [] h e = absurd h
each-ended (l ∷ []) (p ∷ []) h e = ap length (h.1 e.0)
each-ended (l ∷ []) (p ∷ o ∷ ps) h e = absurd h.2
each-ended (l ∷ k ∷ ls) (p ∷ []) h e = absurd h.2
each-ended (l ∷ k ∷ ls) (p ∷ o ∷ ps) h e =
    omega (arith, ap length (h.1 e.0), each-ended (k ∷ ls) (o ∷ ps) h.2 e.1)

pub stop-judged : (lengths : Lengths) (ls : List (List Numbered)) (ps : List Numbered)
    → CanStop lengths ls → AreEnded ls ps → judged lengths (traces_of ps) ≡ 0
stop-judged Min ls ps (l, c, e) h = one-ended ls ps h l c e
stop-judged Pad ls ps can h = each-ended ls ps h can

-- members that have ended where some have
pub ended-stopped : (s : Sought) (lengths : Lengths) (ls : List (List Numbered)) (numbers : List ℕ)
    → CanStop lengths ls → (ps : List Numbered) → AreEnded ls ps → HasAt s.marks s.given ps
    → numbers_of ps ≡ numbers → AreStopped s lengths ls numbers
ended-stopped s lengths ls numbers can ps h has e = record {
  pairs = ps;
  members = ended-from ls ps h;
  has = has;
  same = e;
  over = stop-judged lengths ls ps can h;
}

module _ (s : Sought) (m : Machine) (lengths : Lengths) (q : ℕ) (ls : List (List Numbered)) where
  pub from-none : AreAccepted s m lengths q 1 ls
      → ((ts : List Trace) → IsTupleIn s ls ts → judged lengths ts ≡ 0 → is_accepting m q ≡ true)
      → AreAccepted s m lengths q 0 ls
  from-none accepted here = λ ts h le. at ts h (judged lengths ts) refl
    where
      at : (ts : List Trace) → IsTupleIn s ls ts → (k : ℕ) → judged lengths ts ≡ k
          → IsAccepted m lengths q ts
      at ts h zero e = ap (λ k. is_accepting m (state_over m q ts k)) e ∙ here ts h e
      at ts h (suc k) e = accepted ts h (omega arith)

-- ---- the settled state

pub settled-over : (m : Machine) → IsMonitor m → (k q : ℕ) (ts : List Trace) → q ≡ settled_state m
    → state_over m q ts k ≡ settled_state m
settled-over m is zero q ts e = e
settled-over m is (suc k) q ts e =
    let code = code_at m (trace_words ts) 0 in
    settled-over m is k (next_state m q code) (map tail ts)
    (ap (λ x. next_state m x code) e
    ∙ is.stays code (code-lt (λ name variable. trace_words ts name variable 0) m.atoms))

pub settled-accepted : (m : Machine) → IsMonitor m → (lengths : Lengths) (q : ℕ)
    → q ≡ settled_state m → (s : Sought) (ls : List (List Numbered)) → AreAccepted s m lengths q 0 ls
settled-accepted m is lengths q e s ls = λ ts h le.
    ap (is_accepting m) (settled-over m is (judged lengths ts) q ts e) ∙ is.settled
