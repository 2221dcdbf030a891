-- Tuples with the given trace at one place that have no position left.
use Rattle.std.proofs.Common.{◌≡◌, ℕ, zero, suc, ◌<◌, true, List, [], ◌∷◌, length, set, slice_get, get_or, Option, Some, None, IfSome, IfNone, sym, ap, subst, arith, length-set}
use Rattle.std.specs.List.{Contains}
use Rattle.hy_base.proofs.Members.{contains-here, contains-one}
use Rattle.hy_finite.specs.declared.lengths.Lengths.{Lengths}
use Rattle.hy_finite.specs.Traces.{Trace, judged}
use Rattle.trace_trie.specs.Numbered.{Numbered}
use Rattle.tuple_walk.specs.Finds.{numbers_of}
use Rattle.tuple_walk.specs.Places.{AreSome}
use Rattle.tuple_walk.specs.Searches.{AreFrom, IsTupleOf, Sought, AreReady, AreStopped, CanStop, AreEnded}
use Rattle.tuple_walk.proofs.Choosing.{from-set, tuple-set}
use Rattle.tuple_walk.proofs.Ending.{ended-from, stop-judged, goes-on}
use Rattle.tuple_walk.proofs.Placing.{some-set}

-- the member of a list that has one
pub at-only : (ls : List (List Numbered)) (i : ℕ) (x : Numbered) (ps : List Numbered)
    → i < length ls → AreFrom (set ls i (x ∷ [])) ps → slice_get ps i ≡ Some x
at-only [] i x ps lt h = absurd (omega arith)
at-only (l ∷ ls) zero x [] lt h = absurd h
at-only (l ∷ ls) (suc i) x [] lt h = absurd h
at-only (l ∷ ls) zero x (p ∷ ps) lt h = ap (λ (q : Numbered). Some q) (sym (contains-one x p h.0))
at-only (l ∷ ls) (suc i) x (p ∷ ps) lt h = at-only ls i x ps (omega arith) h.1

-- members of a list of which some are those of one
pub only-part : (ls : List (List Numbered)) (i : ℕ) (x : Numbered) → Contains (get_or ls i []) x
    → (y : Numbered) → Contains (x ∷ []) y → Contains (get_or ls i []) y
only-part ls i x c y d =
    let P : Numbered → Type 0 = Contains (get_or ls i []) in
    subst P (contains-one x y d) c

get-is : (ts : List Trace) (i : ℕ) (t : Trace) → slice_get ts i ≡ Some t → t ≡ get_or ts i []
get-is [] i t e = absurd (cc)
get-is (u ∷ ts) zero t e = let is : u ≡ t = cc in sym is
get-is (u ∷ ts) (suc i) t e = get-is ts i t e

-- a tuple with the trace there is one of those with it alone
pub tuple-only : (ls : List (List Numbered)) (i : ℕ) (x : Numbered) (ts : List Trace)
    → i < length ls → IsTupleOf ls ts → slice_get ts i ≡ Some x.1
    → IsTupleOf (set ls i (x ∷ [])) ts
tuple-only ls i x ts lt h at =
    let P : Trace → Type 0 = Contains (x.1 ∷ []) in
    tuple-set ls i (x ∷ []) ts lt h (subst P (get-is ts i x.1 at) (contains-here x.1 []))

module _ (s : Sought) (lengths : Lengths) (ls : List (List Numbered)) (ready : AreReady s ls)
    (i : ℕ) (lt : i < length ls) (marked : slice_get s.marks i ≡ Some true) where
  abbrev alone : List (List Numbered)
  alone = set ls i (s.given ∷ [])

  among : Contains (get_or ls i []) s.given
  among = ready.there i marked lt

  pub stopped-with : (r : Option (List ℕ))
      → IfSome r (λ numbers. (ps : List Numbered) × AreEnded alone ps × (numbers_of ps ≡ numbers))
      → CanStop lengths alone → IfSome r (AreStopped s lengths ls)
  stopped-with None some can = tt
  stopped-with (Some numbers) (ps, h, e) can =
      let from = ended-from alone ps h in
      record {
        pairs = ps;
        members = from-set ls i (s.given ∷ []) ps (only-part ls i s.given among) from;
        has = (i, marked, at-only ls i s.given ps lt from);
        same = e;
        over = stop-judged lengths alone ps can h;
      }

  pub some-stopped : (r : Option (List ℕ)) → IfNone r (¬ AreSome alone) → (P : Type 0) → IfNone r P
  some-stopped (Some numbers) none P = tt
  some-stopped None none P =
      absurd (none (some-set ls i (s.given ∷ []) ready.some (omega arith)))

  pub goes-with : (¬ CanStop lengths alone) → (ts : List Trace) → IsTupleOf ls ts
      → slice_get ts i ≡ Some s.given.1 → ¬ (judged lengths ts ≡ 0)
  goes-with none ts h at =
      goes-on lengths alone (omega (arith, length-set ls i (s.given ∷ []), lt)) none ts
      (tuple-only ls i s.given ts lt h at)
