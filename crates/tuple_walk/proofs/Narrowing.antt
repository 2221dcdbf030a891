-- The given trace alone at the one place that is marked.
use Rattle.std.proofs.Common.{◌≡◌, ℕ, ◌<◌, ◌≤◌, Bool, List, [], ◌∷◌, length, set, get_or, slice_get, Option, Some, None, inl, inr, sym, subst, arith}
use Rattle.std.specs.List.{Contains}
use Rattle.std.proofs.lemmas.List.{length-set, get_or-set_same}
use Rattle.std.proofs.lemmas.Option.{slice_get_within, get_or_from_slice_get}
use Rattle.hy_base.proofs.Members.{contains-here, contains-one}
use Rattle.hy_formula.proofs.Each.{each-like}
use Rattle.hy_finite.specs.declared.lengths.Lengths.{Lengths}
use Rattle.hy_finite.specs.Traces.{Trace}
use Rattle.fin_monitor.specs.Machines.{Machine}
use Rattle.trace_trie.specs.Numbered.{Numbered}
use Rattle.tuple_walk.specs.Finds.{traces_of}
use Rattle.tuple_walk.specs.Searches.{HasAt, Sought, IsTupleIn, IsPrefixIn, IsSearch, AreSteps, AreReady, IsOnly, IsNarrowed}
use Rattle.tuple_walk.proofs.Choosing.{from-set, tuple-set, prefix-unset, length-tuple}
use Rattle.tuple_walk.proofs.Longest.{longest, longest-set}
use Rattle.tuple_walk.proofs.Placing.{some-set}

-- where the same place alone is marked
has-only : {A : Type 0} (marks others : List Bool) (i : ℕ) → IsOnly marks i → IsOnly others i
    → (x : A) (xs : List A) → HasAt marks x xs → HasAt others x xs
has-only marks others i only also x xs (j, marked, at) =
    let P : ℕ → Type 0 = λ k. slice_get xs k ≡ Some x in
    (i, also.0, subst P (only.1 j marked) at)

module _ (s : Sought) (marks : List Bool) (i : ℕ) (only : IsOnly s.marks i)
    (also : IsOnly marks i) (ls : List (List Numbered))
    (there : Contains (get_or ls i []) s.given) where
  abbrev like : Sought
  like = record { marks = marks; given = s.given }

  abbrev alone : List (List Numbered)
  alone = set ls i (s.given ∷ [])

  one-part : (p : Numbered) → Contains (s.given ∷ []) p → Contains (get_or ls i []) p
  one-part p c =
      let P : Numbered → Type 0 = Contains (get_or ls i []) in
      subst P (contains-one s.given p c) there

  tuple-alone : (ts : List Trace) → IsTupleIn s ls ts → IsTupleIn like alone ts
  tuple-alone ts (h, has) =
      let (j, marked, at) = has-only s.marks marks i only also s.given.1 ts has in
      let P : Trace → Type 0 = Contains (traces_of (s.given ∷ [])) in
      let Q : ℕ → Type 0 = λ k. slice_get ts k ≡ Some s.given.1 in
      let here = subst Q (also.1 j marked) at in
      let lt : i < length ls =
      omega (arith, slice_get_within ts i s.given.1 here, length-tuple ls ts h) in (
        tuple-set ls i (s.given ∷ []) ts lt h
            (subst P (sym (get_or_from_slice_get ts i s.given.1 [] here))
            (contains-here s.given.1 [])),
        (j, marked, at),
      )

  pub alone-search : (m : Machine) (lengths : Lengths) (q least : ℕ) (r : Option (List ℕ))
      → IsSearch like m lengths q least alone r → IsSearch s m lengths q least ls r
  alone-search m lengths q least (Some numbers) r = record {
    pairs = r.pairs;
    members = from-set ls i (s.given ∷ []) r.pairs one-part r.members;
    has = has-only marks s.marks i also only s.given r.pairs r.has;
    same = r.same;
    rejected = r.rejected;
  }
  alone-search m lengths q least None accepted = λ ts h le. accepted ts (tuple-alone ts h) le

  pub alone-steps : (lengths : Lengths) (made : ℕ) → AreSteps like lengths alone made
      → AreSteps s lengths ls made
  alone-steps lengths made t = record {
    visited = t.visited;
    apart = t.apart;
    inside = each-like (IsPrefixIn like lengths alone) (IsPrefixIn s lengths ls)
        (λ rows before.
        let (ts, h, pre) = prefix-unset like lengths ls i (s.given ∷ []) one-part rows before in
        (ts, (h.0, has-only marks s.marks i also only s.given.1 ts h.1), pre)) t.visited t.inside;
    many = t.many;
  }

-- ---- where something is left at each place

pub ready-within : (s : Sought) (ls : List (List Numbered)) → AreReady s ls → (i : ℕ)
    → IsOnly s.marks i → i < length ls
ready-within s ls ready i only =
    let (j, marked, lt) = ready.place in
    let P : ℕ → Type 0 = λ k. k < length ls in
    subst P (only.1 j marked) lt

pub ready-there : (s : Sought) (ls : List (List Numbered)) → AreReady s ls → (i : ℕ)
    → IsOnly s.marks i → Contains (get_or ls i []) s.given
ready-there s ls ready i only = ready.there i only.0 (ready-within s ls ready i only)

-- the given trace alone at the one place, or all as before
module _ (s : Sought) (old new : List (List Numbered)) (narrowed : IsNarrowed s old new)
    (ready : AreReady s old) where
  pub narrowed-search : (m : Machine) (lengths : Lengths) (q least : ℕ) (r : Option (List ℕ))
      → IsSearch s m lengths q least new r → IsSearch s m lengths q least old r
  narrowed-search m lengths q least r h =
      let P : List (List Numbered) → Type 0 = λ ls. IsSearch s m lengths q least ls r in
      elim narrowed [
        | inl is ↦ subst P is h
        | inr (i, only, is) ↦ alone-search s s.marks i only only old (ready-there s old ready i only) m lengths q
            least r (subst P is h)
      ]

  pub narrowed-steps : (lengths : Lengths) (made : ℕ) → AreSteps s lengths new made
      → AreSteps s lengths old made
  narrowed-steps lengths made h =
      let P : List (List Numbered) → Type 0 = λ ls. AreSteps s lengths ls made in
      elim narrowed [
        | inl is ↦ subst P is h
        | inr (i, only, is) ↦ alone-steps s s.marks i only only old (ready-there s old ready i only) lengths made
            (subst P is h)
      ]

  ready-alone : (i : ℕ) → IsOnly s.marks i → AreReady s (set old i (s.given ∷ []))
  ready-alone i only =
      let w = s.given ∷ [] in
      let lt = ready-within s old ready i only in
      record {
        some = some-set old i w ready.some (omega arith);
        there = λ j marked less.
            let P : ℕ → Type 0 = λ k. Contains (get_or (set old i w) k []) s.given in
            let Q : List Numbered → Type 0 = λ l. Contains l s.given in
            subst P (sym (only.1 j marked))
            (subst Q (sym (get_or-set_same old i w [] lt)) (contains-here s.given []));
        place = (i, only.0, omega (arith, lt, length-set old i w));
      }

  pub narrowed-ready : AreReady s new
  narrowed-ready = elim narrowed [
    | inl is ↦ subst (AreReady s) (sym is) ready
    | inr (i, only, is) ↦ subst (AreReady s) (sym is) (ready-alone i only)
  ]

  pub narrowed-longest : longest new ≤ longest old
  narrowed-longest =
      let P : List (List Numbered) → Type 0 = λ ls. longest ls ≤ longest old in
      elim narrowed [
        | inl is ↦ subst P (sym is) (omega arith)
        | inr (i, only, is) ↦ subst P (sym is) (longest-set old i (s.given ∷ [])
            (one-part s s.marks i only only old (ready-there s old ready i only)))
      ]
