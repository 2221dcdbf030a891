-- Where a trace arrives: a tuple that is found violates the body, none where the list violates
-- nothing; and what is kept then.
use Rattle.std.proofs.Common.{◌≡◌, ℕ, zero, suc, ◌<◌, Bool, List, [], ◌∷◌, ◌++◌, length, inl, inr, refl, sym, ◌∙◌, subst, arith}
use Rattle.std.specs.List.{Contains, All, slice_index_or}
use Rattle.std.proofs.lemmas.List.{length-map}
use Rattle.std.proofs.lemmas.List.Elements.{All-nil, All-cons, Contains-push, Contains-push_cases, Contains-append_left}
use Rattle.hy_formula.specs.Quantifiers.{Each}
use Rattle.hy_formula.proofs.Each.{each-append}
use Rattle.hy_finite.specs.declared.lengths.Lengths.{Lengths}
use Rattle.hy_finite.specs.Traces.{Trace, ViolatesBy, Violates, picked}
use Rattle.hy_finite.proofs.Violating.{arriving}
use Rattle.fin_monitor.specs.Machines.{Machine}
use Rattle.trace_trie.specs.Numbered.{Numbered}
use Rattle.dominance.specs.Dominance.{IsTrace, Dominates}
use Rattle.dominance.specs.Leaders.{IsAt}
use Rattle.dominance.proofs.Elements.{at-push_old, at-push_new}
use Rattle.dominance.proofs.Replacements.{Covers, over-itself, violates-kept}
use Rattle.tuple_walk.specs.Finds.{AreViolating, numbers_of, traces_of}
use Rattle.rv_core.specs.Arrivals.{IsPassed}
use Rattle.rv_core.specs.Held.{spec_of}
use Rattle.rv_core.specs.Keeping.{IsKept}
use Rattle.rv_core.specs.Replies.{IsViolatedBy}
use Rattle.rv_core.proofs.Keepings.{kept-at, kept-among, kept-covers}

at-default : (list : List Trace) (k : ℕ) (x d : Trace) → IsAt list k x
    → slice_index_or list k d ≡ x
at-default [] k x d (lt, e) = absurd (omega arith)
at-default (t ∷ ts) zero x d (lt, e) = e
at-default (t ∷ ts) (suc k) x d (lt, e) = at-default ts k x d (omega arith, e)

-- ---- pairs whose traces stand at their numbers

module _ (whole : List Trace) where
  picked-pairs : (pairs : List Numbered) → Each (λ (p : Numbered). IsAt whole p.0 p.1) pairs
      → picked whole (numbers_of pairs) ≡ traces_of pairs
  picked-pairs [] e = refl
  picked-pairs (p ∷ ps) (at, e) =
      λ i. at-default whole p.0 p.1 [] at i ∷ picked-pairs ps e i

  pairs-inside : (pairs : List Numbered) → Each (λ (p : Numbered). IsAt whole p.0 p.1) pairs
      → All (λ k. k < length whole) (numbers_of pairs)
  pairs-inside [] e = All-nil (λ k. k < length whole)
  pairs-inside (p ∷ ps) ((lt, at), e) =
      All-cons (λ k. k < length whole) p.0 (numbers_of ps) lt (pairs-inside ps e)

  pairs-members : (pairs : List Numbered) → Each (λ (p : Numbered). IsAt whole p.0 p.1) pairs
      → Each (Contains whole) (traces_of pairs)
  pairs-members [] e = tt
  pairs-members (p ∷ ps) ((lt, at), e) = ((p.0, lt, at), pairs-members ps e)

each-of : (P Q : Numbered → Type 0) (pairs : List Numbered) → ((p : Numbered) → P p → Q p)
    → Each P pairs → Each Q pairs
each-of P Q [] f e = tt
each-of P Q (p ∷ ps) f (here, e) = (f p here, each-of P Q ps f e)

module _ (rule : Lengths) (drop : Bool) (m : Machine) (list : List Trace) (t : Trace)
    (kept : List Numbered) (is : IsKept rule drop (spec_of m) list kept) where
  pair-at : (p : Numbered) → Contains (kept ++ (length list, t) ∷ []) p
      → IsAt (list ++ t ∷ []) p.0 p.1
  pair-at p c =
      elim (Contains-push_cases kept (length list, t) p c) [
        | inl old ↦
            at-push_old list t p.0 p.1 (kept-at rule drop (spec_of m) list kept is p old)
        | inr e ↦
            let P : Numbered → Type 0 = λ q. IsAt (list ++ t ∷ []) q.0 q.1 in
            subst P e (at-push_new list t)
      ]

  pub found-in : (tuple : List ℕ)
      → AreViolating m rule (kept ++ (length list, t) ∷ []) tuple
      → IsViolatedBy rule (spec_of m) (list ++ t ∷ []) tuple
  found-in tuple v =
      let whole = list ++ t ∷ [] in
      let at = each-of (Contains (kept ++ (length list, t) ∷ []))
      (λ (p : Numbered). IsAt whole p.0 p.1) v.pairs pair-at v.members.members in
      let P : List ℕ → Type 0 = IsViolatedBy rule (spec_of m) whole in
      let Q : List Trace → Type 0 = ViolatesBy rule m.variables m.body whole in
      let first = length-map v.pairs (λ (p : Numbered). p.0) in
      let second = length-map v.pairs (λ (p : Numbered). p.1) in
      subst P v.same (record {
        long = first ∙ v.members.count;
        inside = pairs-inside whole v.pairs at;
        violates = subst Q (sym (picked-pairs whole v.pairs at)) (
          record {
            count = second ∙ v.members.count;
            members = pairs-members whole v.pairs at;
          },
          v.violates,
        );
      })

  module _ (clean : ¬ Violates rule m.variables m.body list) where
    -- the list violates what it did before a trace that it has
    again : Contains list t → ¬ Violates rule m.variables m.body (list ++ t ∷ [])
    again has (tuple, (is, fails)) =
        clean (tuple, (record { count = is.count; members = by tuple is.members }, fails))
      where
        by : (us : List Trace) → Each (Contains (list ++ t ∷ [])) us → Each (Contains list) us
        by [] e = tt
        by (u ∷ us) (here, e) = (
          elim (Contains-push_cases list t u here) [
            | inl old ↦ old
            | inr same ↦ let P : Trace → Type 0 = Contains list in subst P same has
          ],
          by us e,
        )

    module _ (some : Each IsTrace list) (more : IsTrace t) where
      more-among : Each (Contains (list ++ t ∷ [])) (traces_of kept ++ t ∷ [])
      more-among =
          by (traces_of kept) (kept-among rule drop (spec_of m) list kept is)
        where
          by : (us : List Trace) → Each (Contains list) us
              → Each (Contains (list ++ t ∷ [])) (us ++ t ∷ [])
          by [] e = (Contains-push list t, tt)
          by (u ∷ us) (here, e) = (Contains-append_left list (t ∷ []) u here, by us e)

      more-covers : Covers rule m.variables m.body (traces_of kept ++ t ∷ []) (list ++ t ∷ [])
      more-covers u c =
          elim (Contains-push_cases list t u c) [
            | inl old ↦
                let (x, x_in, over) = kept-covers rule drop (spec_of m) list kept is u old in
                (x, Contains-append_left (traces_of kept) (t ∷ []) x x_in, over)
            | inr e ↦
                let P : Trace → Type 0 = Dominates rule m.variables m.body t in (
                  t,
                  Contains-push (traces_of kept) t,
                  subst P e (over-itself rule m.variables m.body t),
                )
          ]

      kept-clean : ¬ Violates rule m.variables m.body (traces_of kept)
      kept-clean v =
          clean ((violates-kept rule m.variables m.body (traces_of kept) list some
          (kept-among rule drop (spec_of m) list kept is)
          (kept-covers rule drop (spec_of m) list kept is)).1 v)

      pub stays-clean : IsPassed rule m t kept → ¬ Violates rule m.variables m.body (list ++ t ∷ [])
      stays-clean (inl (n, c)) v =
          let (lt, at) = kept-at rule drop (spec_of m) list kept is (n, t) c in again (n, lt, at) v
      stays-clean (inr meet) v =
          let all = each-append IsTrace list (t ∷ []) some (more, tt) in
          let (tuple, by) =
          (violates-kept rule m.variables m.body (traces_of kept ++ t ∷ []) (list ++ t ∷ []) all
          more-among more-covers).0 v in
          let has = arriving rule m.variables m.body (traces_of kept) t kept-clean tuple by in
          by.1 (meet tuple by.0 has)
