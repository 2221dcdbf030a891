-- The bounds of an arrival by where the other traces branch off.
use Rattle.std.proofs.Common.{◌≡◌, ℕ, zero, suc, ◌*◌, ◌⊎◌, List, [], ◌∷◌, ◌++◌, map, slice_get, slice_index_or, Some, inl, inr, sym, ap, ◌∙◌, subst}
use Rattle.std.specs.List.{Contains}
use Rattle.std.proofs.lemmas.List.{length-map}
use Rattle.std.proofs.lemmas.List.Elements.{Contains-append_cases}
use Rattle.hy_base.proofs.Members.{contains-cases, contains-none, map-of}
use Rattle.hy_formula.proofs.Each.{each-at}
use Rattle.hy_finite.specs.declared.lengths.Lengths.{Lengths}
use Rattle.hy_finite.specs.declared.lengths.Lengths.TheVariants.{Min}
use Rattle.hy_finite.specs.Traces.{Trace}
use Rattle.fin_monitor.specs.Machines.{Machine}
use Rattle.dominance.specs.Dominance.{IsSymmetric}
use Rattle.tuple_walk.proofs.Lists.{get-contains}
use Rattle.rv_core.specs.Endings.{Spec}
use Rattle.rv_core.specs.Held.{Held, spec_of, specs_of, StandsFor}
use Rattle.rv_core.specs.Histories.{History}
use Rattle.rv_core.specs.StepBounds.{IsBound, by_joint, by_first, AreBounds}
use Rattle.rv_core.proofs.Fewer.{bound-kept}
use Rattle.step_counts.specs.Branches.{Branches, counts_of, firsts_with, tuples_with, steps_of, first_steps_of, AreSymmetric}
use Rattle.step_counts.proofs.Having.{firsts, having, long-firsts, long-having}
use Rattle.step_counts.proofs.Prefixes.{prefixes, long-prefixes, in-all, in-first}

bound-at : (f : Spec → ℕ) (ms : List Machine) (s : ℕ) (q : Machine) → slice_get ms s ≡ Some q
    → slice_index_or (map f (map spec_of ms)) s 0 ≡ f (spec_of q)
bound-at f [] s q e = absurd (cc)
bound-at f (m ∷ ms) zero q e =
    let same : m ≡ q = cc in ap (λ (x : Machine). f (spec_of x)) same
bound-at f (m ∷ ms) (suc s) q e = bound-at f ms s q e

module _ (list : List Trace) (t : Trace) (words : List (List Trace))
    (branches : Branches list t words) where
  old-or-new : (u : Trace) → Contains (list ++ t ∷ []) u → Contains list u ⊎ (u ≡ t)
  old-or-new u c =
      elim (Contains-append_cases list (t ∷ []) u c) [
        | inl old ↦ inl old
        | inr new ↦ elim (contains-cases t u [] new) [
          | inl e ↦ inr (sym e)
          | inr none ↦ absurd (contains-none u none)
        ]
      ]

  joint-bound : (m : Machine)
      → IsBound Min m (list ++ t ∷ []) t (steps_of (counts_of words) (spec_of m))
  joint-bound m =
      let n = m.variables in
      let P : ℕ → Type 0 = λ q. IsBound Min m (list ++ t ∷ []) t (n * q) in
      subst P
      (long-prefixes t (λ x xs. having x xs n) (tuples_with n) (λ x xs. long-having x xs n) 0 words)
      (by_joint (prefixes t (λ x xs. having x xs n) 0 words)
      (in-all list (list ++ t ∷ []) t words branches old-or-new n))

  first-bound : (m : Machine) → IsSymmetric Min m.variables m.body
      → IsBound Min m (list ++ t ∷ []) t (first_steps_of (counts_of words) (spec_of m))
  first-bound m symmetric =
      let n = m.variables in
      let P : ℕ → Type 0 = λ q. IsBound Min m (list ++ t ∷ []) t q in
      subst P
      (long-prefixes t (λ x xs. firsts x xs n) (firsts_with n) (λ x xs. long-firsts x xs n) 0 words)
      (by_first (prefixes t (λ x xs. firsts x xs n) 0 words) symmetric
      (in-first list (list ++ t ∷ []) t words branches old-or-new n))

module _ (m : Held) (h : History) (t : Trace) (words : List (List Trace)) (stands : StandsFor m h)
    (rule : m.rule ≡ Min) (branches : Branches h.present.arrived t words) where
  -- by a bound for a walk over all that arrived, for each spec
  bounds-by : (f : Spec → ℕ) → ((s : ℕ) (q : Machine) → slice_get m.machines s ≡ Some q
      → IsBound Min q (h.present.arrived ++ t ∷ []) t (f (spec_of q)))
      → AreBounds m t (map f (specs_of m))
  bounds-by f each = record {
    long = length-map (specs_of m) f ∙ length-map m.machines spec_of;
    right = λ s q there. bound-kept m h t s q (slice_index_or (map f (specs_of m)) s 0) stands
        there (one s q there);
  }
    where
      one : (s : ℕ) (q : Machine) → slice_get m.machines s ≡ Some q
          → IsBound m.rule q (h.present.arrived ++ t ∷ []) t
          (slice_index_or (map f (specs_of m)) s 0)
      one s q there =
          let whole = h.present.arrived ++ t ∷ [] in
          let P : Lengths → Type 0 = λ l. IsBound l q whole t (f (spec_of q)) in
          let Q : ℕ → Type 0 = IsBound m.rule q whole t in
          subst Q (sym (bound-at f m.machines s q there))
          (subst P (sym rule) (each s q there))

  pub joint-bounds : AreBounds m t (map (steps_of (counts_of words)) (specs_of m))
  joint-bounds =
      bounds-by (steps_of (counts_of words))
      (λ s q there. joint-bound h.present.arrived t words branches q)

  pub first-bounds : AreSymmetric m.rule (specs_of m)
      → AreBounds m t (map (first_steps_of (counts_of words)) (specs_of m))
  first-bounds symmetric =
      let P : Lengths → Spec → Type 0 = λ l spec. IsSymmetric l spec.variables spec.body in
      bounds-by (first_steps_of (counts_of words))
      (λ s q there.
      let Q : Lengths → Type 0 = λ l. P l (spec_of q) in
      first-bound h.present.arrived t words branches q
      (subst Q rule
      (each-at (P m.rule) (specs_of m) (spec_of q) symmetric
      (map-of spec_of m.machines q (get-contains m.machines s q there)))))
