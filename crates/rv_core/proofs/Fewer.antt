-- A bound of steps for all traces that arrived is one for what a spec keeps of them: masked traces
-- have at most as many joint prefixes.
use Rattle.std.proofs.Common.{◌≡◌, ℕ, zero, suc, ◌*◌, ◌≤◌, List, [], ◌∷◌, ◌++◌, length, map, slice_get, Some, inl, inr, refl, sym, ap, ap₂, ◌∙◌, subst}
use Rattle.std.specs.List.{Contains}
use Rattle.std.specs.Option.{option_map}
use Rattle.std.proofs.lemmas.List.{length-map}
use Rattle.std.proofs.lemmas.List.Elements.{Contains-push, Contains-push_cases, Contains-append_left}
use Rattle.hy_base.proofs.Members.{contains-here, contains-later, contains-cases, contains-none, map-of, map-from}
use Rattle.hy_formula.specs.Quantifiers.{Each}
use Rattle.hy_formula.proofs.Each.{each-at}
use Rattle.hy_finite.specs.declared.lengths.Lengths.{Lengths}
use Rattle.hy_finite.specs.Traces.{Trace, judged}
use Rattle.fin_monitor.specs.Machines.{Machine}
use Rattle.trace_trie.specs.Numbered.{tail}
use Rattle.tuple_walk.specs.Finds.{traces_of}
use Rattle.tuple_walk.specs.JointPrefixes.{Row, entry, rows_of, IsPrefixOf, IsJointPrefix, IsFirstPrefix}
use Rattle.rv_core.specs.Endings.{Spec}
use Rattle.rv_core.specs.Held.{Held, spec_of, StandsFor}
use Rattle.rv_core.specs.Histories.{History}
use Rattle.rv_core.specs.Keeping.{kept_at}
use Rattle.rv_core.specs.Masks.{masked_letter, masked, masked_list}
use Rattle.rv_core.specs.StepBounds.{IsBound, by_joint, by_first, IsSpecBound}
use Rattle.rv_core.proofs.Bounding.{bound-fewer}
use Rattle.rv_core.proofs.Keepings.{kept-among}
use Rattle.rv_core.proofs.Masking.{masked-judged, unmasked}
use Rattle.rv_core.proofs.Standing.{kept-of}

module _ (spec : Spec) where
  -- ---- rows

  abbrev masked_rows : List Row → List Row
  masked_rows rows =
      map (λ (row : Row). map (option_map (masked_letter spec)) row) rows

  entry-seen : (t : Trace) → entry (masked spec t) ≡ option_map (masked_letter spec) (entry t)
  entry-seen [] = refl
  entry-seen (a ∷ t) = refl

  tail-seen : (t : Trace) → tail (masked spec t) ≡ masked spec (tail t)
  tail-seen [] = refl
  tail-seen (a ∷ t) = refl

  entries-seen : (tuple : List Trace)
      → map entry (masked_list spec tuple)
      ≡ map (option_map (masked_letter spec)) (map entry tuple)
  entries-seen [] = refl
  entries-seen (t ∷ ts) = λ i. entry-seen t i ∷ entries-seen ts i

  tails-seen : (tuple : List Trace)
      → map tail (masked_list spec tuple) ≡ masked_list spec (map tail tuple)
  tails-seen [] = refl
  tails-seen (t ∷ ts) = λ i. tail-seen t i ∷ tails-seen ts i

  rows-seen : (k : ℕ) (tuple : List Trace)
      → rows_of (masked_list spec tuple) k ≡ masked_rows (rows_of tuple k)
  rows-seen zero tuple = refl
  rows-seen (suc k) tuple =
      ap₂ (λ (row : Row) (rows : List Row). row ∷ rows) (entries-seen tuple)
      (ap (λ (us : List Trace). rows_of us k) (tails-seen tuple) ∙ rows-seen k (map tail tuple))

  -- ---- joint prefixes

  module _ (rule : Lengths) (list : List Trace) (t : Trace) where
    prefix-from : (tuple masks : List Trace) (rows : List Row) → masked_list spec tuple ≡ masks
        → IsPrefixOf rule masks rows
        → (plain : List Row) × IsPrefixOf rule tuple plain × (masked_rows plain ≡ rows)
    prefix-from tuple masks rows same is =
        let P : ℕ → Type 0 = λ n. is.count ≤ n in
        let long = ap (judged rule) (sym same) ∙ masked-judged rule spec tuple in (
          rows_of tuple is.count,
          record {
            count = is.count;
            some = is.some;
            inside = subst P long is.inside;
            same = refl;
          },
          sym (rows-seen is.count tuple)
              ∙ ap (λ (us : List Trace). rows_of us is.count) same ∙ sym is.same,
        )

    -- members that are seen so, with the trace itself where it is seen
    unmasked-with : Contains list t → (masks : List Trace)
        → Each (Contains (masked_list spec list)) masks → Contains masks (masked spec t)
        → (tuple : List Trace) × Each (Contains list) tuple × Contains tuple t
        × (masked_list spec tuple ≡ masks)
    unmasked-with has [] members c = absurd (contains-none (masked spec t) c)
    unmasked-with has (u ∷ us) (here, members) c =
        elim (contains-cases u (masked spec t) us c) [
          | inl e ↦
              let (ts, rest, es) = unmasked rule spec list us members in (
                t ∷ ts,
                (has, rest),
                contains-here t ts,
                λ i. sym e i ∷ es i,
              )
          | inr later ↦
              let (x, in_list, e) = map-from (masked spec) list u here in
              let (ts, rest, found, es) = unmasked-with has us members later in (
                x ∷ ts,
                (in_list, rest),
                contains-later x t ts found,
                λ i. e i ∷ es i,
              )
        ]

    module _ (has : Contains list t) (n : ℕ) (prefixes : List (List Row)) where
      joint-seen : ((rows : List Row) → IsJointPrefix rule list t n rows → Contains prefixes rows)
          → (rows : List Row) → IsJointPrefix rule (masked_list spec list) (masked spec t) n rows
          → Contains (map masked_rows prefixes) rows
      joint-seen all rows is =
          let (tuple, members, one, same) =
          unmasked-with has is.tuple is.members.members is.one in
          let (plain, prefix, e) = prefix-from tuple is.tuple rows same is.prefix in
          let P : List Row → Type 0 = Contains (map masked_rows prefixes) in
          subst P e (map-of masked_rows prefixes plain (all plain (record {
            tuple = tuple;
            members = record {
              count = sym (length-map tuple (masked spec))
                  ∙ ap (λ (us : List Trace). length us) same ∙ is.members.count;
              members = members;
            };
            one = one;
            prefix = prefix;
          })))

      first-seen : ((rows : List Row) → IsFirstPrefix rule list t n rows → Contains prefixes rows)
          → (rows : List Row) → IsFirstPrefix rule (masked_list spec list) (masked spec t) n rows
          → Contains (map masked_rows prefixes) rows
      first-seen all rows is =
          let (others, members, same) =
          unmasked rule spec list is.others is.members.members.1 in
          let whole = ap (λ (us : List Trace). masked spec t ∷ us) same in
          let (plain, prefix, e) =
          prefix-from (t ∷ others) (masked spec t ∷ is.others) rows whole is.prefix in
          let P : List Row → Type 0 = Contains (map masked_rows prefixes) in
          subst P e (map-of masked_rows prefixes plain (all plain (record {
            others = others;
            members = record {
              count = sym (length-map (t ∷ others) (masked spec))
                  ∙ ap (λ (us : List Trace). length us) whole ∙ is.members.count;
              members = (has, members);
            };
            prefix = prefix;
          })))

bound-seen : (rule : Lengths) (m : Machine) (list : List Trace) (t : Trace) → Contains list t
    → (bound : ℕ) → IsBound rule m list t bound
    → IsBound rule m (masked_list (spec_of m) list) (masked (spec_of m) t) bound
bound-seen rule m list t has bound (by_joint prefixes all) =
    let spec = spec_of m in
    let P : ℕ → Type 0 = λ n.
    IsBound rule m (masked_list spec list) (masked spec t) (m.variables * n) in
    subst P (length-map prefixes (masked_rows spec))
    (by_joint (map (masked_rows spec) prefixes)
    (joint-seen spec rule list t has m.variables prefixes all))
bound-seen rule m list t has bound (by_first prefixes same all) =
    let spec = spec_of m in
    let P : ℕ → Type 0 = IsBound rule m (masked_list spec list) (masked spec t) in
    subst P (length-map prefixes (masked_rows spec))
    (by_first (map (masked_rows spec) prefixes) same
    (first-seen spec rule list t has m.variables prefixes all))

pub bound-kept : (m : Held) (h : History) (t : Trace) (s : ℕ) (q : Machine) (bound : ℕ)
    → StandsFor m h → slice_get m.machines s ≡ Some q
    → IsBound m.rule q (h.present.arrived ++ t ∷ []) t bound
    → IsSpecBound m.rule q (traces_of (kept_at m.kept s)) (masked (spec_of q) t) bound
bound-kept m h t s q bound stands there b =
    let spec = spec_of q in
    let list = h.present.arrived in
    let kept = traces_of (kept_at m.kept s) in
    let seen = masked spec t in
    let among = kept-among m.rule m.drop spec (masked_list spec list) (kept_at m.kept s)
    (kept-of m.rule m.drop m.machines list m.kept stands.kept t s q there) in
    inr (bound-fewer m.rule q seen (kept ++ seen ∷ []) (masked_list spec (list ++ t ∷ []))
    (λ u c. elim (Contains-push_cases kept seen u c) [
      | inl old ↦
          let (x, in_list, e) =
          map-from (masked spec) list u
          (each-at (Contains (masked_list spec list)) kept u among old) in
          let P : Trace → Type 0 = Contains (masked_list spec (list ++ t ∷ [])) in
          subst P e
          (map-of (masked spec) (list ++ t ∷ []) x (Contains-append_left list (t ∷ []) x in_list))
      | inr e ↦
          let P : Trace → Type 0 = Contains (masked_list spec (list ++ t ∷ [])) in
          subst P e (map-of (masked spec) (list ++ t ∷ []) t (Contains-push list t))
    ]) bound
    (bound-seen m.rule q (list ++ t ∷ []) t (Contains-push list t) bound b))
