-- When a list of traces violates a universal formula.
use Rattle.std.proofs.Common.{ℕ, ◌⊎◌, ◌↔◌, List, [], ◌∷◌, ◌++◌, inl, inr, sym, subst}
use Rattle.std.specs.List.{Contains}
use Rattle.std.proofs.lemmas.List.Elements.{Contains-push_cases}
use Rattle.hy_base.proofs.Members.{contains-here, contains-later}
use Rattle.hy_formula.specs.Trees.{Tree}
use Rattle.hy_formula.specs.Temporal.{Decided}
use Rattle.hy_formula.specs.declared.prefix.Quant.TheVariants.{Exists, Forall}
use Rattle.hy_formula.specs.Quantifiers.{Quantified, repeated, Each}
use Rattle.hy_formula.proofs.Deciding.{decided-below, decided-like, decided-not}
use Rattle.hy_formula.proofs.Choices.{decided-quantified}
use Rattle.hy_formula.proofs.Tuples.{searched-members, some-tuple, every-tuple}
use Rattle.hy_finite.specs.declared.lengths.Lengths.{Lengths}
use Rattle.hy_finite.specs.Traces.{Trace, judged, trace_words, Meets, ViolatesBy, Violates}

decided-meets : (lengths : Lengths) (body : Tree) (tuple : List Trace)
    → Decided (Meets lengths body tuple)
decided-meets lengths body tuple = decided-below (judged lengths tuple) (trace_words tuple) body 0

pub decided-violates : (lengths : Lengths) (n : ℕ) (body : Tree) (list : List Trace)
    → Decided (Violates lengths n body list)
decided-violates lengths n body list =
    let s = some-tuple (Contains list) (λ tuple. ¬ Meets lengths body tuple) n in
    decided-like (λ q. let (t, i, no_b) = s.0 q in
    (t, (i, no_b))) (λ (t, (i, no_b)). s.1 (t, i, no_b))
    (decided-quantified (Contains list) (searched-members list)
    (λ tuple. ¬ Meets lengths body tuple)
    (λ tuple m. decided-not (decided-meets lengths body tuple)) (repeated Exists n))

pub violating : (lengths : Lengths) (n : ℕ) (body : Tree) (list : List Trace)
    → Violates lengths n body list ↔ (¬ Quantified (Contains list) (Meets lengths body)
    (repeated Forall n))
violating lengths n body list =
    let e = every-tuple (Contains list) (Meets lengths body) n in (
      λ (t, (i, no_b)) q. no_b (e.0 q t i),
      λ no_q. elim (decided-violates lengths n body list) [
        | inl v ↦ v
        | inr none ↦
            absurd (no_q (e.1 (λ t i. elim (decided-meets lengths body t) [
              | inl b ↦ b
              | inr no_b ↦
                  absurd (none (t, (i, no_b)))
            ])))
      ],
    )

members-before : (list : List Trace) (t : Trace) (tuple : List Trace)
    → Each (Contains (list ++ t ∷ [])) tuple → Each (Contains list) tuple ⊎ Contains tuple t
members-before list t [] m = inl tt
members-before list t (x ∷ xs) (here, m) =
    elim (Contains-push_cases list t x here) [
      | inr e ↦ inr (let P : Trace → Type 0 = Contains (x ∷ xs) in
          subst P (sym e) (contains-here x xs))
      | inl old ↦ elim (members-before list t xs m) [
        | inl all ↦ inl (old, all)
        | inr later ↦ inr
            (contains-later x t xs later)
      ]
    ]

pub arriving : (lengths : Lengths) (n : ℕ) (body : Tree) (list : List Trace) (t : Trace)
    → ¬ Violates lengths n body list
    → (tuple : List Trace) → ViolatesBy lengths n body (list ++ t ∷ []) tuple → Contains tuple t
arriving lengths n body list t clean tuple (i, no_b) =
    elim (members-before list t tuple i.members) [
      | inl old ↦ absurd (clean (tuple, (record { count = i.count; members = old }, no_b)))
      | inr new ↦ new
    ]
