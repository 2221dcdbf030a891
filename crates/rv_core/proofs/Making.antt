-- What is kept with a trace more is made for one spec after another, and stays for the others.
use Rattle.std.proofs.Common.{◌≡◌, ℕ, zero, suc, ◌<◌, ◌≤◌, ◌+◌, Bool, List, [], ◌∷◌, length, slice_get, slice_set, Option, Some, inl, inr, refl, sym, ap, ◌∙◌, subst, arith}
use Rattle.std.proofs.lemmas.Bool.{cases_eq}
use Rattle.std.proofs.lemmas.List.{length-map}
use Rattle.std.proofs.lemmas.Option.{slice_get_within, same_Some}
use Rattle.hy_finite.specs.declared.lengths.Lengths.{Lengths}
use Rattle.hy_finite.specs.Traces.{Trace}
use Rattle.fin_monitor.specs.Machines.{Machine}
use Rattle.trace_trie.specs.Numbered.{Numbered}
use Rattle.rv_core.specs.declared.rv.Rv.{Rv}
use Rattle.rv_core.specs.Arrivals.{IsPassed, IsNext, AreNext, kept_or}
use Rattle.rv_core.specs.Held.{spec_of}
use Rattle.rv_core.specs.Keeping.{kept_at}
use Rattle.rv_core.specs.Masks.{masked}
use Rattle.rv_core.specs.Seen.{watched, watched_by}

-- ---- another one at a place

set-there : (made : List (List Numbered)) (i : ℕ) (x : List Numbered) → i < length made
    → kept_at (slice_set made i x) i ≡ x
set-there [] i x lt = absurd (omega arith)
set-there (y ∷ ys) zero x lt = refl
set-there (y ∷ ys) (suc i) x lt = set-there ys i x (omega arith)

set-elsewhere : (made : List (List Numbered)) (i : ℕ) (x : List Numbered) (s : ℕ)
    → (¬ (s ≡ i)) → kept_at (slice_set made i x) s ≡ kept_at made s
set-elsewhere [] i x s differ = refl
set-elsewhere (y ∷ ys) zero x zero differ = absurd (differ refl)
set-elsewhere (y ∷ ys) zero x (suc s) differ = refl
set-elsewhere (y ∷ ys) (suc i) x zero differ = refl
set-elsewhere (y ∷ ys) (suc i) x (suc s) differ =
    set-elsewhere ys i x s (λ e. differ (ap suc e))

length-set : (made : List (List Numbered)) (i : ℕ) (x : List Numbered)
    → length (slice_set made i x) ≡ length made
length-set [] i x = refl
length-set (y ∷ ys) zero x = refl
length-set (y ∷ ys) (suc i) x = ap suc (length-set ys i x)

-- what holds up to a place and there
pub more-there : {A : Type 0} (P : ℕ → A → Type 0) (xs : List A) (i : ℕ) (x : A)
    → slice_get xs i ≡ Some x → P i x
    → ((s : ℕ) (y : A) → s < i → slice_get xs s ≡ Some y → P s y)
    → (s : ℕ) (y : A) → s < i + 1 → slice_get xs s ≡ Some y → P s y
more-there {A} P xs i x at here before s y below there =
    elim (cases_eq s i) [
      | inl e ↦
          let same : y ≡ x = same_Some _ _ (sym there ∙ ap (slice_get xs) e ∙ at) in
          let Q : A → Type 0 = P i in
          let R : ℕ → Type 0 = λ k. P k y in
          subst R (sym e) (subst Q (sym same) here)
      | inr differ ↦ before s y (omega arith) there
    ]

module _ (rule : Lengths) (drop : Bool) (ms : List Machine) (n : ℕ) (t : Trace)
    (old : List (List Numbered)) where
  -- The first specs are passed, and this is kept then for them; for the others it stays.
  pub record AreMade (i : ℕ) (made : List (List Numbered)) : Type 0 where
    pub long : length made ≡ length old
    pub passed : (s : ℕ) (m : Machine) → s < i → slice_get ms s ≡ Some m
        → IsPassed rule m (masked (spec_of m) t) (kept_at old s)
    pub right : (s : ℕ) (m : Machine) → s < i → slice_get ms s ≡ Some m
        → IsNext rule drop m (masked (spec_of m) t) n (kept_at old s) (kept_at made s)
    pub later : (s : ℕ) → i ≤ s → kept_at made s ≡ kept_at old s

  pub made-none : AreMade 0 old
  made-none = record {
    long = refl;
    passed = λ s m lt at. absurd (omega arith);
    right = λ s m lt at. absurd (omega arith);
    later = λ s le. refl;
  }

  module _ (i : ℕ) (made : List (List Numbered)) (are : AreMade i made) where
    module _ (m : Machine) (at : slice_get ms i ≡ Some m)
        (passes : IsPassed rule m (masked (spec_of m) t) (kept_at old i)) where
      passed-more : (s : ℕ) (q : Machine) → s < i + 1 → slice_get ms s ≡ Some q
          → IsPassed rule q (masked (spec_of q) t) (kept_at old s)
      passed-more =
          more-there (λ s q. IsPassed rule q (masked (spec_of q) t) (kept_at old s)) ms i m at passes
          are.passed

      -- what is kept for a spec
      abbrev Next : Machine → ℕ → List Numbered → Type 0
      Next q s = IsNext rule drop q (masked (spec_of q) t) n (kept_at old s)

      pub made-stays : Next m i (kept_at old i) → AreMade (i + 1) made
      made-stays next =
          let P : List Numbered → Type 0 = Next m i in
          record {
            long = are.long;
            passed = passed-more;
            right = more-there (λ s q. Next q s (kept_at made s)) ms i m at
                (subst P (sym (are.later i (omega arith))) next) are.right;
            later = λ s le. are.later s (omega (arith, le));
          }

      pub made-passes : (x : List Numbered) → i < length old
          → Next m i x → AreMade (i + 1) (slice_set made i x)
      made-passes x lt next =
          let P : List Numbered → Type 0 = Next m i in
          record {
            long = length-set made i x ∙ are.long;
            passed = passed-more;
            right = more-there (λ s q. Next q s (kept_at (slice_set made i x) s)) ms i m at
                (subst P (sym (set-there made i x (omega (arith, lt, are.long)))) next)
                (λ s q below there.
                let Q : List Numbered → Type 0 = Next q s in
                let elsewhere = set-elsewhere made i x s (λ e. absurd (omega (arith, e, below))) in
                subst Q (sym elsewhere) (are.right s q below there));
            later = λ s le.
                set-elsewhere made i x s (λ e. absurd (omega (arith, e, le)))
                ∙ are.later s (omega (arith, le));
          }

    pub made-all : i ≡ length ms → length old ≡ length ms → AreNext rule drop ms n t old made
    made-all end long = record {
      long = are.long ∙ long;
      passed = λ s m at.
          let within = slice_get_within ms s m at in are.passed s m (omega (arith, end)) at;
      right = λ s m at.
          let within = slice_get_within ms s m at in are.right s m (omega (arith, end)) at;
    }

-- behind the last spec, by whichever name what is made has then
pub made-whole : (rv : Rv) (t : Trace) (i : ℕ) (next same : Option (List (List Numbered))) → next ≡ same
    → AreMade rv.rule rv.drop_dominated (watched_by rv.watches) rv.traces t rv.kept i
    (kept_or rv.kept next) → i ≡ length rv.watches
    → AreNext rv.rule rv.drop_dominated (watched_by rv.watches) rv.traces t rv.kept
    (kept_or rv.kept same)
made-whole rv t i next same e made end =
    let ms = watched_by rv.watches in
    let long = length-map rv.watches watched in
    let P : Option (List (List Numbered)) → Type 0 =
    λ found. AreNext rv.rule rv.drop_dominated ms rv.traces t rv.kept (kept_or rv.kept found) in
    subst P e
    (made-all rv.rule rv.drop_dominated ms rv.traces t rv.kept i (kept_or rv.kept next) made
    (omega (arith, long, end)) (rv.below.0 ∙ sym long))
