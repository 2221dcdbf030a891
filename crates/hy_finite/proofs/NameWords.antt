-- The words of a name, and its row.
use Rattle.std.proofs.Common.{◌≡◌, ℕ, zero, suc, ◌+◌, ◌-◌, ◌*◌, ◌/◌, ◌%◌, ◌^◌, ◌<◌, ◌≤◌, Bool, cond, List, [], ◌∷◌, ◌++◌, length, get_or, slice_get, Some, inl, inr, refl, sym, ap, ◌∙◌, arith, bit_or, length-append}
use Rattle.std.specs.FinSet.{empty, contains}
use Rattle.std.proofs.lemmas.Bool.{cases_lt}
use Rattle.std.proofs.lemmas.List.{get_or_append_left, get_or-append-add}
use Rattle.std.proofs.lemmas.Option.{get_or_from_slice_get}
use Rattle.hy_bits.specs.Binary.{has_one}
use Rattle.hy_formula.specs.Trees.{atom}
use Rattle.hy_finite.specs.Traces.{Trace, trace_words, picked}
use Rattle.hy_finite.specs.Rows.{one_at, IsFilled, IsRepeated, IsNamesWord}
use Rattle.hy_finite.proofs.Carrying.{has_one-next}
use Rattle.hy_finite.proofs.RowSteps.{at-place}

-- ---- a word of names

pub record NamesSoFar (trace : Trace) (name from i word : ℕ) : Type 0 where
  pub order : from ≤ i
  pub right : (j b : ℕ) → from ≤ j → j + suc b ≡ i
      → has_one word b ≡ contains (get_or trace j empty) name

pub names-none : (trace : Trace) (name from : ℕ) → NamesSoFar trace name from from 0
names-none trace name from =
    record { order = omega arith; right = λ j b le e. absurd (omega arith) }

pub names-more : (trace : Trace) (name from i word : ℕ) → NamesSoFar trace name from i word
    → i < from + 64 → (b : Bool) → b ≡ contains (get_or trace i empty) name
    → NamesSoFar trace name from (i + 1) (bit_or (word * 2 % 2 ^ 64) (cond b 1 0))
names-more trace name from i word before few b here =
    record { order = omega (arith, before.order); right = right }
  where
    right : (j k : ℕ) → from ≤ j → j + suc k ≡ i + 1
        → has_one (bit_or (word * 2 % 2 ^ 64) (cond b 1 0)) k ≡ contains (get_or trace j empty) name
    right j zero le e =
        let same : i ≡ j = omega arith in
        has_one-next word (λ _. b) b 0 (omega arith) ∙ here
        ∙ ap (λ x. contains (get_or trace x empty) name) same
    right j (suc k) le e =
        has_one-next word (λ _. b) b (suc k) (omega arith) ∙ before.right j k le (omega arith)

-- ---- a row of names

pub record NamesFilled (trace : Trace) (name m : ℕ) (old new : List ℕ) (k : ℕ) : Type 0 where
  pub long : length new ≡ length old + k
  pub kept : (i : ℕ) → i < length old → get_or new i 0 ≡ get_or old i 0
  pub told : (i r : ℕ) → i + suc r ≡ m → r < 64 * k
      → one_at new (length old) r ≡ contains (get_or trace i empty) name

pub filled-none : (trace : Trace) (name m : ℕ) (old : List ℕ) → NamesFilled trace name m old old 0
filled-none trace name m old =
    record { long = omega arith; kept = λ i lt. refl; told = λ i r e lt. absurd (omega arith) }

pub filled-more : (trace : Trace) (name m : ℕ) (old new : List ℕ) (k : ℕ)
    → NamesFilled trace name m old new k → (word : ℕ) → 64 * k < m
    → IsNamesWord trace name (m - 64 * k - 64) (m - 64 * k) word → NamesFilled trace name m old
    (new ++ word ∷ []) (k + 1)
filled-more trace name m old new k before word within right = record {
  long = omega (arith, before.long, length-append new (word ∷ []));
  kept =
      λ i lt. get_or_append_left new (word ∷ []) 0 i (omega (arith, before.long))
      ∙ before.kept i lt;
  told = told;
}
  where
    told : (i r : ℕ) → i + suc r ≡ m → r < 64 * (k + 1)
        → one_at (new ++ word ∷ []) (length old) r ≡ contains (get_or trace i empty) name
    told i r e lt =
        elim (cases_lt r (64 * k)) [
          | inl early ↦
              ap (λ w. has_one w (r % 64)) (get_or_append_left new (word ∷ []) 0
              (length old + r / 64) (omega (arith, before.long)))
              ∙ before.told i r e early
          | inr here ↦
              let j : ℕ = r - 64 * k in
              let small : j < 64 = omega arith in
              let top : get_or (new ++ word ∷ []) (length old + k) 0 ≡ word =
              ap (λ n. get_or (new ++ word ∷ []) n 0) (omega (arith, before.long))
              ∙ get_or-append-add new (word ∷ []) 0 0 in
              at-place (new ++ word ∷ []) (length old) k j r small (omega arith)
              ∙ ap (λ w. has_one w j) top
              ∙ right i j (omega arith) (omega arith)
        ]

-- the trace of a variable
picked-get : (list : List Trace) (pick : List ℕ) (v : ℕ) (t : Trace) → v < length pick
    → slice_get list (get_or pick v 0) ≡ Some t → get_or (picked list pick) v [] ≡ t
picked-get list [] v t lt e = absurd (omega arith)
picked-get list (k ∷ pick) zero t lt e = get_or_from_slice_get list k t [] e
picked-get list (k ∷ pick) (suc v) t lt e = picked-get list pick v t (omega arith) e

pub row-atom : (list : List Trace) (pick : List ℕ) (v name m width : ℕ) (trace : Trace)
    (old new : List ℕ) → v < length pick → slice_get list (get_or pick v 0) ≡ Some trace
    → m ≤ 64 * width → NamesFilled trace name m old new width → IsFilled (atom name v) (trace_words
    (picked list pick)) m width old new
row-atom list pick v name m width trace old new lt there enough done = record {
  long = done.long;
  kept = done.kept;
  told = λ i r e.
      let same = done.told i r e (omega arith)
      ∙ ap (λ (t : Trace). contains (get_or t i empty) name) (sym
      (picked-get list pick v trace lt there)) in
      (λ is. sym same ∙ is, λ is. same ∙ is);
}

-- ---- a row of one word

pub repeated-none : (word : ℕ) (old : List ℕ) → IsRepeated word 0 old old
repeated-none word old =
    record { long = omega arith; kept = λ i lt. refl; same = λ i le lt. absurd (omega arith) }

pub repeated-more : (word k : ℕ) (old new : List ℕ) → IsRepeated word k old new
    → IsRepeated word (k + 1) old (new ++ word ∷ [])
repeated-more word k old new before = record {
  long = omega (arith, before.long, length-append new (word ∷ []));
  kept =
      λ i lt. get_or_append_left new (word ∷ []) 0 i (omega (arith, before.long))
      ∙ before.kept i lt;
  same = same;
}
  where
    same : (i : ℕ) → length old ≤ i → i < length (new ++ word ∷ [])
        → get_or (new ++ word ∷ []) i 0 ≡ word
    same i le lt =
        elim (cases_lt i (length new)) [
          | inl early ↦ get_or_append_left new (word ∷ []) 0 i early ∙ before.same i le early
          | inr late ↦
              let last : i ≡ length new + 0 = omega (arith, length-append new (word ∷ [])) in
              ap (λ n. get_or (new ++ word ∷ []) n 0) last ∙ get_or-append-add new (word ∷ []) 0 0
        ]
