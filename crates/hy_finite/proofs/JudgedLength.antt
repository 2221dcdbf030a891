-- The judged length of a tuple of traces, by one trace after another.
use Rattle.std.proofs.Common.{◌≡◌, ℕ, suc, ◌+◌, ◌<◌, ◌≤◌, List, [], ◌∷◌, ◌++◌, length, take, get_or, refl, ap, ◌∙◌, arith}
use Rattle.std.proofs.lemmas.List.{take_more, length-take}
use Rattle.hy_finite.specs.declared.lengths.Lengths.{Lengths}
use Rattle.hy_finite.specs.declared.lengths.Lengths.TheVariants.{Min, Pad}
use Rattle.hy_finite.specs.Traces.{Trace, of_two, judged, picked}

-- ---- two lengths

pub of_two-turned : (lengths : Lengths) (a b : ℕ) → of_two lengths a b ≡ of_two lengths b a
of_two-turned Min a b = omega arith
of_two-turned Pad a b = omega arith

pub of_two-assoc : (lengths : Lengths) (a b c : ℕ)
    → of_two lengths a (of_two lengths b c) ≡ of_two lengths (of_two lengths a b) c
of_two-assoc Min a b c = omega arith
of_two-assoc Pad a b c = omega arith

-- ---- a tuple

-- one trace more
judged-append : (lengths : Lengths) (ts : List Trace) (t : Trace) → 1 ≤ length ts
    → judged lengths (ts ++ t ∷ []) ≡ of_two lengths (judged lengths ts) (length t)
judged-append lengths [] t some = absurd (omega arith)
judged-append lengths (u ∷ []) t some = refl
judged-append lengths (u ∷ v ∷ ts) t some =
    ap (of_two lengths (length u)) (judged-append lengths (v ∷ ts) t (omega arith))
    ∙ of_two-assoc lengths (length u) (judged lengths (v ∷ ts)) (length t)

picked-append : (list : List Trace) (pick : List ℕ) (k : ℕ)
    → picked list (pick ++ k ∷ []) ≡ picked list pick ++ get_or list k [] ∷ []
picked-append list [] k = refl
picked-append list (j ∷ pick) k = ap (λ ts. get_or list j [] ∷ ts) (picked-append list pick k)

length-picked : (list : List Trace) (pick : List ℕ) → length (picked list pick) ≡ length pick
length-picked list [] = refl
length-picked list (k ∷ pick) = ap suc (length-picked list pick)

-- the first i + 1 traces of a pick
pub judged-more : (lengths : Lengths) (list : List Trace) (pick : List ℕ) (i : ℕ) → 1 ≤ i
    → i < length pick
    → judged lengths (picked list (take (i + 1) pick)) ≡ of_two lengths (judged lengths
    (picked list (take i pick))) (length (get_or list (get_or pick i 0) []))
judged-more lengths list pick i some lt =
    ap (λ ks. judged lengths (picked list ks)) (take_more pick i 0 lt)
    ∙ ap (judged lengths) (picked-append list (take i pick) (get_or pick i 0))
    ∙ judged-append lengths (picked list (take i pick)) (get_or list (get_or pick i 0) []) (omega
    (arith, length-picked list (take i pick), length-take i pick))

-- a judged length is not 0 where its parts are not
pub of_two-some : (lengths : Lengths) (a b : ℕ) → 1 ≤ a → 1 ≤ b → 1 ≤ of_two lengths a b
of_two-some Min a b la lb = omega arith
of_two-some Pad a b la lb = omega arith

pub ruleset lengths = (judged-more, of_two-some)
