-- The last element of a list, and what holds of an answer.
use Rattle.std.proofs.Common.{◌≡◌, ℕ, ◌+◌, ◌-◌, ◌<◌, ◌≤◌, List, [], ◌∷◌, ◌++◌, length, get_or, take, Some, Result, Ok, Err, inl, inr, sym, ap, ◌∙◌, arith}
use Rattle.std.specs.List.{Contains, slice_get}
use Rattle.std.specs.Result.{IfOk}
use Rattle.std.proofs.Math.ListN.{length-append}
use Rattle.std.proofs.Math.Seq.{get_or-append_seam}
use Rattle.std.proofs.lemmas.Bool.{cases_eq}
use Rattle.std.proofs.lemmas.List.{get_or_default, take_more, take_all, take_at}
use Rattle.fair_search.specs.Passing.{IsUp}
use Rattle.std.proofs.lemmas.Option.{get_or_from_slice_get}

pub last_apart : (xs : List ℕ) (x : ℕ) → 0 < length xs → slice_get xs (length xs - 1) ≡ Some x
    → xs ≡ take (length xs - 1) xs ++ x ∷ []
last_apart xs x some at =
    let same : length xs - 1 + 1 ≡ length xs = omega arith in
    sym (take_all (length xs) xs (omega arith))
    ∙ (λ i. take (sym same i) xs)
    ∙ take_more xs (length xs - 1) 0 (omega arith)
    ∙ ap (λ y. take (length xs - 1) xs ++ y ∷ []) (get_or_from_slice_get xs (length xs - 1) x 0 at)

-- the list without its last element
pub without_last : (xs front : List ℕ) (x : ℕ) → xs ≡ front ++ x ∷ []
    → take (length xs - 1) xs ≡ front
without_last xs front x e =
    (λ i. take (length (e i) - 1) (e i)) ∙ take_at front (x ∷ []) _
    (omega (arith, length-append front (x ∷ [])))

pub ok-each : {T E : Type 0} (r : Result T E) {P Q : T → Type 0} → ((x : T) → P x → Q x) → IfOk r P
    → IfOk r Q
ok-each (Ok x) f there = f x there
ok-each (Err e) f there = tt

-- the last number of a list that rises is the greatest
pub up-last : (xs front : List ℕ) (b x : ℕ) → IsUp xs → xs ≡ front ++ b ∷ [] → Contains xs x → x ≤ b
up-last xs front b x rises ends (k, lt, at) =
    let long : length xs ≡ length front + 1 = ap length ends ∙ length-append front (b ∷ []) in
    let last : get_or xs (length front) 0 ≡ b = ap (λ ys. get_or ys (length front) 0) ends
    ∙ get_or-append_seam front b [] 0 in
    let here : get_or xs k 0 ≡ x = get_or_default xs k 0 x lt ∙ at in
    elim (cases_eq k (length front)) [
      | inl e ↦ omega (arith, here, ap (λ k. get_or xs k 0) e, last)
      | inr apart ↦ omega (
        arith,
        here,
        last,
        rises k (length front)
            (omega (arith, lt, long, apart)) (omega (arith, long)),
      )
    ]
