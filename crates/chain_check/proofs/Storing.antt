-- Clauses in one list of literals.
use Rattle.std.proofs.Common.{◌≡◌, ℕ, ◌-◌, ◌<◌, ◌≤◌, ◌^◌, inl, inr, List, [], ◌∷◌, ◌++◌, length, map, take, drop, refl, sym, ap, ◌∙◌, subst, arith}
use Rattle.std.specs.Prelude.{ℤ, slice_range}
use Rattle.std.specs.List.{All}
use Rattle.std.specs.Prelude.{Result, Ok, Err, OnOk, OnErr}
use Rattle.std.proofs.lemmas.List.{drop-append-le, take-append-le, drop_at, take_all, length-append, length-drop, length_push, map_push}
use Rattle.std.proofs.lemmas.List.Elements.{All-head, All-tail, Contains-push_cases}
use Rattle.chain_check.specs.declared.clauses.Span.{Span}
use Rattle.chain_check.specs.Clauses.{Clause, AreLiterals, AreClauses}

abbrev pub IsWithin : List ℤ → Span → Type 0
IsWithin literals p = (p.start ≤ p.end) × (p.end ≤ length literals)

same-slice : (xs ys : List ℤ) (s e : ℕ) → s ≤ e → e ≤ length xs →
    take (e - s) (drop s (xs ++ ys)) ≡ take (e - s) (drop s xs)
same-slice xs ys s e le within =
    let fits : s ≤ length xs = omega arith in
    let few : e - s ≤ length (drop s xs) = omega (arith, length-drop s xs) in
    ap (take (e - s)) (drop-append-le s xs ys fits) ∙ take-append-le (e - s) (drop s xs) ys few

last-slice : (xs ys : List ℤ) → take (length (xs ++ ys) - length xs)
    (drop (length xs) (xs ++ ys)) ≡ ys
last-slice xs ys =
    let few : length ys ≤ length (xs ++ ys) - length xs = omega (arith, length-append xs ys) in
    ap (take (length (xs ++ ys) - length xs)) (drop_at xs ys (length xs) refl) ∙
    take_all (length (xs ++ ys) - length xs) ys few

pub same-stored : (literals more : List ℤ) (spans : List Span) → All (IsWithin literals) spans →
    map (λ p. slice_range (literals ++ more) p.start p.end) spans ≡ map
    (λ p. slice_range literals p.start p.end) spans
same-stored literals more [] all = refl
same-stored literals more (p ∷ spans) all =
    let here : IsWithin literals p = All-head (IsWithin literals) p spans all in
    let first : slice_range (literals ++ more) p.start p.end ≡ slice_range literals p.start p.end =
    same-slice literals more p.start p.end here.0 here.1 in
    let rest = same-stored literals more spans (All-tail (IsWithin literals) p spans all) in
    ap (λ c. c ∷ map (λ p. slice_range (literals ++ more) p.start p.end) spans) first ∙
    ap (λ cs. slice_range literals p.start p.end ∷ cs) rest

pub added-stored : (literals more : List ℤ) (spans : List Span) (p : Span) →
    All (IsWithin literals) spans → p.start ≡ length literals → p.end ≡ length (literals ++ more) →
    map (λ p. slice_range (literals ++ more) p.start p.end) (spans ++ p ∷ []) ≡ map
    (λ p. slice_range literals p.start p.end) spans ++ more ∷ []
added-stored literals more spans p all starts ends =
    let P : ℕ → ℕ → List ℤ = λ s e. take (e - s) (drop s (literals ++ more)) in
    let last : P p.start p.end ≡ more = ap (λ s. P s p.end) starts ∙ ap (P (length literals)) ends ∙
    last-slice literals more in
    map_push (λ (q : Span). slice_range (literals ++ more) q.start q.end) spans p ∙
    ap (λ c. map (λ q. slice_range (literals ++ more) q.start q.end) spans ++ c ∷ []) last ∙
    ap (λ cs. cs ++ more ∷ []) (same-stored literals more spans all)

pub clauses-more : (n : ℕ) (clauses : List Clause) (c : Clause) → AreClauses n clauses →
    AreLiterals n c → AreClauses n (clauses ++ c ∷ [])
clauses-more n clauses c right now d there = elim
    (Contains-push_cases clauses c d there) [
      | inl h ↦ right d h
      | inr e ↦ let P : Clause → Type 0 =
          AreLiterals n in subst P e now
    ]

pub on-err : {A E : Type 0} (r : Result A E) (P : Type 0) → P → OnErr r P
on-err (Ok a) P p = tt
on-err (Err e) P p = p

-- the clauses after one was added or refused
pub few-after : {A E : Type 0} (r : Result A E) (old new : List Clause) (c : Clause) →
    OnOk r (new ≡ old ++ c ∷ []) → OnErr r (new ≡ old) →
    length old < 2 ^ 31 - 1 → length new < 2 ^ 31
few-after (Ok a) old new c added same few = omega (arith, ap length added, length_push old c, few)
few-after (Err e) old new c added same few = omega (arith, ap length same, few)

pub clauses-after : {A E : Type 0} (r : Result A E) (n : ℕ) (old new : List Clause) (c : Clause) →
    OnOk r (new ≡ old ++ c ∷ []) → OnErr r (new ≡ old) → AreClauses n old → AreLiterals n c →
    AreClauses n new
clauses-after (Ok a) n old new c added same right now = let P : List Clause → Type 0 =
    AreClauses n in subst P (sym added) (clauses-more n old c right now)
clauses-after (Err e) n old new c added same right now = let P : List Clause → Type 0 =
    AreClauses n in subst P (sym same) right
