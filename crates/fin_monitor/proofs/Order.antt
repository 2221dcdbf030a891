-- The order of duties, and families: each set of duties is one family at most.
use Rattle.std.proofs.Common.{◌≡◌, ◌⊎◌, ℕ, ◌<◌, ◌≤◌, Bool, true, false, ◌&&◌, nat_eq, nat_lt, not, zero, suc, length, get_or, cond, max, List, [], ◌∷◌, ◌++◌, filter, inl, inr, refl, sym, ap, ◌∙◌, subst, arith}
use Rattle.std.specs.Cmp.{nat_cmp_total}
use Rattle.std.specs.FinSet.{contains, is_subset, is_subset-contains}
use Rattle.std.specs.Int.{bit_at}
use Rattle.std.specs.Int.RustNames.{bit_or}
use Rattle.std.specs.List.{Contains}
use Rattle.std.specs.List.Sorted.{IsPartitionedBy}
use Rattle.std.proofs.lemmas.Nat.{le_or_l}
use Rattle.std.proofs.lemmas.Nat.Bits.{bit_at_or, same_from_bits}
use Rattle.std.proofs.lemmas.Bool.{cases_eq, cases_lt, eq-eqb, eqb-true, ltb-true, lt-ltb, or_cases, or_left, or_right, and_parts, and_from}
use Rattle.hy_base.proofs.Members.{contains-here, contains-later, contains-cases, contains-none}
use Rattle.hy_bits.specs.Sets.{NumberSet}
use Rattle.hy_bits.specs.Binary.{number, ones}
use Rattle.hy_bits.specs.BinaryLaws.{ones-number, bit_at-number}
use Rattle.hy_formula.specs.Quantifiers.{Each}
use Rattle.hy_formula.proofs.Each.{each-at, each-place}
use Rattle.fin_monitor.specs.Duties.{Duty, within, Same}
use Rattle.fin_monitor.specs.Lefts.{precedes, IsAscending}

pub same-number : (s t : NumberSet) → number s ≡ number t → s ≡ t
same-number s t e = sym (ones-number s) ∙ ap ones e ∙ ones-number t

abbrev pub IsBefore : Duty → Duty → Type 0
IsBefore d e = (number d.strong < number e.strong) ⊎ ((number d.strong ≡ number e.strong) × (number d.weak < number e.weak))

pub before-from : (d e : Duty) → precedes d e ≡ true → IsBefore d e
before-from d e h =
    elim (or_cases (nat_lt (number d.strong) (number e.strong)) (nat_eq (number d.strong) (number e.strong) && nat_lt (number d.weak) (number e.weak)) h) [
      | inl a ↦ inl (ltb-true _ _ a)
      | inr b ↦ let (x, y) = and_parts (nat_eq (number d.strong) (number e.strong)) (nat_lt (number d.weak) (number e.weak)) b in inr (eqb-true _ _ x, ltb-true _ _ y)
    ]

pub before-of : (d e : Duty) → IsBefore d e → precedes d e ≡ true
before-of d e (inl lt) = or_left (nat_lt (number d.strong) (number e.strong)) _ (lt-ltb _ _ lt)
before-of d e (inr (same, lt)) =
    or_right (nat_lt (number d.strong) (number e.strong)) _ (and_from (nat_eq (number d.strong) (number e.strong)) _ (eq-eqb _ _ same) (lt-ltb _ _ lt))

pub before-through : (d e f : Duty) → IsBefore d e → IsBefore e f → IsBefore d f
before-through d e f (inl a) (inl b) = inl (omega arith)
before-through d e f (inl a) (inr (s, b)) = inl (omega arith)
before-through d e f (inr (s, a)) (inl b) = inl (omega arith)
before-through d e f (inr (s, a)) (inr (t, b)) = inr (omega arith, omega arith)

pub precedes-through : (d e f : Duty) → precedes d e ≡ true → precedes e f ≡ true → precedes d f ≡ true
precedes-through d e f p q = before-of d f (before-through d e f (before-from d e p) (before-from e f q))

pub precedes-never : (d : Duty) → precedes d d ≡ true → ⊥
precedes-never d h = elim (before-from d d h) [ inl a ↦ omega arith | inr (s, b) ↦ omega arith ]

-- ---- what is within another precedes it

one-max : (a b : Bool) → (a ≡ true → b ≡ true) → cond b 1 0 ≡ max (cond a 1 0) (cond b 1 0)
one-max true true h = refl
one-max false true h = refl
one-max false false h = refl
one-max true false h = let wrong : false ≡ true = h refl in absurd (cc)

pub subset-number : (s t : NumberSet) → is_subset s t ≡ true → number s ≤ number t
subset-number s t h =
    let a = number s in
    let b = number t in
    let P : ℕ → Type 0 = λ n. number s ≤ n in
    let bits : (q : ℕ) → bit_at b q ≡ bit_at (bit_or a b) q = λ q. bit_at-number t q
    ∙ one-max (contains s q) (contains t q) (is_subset-contains nat_cmp_total s t h q)
    ∙ ap (λ x. max x (cond (contains t q) 1 0)) (sym (bit_at-number s q))
    ∙ ap (λ x. max (bit_at a q) x) (sym (bit_at-number t q))
    ∙ sym (bit_at_or a b q) in
    subst P (sym (same_from_bits b (bit_or a b) bits)) (le_or_l a b)

pub within-earlier : (e d : Duty) → within e d ≡ true → precedes d e ≡ false
within-earlier e d w = step (precedes d e) refl
  where
    never : IsBefore d e → ⊥
    never before =
        let (s, t) = and_parts (is_subset e.strong d.strong) (is_subset e.weak d.weak) w in
        let strong = subset-number e.strong d.strong s in
        let weak = subset-number e.weak d.weak t in
        elim before [ inl lt ↦ omega arith | inr (same, lt) ↦ omega arith ]

    step : (b : Bool) → precedes d e ≡ b → precedes d e ≡ false
    step false p = p
    step true p = absurd (never (before-from d e p))

pub duty-by : (d e : Duty) → d.strong ≡ e.strong → d.weak ≡ e.weak → d ≡ e
duty-by d e s w =
    ap (λ x. let made : Duty = record { strong = x; weak = d.weak } in made) s
    ∙ ap (λ x. let made : Duty = record { strong = e.strong; weak = x } in made) w

-- of two that differ one precedes the other
pub precedes-other : (d e : Duty) → ¬ (precedes e d ≡ true) → ¬ (d ≡ e) → precedes d e ≡ true
precedes-other d e not_before apart =
    elim (cases_lt (number d.strong) (number e.strong)) [
      | inl lt ↦ before-of d e (inl lt)
      | inr le ↦
          elim (cases_lt (number e.strong) (number d.strong)) [
            | inl more ↦ absurd (not_before (before-of e d (inl more)))
            | inr ge ↦
                let same : number d.strong ≡ number e.strong = omega arith in
                elim (cases_lt (number d.weak) (number e.weak)) [
                  | inl lt ↦ before-of d e (inr (same, lt))
                  | inr ge' ↦
                      elim (cases_lt (number e.weak) (number d.weak)) [
                        | inl more ↦ absurd (not_before (before-of e d (inr (sym same, more))))
                        | inr le' ↦ let w : number d.weak ≡ number e.weak = omega arith in absurd (apart (duty-by d e (same-number d.strong e.strong same) (same-number d.weak e.weak w)))
                      ]
                ]
          ]
    ]

-- ---- ascending lists

rest-same : (x : Duty) (xs ys : List Duty) → IsAscending (x ∷ xs) → IsAscending (x ∷ ys) → Same (x ∷ xs) (x ∷ ys) → (d : Duty) → Contains xs d → Contains ys d
rest-same x xs ys (first, up) (first', up') same d c =
    elim (contains-cases x d ys ((same d).0 (contains-later x d xs c))) [
      | inr later ↦ later
      | inl e ↦ let P : Duty → Type 0 = λ z. precedes x z ≡ true in absurd (precedes-never x (subst P (sym e) (each-at P xs d first c)))
    ]

pub same-ascending : (xs ys : List Duty) → IsAscending xs → IsAscending ys → Same xs ys → xs ≡ ys
same-ascending [] [] up up' same = refl
same-ascending [] (y ∷ ys) up up' same = absurd (contains-none y ((same y).1 (contains-here y ys)))
same-ascending (x ∷ xs) [] up up' same = absurd (contains-none x ((same x).0 (contains-here x xs)))
same-ascending (x ∷ xs) (y ∷ ys) up up' same =
    let e : x ≡ y = heads in
    let P : Duty → Type 0 = λ z. IsAscending (z ∷ ys) in
    let Q : Duty → Type 0 = λ z. Same (x ∷ xs) (z ∷ ys) in
    let up'' = subst P (sym e) up' in
    let same' = subst Q (sym e) same in
    let back : Same (x ∷ ys) (x ∷ xs) = λ d. ((same' d).1, (same' d).0) in
    let rest : xs ≡ ys = same-ascending xs ys up.1 up'.1 (λ d. (rest-same x xs ys up up'' same' d, rest-same x ys xs up'' up back d)) in
    ap (λ z. z ∷ xs) e ∙ ap (λ zs. y ∷ zs) rest
  where
    heads : x ≡ y
    heads =
        elim (contains-cases y x ys ((same x).0 (contains-here x xs))) [
          | inl e ↦ sym e
          | inr later ↦
              elim (contains-cases x y xs ((same y).1 (contains-here y ys))) [
                | inl e ↦ e
                | inr later' ↦
                    let p = each-at (λ (z : Duty). precedes y z ≡ true) ys x up'.0 later in
                    let q = each-at (λ (z : Duty). precedes x z ≡ true) xs y up.0 later' in
                    absurd (precedes-never x (precedes-through x y x q p))
              ]
        ]

pub ascending-filter : (p : Duty → Bool) (xs : List Duty) → IsAscending xs → IsAscending (filter p xs)
ascending-filter p [] up = tt
ascending-filter p (x ∷ xs) (first, up) = step (p x) (ascending-filter p xs up) (each-filter (λ (z : Duty). precedes x z ≡ true) xs first)
  where
    each-filter : (P : Duty → Type 0) (ys : List Duty) → Each P ys → Each P (filter p ys)
    each-filter P [] all = tt
    each-filter P (y ∷ ys) (h, all) = one (p y) (each-filter P ys all)
      where
        one : (b : Bool) → Each P (filter p ys) → Each P (cond b (y ∷ filter p ys) (filter p ys))
        one true more = (h, more)
        one false more = more

    step : (b : Bool) → IsAscending (filter p xs) → Each (λ (z : Duty). precedes x z ≡ true) (filter p xs) → IsAscending (cond b (x ∷ filter p xs) (filter p xs))
    step true up' all = (all, up')
    step false up' all = up'

-- those before d, d, and those behind it
pub ascending-between : (xs ys : List Duty) (d : Duty) → IsAscending (xs ++ ys) → Each (λ (e : Duty). precedes e d ≡ true) xs → Each (λ (e : Duty). precedes d e ≡ true) ys
    → IsAscending (xs ++ d ∷ ys)
ascending-between [] ys d up before behind = (behind, up)
ascending-between (x ∷ xs) ys d (first, up) (h, before) behind = (with_d xs first, ascending-between xs ys d up before behind)
  where
    with_d : (zs : List Duty) → Each (λ (e : Duty). precedes x e ≡ true) (zs ++ ys) → Each (λ (e : Duty). precedes x e ≡ true) (zs ++ d ∷ ys)
    with_d [] all = (h, all)
    with_d (z ∷ zs) (one, all) = (one, with_d zs all)

pub ascending-later : (xs ys : List Duty) → IsAscending (xs ++ ys) → IsAscending ys
ascending-later [] ys up = up
ascending-later (x ∷ xs) ys (first, up) = ascending-later xs ys up

-- ---- what a duty precedes stands behind what it does not

pub ascending-at : (xs : List Duty) → IsAscending xs → (i j : ℕ) (d : Duty) → i < j → j < length xs → precedes (get_or xs i d) (get_or xs j d) ≡ true
ascending-at [] up i j d lt within = absurd (omega arith)
ascending-at (x ∷ xs) (first, up) zero zero d lt within = absurd (omega arith)
ascending-at (x ∷ xs) (first, up) zero (suc j) d lt within = each-place (λ (e : Duty). precedes x e ≡ true) xs d first j (omega arith)
ascending-at (x ∷ xs) (first, up) (suc i) zero d lt within = absurd (omega arith)
ascending-at (x ∷ xs) (first, up) (suc i) (suc j) d lt within = ascending-at xs up i j d (omega arith) (omega arith)

pub ascending-parted : (xs : List Duty) (d : Duty) → IsAscending xs → IsPartitionedBy (λ e. not (precedes d e)) xs
ascending-parted xs d up i j e le lt h = step (precedes d (get_or xs i e)) refl
  where
    step : (b : Bool) → precedes d (get_or xs i e) ≡ b → not (precedes d (get_or xs i e)) ≡ true
    step false p = ap not p
    step true p =
        elim (cases_eq i j) [
          | inl same ↦ let P : ℕ → Type 0 = λ k. not (precedes d (get_or xs k e)) ≡ true in subst P (sym same) h
          | inr apart ↦
              let later = precedes-through d (get_or xs i e) (get_or xs j e) p (ascending-at xs up i j e (omega arith) lt) in
              let wrong : false ≡ true = sym (ap not later) ∙ h in
              absurd (cc)
        ]
