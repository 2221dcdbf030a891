-- How many letters are left at most.
use Rattle.std.proofs.Common.{◌≡◌, ℕ, zero, suc, ◌+◌, ◌-◌, ◌<◌, ◌≤◌, max, Bool, true, false, ◌||◌, List, [], ◌∷◌, length, map, set, get_or, inl, inr, refl, ap, arith}
use Rattle.std.specs.List.{Contains, list_any}
use Rattle.hy_base.proofs.Members.{contains-here, contains-later, contains-cases, contains-none}
use Rattle.hy_formula.specs.Quantifiers.{Each}
use Rattle.hy_finite.specs.declared.lengths.Lengths.{Lengths}
use Rattle.trace_trie.specs.Numbered.{Numbered, tail}
use Rattle.tuple_walk.specs.declared.place.Taken.{Taken}
use Rattle.tuple_walk.specs.declared.place.Taken.TheVariants.{Nothing, Letter, Gap}
use Rattle.tuple_walk.specs.declared.place.Place.{Place}
use Rattle.tuple_walk.specs.Places.{whole_behind, whole_of, IsMoved, AreSome, taken_of, taken_entry, is_letter}
use Rattle.tuple_walk.proofs.Stepping.{left_at, back, length-tail}

abbrev pub longest_in : List Numbered → ℕ
longest_in [] = 0
longest_in (p ∷ ps) = max (length p.1) (longest_in ps)

abbrev pub longest : List (List Numbered) → ℕ
longest [] = 0
longest (l ∷ ls) = max (longest_in l) (longest ls)

pub in-most : (l : List Numbered) (p : Numbered) → Contains l p → length p.1 ≤ longest_in l
in-most [] p c = absurd (contains-none p c)
in-most (q ∷ l) p c = elim (contains-cases q p l c) [
  | inl e ↦ omega (arith, ap (λ (o : Numbered). length o.1) e)
  | inr later ↦ omega (arith, in-most l p later)
]

pub in-least : (l : List Numbered) (b : ℕ) → ((p : Numbered) → Contains l p → length p.1 ≤ b)
    → longest_in l ≤ b
in-least [] b h = omega arith
in-least (q ∷ l) b h =
    let here = h q (contains-here q l) in
    let more = in-least l b (λ p c. h p (contains-later q p l c)) in
    omega arith

pub longest-set : (ls : List (List Numbered)) (i : ℕ) (w : List Numbered)
    → ((p : Numbered) → Contains w p → Contains (get_or ls i []) p)
    → longest (set ls i w) ≤ longest ls
longest-set [] i w part = omega arith
longest-set (l ∷ ls) zero w part =
    let least = in-least w (longest_in l) (λ p c. in-most l p (part p c)) in
    omega arith
longest-set (l ∷ ls) (suc i) w part = omega (arith, longest-set ls i w part)

step-one : (lengths : Lengths) (p : Place) → IsMoved lengths p
    → longest_in (left_at p) ≤ longest_in (whole_of p) - 1
step-one lengths p m = in-least (left_at p) (longest_in (whole_of p) - 1) (λ y c.
    let (x, d, n, t) = back lengths p.taken (left_at p) y m c in
    let long : length (tail x.1) ≡ length y.1 = ap length t in
    omega (arith, long, length-tail x.1, in-most (whole_of p) x d))

step-all : (lengths : Lengths) (places : List Place) → Each (IsMoved lengths) places
    → longest (map left_at places) ≤ longest (map whole_of places) - 1
step-all lengths [] m = omega arith
step-all lengths (p ∷ places) m =
    let here = step-one lengths p m.0 in
    let more = step-all lengths places m.1 in
    omega arith

letter-long : (t : Taken) (rests : List Numbered) → 0 < length (whole_behind t rests)
    → is_letter (taken_entry t) ≡ true → 0 < longest_in (whole_behind t rests)
letter-long Nothing rests some e = absurd (cc)
letter-long (Letter a) [] some e = absurd (omega arith)
letter-long (Letter a) (p ∷ rests) some e = omega arith
letter-long Gap rests some e = absurd (cc)

some-long : (places : List Place) → AreSome (map whole_of places)
    → list_any is_letter (map taken_of places) ≡ true → 0 < longest (map whole_of places)
some-long [] some e = absurd (cc)
some-long (p ∷ places) some e =
    at (is_letter (taken_of p)) refl e (some-long places some.1)
  where
    at : (b : Bool) → is_letter (taken_of p) ≡ b
        → (b || list_any is_letter (map taken_of places)) ≡ true
        → (list_any is_letter (map taken_of places) ≡ true → 0 < longest (map whole_of places))
        → 0 < longest (map whole_of (p ∷ places))
    at true f e more = omega (arith, letter-long p.taken (left_at p) some.0 f)
    at false f e more = omega (arith, more e)

-- with a step by a letter fewer are left
pub longest-step : (lengths : Lengths) (places : List Place) → Each (IsMoved lengths) places
    → AreSome (map whole_of places) → list_any is_letter (map taken_of places) ≡ true
    → longest (map left_at places) + 1 ≤ longest (map whole_of places)
longest-step lengths places m some e =
    omega (arith, step-all lengths places m, some-long places some e)
