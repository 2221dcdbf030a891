-- The numbers of a set in a list.
use Rattle.std.proofs.Common.{◌≡◌, ℕ, zero, suc, ◌+◌, ◌<◌, ◌≤◌, ◌⊎◌, Bool, true, false, cond, List, [], ◌∷◌, ◌++◌, inl, inr, refl, sym, ap, ◌∙◌, subst, arith}
use Rattle.std.specs.List.{filter, range_with_len}
use Rattle.std.specs.List.Sorted.{IsStrictlyIncreasing}
use Rattle.std.specs.FinSet.{contains, same_set, nat_cmp-IsAntisymmetric}
use Rattle.std.specs.Cmp.{nat_cmp_total}
use Rattle.std.proofs.lemmas.Bool.{cases_order, false≢true}
use Rattle.std.proofs.lemmas.List.Elements.{filter-append}
use Rattle.std.proofs.lemmas.List.FromFn.{length-range_with_len, get_or-range_with_len}
use Rattle.std.proofs.lemmas.List.Kept.{IsStrictlyIncreasing-filter}
use Rattle.hy_base.proofs.Places.{range-more}
use Rattle.hy_base.proofs.Truths.{same-truth}
use Rattle.hy_bits.specs.Sets.{AreBelow}
use Rattle.ltl_tableau.specs.Branches.{Members, Has}
use Rattle.ltl_tableau.specs.Tasks.{set_of}
use Rattle.ltl_tableau.proofs.Sets.{has-new, has-old, has-cases, has-none}

-- the numbers below n of a set
abbrev pub numbers_of : Members → ℕ → List ℕ
numbers_of s n = filter (contains s) (range_with_len 0 n)

numbers-next : (s : Members) (n : ℕ) → numbers_of s (n + 1) ≡ numbers_of s n ++ cond (contains s n) (n ∷ []) []
numbers-next s n =
    let one : n + 1 ≡ suc n = omega arith in
    let k : 0 + n ≡ n = omega arith in
    ap (λ m. filter (contains s) (range_with_len 0 m)) one ∙ ap (filter (contains s)) (range-more 0 n)
    ∙ filter-append (contains s) (range_with_len 0 n) ((0 + n) ∷ [])
    ∙ ap (λ m. numbers_of s n ++ cond (contains s m) (m ∷ []) []) k

pub numbers-with : (s : Members) (n : ℕ) (old new : List ℕ) → contains s n ≡ true → old ≡ numbers_of s n → new ≡ old ++ n ∷ [] → new ≡ numbers_of s (n + 1)
numbers-with s n old new is e e' =
    e' ∙ ap (λ xs. xs ++ n ∷ []) e ∙ ap (λ b. numbers_of s n ++ cond b (n ∷ []) []) (sym is) ∙ sym (numbers-next s n)

pub numbers-without : (s : Members) (n : ℕ) (old : List ℕ) → contains s n ≡ false → old ≡ numbers_of s n → old ≡ numbers_of s (n + 1)
numbers-without s n old is e =
    e ∙ sym (append-none (numbers_of s n)) ∙ ap (λ b. numbers_of s n ++ cond b (n ∷ []) []) (sym is) ∙ sym (numbers-next s n)
  where
    append-none : (xs : List ℕ) → xs ++ [] ≡ xs
    append-none [] = refl
    append-none (x ∷ xs) = ap (λ ys. x ∷ ys) (append-none xs)

module _ (p : ℕ → Bool) where
  has-step : (a q : ℕ) (rest : List ℕ) → (Has (set_of rest) q → p q ≡ true) → (b : Bool) → p a ≡ b → Has (set_of (cond b (a ∷ rest) rest)) q → p q ≡ true
  has-step a q rest more true e has = elim (has-cases (set_of rest) a q has) [
    | inl same ↦ subst (λ k. p k ≡ true) (sym same) e
    | inr old ↦ more old
  ]
  has-step a q rest more false e has = more has

  has-passes : (a n q : ℕ) → Has (set_of (filter p (range_with_len a n))) q → p q ≡ true
  has-passes a zero q h = absurd (has-none q h)
  has-passes a (suc n) q h = has-step a q (filter p (range_with_len (a + 1) n)) (has-passes (a + 1) n q) (p a) refl h

  passes-step : (a q : ℕ) (rest : List ℕ) → p q ≡ true → (a < q → Has (set_of rest) q) → (b : Bool) → p a ≡ b → (a ≡ q) ⊎ (a < q) → Has (set_of (cond b (a ∷ rest) rest)) q
  passes-step a q rest is later true e (inl same) = subst (λ k. Has (set_of (a ∷ rest)) k) same (has-new (set_of rest) a)
  passes-step a q rest is later true e (inr past) = has-old (set_of rest) a q (later past)
  passes-step a q rest is later false e (inl same) = absurd (false≢true (sym e ∙ ap p same ∙ is))
  passes-step a q rest is later false e (inr past) = later past

  from-on : (a q : ℕ) → a ≤ q → (a ≡ q) ⊎ (a < q)
  from-on a q le = elim (cases_order a q) [ inl same ↦ inl same | inr (inl past) ↦ inr past | inr (inr below) ↦ absurd (omega arith) ]

  passes-has : (a n q : ℕ) → a ≤ q → q < a + n → p q ≡ true → Has (set_of (filter p (range_with_len a n))) q
  passes-has a zero q le lt is = absurd (omega arith)
  passes-has a (suc n) q le lt is =
      passes-step a q (filter p (range_with_len (a + 1) n)) is (λ past. passes-has (a + 1) n q (omega arith) (omega arith) is) (p a) refl (from-on a q le)

-- The list has the numbers of the set, ascending.
pub numbers-set : (s : Members) (n : ℕ) (list : List ℕ) → AreBelow n s → list ≡ numbers_of s n → set_of list ≡ s
numbers-set s n list below e =
    ap set_of e ∙ same_set nat_cmp_total nat_cmp-IsAntisymmetric (set_of (numbers_of s n)) s (λ q.
    same-truth _ _ (has-passes (contains s) 0 n q) (λ is. passes-has (contains s) 0 n q (omega arith) (omega (arith, below q is)) is))

pub numbers-ascend : (s : Members) (n : ℕ) (list : List ℕ) → list ≡ numbers_of s n → IsStrictlyIncreasing list
numbers-ascend s n list e =
    subst IsStrictlyIncreasing (sym e) (IsStrictlyIncreasing-filter (contains s) (range_with_len 0 n) (λ k lt.
    omega (arith, length-range_with_len 0 n, get_or-range_with_len 0 n k 0 (omega (arith, length-range_with_len 0 n)), get_or-range_with_len 0 n (k + 1) 0 (omega (arith, length-range_with_len 0 n)))))
