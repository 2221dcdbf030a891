-- The numbers of a set that are below some number.
use Rattle.std.proofs.Common.{◌≡◌, ◌≢◌, ℕ, ◌+◌, ◌<◌, ◌≤◌, true, false, inl, inr, sym, ap, ◌∙◌, subst, arith}
use Rattle.std.specs.FinSet.{empty, insert, contains, contains-empty}
use Rattle.std.specs.Ordering.{nat_cmp}
use Rattle.std.proofs.lemmas.Bool.{cases_eq}
use Rattle.ltl_tableau.specs.Branches.{Members}
use Rattle.ltl_tableau.proofs.Sets.{has-new, contains-other}

pub record FirstOf (n : ℕ) (s t : Members) : Type 0 where
  pub within : (k : ℕ) → k < n → contains t k ≡ contains s k
  pub none : (k : ℕ) → n ≤ k → contains t k ≡ false

pub first-none : (s t : Members) → t ≡ empty → FirstOf 0 s t
first-none s t e =
    record { within = λ k lt. absurd (omega arith); none = λ k le. ap (λ (x : Members). contains x k) e ∙ contains-empty nat_cmp k }

pub first-with : (n m : ℕ) (s t u : Members) → FirstOf n s t → contains s n ≡ true → u ≡ insert t n → m ≡ n + 1 → FirstOf m s u
first-with n m s t u f has e next =
    record {
      within = λ k lt. ap (λ (x : Members). contains x k) e ∙ elim (cases_eq k n) [
        | inl at ↦ let P : ℕ → Type 0 = λ q. contains (insert t n) q ≡ contains s q in subst P (sym at) (has-new t n ∙ sym has)
        | inr apart ↦ contains-other t n k apart ∙ f.within k (omega arith)
      ];
      none = λ k le. let apart : k ≢ n = omega arith in
          ap (λ (x : Members). contains x k) e ∙ contains-other t n k apart ∙ f.none k (omega arith);
    }

pub first-without : (n m : ℕ) (s t : Members) → FirstOf n s t → contains s n ≡ false → m ≡ n + 1 → FirstOf m s t
first-without n m s t f missing next =
    record {
      within = λ k lt. elim (cases_eq k n) [
        | inl at ↦ let P : ℕ → Type 0 = λ q. contains t q ≡ contains s q in subst P (sym at) (f.none n (omega arith) ∙ sym missing)
        | inr apart ↦ f.within k (omega arith)
      ];
      none = λ k le. f.none k (omega arith);
    }
