-- Literals and numbers of chains of more than 32 bits: no chain has any that is right, nor has one
-- where 0 stands in their place.
use Rattle.std.proofs.Common.{◌≡◌, ℕ, zero, suc, ◌-◌, ◌<◌, ◌≤◌, ◌^◌, ◌↔◌, Bool, true, false, cond, List, [], ◌∷◌, map, length, refl, sym, ◌∙◌, ap, subst, arith, le-leb}
use Rattle.std.specs.Prelude.{ℤ, pos, unsigned_abs, nat_le, get_or}
use Rattle.std.specs.List.{Contains}
use Rattle.std.proofs.lemmas.List.{get_or-map, length-map}
use Rattle.std.proofs.lemmas.List.Elements.{Contains-append_right}
use Rattle.std.proofs.lemmas.Option.{slice_get_within}
use Rattle.chain_check.specs.Clauses.{Clause, AreLiterals}
use Rattle.chain_check.specs.Chains.{Refutes, ends, goes, Follows}
use Rattle.cert_text.specs.Shortened.{short_literal, short_number}

-- ---- maps that change nothing

map-same : {A : Type 0} (f : A → A) (xs : List A) → ((x : A) → Contains xs x → f x ≡ x)
    → map f xs ≡ xs
map-same f [] same = refl
map-same f (x ∷ xs) same =
    ap (λ y. y ∷ map f xs) (same x (0, omega arith, refl))
    ∙ ap (λ l. x ∷ l)
    (map-same f xs (λ y there. same y (Contains-append_right (x ∷ []) xs y there)))

-- what a map makes of an element
map-there : {A : Type 0} (f : A → A) (xs : List A) (x : A) → Contains xs x
    → Contains (map f xs) (f x)
map-there f xs x (k, lt, e) =
    (k, omega (arith, lt, length-map xs f), get_or-map f xs k x (f x) lt ∙ ap f e)

-- ---- literals

literal-kept : (test : Bool) (l : ℤ) → 0 < unsigned_abs (cond test l (pos 0))
    → cond test l (pos 0) ≡ l
literal-kept true l some = refl
literal-kept false l some = absurd (omega arith)

literal-small : (l : ℤ) → unsigned_abs l < 2 ^ 31 → short_literal l ≡ l
literal-small l few =
    let small : nat_le (unsigned_abs l) 2147483647 ≡ true = le-leb (unsigned_abs l) 2147483647 (omega arith) in
    ap (λ b. cond b l (pos 0)) small

-- ---- numbers

number-kept : (test : Bool) (n : ℕ) → 0 < cond test n 0 → cond test n 0 ≡ n
number-kept true n some = refl
number-kept false n some = absurd (omega arith)

number-small : (n : ℕ) → n < 2 ^ 32 → short_number n ≡ n
number-small n few =
    let small : nat_le n 4294967295 ≡ true = le-leb n 4294967295 (omega arith) in
    ap (λ b. cond b n 0) small

-- Each number of a chain is that of a clause.
counted : (known : List Clause) {trues : List ℤ} {chain : List ℕ} → Refutes known trues chain
    → (k : ℕ) → Contains chain k → (0 < k) × (k ≤ length known)
counted known (ends {k = k} c at false') n (i, lt, e) =
    let one : k ≡ n = first i lt e in
    let within = slice_get_within known (k - 1) c at.there in
    let some = at.counted in
    (omega (arith, one, some), omega (arith, one, some, within))
  where
    first : (i : ℕ) → i < 1 → get_or (k ∷ []) i n ≡ n → k ≡ n
    first zero lt e = e
    first (suc i) lt e = absurd (omega arith)
counted known (goes {k = k} {chain = chain} c l at unit more) n (zero, lt, e) =
    let one : k ≡ n = e in
    let within = slice_get_within known (k - 1) c at.there in
    let some = at.counted in
    (omega (arith, one, some), omega (arith, one, some, within))
counted known (goes {k = k} {chain = chain} c l at unit more) n (suc i, lt, e) =
    counted known more n (i, omega arith, e)

-- ---- what follows

-- The same follows, whether or not longer numbers are made 0.
pub short_follows : (variables : ℕ) (known : List Clause) (clause : Clause) (chain : List ℕ)
    → variables < 2 ^ 31 → length known < 2 ^ 32
    → Follows variables known (map short_literal clause) (map short_number chain)
    ↔ Follows variables known clause chain
short_follows variables known clause chain few_variables few_clauses = (
  λ follows.
      let literals = literals_kept clause follows.literals in
      let numbers = numbers_kept chain (counted known follows.refuted) in
      let P : Clause → Type 0 = λ c. Follows variables known c (map short_number chain) in
      let Q : List ℕ → Type 0 = λ ks. Follows variables known clause ks in
      subst Q numbers (subst P literals follows),
  λ follows.
      let literals = literals_small clause follows.literals in
      let numbers = numbers_small chain (counted known follows.refuted) in
      let P : Clause → Type 0 = λ c. Follows variables known c (map short_number chain) in
      let Q : List ℕ → Type 0 = λ ks. Follows variables known clause ks in
      subst P (sym literals) (subst Q (sym numbers) follows),
)
  where
    literals_kept : (c : Clause) → AreLiterals variables (map short_literal c)
        → map short_literal c ≡ c
    literals_kept c right = map-same short_literal c
        (λ l there. literal-kept (nat_le (unsigned_abs l) 2147483647) l
        (right (short_literal l) (map-there short_literal c l there)).0)

    literals_small : (c : Clause) → AreLiterals variables c → map short_literal c ≡ c
    literals_small c right = map-same short_literal c
        (λ l there. literal-small l (omega (arith, (right l there).1, few_variables)))

    numbers_kept : (ks : List ℕ)
        → ((k : ℕ) → Contains (map short_number ks) k → (0 < k) × (k ≤ length known))
        → map short_number ks ≡ ks
    numbers_kept ks right = map-same short_number ks
        (λ k there. number-kept (nat_le k 4294967295) k
        (right (short_number k) (map-there short_number ks k there)).0)

    numbers_small : (ks : List ℕ)
        → ((k : ℕ) → Contains ks k → (0 < k) × (k ≤ length known)) → map short_number ks ≡ ks
    numbers_small ks right = map-same short_number ks
        (λ k there. number-small k (omega (arith, (right k there).1, few_clauses)))

-- What follows has no literal of more than 32 bits.
pub short_clause : (variables : ℕ) (known : List Clause) (clause : Clause) (chain : List ℕ)
    → Follows variables known (map short_literal clause) chain → map short_literal clause ≡ clause
short_clause variables known clause chain follows = map-same short_literal clause
    (λ l there. literal-kept (nat_le (unsigned_abs l) 2147483647) l
    (follows.literals (short_literal l) (map-there short_literal clause l there)).0)
