-- Lists to which clauses are added one after the other.
use Rattle.std.proofs.Common.{◌≡◌, ℕ, suc, ◌+◌, List, [], ◌∷◌, ◌++◌, append_assoc, append-nil, sym, ap, ◌∙◌, arith}
use Rattle.std.specs.Prelude.{ℤ, neg_ℤ}
use Rattle.chain_check.specs.Clauses.{Clause}
use Rattle.chain_check.specs.FewClauses.{for_each, and_clauses}

-- two lists of clauses, one after the other
pub both_added : (old made more xs ys : List Clause) → made ≡ old ++ xs → more ≡ made ++ ys →
    more ≡ old ++ (xs ++ ys)
both_added old made more xs ys e f = f ∙ ap (λ l. l ++ ys) e ∙ append_assoc old xs ys

-- none yet
pub none_added : (old : List Clause) (f : ℕ → List Clause) → old ≡ old ++ for_each f 0
none_added old f = sym (append-nil old)

-- one more
pub one_added : (old made more : List Clause) (f : ℕ → List Clause) (i : ℕ) →
    made ≡ old ++ for_each f i → more ≡ made ++ f i → more ≡ old ++ for_each f (i + 1)
one_added old made more f i e g =
    let up : suc i ≡ i + 1 = omega arith in
    both_added old made more (for_each f i) (f i) e g ∙ ap (λ n. old ++ for_each f n) up

-- all of them
pub all_added : (old made : List Clause) (f : ℕ → List Clause) (i n : ℕ) →
    made ≡ old ++ for_each f i → i ≡ n → made ≡ old ++ for_each f n
all_added old made f i n e same = e ∙ ap (λ k. old ++ for_each f k) same

pub ruleset loops = (none_added, one_added, both_added)

-- the three clauses of a gate, whose opposite literals were computed
pub and_added : (old made more all : List Clause) (l a b l' l'' a' b' : ℤ) → l' ≡ neg_ℤ l →
    l'' ≡ neg_ℤ l → a' ≡ neg_ℤ a → b' ≡ neg_ℤ b → made ≡ old ++ (l' ∷ a ∷ []) ∷ [] →
    more ≡ made ++ (l'' ∷ b ∷ []) ∷ [] → all ≡ more ++ (l ∷ a' ∷ b' ∷ []) ∷ [] →
    all ≡ old ++ and_clauses l a b
and_added old made more all l a b l' l'' a' b' p q r s e f g =
    let two : more ≡ old ++ (l' ∷ a ∷ []) ∷ (l'' ∷ b ∷ []) ∷ [] =
    both_added old made more ((l' ∷ a ∷ []) ∷ []) ((l'' ∷ b ∷ []) ∷ []) e f in
    let whole : all ≡ old ++ (l' ∷ a ∷ []) ∷ (l'' ∷ b ∷ []) ∷ (l ∷ a' ∷ b' ∷ []) ∷ [] =
    both_added old more all ((l' ∷ a ∷ []) ∷ (l'' ∷ b ∷ []) ∷ []) ((l ∷ a' ∷ b' ∷ []) ∷ []) two g in
    cc
