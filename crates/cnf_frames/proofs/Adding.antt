-- Lists to which clauses are added one after the other.
use Rattle.std.proofs.Common.{◌≡◌, ℕ, suc, ◌+◌, ◌<◌, List, [], ◌∷◌, ◌++◌, map, take, get_or, length, append_assoc, refl, sym, ap, ◌∙◌, arith}
use Rattle.std.specs.Prelude.{ℤ, neg_ℤ}
use Rattle.std.proofs.lemmas.List.{map-append, map_more}
use Rattle.chain_check.specs.Clauses.{Clause}
use Rattle.chain_check.specs.FewClauses.{for_each, alone, and_clauses, same_clauses, differ_clauses, guarded}

pub two_added : (old made more : List Clause) (c d : Clause) → made ≡ old ++ c ∷ [] →
    more ≡ made ++ d ∷ [] → more ≡ old ++ c ∷ d ∷ []
two_added old made more c d e f =
    f ∙ ap (λ l. l ++ d ∷ []) e ∙ append_assoc old (c ∷ []) (d ∷ [])

pub three_added : (old made more all : List Clause) (b c d : Clause) → made ≡ old ++ b ∷ [] →
    more ≡ made ++ c ∷ [] → all ≡ more ++ d ∷ [] → all ≡ old ++ b ∷ c ∷ d ∷ []
three_added old made more all b c d e f g =
    g ∙ ap (λ l. l ++ d ∷ []) (two_added old made more b c e f)
    ∙ append_assoc old (b ∷ c ∷ []) (d ∷ [])

-- two lists of clauses, one after the other
pub both_added : (old made more xs ys : List Clause) → made ≡ old ++ xs → more ≡ made ++ ys →
    more ≡ old ++ (xs ++ ys)
both_added old made more xs ys e f = f ∙ ap (λ l. l ++ ys) e ∙ append_assoc old xs ys

-- none yet
pub none_added : (old : List Clause) (f : ℕ → List Clause) → old ≡ old ++ for_each f 0
none_added old f = sym (append-none old)
  where
    append-none : (l : List Clause) → l ++ [] ≡ l
    append-none [] = refl
    append-none (c ∷ l) = ap (λ m. c ∷ m) (append-none l)

-- one more
pub one_added : (old made more : List Clause) (f : ℕ → List Clause) (i : ℕ) →
    made ≡ old ++ for_each f i → more ≡ made ++ f i → more ≡ old ++ for_each f (i + 1)
one_added old made more f i e g =
    let up : suc i ≡ i + 1 = omega arith in
    both_added old made more (for_each f i) (f i) e g ∙ ap (λ n. old ++ for_each f n) up

-- ---- clauses with opposite literals

pub and_added : (old made more all : List Clause) (l a b l' l'' a' b' : ℤ) → l' ≡ neg_ℤ l →
    l'' ≡ neg_ℤ l → a' ≡ neg_ℤ a → b' ≡ neg_ℤ b → made ≡ old ++ (l' ∷ a ∷ []) ∷ [] →
    more ≡ made ++ (l'' ∷ b ∷ []) ∷ [] → all ≡ more ++ (l ∷ a' ∷ b' ∷ []) ∷ [] →
    all ≡ old ++ and_clauses l a b
and_added old made more all l a b l' l'' a' b' p q r s e f g =
    let whole : all ≡ old ++ (l' ∷ a ∷ []) ∷ (l'' ∷ b ∷ []) ∷ (l ∷ a' ∷ b' ∷ []) ∷ [] =
    three_added old made more all (l' ∷ a ∷ []) (l'' ∷ b ∷ []) (l ∷ a' ∷ b' ∷ []) e f g in
    cc

pub differ_added : (old made more : List Clause) (d x y d' d'' x' y' : ℤ) → d' ≡ neg_ℤ d →
    d'' ≡ neg_ℤ d → x' ≡ neg_ℤ x → y' ≡ neg_ℤ y → made ≡ old ++ (d' ∷ x ∷ y ∷ []) ∷ [] →
    more ≡ made ++ (d'' ∷ x' ∷ y' ∷ []) ∷ [] → more ≡ old ++ guarded d (differ_clauses x y)
differ_added old made more d x y d' d'' x' y' p q r s e f =
    let whole : more ≡ old ++ (d' ∷ x ∷ y ∷ []) ∷ (d'' ∷ x' ∷ y' ∷ []) ∷ [] =
    two_added old made more (d' ∷ x ∷ y ∷ []) (d'' ∷ x' ∷ y' ∷ []) e f in
    cc

pub same_added : (old made more : List Clause) (d x y d' d'' x' y' : ℤ) → d' ≡ neg_ℤ d →
    d'' ≡ neg_ℤ d → x' ≡ neg_ℤ x → y' ≡ neg_ℤ y → made ≡ old ++ (d' ∷ x ∷ y' ∷ []) ∷ [] →
    more ≡ made ++ (d'' ∷ x' ∷ y ∷ []) ∷ [] → more ≡ old ++ guarded d (same_clauses x y)
same_added old made more d x y d' d'' x' y' p q r s e f =
    let whole : more ≡ old ++ (d' ∷ x ∷ y' ∷ []) ∷ (d'' ∷ x' ∷ y ∷ []) ∷ [] =
    two_added old made more (d' ∷ x ∷ y' ∷ []) (d'' ∷ x' ∷ y ∷ []) e f in
    cc

-- one more literal that is false
pub none_more : (old made more : List Clause) (d : ℤ) (f : ℕ → ℤ) (ls : List ℕ) (i : ℕ)
    (y : ℤ) → i < length ls → made ≡ old ++ guarded d (map (λ k. f k ∷ []) (take i ls)) →
    y ≡ f (get_or ls i 0) → more ≡ made ++ guarded d (alone y) →
    more ≡ old ++ guarded d (map (λ k. f k ∷ []) (take (i + 1) ls))
none_more old made more d f ls i y lt e same g =
    let c : Clause = f (get_or ls i 0) ∷ [] in
    let front : List Clause = map (λ k. f k ∷ []) (take i ls) in
    let whole : guarded d (map (λ k. f k ∷ []) (take (i + 1) ls))
    ≡ guarded d front ++ guarded d (c ∷ []) =
    ap (guarded d) (map_more (λ k. f k ∷ []) ls i 0 lt)
    ∙ map-append (λ b. neg_ℤ d ∷ b) front (c ∷ []) in
    both_added old made more (guarded d front) (guarded d (c ∷ [])) e
    (g ∙ ap (λ z. made ++ guarded d (alone z)) same) ∙ ap (λ z. old ++ z) (sym whole)

-- all of them
pub all_added : (old made : List Clause) (f : ℕ → List Clause) (i n : ℕ) →
    made ≡ old ++ for_each f i → i ≡ n → made ≡ old ++ for_each f n
all_added old made f i n e same = e ∙ ap (λ k. old ++ for_each f k) same

pub ruleset loops = (none_added, one_added, both_added)
