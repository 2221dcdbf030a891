-- Numbers joined by commas are the first one, and each other one behind a comma.
use Rattle.std.proofs.Common.{◌≡◌, ℕ, List, [], ◌∷◌, ◌++◌, ◌≤◌, length, take, decimal, ap, sym, ◌∙◌, append-nil, append_assoc}
use Rattle.std.specs.List.{flat_map}
use Rattle.std.proofs.lemmas.List.{take_all}
use Rattle.rank_proofs.specs.ProofTexts.{numbers_text}

pub joined-numbers : (n : ℕ) (ns : List ℕ) → numbers_text (n ∷ ns) ≡ decimal n ++ flat_map (λ k. 44 ∷ decimal k) ns
joined-numbers n [] = sym (append-nil (decimal n))
joined-numbers n (m ∷ ns) = ap (λ xs. decimal n ++ (44 ∷ xs)) (joined-numbers m ns)

-- all numbers, once those behind the first were added one by one
pub joined-all : (old front text : List ℕ) (n : ℕ) (ns numbers : List ℕ) (i : ℕ) → numbers ≡ n ∷ ns → front ≡ old ++ decimal n
    → text ≡ front ++ flat_map (λ k. 44 ∷ decimal k) (take i ns) → length ns ≤ i → text ≡ old ++ numbers_text numbers
joined-all old front text n ns numbers i are first e le =
    let f : ℕ → List ℕ = λ k. 44 ∷ decimal k in
    e ∙ ap (λ xs. front ++ flat_map f xs) (take_all i ns le) ∙ ap (λ m. m ++ flat_map f ns) first ∙ append_assoc old (decimal n) (flat_map f ns)
    ∙ ap (λ xs. old ++ xs) (sym (joined-numbers n ns)) ∙ ap (λ xs. old ++ numbers_text xs) (sym are)
