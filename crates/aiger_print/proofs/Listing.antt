-- Texts of numbers in order, by one more at the end.
use Rattle.std.proofs.Common.{◌≡◌, ℕ, suc, ◌+◌, ◌<◌, List, [], ◌∷◌, ◌++◌, length, get_or, drop, flat_map, sym, ◌∙◌, ap, arith, append_assoc, append-nil}
use Rattle.std.specs.Prelude.{decimal}
use Rattle.std.specs.List.{range_with_len}
use Rattle.std.proofs.lemmas.Grind.{flat_map-append}
use Rattle.hy_base.proofs.Places.{range-more}
use Rattle.aiger_body.specs.Spelled.{spelled, line_of}

pub listed_more : (bs : List ℕ) (f : ℕ → List ℕ) (n : ℕ) → (bs ++ flat_map f (range_with_len 0 n)) ++ f n ≡ bs ++ flat_map f (range_with_len 0 (n + 1))
listed_more bs f n =
    let next : suc n ≡ n + 1 = omega arith in
    let plain : 0 + n ≡ n = omega arith in
    append_assoc bs (flat_map f (range_with_len 0 n)) (f n)
    ∙ ap (λ l. bs ++ (flat_map f (range_with_len 0 n) ++ l)) (sym (append-nil (f n)))
    ∙ ap (λ l. bs ++ l) (sym (flat_map-append f (range_with_len 0 n) (n ∷ [])))
    ∙ ap (λ x. bs ++ flat_map f (range_with_len 0 n ++ x ∷ [])) (sym plain)
    ∙ ap (λ l. bs ++ flat_map f l) (sym (range-more 0 n))
    ∙ ap (λ m. bs ++ flat_map f (range_with_len 0 m)) next

-- the first number, and each later one behind a space
pub spelled_row : (n : ℕ) (row : List ℕ) → spelled (n ∷ row) ≡ decimal n ++ flat_map (λ m. 32 ∷ decimal m) row
spelled_row n [] = sym (append-nil (decimal n))
spelled_row n (m ∷ row) = ap (λ l. decimal n ++ 32 ∷ l) (spelled_row m row)

pub row_line : (old row one two : List ℕ) → 0 < length row → one ≡ old ++ decimal (get_or row 0 0) → two ≡ one ++ flat_map (λ m. 32 ∷ decimal m) (drop 1 row) → two ++ 10 ∷ [] ≡ old ++ line_of row
row_line old [] one two some first rest = absurd (omega arith)
row_line old (n ∷ row) one two some first rest =
    ap (λ l. l ++ 10 ∷ []) (rest ∙ ap (λ l. l ++ flat_map (λ m. 32 ∷ decimal m) row) first ∙ append_assoc old (decimal n) (flat_map (λ m. 32 ∷ decimal m) row) ∙ ap (λ l. old ++ l) (sym (spelled_row n row)))
    ∙ append_assoc old (spelled (n ∷ row)) (10 ∷ [])
