-- Pieces from their first byte on.
use Rattle.std.proofs.Common.{◌≡◌, ℕ, zero, suc, ◌+◌, ◌-◌, ◌<◌, ◌≤◌, Bool, true, false, List, [], ◌∷◌, length, get_or, take, drop, refl, ◌∙◌, ap, arith}
use Rattle.std.proofs.Math.Seq.{drop-cons}
use Rattle.aiger_body.specs.Texts.{grown, pieces, piece_at, is_ended, without_end}
use Rattle.aiger_body.specs.Words.{first_len}

pub ended_last : (ends : ℕ → Bool) (text : List ℕ) → 0 < length text → is_ended ends text ≡ ends (get_or text (length text - 1) 0)
ended_last ends [] some = absurd (omega arith)
ended_last ends (b ∷ []) some = refl
ended_last ends (b ∷ c ∷ text) some =
    let q : suc (length (c ∷ text) - 1) ≡ length (b ∷ c ∷ text) - 1 = omega arith in
    ended_last ends (c ∷ text) (omega arith) ∙ ap (λ n. ends (get_or (b ∷ c ∷ text) n 0)) q

pub ended_some : (ends : ℕ → Bool) (text : List ℕ) → is_ended ends text ≡ true → 0 < length text
ended_some ends [] e = absurd (cc)
ended_some ends (b ∷ text) e = omega arith

pub without_last : (ends : ℕ → Bool) (text : List ℕ) → is_ended ends text ≡ true → without_end ends text ≡ take (length text - 1) text
without_last ends [] e = refl
without_last ends (b ∷ []) e = rw e refl
without_last ends (b ∷ c ∷ text) e =
    let q : suc (length (c ∷ text) - 1) ≡ length (b ∷ c ∷ text) - 1 = omega arith in
    ap (λ l. b ∷ l) (without_last ends (c ∷ text) e) ∙ ap (λ n. take n (b ∷ c ∷ text)) q

-- ---- the length of the first piece

grown-yes : (x : Bool) (b : ℕ) (ps : List (List ℕ)) → x ≡ true → length (piece_at (grown x b ps) 0) ≡ 1
grown-yes true b ps e = refl
grown-yes false b ps e = absurd (cc)

grown-no : (x : Bool) (b : ℕ) (ps : List (List ℕ)) → x ≡ false → length (piece_at (grown x b ps) 0) ≡ suc (length (piece_at ps 0))
grown-no true b ps e = absurd (cc)
grown-no false b [] e = refl
grown-no false b (p ∷ ps) e = refl

pub first_end : (ends : ℕ → Bool) (xs : List ℕ) (i : ℕ) → i < length xs → ends (get_or xs i 0) ≡ true → first_len ends (drop i xs) ≡ 1
first_end ends xs i lt e = rw (drop-cons xs i 0) (grown-yes (ends (get_or xs i 0)) (get_or xs i 0) (pieces ends (drop (suc i) xs)) e)

pub first_more : (ends : ℕ → Bool) (xs : List ℕ) (i : ℕ) → i < length xs → ends (get_or xs i 0) ≡ false → first_len ends (drop i xs) ≡ 1 + first_len ends (drop (i + 1) xs)
first_more ends xs i lt e =
    let q : suc i ≡ i + 1 = omega arith in
    let r : suc (first_len ends (drop (suc i) xs)) ≡ 1 + first_len ends (drop (suc i) xs) = omega arith in
    rw (drop-cons xs i 0) (grown-no (ends (get_or xs i 0)) (get_or xs i 0) (pieces ends (drop (suc i) xs)) e ∙ r ∙ ap (λ n. 1 + first_len ends (drop n xs)) q)

pub first_all : (ends : ℕ → Bool) (xs : List ℕ) (i : ℕ) → length xs ≤ i → first_len ends (drop i xs) ≡ 0
first_all ends [] zero le = refl
first_all ends [] (suc i) le = refl
first_all ends (x ∷ xs) zero le = absurd (omega arith)
first_all ends (x ∷ xs) (suc i) le = first_all ends xs i (omega arith)
