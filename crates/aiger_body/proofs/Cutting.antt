-- The piece that stands at a place, and where the next one stands.
use Rattle.std.proofs.Common.{◌≡◌, ℕ, zero, suc, ◌+◌, Bool, List, [], ◌∷◌, length, take, drop, refl, ◌∙◌, ap, arith, length-append}
use Rattle.std.specs.List.{concat}
use Rattle.std.proofs.lemmas.List.{take-append-le}
use Rattle.std.proofs.Math.Seq.{take-length}
use Rattle.aiger_body.specs.Texts.{pieces, piece_at, place}
use Rattle.aiger_body.specs.Words.{first_len}
use Rattle.aiger_body.proofs.Places.{split, pieces-from}

front-of : (ends : ℕ → Bool) (xs : List ℕ) (ps : List (List ℕ)) → pieces ends xs ≡ ps → take (length (piece_at ps 0)) xs ≡ piece_at ps 0
front-of ends xs [] e = refl
front-of ends xs (p ∷ ps) e =
    let s = split ends xs p ps e in
    ap (take (length p)) s.whole ∙ take-append-le (length p) p s.behind (omega arith) ∙ take-length p

pub first_front : (ends : ℕ → Bool) (xs : List ℕ) → take (first_len ends xs) xs ≡ piece_at (pieces ends xs) 0
first_front ends xs = front-of ends xs (pieces ends xs) refl

pub place_next : (ps : List (List ℕ)) (k : ℕ) → place ps (suc k) ≡ place ps k + length (piece_at ps k)
place_next [] zero = refl
place_next [] (suc k) = refl
place_next (p ∷ ps) zero = omega (arith, length-append p [])
place_next (p ∷ ps) (suc k) = omega (arith, place_next ps k, length-append p (concat (take (suc k) ps)), length-append p (concat (take k ps)))

first-dropped : (ps : List (List ℕ)) (k : ℕ) → piece_at (drop k ps) 0 ≡ piece_at ps k
first-dropped ps zero = refl
first-dropped [] (suc k) = refl
first-dropped (p ∷ ps) (suc k) = first-dropped ps k

pub first-at : (ends : ℕ → Bool) (bytes : List ℕ) (k at : ℕ) → at ≡ place (pieces ends bytes) k → piece_at (pieces ends (drop at bytes)) 0 ≡ piece_at (pieces ends bytes) k
first-at ends bytes k at is =
    ap (λ n. piece_at (pieces ends (drop n bytes)) 0) is ∙ ap (λ ps. piece_at ps 0) (pieces-from ends k bytes) ∙ first-dropped (pieces ends bytes) k

pub piece_here : (ends : ℕ → Bool) (bytes : List ℕ) (k at : ℕ) (rest piece : List ℕ) (len : ℕ) → at ≡ place (pieces ends bytes) k → rest ≡ drop at bytes → len ≡ first_len ends rest → piece ≡ take len rest → piece ≡ piece_at (pieces ends bytes) k
piece_here ends bytes k at rest piece len is back long front =
    front ∙ ap (λ n. take n rest) long ∙ first_front ends rest ∙ ap (λ t. piece_at (pieces ends t) 0) back ∙ first-at ends bytes k at is

pub piece_next : (ends : ℕ → Bool) (bytes : List ℕ) (k at : ℕ) (rest piece : List ℕ) (len : ℕ) → at ≡ place (pieces ends bytes) k → rest ≡ drop at bytes → len ≡ first_len ends rest → piece ≡ take len rest → at + length piece ≡ place (pieces ends bytes) (suc k)
piece_next ends bytes k at rest piece len is back long front =
    let here = piece_here ends bytes k at rest piece len is back long front in
    omega (arith, place_next (pieces ends bytes) k, is, ap length here)
