-- Pieces that are given one after the other.
use Rattle.std.proofs.Common.{◌≡◌, ℕ, ◌+◌, ◌-◌, ◌<◌, List, [], ◌∷◌, ◌++◌, length, take, drop, get_or, arith, append_assoc, add-one, ap, sym, ◌∙◌, refl, Bor}
use Rattle.std.proofs.lemmas.Grind.{common_steps}
use Rattle.std.proofs.lemmas.List.{take-append-drop}
use Rattle.std.proofs.Math.Seq.{take-add, take-suc, drop-cons}
use Rattle.hy_base.specs.Pieces.{joined, IsProperPrefix}

-- after the first `s` bytes, `k` of the others: the first `s + k`
pub front_more : (bytes : List ℕ) (s k : ℕ) → take (s + k) bytes ≡ take s bytes ++ take k (take (length bytes - s) (drop s bytes))
front_more bytes s k =
    let full : take (length bytes - s) (drop s bytes) ≡ drop s bytes = grind (arith, common_steps) in
    take-add s k bytes ∙ ap (λ r. take s bytes ++ take k r) (sym full)

-- the bytes before `s` are a front, and not all
pub front_less : (bytes : List ℕ) (s : ℕ) → s < length bytes → IsProperPrefix (take s bytes) bytes
front_less bytes s lt = (drop s bytes, sym (take-append-drop s bytes), grind (arith, common_steps))

-- the pieces of two lists
pub joined-append : (ps qs : List (Bor (List ℕ))) → joined (ps ++ qs) ≡ joined ps ++ joined qs
joined-append [] qs = refl
joined-append (p ∷ ps) qs = ap (λ r. p.now ++ r) (joined-append ps qs) ∙ sym (append_assoc p.now (joined ps) (joined qs))

-- one piece more
pub joined_more : (ps : List (Bor (List ℕ))) (i : ℕ) (p : Bor (List ℕ)) → i < length ps
    → joined (take (i + 1) ps) ≡ joined (take i ps) ++ (get_or ps i p).now
joined_more ps i p h = rw (add-one, take-suc ps i p h, joined-append) (grind (arith, common_steps))

-- one piece, between those before it and those after it
pub joined_at : (ps : List (Bor (List ℕ))) (i : ℕ) (p : Bor (List ℕ)) → i < length ps
    → joined ps ≡ joined (take i ps) ++ ((get_or ps i p).now ++ joined (drop (i + 1) ps))
joined_at ps i p h =
    let e : take i ps ++ drop i ps ≡ ps = take-append-drop i ps in
    rw (add-one) (ap joined (sym e) ∙ joined-append (take i ps) (drop i ps) ∙ ap (λ r. joined (take i ps) ++ joined r) (drop-cons ps i p h))

-- the pieces before `i` and a front of piece `i`, but not all of it, are a front of all pieces, but not all
pub pieces_less : (front : List ℕ) (ps : List (Bor (List ℕ))) (i : ℕ) (p : Bor (List ℕ)) → i < length ps
    → IsProperPrefix front (get_or ps i p).now → IsProperPrefix (joined (take i ps) ++ front) (joined ps)
pieces_less front ps i p h (rest, w, some) =
    (rest ++ joined (drop (i + 1) ps), rw (joined_at ps i p h) (grind (arith, common_steps)), grind (arith, common_steps))
