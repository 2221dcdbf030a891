-- Texts cut at a byte.
use Rattle.std.proofs.Common.{◌≡◌, ℕ, ◌≢◌, Bool, true, false, cond, nat_eq, List, [], ◌∷◌, sym, ◌∙◌, ap}
use Rattle.std.specs.List.{onto_first, join_with_byte}
use Rattle.std.proofs.lemmas.List.Splits.{join_with_byte-slice_split}
use Rattle.hy_text.specs.Cuts.{cut_at}

onto_some : (x : ℕ) (ps : List (List ℕ)) → onto_first x ps ≢ []
onto_some x [] e = cc
onto_some x (p ∷ ps) e = cc

some-from : (x : Bool) (b : ℕ) (ps : List (List ℕ)) → cond x ([] ∷ ps) (onto_first b ps) ≢ []
some-from true b ps e = cc
some-from false b ps e = onto_some b ps e

pub pieces_some : (byte : ℕ) (text : List ℕ) → cut_at byte text ≢ []
pieces_some byte [] e = cc
pieces_some byte (b ∷ text) e = some-from (nat_eq b byte) b (cut_at byte text) e

-- One piece is the whole text.
pub piece_alone : (byte : ℕ) (text piece : List ℕ) → cut_at byte text ≡ piece ∷ [] → text ≡ piece
piece_alone byte text piece e =
    sym (join_with_byte-slice_split byte text) ∙ ap (join_with_byte byte) e

-- A piece and more behind it are no single piece.
pub pieces_more : (byte : ℕ) (text piece rest : List ℕ) → cut_at byte text ≡ piece ∷ cut_at byte
    rest
    → (alone : List ℕ) → cut_at byte text ≢ alone ∷ []
pieces_more byte text piece rest e alone f =
    let none : cut_at byte rest ≡ [] = cc in pieces_some byte rest none

-- A piece and more than one behind it are no two pieces.
pub pieces_many : (byte : ℕ) (text piece rest : List ℕ) → cut_at byte text ≡ piece ∷ cut_at byte
    rest
    → ¬ (cut_at byte rest ≡ rest ∷ []) → (one two : List ℕ) → cut_at byte text ≢ one ∷ two ∷ []
pieces_many byte text piece rest e more one two f =
    let last : cut_at byte rest ≡ two ∷ [] = cc in
    more (last ∙ ap (λ t. t ∷ []) (sym (piece_alone byte rest two last)))
