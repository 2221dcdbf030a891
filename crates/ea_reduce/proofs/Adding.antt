-- Lists that are made for one number after another.
use Rattle.std.proofs.Common.{◌≡◌, ℕ, suc, ◌+◌, ◌<◌, length, get_or, refl, sym, List, [], ◌∷◌, ◌++◌, map, take, Some, ap, ◌∙◌, arith, append-nil}
use Rattle.std.specs.List.{flat_map, range_with_len, slice_get}
use Rattle.std.proofs.lemmas.List.{map-append, take_more}
use Rattle.std.proofs.lemmas.Option.{slice_get_within, slice_get_read, get_or_from_slice_get}
use Rattle.std.specs.FinSet.{empty}
use Rattle.hy_bits.specs.Letter.{Letter}
use Rattle.ea_reduce.specs.Joints.{column}
use Rattle.std.proofs.lemmas.List.Concat.{flat_map-append}
use Rattle.hy_base.proofs.Places.{range-more}

pub range-next : {A : Type 0} (f : ℕ → List A) (n : ℕ) → flat_map f (range_with_len 0 (n + 1)) ≡ flat_map f (range_with_len 0 n) ++ f n
range-next f n =
    let one : n + 1 ≡ suc n = omega arith in
    ap (λ k. flat_map f (range_with_len 0 k)) one ∙ ap (flat_map f) (range-more 0 n) ∙ flat_map-append f (range_with_len 0 n) ((0 + n) ∷ [])
    ∙ ap (λ xs. flat_map f (range_with_len 0 n) ++ xs) (append-nil (f (0 + n)) ∙ ap f (omega arith))

-- what one more element adds to a mapped front
pub map-next : {A B : Type 0} (f : A → B) (xs : List A) (i : ℕ) (x : A) → slice_get xs i ≡ Some x → map f (take (i + 1) xs) ≡ map f (take i xs) ++ f x ∷ []
map-next f xs i x e =
    let lt = slice_get_within xs i x e in
    ap (map f) (take_more xs i x lt ∙ ap (λ y. take i xs ++ y ∷ []) (get_or_from_slice_get xs i x x e)) ∙ map-append f (take i xs) (x ∷ [])

-- the letters of a variable, with those of one more row
pub column-more : (v : ℕ) (rows items : List (List Letter)) (i : ℕ) (row : List Letter) (x : Letter) (letters new : List Letter)
    → items ≡ rows → i < length items → row ≡ get_or items i row → slice_get row v ≡ Some x
    → letters ≡ column v (take i rows) → new ≡ letters ++ x ∷ [] → new ≡ column v (take (i + 1) rows)
column-more v rows items i row x letters new same lt read at before e =
    let f : List Letter → Letter = λ r. get_or r v empty in
    let here : slice_get items i ≡ Some row = slice_get_read items (length items) i row refl lt read in
    e ∙ ap (λ ls. ls ++ x ∷ []) before ∙ ap (λ y. column v (take i rows) ++ y ∷ []) (sym (get_or_from_slice_get row v x empty at))
    ∙ sym (map-next f rows i row (ap (λ xs. slice_get xs i) (sym same) ∙ here))
