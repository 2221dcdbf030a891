-- The sheets that code draws: choices and their places, step by step.
use Rattle.std.proofs.Common.{◌≡◌, ℕ, zero, suc, ◌+◌, ◌-◌, ◌*◌, ◌^◌, ◌<◌, ◌≤◌, List, [], ◌∷◌, ◌++◌, length, map, get_or, replicate, take, drop, slice_get, Some, All, refl, sym, ap, ◌∙◌, subst, arith, length-append}
use Rattle.std.proofs.Math.Nat.{mul-le-mul_right, pow-le-pow_right, pow-suc}
use Rattle.std.proofs.lemmas.List.{get_or_default, map-append, take_more}
use Rattle.std.proofs.lemmas.List.Elements.{All-push}
use Rattle.hy_base.proofs.Places.{drop-at}
use Rattle.bound_search.specs.declared.connectives.Binary.{Binary}
use Rattle.bound_search.specs.declared.connectives.Unary.{Unary}
use Rattle.bound_search.specs.declared.frame.Frame.{Frame}
use Rattle.bound_search.specs.declared.gates.Gates.{Gates}
use Rattle.bound_search.specs.declared.sheets.Sheet.{Sheet}
use Rattle.bound_search.specs.Drawings.{Drawing, plain, followed, never}
use Rattle.bound_search.specs.Making.{Draws}
use Rattle.bound_search.specs.Names.{with_name}
use Rattle.bound_search.specs.Rows.{Row, first_or, row_by_one, row_by_two}
use Rattle.bound_search.specs.Sheets.{with_all, place_among, tuple_at, row_of, by_row, by_choice, of_one, of_two, first_places}
use Rattle.bound_search.proofs.Making.{draws-plain, draws-followed}

-- ---- the variables of two parts

all-more : (left xs : List ℕ) (v : ℕ) → with_all left (xs ++ v ∷ []) ≡ with_name v (with_all left xs)
all-more left [] v = refl
all-more left (x ∷ xs) v = all-more (with_name x left) xs v

pub with-more : (left items all more : List ℕ) (k v d : ℕ) → k < length items →
    v ≡ get_or items k d → all ≡ with_all left (take k items) → more ≡ with_name v all →
    more ≡ with_all left (take (k + 1) items)
with-more left items all more k v d lt at e f =
    let one : take (k + 1) items ≡ take k items ++ v ∷ [] =
    take_more items k d lt ∙ ap (λ x. take k items ++ x ∷ []) (sym at) in
    f ∙ ap (with_name v) e ∙ sym (all-more left (take k items) v) ∙ ap (with_all left) (sym one)

-- ---- places of tuples

module _ (n : ℕ) (variables : List ℕ) (i j v place d : ℕ) (next : suc i ≡ j)
    (at : slice_get variables i ≡ Some v) where
  variables-from : drop i variables ≡ v ∷ drop j variables
  variables-from =
      let up : i + 1 ≡ j = omega (arith, next) in
      drop-at variables i v at ∙ ap (λ k. v ∷ drop k variables) up

  pub place-more : (tuple : List ℕ) → place ≡ place_among n (drop j variables) tuple →
      d ≡ get_or tuple v 0 → place * n + d ≡ place_among n (drop i variables) tuple
  place-more tuple e f =
      ap (λ p. p * n + d) e ∙ ap (λ x. place_among n (drop j variables) tuple * n + x) f
      ∙ ap (λ vs. place_among n vs tuple) (sym variables-from)

-- The place stays below the number of choices.
pub place-few : (n k i j place d : ℕ) → suc i ≡ j → j ≤ k → place < n ^ (k - j) → d < n →
    place * n + d < n ^ (k - i)
place-few n k i j place d next le few small =
    let up : suc (k - j) ≡ k - i = omega (arith, next, le) in
    let m : ℕ = n ^ (k - j) in
    let all : suc place * n ≤ m * n = mul-le-mul_right n few in
    let e : n ^ suc (k - j) ≡ m * n = pow-suc n (k - j) in
    let P : ℕ → Type 0 = λ x. place * n + d < n ^ x in
    subst P up (omega (arith, all, e, small))

pub place-room : (n k i most : ℕ) → 0 < n → n ^ k < most → n ^ (k - i) < most
place-room n k i most some room =
    let le : n ^ (k - i) ≤ n ^ k = pow-le-pow_right some (omega arith) in
    omega (arith, le, room)

pub all-member : (n : ℕ) → 0 < n → (tuple : List ℕ) → All (λ k. k < n) tuple → (v : ℕ) →
    get_or tuple v 0 < n
all-member n some [] all v = some
all-member n some (x ∷ xs) all zero = all 0 0 (omega arith)
all-member n some (x ∷ xs) all (suc v) =
    all-member n some xs (λ k d lt. all (suc k) d (omega arith)) v

-- ---- rows

-- Each row is as long, and so is one more.
pub long-more : (w : ℕ) (rows more : List Row) (row : Row) → All (λ row. length row ≡ w) rows →
    length row ≡ w → more ≡ rows ++ row ∷ [] → All (λ row. length row ≡ w) more
long-more w rows more row all one e =
    let P : List Row → Type 0 = All (λ row. length row ≡ w) in
    subst P (sym e) (All-push (λ row. length row ≡ w) rows row all one)

pub many-more : (k : ℕ) (rows more : List Row) (row : Row) → length rows ≡ k →
    more ≡ rows ++ row ∷ [] → length more ≡ k + 1
many-more k rows more row many e =
    let one = ap length e ∙ length-append rows (row ∷ []) in
    omega (arith, one, many)

pub row-long : (w : ℕ) (rows items : List Row) (k : ℕ) (row d : Row) → items ≡ rows →
    All (λ row. length row ≡ w) rows → k < length items → row ≡ get_or items k d → length row ≡ w
row-long w rows items k row d e all lt at =
    let P : List Row → Type 0 = All (λ row. length row ≡ w) in
    ap length at ∙ subst P (sym e) all k d lt

-- by the row at place k
pub row-drawn : (draw : Row → Drawing Row) (items : List Row) (k : ℕ) (row d x : Row)
    (old new : Gates) → k < length items → row ≡ get_or items k d → Draws (draw row) old new x →
    Draws (draw (get_or items k [])) old new x
row-drawn draw items k row d x old new lt at p =
    let P : Row → Type 0 = λ r. Draws (draw r) old new x in
    subst P (at ∙ get_or_default items k d [] lt) p

-- by the rows for the choice at a place
pub choice-drawn : (frame : Frame) (draw : Row → Row → Drawing Row) (left right : Sheet)
    (variables : List ℕ) (place : ℕ) (tuple : List ℕ) (l r x : Row) (old new : Gates) →
    tuple ≡ tuple_at frame variables place → l ≡ row_of frame left tuple →
    r ≡ row_of frame right tuple → Draws (draw l r) old new x →
    Draws (draw (row_of frame left (tuple_at frame variables place))
    (row_of frame right (tuple_at frame variables place))) old new x
choice-drawn frame draw left right variables place tuple l r x old new e f g p =
    let P : Row → Type 0 = λ z. Draws (draw z r) old new x in
    let Q : Row → Type 0 =
    λ z. Draws (draw (row_of frame left (tuple_at frame variables place)) z) old new x in
    subst Q (g ∙ ap (row_of frame right) e) (subst P (f ∙ ap (row_of frame left) e) p)

-- by a frame that is the wanted one
module _ (frame wanted : Frame) (is : frame ≡ wanted) where
  pub one-drawn : (first : Drawing Sheet) (op : Unary) (old mid new : Gates) (part made : Sheet) →
      Draws first old mid part → Draws (by_row (row_by_one op frame.stem) part) mid new made →
      Draws (of_one first (row_by_one op wanted.stem)) old new made
  one-drawn first op old mid new part made p q =
      let P : Frame → Type 0 = λ z. Draws (by_row (row_by_one op z.stem) part) mid new made in
      draws-followed first (by_row (row_by_one op wanted.stem)) old mid new part made p
      (subst P is q)

  pub two-drawn : (first second : Drawing Sheet) (op : Binary) (old mid late new : Gates)
      (left right made : Sheet) → Draws first old mid left → Draws second mid late right →
      Draws (by_choice frame (row_by_two op frame.stem) left right) late new made →
      Draws (of_two wanted first second (row_by_two op wanted.stem)) old new made
  two-drawn first second op old mid late new left right made p q r =
      let P : Frame → Type 0 =
      λ z. Draws (by_choice z (row_by_two op z.stem) left right) late new made in
      let join : Sheet → Sheet → Drawing Sheet = by_choice wanted (row_by_two op wanted.stem) in
      draws-followed first (λ left. followed second (λ right. join left right)) old mid new left
      made p
      (draws-followed second (λ right. join left right) mid late new right made q
      (subst P is r))

-- the first places of a sheet that was drawn
pub first-drawn : (first : Drawing Sheet) (old new : Gates) (part made : Sheet) →
    Draws first old new part → made ≡ first_places part →
    Draws (followed first (λ part. plain (first_places part))) old new made
first-drawn first old new part made p e =
    draws-followed first (λ part. plain (first_places part)) old new new part made p
    (draws-plain (first_places part) made new e)

-- a row's first place
pub first-of : (row : Row) → 0 < length row → replicate 1 (first_or never row) ≡ take 1 row
first-of [] some = absurd (omega arith)
first-of (l ∷ row) some = refl

pub firsts-more : (items rows more : List Row) (k : ℕ) (row d x : Row) → k < length items →
    row ≡ get_or items k d → rows ≡ map (take 1) (take k items) → x ≡ take 1 row →
    more ≡ rows ++ x ∷ [] → more ≡ map (take 1) (take (k + 1) items)
firsts-more items rows more k row d x lt at e f g =
    let one : take (k + 1) items ≡ take k items ++ row ∷ [] =
    take_more items k d lt ∙ ap (λ r. take k items ++ r ∷ []) (sym at) in
    g ∙ ap (λ l. l ++ x ∷ []) e ∙ ap (λ y. map (take 1) (take k items) ++ y ∷ []) f
    ∙ sym (map-append (take 1) (take k items) (row ∷ [])) ∙ ap (map (take 1)) (sym one)
