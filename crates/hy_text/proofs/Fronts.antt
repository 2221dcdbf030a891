-- Texts of which memory let only a front be added.
use Rattle.std.proofs.Common.{◌≡◌, ℕ, ◌+◌, ◌<◌, Bool, true, false, if◌then◌else◌, List, [], ◌∷◌, ◌++◌, length, map, drop, slice_get, Some, Result, Ok, Err, OnErr, refl, sym, ap, ◌∙◌, subst, arith, append_assoc, append-nil, length-append}
use Rattle.std.specs.FinSet as set
use Rattle.hy_base.specs.Pieces.{GaveFront}
use Rattle.hy_bits.specs.Letter.{Letter}
use Rattle.hy_text.specs.Bytes.{is_plain}
use Rattle.hy_text.specs.Joined.{piece, pieces}
use Rattle.hy_text.specs.Names.{spelled}
use Rattle.hy_text.specs.Sets.{members_from, members_of, printed_set}
use Rattle.hy_text.proofs.Printing.{NamesLeft, member_at, joined_pieces}

pub on_err : {A E P : Type 0} (r : Result A E) → P → OnErr r P
on_err (Ok x) p = tt
on_err (Err e) p = p

-- nothing was added
pub front_none : (old new whole : List ℕ) → 0 < length whole → new ≡ old → GaveFront old new whole
front_none old new whole some same = ([], same ∙ sym (append-nil old), (whole, refl, some))

-- the first of two was added, and a front of the second
pub front_behind : (old mid new first second : List ℕ) → mid ≡ old ++ first
    → GaveFront mid new second → GaveFront old new (first ++ second)
front_behind old mid new first second e (front, f, (rest, w, some)) = (
  first ++ front,
  f ∙ ap (λ l. l ++ front) e ∙ append_assoc old first front,
  (rest, ap (λ l. first ++ l) w ∙ sym (append_assoc first front rest), some),
)

-- a front of the first of two was added
pub front_before : (old new first second : List ℕ) → GaveFront old new first
    → GaveFront old new (first ++ second)
front_before old new first second (front, f, (rest, w, some)) = (
  front,
  f,
  (
    rest ++ second,
    ap (λ l. l ++ second) w ∙ append_assoc front rest second,
    omega (arith, some, length-append rest second),
  ),
)

-- ---- names

spelled_quoted : (name : List ℕ) → is_plain name ≡ false → spelled name ≡ 34 ∷ name ++ 34 ∷ []
spelled_quoted name e = rw e refl

-- a name is spelled by some bytes
pub spelled_some : (name : List ℕ) → 0 < length (spelled name)
spelled_some [] = omega arith
spelled_some (b ∷ name) = through (is_plain (b ∷ name))
  where
    through : (test : Bool)
        → 0 < length (if test then b ∷ name else 34 ∷ (b ∷ name) ++ 34 ∷ [])
    through true = omega arith
    through false = omega arith

-- the first quote was added, and then a front
pub quoted_front : (old mid new name : List ℕ) → is_plain name ≡ false → mid ≡ old ++ 34 ∷ []
    → GaveFront mid new (name ++ 34 ∷ []) → GaveFront old new (spelled name)
quoted_front old mid new name e first gave =
    let P : List ℕ → Type 0 = GaveFront old new in
    subst P (sym (spelled_quoted name e))
    (front_behind old mid new (34 ∷ []) (name ++ 34 ∷ []) first gave)

-- ---- pieces

-- the byte before a piece was not added
pub joint_front : (b : ℕ) (first : Bool) (old new x : List ℕ) → first ≡ false → new ≡ old
    → GaveFront old new (piece first b x)
joint_front b true old new x e same = absurd (cc)
joint_front b false old new x e same = front_none old new (b ∷ x) (omega arith) same

-- a front of a piece was added, behind the byte that stands before it
pub piece_front : (b : ℕ) (first : Bool) (old mid new x : List ℕ) → first ≡ false
    → mid ≡ old ++ b ∷ [] → GaveFront mid new x → GaveFront old new (piece first b x)
piece_front b true old mid new x e added gave = absurd (cc)
piece_front b false old mid new x e added gave = front_behind old mid new (b ∷ []) x added gave

-- a front of the first piece
pub first_front : (b : ℕ) (first : Bool) (old new x : List ℕ) → first ≡ true
    → GaveFront old new x → GaveFront old new (piece first b x)
first_front b true old new x e gave = gave
first_front b false old new x e gave = absurd (cc)

-- some pieces were added, and a front of the next one
pub pieces_front : (b : ℕ) (first : Bool) (old mid new made x : List ℕ) (xs : List (List ℕ))
    (all : List ℕ) → mid ≡ old ++ made → made ++ pieces first b (x ∷ xs) ≡ all
    → GaveFront mid new (piece first b x) → GaveFront old new all
pieces_front b first old mid new made x xs all is whole gave =
    let P : List ℕ → Type 0 = GaveFront old new in
    subst P whole (front_behind old mid new made (pieces first b (x ∷ xs)) is
    (front_before mid new (piece first b x) (pieces false b xs) gave))

-- one piece more
pub made_more : (old mid new made added : List ℕ) → mid ≡ old ++ made → new ≡ mid ++ added
    → new ≡ old ++ (made ++ added)
made_more old mid new made added is e = e ∙ ap (λ l. l ++ added) is ∙ append_assoc old made added

-- ---- sets

abbrev names_of : List (List ℕ) → Letter → List ℕ
names_of table letter = pieces true 44 (map spelled (members_of table letter))

printed_names : (table : List (List ℕ)) (letter : Letter)
    → printed_set table letter ≡ 123 ∷ names_of table letter ++ 125 ∷ []
printed_names table letter =
    ap (λ l. 123 ∷ l ++ 125 ∷ []) (joined_pieces 44 (map spelled (members_of table letter)))

-- the opening brace was added, and a front of the names and the closing one
pub set_front : (table : List (List ℕ)) (letter : Letter) (old mid new : List ℕ)
    → mid ≡ old ++ 123 ∷ [] → GaveFront mid new (names_of table letter ++ 125 ∷ [])
    → GaveFront old new (printed_set table letter)
set_front table letter old mid new added gave =
    let P : List ℕ → Type 0 = GaveFront old new in
    subst P (sym (printed_names table letter))
    (front_behind old mid new (123 ∷ []) (names_of table letter ++ 125 ∷ []) added gave)

-- a front of the name that comes next was added
pub member_front : (table : List (List ℕ)) (letter : Letter) (i : ℕ) (first : Bool)
    (old mid new made name : List ℕ) → mid ≡ old ++ made
    → NamesLeft table letter (names_of table letter) i first made
    → slice_get table i ≡ Some name → set.contains letter i ≡ true
    → GaveFront mid new (piece first 44 (spelled name))
    → GaveFront old new (names_of table letter ++ 125 ∷ [])
member_front table letter i first old mid new made name is left here has gave =
    let more = map spelled (members_from (i + 1) letter (drop (i + 1) table)) in
    let whole : made ++ pieces first 44 (spelled name ∷ more) ≡ names_of table letter =
    ap (λ ns. made ++ pieces first 44 (map spelled ns)) (sym (member_at table letter i name here has))
    ∙ left in
    front_before old new (names_of table letter) (125 ∷ [])
    (pieces_front 44 first old mid new made (spelled name) more (names_of table letter) is whole gave)
