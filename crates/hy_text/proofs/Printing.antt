-- Printing the names of a set, and the sets of a word, one after another: what is printed so far and what is left.
use Rattle.std.proofs.Common.{◌≡◌, ℕ, suc, nat_eq, get_or, ◌+◌, ◌<◌, ◌≤◌, Bool, true, false, List, [], ◌∷◌, ◌++◌, length, map, drop, slice_get, Some, refl, sym, ap, ◌∙◌, append_assoc, append-nil, add-one, arith}
use Rattle.std.specs.List.{join_with_byte}
use Rattle.std.proofs.lemmas.Option.{slice_get-get_or}
use Rattle.std.specs.FinSet as set
use Rattle.std.proofs.lemmas.Bool.Decides.{nat_tests}
use Rattle.std.proofs.lemmas.List.{drop_all}
use Rattle.std.proofs.Math.Seq.{drop-cons}
use Rattle.hy_base.proofs.Places.{drop-at}
use Rattle.hy_bits.specs.Letter.{Letter}
use Rattle.hy_text.specs.Joined.{piece, pieces}
use Rattle.hy_text.specs.Names.{spelled}
use Rattle.hy_text.specs.Sets.{members_from}

pub joined_pieces : (b : ℕ) (xs : List (List ℕ)) → join_with_byte b xs ≡ pieces true b xs
joined_pieces b [] = refl
joined_pieces b (x ∷ []) = sym (append-nil x)
joined_pieces b (x ∷ y ∷ xs) = ap (λ l. x ++ b ∷ l) (joined_pieces b (y ∷ xs))

-- a name that is in the letter, and one that is not
pub member_at : (table : List (List ℕ)) (letter : Letter) (i : ℕ) (name : List ℕ) → slice_get table i ≡ Some name → set.contains letter i ≡ true → members_from i letter (drop i table) ≡ name ∷ members_from (i + 1) letter (drop (i + 1) table)
member_at table letter i name e has = rw (drop-at table i name e) (rw has (rw add-one refl))

pub member_not_at : (table : List (List ℕ)) (letter : Letter) (i : ℕ) → i < length table → set.contains letter i ≡ false → members_from i letter (drop i table) ≡ members_from (i + 1) letter (drop (i + 1) table)
member_not_at table letter i less lacks = rw (drop-at table i (get_or table i []) (slice_get-get_or table i [] less)) (rw lacks (rw add-one refl))

-- What is printed makes, with the names that are left from a place on, the whole.
abbrev pub NamesLeft : List (List ℕ) → Letter → List ℕ → ℕ → Bool → List ℕ → Type 0
NamesLeft table letter all i first front = front ++ pieces first 44 (map spelled (members_from i letter (drop i table))) ≡ all

pub name_printed : (table : List (List ℕ)) (letter : Letter) (all : List ℕ) (i : ℕ) (first : Bool) (front name : List ℕ) → NamesLeft table letter all i first front → slice_get table i ≡ Some name → set.contains letter i ≡ true → NamesLeft table letter all (i + 1) false (front ++ piece first 44 (spelled name))
name_printed table letter all i first front name left e has =
    append_assoc front (piece first 44 (spelled name)) (pieces false 44 (map spelled (members_from (i + 1) letter (drop (i + 1) table))))
    ∙ ap (λ l. front ++ pieces first 44 (map spelled l)) (sym (member_at table letter i name e has)) ∙ left

pub name_passed : (table : List (List ℕ)) (letter : Letter) (all : List ℕ) (i : ℕ) (first : Bool) (front : List ℕ) → NamesLeft table letter all i first front → i < length table → set.contains letter i ≡ false → NamesLeft table letter all (i + 1) first front
name_passed table letter all i first front left less lacks =
    ap (λ l. front ++ pieces first 44 (map spelled l)) (sym (member_not_at table letter i less lacks)) ∙ left

pub names_printed : (table : List (List ℕ)) (letter : Letter) (all : List ℕ) (i : ℕ) (first : Bool) (front : List ℕ) → length table ≤ i → NamesLeft table letter all i first front → front ≡ all
names_printed table letter all i first front past left =
    sym (append-nil front) ∙ ap (λ l. front ++ pieces first 44 (map spelled (members_from i letter l))) (sym (drop_all i table past)) ∙ left

-- the letters from a place on
pub letters_from : (letters : List Letter) (i : ℕ) (letter : Letter) → i < length letters → letter ≡ get_or letters i letter → drop i letters ≡ letter ∷ drop (i + 1) letters
letters_from letters i letter lt is =
    let one : suc i ≡ i + 1 = omega arith in
    drop-cons letters i letter lt ∙ ap (λ x. x ∷ drop (suc i) letters) (sym is) ∙ ap (λ n. letter ∷ drop n letters) one

-- a set, behind those that are printed
pub set_next : (f : Letter → List ℕ) (letters : List Letter) (i : ℕ) (letter : Letter) (made all : List ℕ) → i < length letters → letter ≡ get_or letters i letter → made ++ pieces (nat_eq i 0) 59 (map f (drop i letters)) ≡ all → made ++ pieces (nat_eq i 0) 59 (f letter ∷ map f (drop (i + 1) letters)) ≡ all
set_next f letters i letter made all lt is left =
    ap (λ ls. made ++ pieces (nat_eq i 0) 59 (map f ls)) (sym (letters_from letters i letter lt is)) ∙ left

pub set_printed : (f : Letter → List ℕ) (letters : List Letter) (i : ℕ) (letter : Letter) (made all : List ℕ) → i < length letters → letter ≡ get_or letters i letter → made ++ pieces (nat_eq i 0) 59 (map f (drop i letters)) ≡ all → (made ++ piece (nat_eq i 0) 59 (f letter)) ++ pieces (nat_eq (i + 1) 0) 59 (map f (drop (i + 1) letters)) ≡ all
set_printed f letters i letter made all lt is left =
    let later : nat_eq (i + 1) 0 ≡ false = grind (arith, nat_tests) in
    append_assoc made (piece (nat_eq i 0) 59 (f letter)) (pieces (nat_eq (i + 1) 0) 59 (map f (drop (i + 1) letters)))
    ∙ ap (λ b. made ++ (piece (nat_eq i 0) 59 (f letter) ++ pieces b 59 (map f (drop (i + 1) letters)))) later
    ∙ set_next f letters i letter made all lt is left

pub sets_printed : (f : Letter → List ℕ) (letters : List Letter) (i : ℕ) (first : Bool) (front all : List ℕ) → length letters ≤ i → front ++ pieces first 59 (map f (drop i letters)) ≡ all → front ≡ all
sets_printed f letters i first front all past left =
    sym (append-nil front) ∙ ap (λ l. front ++ pieces first 59 (map f l)) (sym (drop_all i letters past)) ∙ left
