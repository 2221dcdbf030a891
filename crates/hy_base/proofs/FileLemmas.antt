-- Which file of a list a name means, and what is left of an open one.
use Rattle.std.proofs.Common.{◌≡◌, ℕ, ◌<◌, Bool, true, List, [], ◌∷◌, Some, None, length, get_or, slice_get, position, find, arith, nat_eq, refl, ap, ◌∙◌}
use Rattle.std.specs.Cmp.Lexicographic.{pointwise}
use Rattle.std.proofs.lemmas.Grind.{common_steps}
use Rattle.std.proofs.lemmas.Bool.Decides.{nat_tests}
use Rattle.std.proofs.lemmas.List.Folds.{find_at}
use Rattle.std.proofs.lemmas.Option.{slice_get-get_or}
use Rattle.hy_base.specs.declared.mem_shelf.File.{File}
use Rattle.hy_base.specs.Files.{has_name, file_of, open_name_of, rest_of}

-- lists that are equal place by place
pub same : (a b : List ℕ) → pointwise nat_eq a b ≡ true → a ≡ b
same [] [] h = refl
same [] (y ∷ b) h = grind (arith, nat_tests)
same (x ∷ a) [] h = grind (arith, nat_tests)
same (x ∷ a) (y ∷ b) h = grind (arith, nat_tests, same a b)

pub position_within : {X : Type 0} (p : X → Bool) (xs : List X) (i : ℕ) → position p xs ≡ Some i → i < length xs
position_within p xs i h = grind (arith, nat_tests)

pub position_finds : {X : Type 0} (p : X → Bool) (xs : List X) (i : ℕ) → position p xs ≡ Some i → find p xs ≡ slice_get xs i
position_finds p xs i h = grind (arith, nat_tests, find_at p xs)

pub position_none : {X : Type 0} (p : X → Bool) (xs : List X) → position p xs ≡ None → find p xs ≡ None
position_none p [] h = refl
position_none p (x ∷ xs) h = grind (arith, nat_tests, common_steps, position_none p xs)

-- what `find` finds has the name
pub found_name : (files : List File) (name : List ℕ) (file : File) → find (has_name name) files ≡ Some file → file.name ≡ name
found_name [] name file h = grind (arith, common_steps)
found_name (x ∷ files) name file h = grind (arith, nat_tests, common_steps, found_name files name file, same x.name name)

-- the file that a name means, opened
pub opened_name : (files : List File) (name : List ℕ) (i : ℕ) → position (has_name name) files ≡ Some i
    → open_name_of files (Some (record { file = i; position = 0 })) ≡ Some name
opened_name files name i h =
    let file : File = get_or files i (record { name = []; bytes = [] }) in
    let there : slice_get files i ≡ Some file = slice_get-get_or files i _ (position_within _ files i h) in
    rw there (ap Some (found_name files name file (position_finds _ files i h ∙ there)))

pub opened_rest : (files : List File) (name : List ℕ) (i : ℕ) → position (has_name name) files ≡ Some i
    → file_of files name ≡ Some (rest_of files (Some (record { file = i; position = 0 })))
opened_rest files name i h =
    let file : File = get_or files i (record { name = []; bytes = [] }) in
    let there : slice_get files i ≡ Some file = slice_get-get_or files i _ (position_within _ files i h) in
    rw (position_finds _ files i h, there) refl

pub lacks_file : (files : List File) (name : List ℕ) → position (has_name name) files ≡ None → file_of files name ≡ None
lacks_file files name h = rw (position_none _ files h) refl
