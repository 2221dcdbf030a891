-- The last of some files, by names or by bytes.
use Rattle.std.proofs.Common.{◌≡◌, ℕ, suc, ◌-◌, ◌<◌, ◌++◌, List, [], ◌∷◌, length, get_or, Bor, refl, sym, ap, ◌∙◌, arith, length-append}
use Rattle.hy_base.proofs.Places.{last-of}
use Rattle.hy_files.specs.ErrorLines.{plain}
use Rattle.hy_files.proofs.FileNames.{name_within}
use Rattle.hy_check.specs.Texts.{last_of}

-- It is the one that stands behind the others.
pub last-appended : (files : List (List ℕ)) (last : List ℕ) → last_of (files ++ last ∷ []) ≡ last
last-appended files last =
    let long = length-append files (last ∷ []) in
    let place : length (files ++ last ∷ []) - 1 ≡ length files = omega (arith, long) in
    ap (λ k. get_or (files ++ last ∷ []) k []) place ∙ last-of files last []

length-plain : (names : List (Bor (List ℕ))) → length (plain names) ≡ length names
length-plain [] = refl
length-plain (name ∷ names) = ap suc (length-plain names)

-- the name that the code has
pub last-name : (names : List (Bor (List ℕ))) (default : Bor (List ℕ)) → 0 < length names
    → (get_or names (length names - 1) default).now ≡ last_of (plain names)
last-name names default some =
    name_within names (length names - 1) default (omega (arith, some))
    ∙ ap (λ n. get_or (plain names) (n - 1) []) (sym (length-plain names))

pub no-name : (names : List (Bor (List ℕ))) → length names ≡ 0 → [] ≡ last_of (plain names)
no-name [] e = refl
no-name (name ∷ names) e = absurd (omega (arith, e))
