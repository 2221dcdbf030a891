-- Reading the sets of a word one after another: what is read so far, and what is left to read.
use Rattle.std.proofs.Common.{◌≡◌, ℕ, zero, suc, nat_lt, true, false, inl, inr, if◌then◌else◌, ◌+◌, ◌-◌, ◌≤◌, ◌<◌, List, [], ◌∷◌, ◌++◌, length, map, take, refl, sym, ap, ◌∙◌, subst, arith, append_assoc, append-nil}
use Rattle.std.proofs.lemmas.Bool.{cases_lt}
use Rattle.std.proofs.lemmas.Bool.Decides.{nat_tests}
use Rattle.hy_bits.specs.Letter.{Letter}
use Rattle.hy_text.specs.Bytes.{past_blanks}
use Rattle.hy_text.specs.Sets.{SpellsSet, letter_of}
use Rattle.hy_text.specs.Words.{SpellsWord, NoSemicolon}
use Rattle.hy_text.proofs.ReadingSets.{same_set, behind_byte}

-- From the first set on to `here`, so many sets have been read, and `letters` are the old ones and those of them that
-- are wanted.
pub record SetsRead (table : List (List ℕ)) (most : ℕ) (old : List Letter) (start here : List ℕ) (read : ℕ) (letters : List Letter) : Type 0 where
  -- what begins at the start goes on here
  pub onward : (sets : List (List (List ℕ))) (rest : List ℕ) → SpellsWord start sets rest → (more : List (List (List ℕ))) × SpellsWord here more rest
  -- what goes on here begins at the start
  pub back : (more : List (List (List ℕ))) (rest : List ℕ) → SpellsWord here more rest → (sets : List (List (List ℕ))) × SpellsWord start sets rest × (length sets ≡ read + length more) × (letters ++ take (most - read) (map (letter_of table) more) ≡ old ++ take most (map (letter_of table) sets))

pub sets_none : (table : List (List ℕ)) (most : ℕ) (old : List Letter) (start : List ℕ) → SetsRead table most old start start 0 old
sets_none table most old start = record {
  onward = λ sets rest spelled. (sets, spelled);
  back = λ more rest spelled. (more, spelled, omega arith, grind arith);
}

-- a set, a semicolon, and more sets
next_set : (here : List ℕ) (names : List (List ℕ)) (behind next : List ℕ) → SpellsSet here names behind → past_blanks behind ≡ 59 ∷ next → (more : List (List (List ℕ))) (rest : List ℕ) → SpellsWord here more rest → (others : List (List (List ℕ))) × SpellsWord (past_blanks next) others rest
next_set here names behind next found semicolon [] rest spelled = absurd spelled
next_set here names behind next found semicolon (x ∷ []) rest (after, one, end, none) =
    let same = same_set here x names after behind one found in
    absurd (none next (sym end ∙ ap past_blanks same ∙ semicolon))
next_set here names behind next found semicolon (x ∷ y ∷ others) rest (after, follow, one, e, spelled) =
    let same = same_set here x names after behind one found in
    let left = behind_byte 59 (past_blanks after) follow next e (ap past_blanks same ∙ semicolon) in
    let P : List ℕ → Type 0 = λ t. SpellsWord (past_blanks t) (y ∷ others) rest in
    (y ∷ others, subst P left spelled)

-- A letter more is kept, or none where enough are.
pub letter_kept : (most read : ℕ) (letters xs : List Letter) (letter : Letter) → (letters ++ (if nat_lt read most then letter ∷ [] else [])) ++ take (most - (read + 1)) xs ≡ letters ++ take (most - read) (letter ∷ xs)
letter_kept most read letters xs letter = elim (cases_lt read most) [ inl less ↦ wanted less | inr enough ↦ passed enough ]
  where
    wanted : read < most → (letters ++ (if nat_lt read most then letter ∷ [] else [])) ++ take (most - (read + 1)) xs ≡ letters ++ take (most - read) (letter ∷ xs)
    wanted less =
        let test : nat_lt read most ≡ true = grind (arith, nat_tests) in
        let left : most - read ≡ suc (most - (read + 1)) = omega arith in
        rw (test, left) (append_assoc letters (letter ∷ []) (take (most - (read + 1)) xs))

    passed : most ≤ read → (letters ++ (if nat_lt read most then letter ∷ [] else [])) ++ take (most - (read + 1)) xs ≡ letters ++ take (most - read) (letter ∷ xs)
    passed enough =
        let test : nat_lt read most ≡ false = grind (arith, nat_tests) in
        let left : most - read ≡ 0 = omega arith in
        let after : most - (read + 1) ≡ 0 = omega arith in
        rw (test, left, after) (ap (λ l. l ++ []) (append-nil letters))

-- A set and a semicolon have been read.
pub sets_more : (table : List (List ℕ)) (most : ℕ) (old : List Letter) (start here : List ℕ) (read : ℕ) (letters : List Letter) (names : List (List ℕ)) (letter : Letter) (behind next : List ℕ) → SetsRead table most old start here read letters → SpellsSet here names behind → letter ≡ letter_of table names → past_blanks behind ≡ 59 ∷ next → SetsRead table most old start (past_blanks next) (read + 1) (letters ++ (if nat_lt read most then letter ∷ [] else []))
sets_more table most old start here read letters names letter behind next before found is semicolon = record {
  onward = λ sets rest spelled.
      let left = before.onward sets rest spelled in
      next_set here names behind next found semicolon left.0 rest left.1;
  back = λ more rest spelled. sets_back more rest spelled;
}
  where
    sets_back : (more : List (List (List ℕ))) (rest : List ℕ) → SpellsWord (past_blanks next) more rest → (sets : List (List (List ℕ))) × SpellsWord start sets rest × (length sets ≡ (read + 1) + length more) × ((letters ++ (if nat_lt read most then letter ∷ [] else [])) ++ take (most - (read + 1)) (map (letter_of table) more) ≡ old ++ take most (map (letter_of table) sets))
    sets_back [] rest spelled = absurd spelled
    sets_back (y ∷ others) rest spelled =
        let whole = before.back (names ∷ y ∷ others) rest (behind, next, found, semicolon, spelled) in
        let kept = letter_kept most read letters (map (letter_of table) (y ∷ others)) letter in
        let same = ap (λ l. letters ++ take (most - read) (l ∷ map (letter_of table) (y ∷ others))) is in
        (whole.0, whole.1, omega (arith, whole.2), kept ∙ same ∙ whole.3)

-- The last set has been read.
pub sets_all : (table : List (List ℕ)) (most : ℕ) (old : List Letter) (start here : List ℕ) (read : ℕ) (letters : List Letter) (names : List (List ℕ)) (letter : Letter) (behind : List ℕ) → SetsRead table most old start here read letters → SpellsSet here names behind → letter ≡ letter_of table names → NoSemicolon (past_blanks behind) → (sets : List (List (List ℕ))) × SpellsWord start sets (past_blanks behind) × (read + 1 ≡ length sets) × (letters ++ (if nat_lt read most then letter ∷ [] else []) ≡ old ++ take most (map (letter_of table) sets))
sets_all table most old start here read letters names letter behind before found is none =
    let whole = before.back (names ∷ []) (past_blanks behind) (behind, found, refl, none) in
    let kept = letter_kept most read letters [] letter in
    let same = ap (λ l. letters ++ take (most - read) (l ∷ [])) is in
    (whole.0, whole.1, omega (arith, whole.2), nothing_taken _ (most - (read + 1)) ∙ kept ∙ same ∙ whole.3)
  where
    nothing_taken : (l : List Letter) (n : ℕ) → l ≡ l ++ take n []
    nothing_taken l zero = sym (append-nil l)
    nothing_taken l (suc n) = sym (append-nil l)

no_sets : (here : List ℕ) → ((names : List (List ℕ)) (rest : List ℕ) → ¬ SpellsSet here names rest) → (more : List (List (List ℕ))) (rest : List ℕ) → ¬ SpellsWord here more rest
no_sets here none [] rest spelled = spelled
no_sets here none (x ∷ []) rest (behind, one, end, bare) = none x behind one
no_sets here none (x ∷ y ∷ others) rest (behind, after, one, e, spelled) = none x behind one

-- No set stands here.
pub sets_lack : (table : List (List ℕ)) (most : ℕ) (old : List Letter) (start here : List ℕ) (read : ℕ) (letters : List Letter) → SetsRead table most old start here read letters → ((names : List (List ℕ)) (rest : List ℕ) → ¬ SpellsSet here names rest) → (sets : List (List (List ℕ))) (rest : List ℕ) → ¬ SpellsWord start sets rest
sets_lack table most old start here read letters before none sets rest spelled =
    let left = before.onward sets rest spelled in
    no_sets here none left.0 rest left.1
