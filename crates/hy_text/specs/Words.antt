-- Words of sets:
--
--     word := set (';' set)*
--
-- Space, tab and carriage return are ignored between these parts.
use Rattle.std.specs.Prelude.{◌≡◌, ◌≢◌, ℕ, List, [], ◌∷◌, map}
use Rattle.std.specs.List.{join_with_byte}
use Rattle.hy_bits.specs.Letter.{Letter}
use Rattle.hy_text.specs.Bytes.{past_blanks}
use Rattle.hy_text.specs.Sets.{SpellsSet, printed_set}

-- no semicolon stands here
abbrev pub NoSemicolon : List ℕ → Type 0
NoSemicolon text = (next : List ℕ) → text ≢ 59 ∷ next

-- The text begins with these sets, joined by semicolons, and the rest is what stands behind them and blanks.
abbrev pub SpellsWord : List ℕ → List (List (List ℕ)) → List ℕ → Type 0
SpellsWord text [] rest = ⊥
SpellsWord text (names ∷ []) rest =
    (behind : List ℕ) × SpellsSet text names behind × (past_blanks behind ≡ rest) × NoSemicolon rest
SpellsWord text (names ∷ more ∷ sets) rest =
    (behind next : List ℕ) × SpellsSet text names behind × (past_blanks behind ≡ 59 ∷ next)
    × SpellsWord (past_blanks next) (more ∷ sets) rest

-- how a word is printed
abbrev pub printed_word : List (List ℕ) → List Letter → List ℕ
printed_word table letters = join_with_byte 59 (map (printed_set table) letters)
