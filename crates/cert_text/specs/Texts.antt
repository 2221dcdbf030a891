-- Which bytes are a certificate text, and where others go wrong.
use Rattle.std.specs.Prelude.{◌≡◌, ◌≢◌, ℕ, suc, ◌⊎◌, List, [], ◌∷◌, ◌++◌, length, Option, Some, None}
use Rattle.std.specs.List.{flat_map}
use Rattle.hy_text.specs.Lines.{lines_of}
use Rattle.cert_text.specs.declared.question.Question.{Question}
use Rattle.cert_text.specs.Lines.{Line}
use Rattle.cert_text.specs.Certificates.{Certificate, Spells}

-- The bytes are lines, each with its line feed, that spell the certificate.
pub record IsText (question : Question) (bytes : List ℕ) (certificate : Certificate) : Type 0 where
  pub lines : List Line
  pub ended : lines_of bytes ≡ lines ++ [] ∷ []
  pub spelled : Spells lines question certificate

-- the lines, each with its line feed
abbrev pub ended : List Line → List ℕ
ended lines = flat_map (λ line. line ++ 10 ∷ []) lines

-- Some certificate text begins with these lines.
abbrev pub Begins : Question → List Line → Type 0
Begins question front =
    (rest : List ℕ) × (certificate : Certificate) × IsText question (ended front ++ rest) certificate

-- No text begins with the line at this place and those before it, but one does with those alone.
pub record IsWrong (question : Question) (bytes : List ℕ) (front : List Line) : Type 0 where
  pub line : Line
  pub next : Line
  pub more : List Line
  pub parts : lines_of bytes ≡ front ++ line ∷ next ∷ more
  pub begins : Begins question front
  pub stops : ¬ Begins question (front ++ line ∷ [])

-- The last line has no line feed, and those before it are as a text begins.
pub record IsCut (question : Question) (bytes : List ℕ) (front : List Line) : Type 0 where
  pub line : Line
  pub parts : lines_of bytes ≡ front ++ line ∷ []
  pub some : line ≢ []
  pub begins : Begins question front

-- All lines are as a text begins, and more are wanted.
pub record IsShort (question : Question) (bytes : List ℕ) (front : List Line) : Type 0 where
  pub parts : lines_of bytes ≡ front ++ [] ∷ []
  pub begins : Begins question front
  pub wanting : (certificate : Certificate) → ¬ IsText question bytes certificate

-- The bytes go wrong at the line with this number, from 1.
abbrev pub IsFaultAt : Question → List ℕ → ℕ → Type 0
IsFaultAt question bytes k =
    (front : List Line) × (k ≡ suc (length front))
    × (IsWrong question bytes front ⊎ (IsCut question bytes front ⊎ IsShort question bytes front))

-- The bytes are a text, or this is the number of the line at which they go wrong.
abbrev pub IsAnswer : Question → List ℕ → Option ℕ → Type 0
IsAnswer question bytes None = (certificate : Certificate) × IsText question bytes certificate
IsAnswer question bytes (Some k) = IsFaultAt question bytes k
