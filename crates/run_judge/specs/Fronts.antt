-- Lassos whose lines stand at the front of a text.
use Rattle.std.specs.Prelude.{◌≡◌, ℕ, List, ◌∷◌, ◌++◌, map}
use Rattle.hy_bits.specs.Letter.{Letter}
use Rattle.hy_formula.specs.Lassos.{Lasso}
use Rattle.hy_lasso.specs.LassoLines.{Spelled, lasso_of, SaysLasso}
use Rattle.hy_text.specs.Lines.{lines_of}
use Rattle.cert_text.specs.Lines.{Line, Say}

-- Where the text's lines are those of lassos, one that says none, and more, the list are these
-- lassos, with the names by the numbers of the table, and the one line and more are left.
abbrev pub AreFrontLassos : List (List ℕ) → List ℕ → List (Lasso Letter) → List ℕ → Type 0
AreFrontLassos table text list left =
    (lassos : List Spelled) (front : List Line) (line : Line) (more : List Line)
    → lines_of text ≡ front ++ line ∷ more → Say SaysLasso front lassos
    → ((said : Spelled) → ¬ SaysLasso line said)
    → (list ≡ map (lasso_of table) lassos) × (lines_of left ≡ line ∷ more)
