-- What is read of a certificate before it is judged: its first line, its lassos over a table of names,
-- and the text of the evidence behind them.
use Rattle.std.specs.Prelude.{◌≡◌, ℕ, ◌<◌, List, [], ◌∷◌, ◌++◌, length, codes}
use Rattle.hy_bits.specs.Letter.{Letter}
use Rattle.hy_formula.specs.Lassos.{Lasso}
use Rattle.hy_lasso.specs.Words.{AreLassos}
use Rattle.hy_text.specs.Lines.{lines_of}
use Rattle.cert_text.specs.declared.question.Question.{Question}
use Rattle.cert_text.specs.declared.question.Question.TheVariants.{Formula, Implication, Equivalence, Circuit}
use Rattle.cert_text.specs.Certificates.{Certificate, SayRefutation, first, model, refuted, both, induction, runs, holds_line, side_line}
use Rattle.cert_text.specs.InductionLines.{SayInductionProof}
use Rattle.cert_text.specs.Lines.{Line}
use Rattle.cert_text.specs.RunLines.{SayRuns}
use Rattle.claim_check.specs.Good.{lassos_over}
use Rattle.claim_check.specs.Verdicts.{spelled_in}

-- The line is the first one of such a certificate. A question has no others.
abbrev pub IsHead : Question → Certificate → Line → Type 0
IsHead Formula (model first lassos) head = head ≡ codes "sat"
IsHead Formula (refuted proof) head = head ≡ codes "unsat"
IsHead Implication (model first lassos) head = head ≡ codes "not implied"
IsHead Implication (refuted proof) head = head ≡ codes "implied"
IsHead Equivalence (model side lassos) head = head ≡ side_line side
IsHead Equivalence (both one two) head = head ≡ codes "equivalent"
IsHead Circuit (induction holds proof) head = head ≡ holds_line holds
IsHead Circuit (runs holds lassos tuple) head = head ≡ holds_line holds
IsHead _ _ head = ⊥

-- A certificate that has lassos has so many.
abbrev pub IsFilled : Certificate → ℕ → Type 0
IsFilled (model side lassos) n = 0 < n
IsFilled (runs holds lassos tuple) n = 0 < n
IsFilled _ n = n ≡ 0

-- The lines are what stands behind the lassos.
abbrev pub Shows : List Line → Certificate → Type 0
Shows lines (model side lassos) = lines ≡ []
Shows lines (refuted proof) = SayRefutation lines proof
Shows lines (both one two) =
    (front rest : List Line) × (lines ≡ front ++ rest)
    × SayRefutation front one × SayRefutation rest two
Shows lines (induction holds proof) = SayInductionProof lines proof
Shows lines (runs holds lassos tuple) = SayRuns lines tuple

pub record IsRead (names : List (List ℕ)) (question : Question) (c : Certificate) (head : Line)
    (list : List (Lasso Letter)) (evidence : List ℕ) : Type 0 where
  pub begun : IsHead question c head
  pub over : list ≡ lassos_over names (spelled_in c)
  pub filled : IsFilled c (length list)
  pub lassos : AreLassos list
  pub lines : List Line
  pub ended : lines_of evidence ≡ lines ++ [] ∷ []
  pub shown : Shows lines c
