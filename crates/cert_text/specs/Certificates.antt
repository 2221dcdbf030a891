-- Certificates: what the tools print of an answer with its evidence, as values. Numbers have no
-- bound, and lassos have their sets by names.
use Rattle.std.specs.Prelude.{◌≡◌, ◌<◌, Bool, true, false, List, ◌∷◌, ◌++◌, length, codes}
use Rattle.aig_net.specs.declared.run.Run.{Run}
use Rattle.cnf_frames.specs.declared.inductions.InductionProof.{InductionProof}
use Rattle.rank_proofs.specs.declared.rank_proof.RankProof.{RankProof}
use Rattle.hy_lasso.specs.LassoLines.{Spelled, SaysLasso}
use Rattle.cert_text.specs.declared.question.Question.{Question}
use Rattle.cert_text.specs.declared.question.Question.TheVariants.{Formula, Implication, Equivalence, Circuit}
use Rattle.cert_text.specs.Lines.{Line, Say}
use Rattle.cert_text.specs.RankLines.{SayRankProof}
use Rattle.cert_text.specs.InductionLines.{SayInductionProof, SayFreeProof}
use Rattle.cert_text.specs.RunLines.{SayRuns}

-- of two formulas, the one that the lassos satisfy; the other one they do not
pub data Side : Type 0 where
  first : Side
  second : Side

-- why no lassos do what a formula asks: by ranks, or by induction over a free net
pub data Refutation : Type 0 where
  ranks : RankProof → Refutation
  free : InductionProof → Refutation

pub data Certificate : Type 0 where
  -- the lassos that satisfy a formula, and not the other one
  model : Side → List Spelled → Certificate
  -- that no lassos do, and for an equivalence in neither direction
  refuted : Refutation → Certificate
  both : Refutation → Refutation → Certificate
  -- whether a circuit satisfies its formula, by a proof or by runs and what is seen of them
  induction : Bool → InductionProof → Certificate
  runs : Bool → List Spelled → List Run → Certificate

-- Lassos, one at least.
abbrev pub SayLassos : List Line → List Spelled → Type 0
SayLassos lines lassos = Say SaysLasso lines lassos × (0 < length lassos)

abbrev pub SayRefutation : List Line → Refutation → Type 0
SayRefutation lines (ranks proof) = SayRankProof lines proof
SayRefutation lines (free proof) = SayFreeProof lines proof

-- the first line of an answer about a circuit
abbrev pub holds_line : Bool → Line
holds_line true = codes "holds"
holds_line false = codes "violated"

-- the first line of an answer that two formulas are not equivalent
abbrev pub side_line : Side → Line
side_line first = codes "not equivalent first"
side_line second = codes "not equivalent second"

-- The lines spell the certificate of an answer to what was asked.
pub data Spells (lines : List Line) : Question → Certificate → Type 0 where
  satisfiable : {lassos : List Spelled} (rest : List Line) → lines ≡ codes "sat" ∷ rest
      → SayLassos rest lassos → Spells lines Formula (model first lassos)
  unsatisfiable : {proof : Refutation} (rest : List Line) → lines ≡ codes "unsat" ∷ rest
      → SayRefutation rest proof → Spells lines Formula (refuted proof)
  not_implied : {lassos : List Spelled} (rest : List Line) → lines ≡ codes "not implied" ∷ rest
      → SayLassos rest lassos → Spells lines Implication (model first lassos)
  implied : {proof : Refutation} (rest : List Line) → lines ≡ codes "implied" ∷ rest
      → SayRefutation rest proof → Spells lines Implication (refuted proof)
  not_equivalent : {side : Side} {lassos : List Spelled} (rest : List Line)
      → lines ≡ side_line side ∷ rest → SayLassos rest lassos
      → Spells lines Equivalence (model side lassos)
  equivalent : {one two : Refutation} (front rest : List Line)
      → lines ≡ codes "equivalent" ∷ (front ++ rest) → SayRefutation front one
      → SayRefutation rest two → Spells lines Equivalence (both one two)
  proved : {holds : Bool} {proof : InductionProof} (rest : List Line)
      → lines ≡ holds_line holds ∷ rest → SayInductionProof rest proof
      → Spells lines Circuit (induction holds proof)
  shown : {holds : Bool} {lassos : List Spelled} {tuple : List Run} (front rest : List Line)
      → lines ≡ holds_line holds ∷ (front ++ rest) → SayLassos front lassos → SayRuns rest tuple
      → Spells lines Circuit (runs holds lassos tuple)
