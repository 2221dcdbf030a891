-- Proofs about formulas that were printed are texts.
use Rattle.std.proofs.Common.{◌≡◌, ℕ, true, List, ◌∷◌, ◌++◌, refl, sym, ◌∙◌, ap, subst, append_assoc}
use Rattle.std.specs.Prelude.{codes}
use Rattle.hy_formula.proofs.Each.{each-append}
use Rattle.cert_text.specs.declared.question.Question.{Question}
use Rattle.cert_text.specs.declared.question.Question.TheVariants.{Formula, Implication, Equivalence}
use Rattle.cert_text.specs.Certificates.{Refutation, ranks, free, refuted, both, SayRefutation, Spells, unsatisfiable, implied, equivalent}
use Rattle.cert_text.specs.InductionLines.{free_word}
use Rattle.cert_text.specs.Lines.{Line}
use Rattle.cert_text.specs.Printed.{IsPrintableRefutation}
use Rattle.cert_text.specs.ProofTexts.{refutation_text}
use Rattle.cert_text.specs.Texts.{IsText, ended}
use Rattle.cert_text.proofs.Joining.{IsFree, AreFree}
use Rattle.cert_text.proofs.OneFault.{ended_both}
use Rattle.cert_text.proofs.PrintedInductions.{induction_ends, induction_free, induction_lines, induction_said}
use Rattle.cert_text.proofs.PrintedLines.{lines_text}
use Rattle.cert_text.proofs.PrintedRanks.{proof_ends, proof_free, proof_said, rank_lines}

abbrev refutation_lines : Refutation → List Line
refutation_lines (ranks proof) = rank_lines proof
refutation_lines (free proof) = induction_lines free_word proof

refutation_ends : (proof : Refutation) → refutation_text proof ≡ ended (refutation_lines proof)
refutation_ends (ranks proof) = proof_ends proof
refutation_ends (free proof) = induction_ends free_word proof

refutation_free : (proof : Refutation) → IsPrintableRefutation proof
    → AreFree (refutation_lines proof)
refutation_free (ranks proof) is = proof_free proof is
refutation_free (free proof) is = induction_free free_word proof refl is

refutation_said : (proof : Refutation) → IsPrintableRefutation proof
    → SayRefutation (refutation_lines proof) proof
refutation_said (ranks proof) is = proof_said proof is
refutation_said (free proof) is = induction_said free_word proof refl is true (λ _. refl)

refuted_text : (question : Question) (line : Line) (proof : Refutation) → IsFree line
    → Spells (line ∷ refutation_lines proof) question (refuted proof)
    → IsPrintableRefutation proof
    → IsText question (line ++ codes "\n" ++ refutation_text proof) (refuted proof)
refuted_text question line proof lacks spelled is =
    let text = lines_text question (line ∷ refutation_lines proof) (refuted proof)
    (lacks, refutation_free proof is) spelled in
    let P : List ℕ → Type 0 = λ b. IsText question (line ++ codes "\n" ++ b) (refuted proof) in
    subst P (sym (refutation_ends proof)) text

pub printed_unsat : (proof : Refutation) → IsPrintableRefutation proof
    → IsText Formula (codes "unsat\n" ++ refutation_text proof) (refuted proof)
printed_unsat proof is =
    refuted_text Formula (codes "unsat") proof refl
    (unsatisfiable (refutation_lines proof) refl (refutation_said proof is)) is

pub printed_implied : (proof : Refutation) → IsPrintableRefutation proof
    → IsText Implication (codes "implied\n" ++ refutation_text proof) (refuted proof)
printed_implied proof is =
    refuted_text Implication (codes "implied") proof refl
    (implied (refutation_lines proof) refl (refutation_said proof is)) is

pub printed_equivalent : (one two : Refutation) → IsPrintableRefutation one
    → IsPrintableRefutation two
    → IsText Equivalence (codes "equivalent\n" ++ refutation_text one ++ refutation_text two)
    (both one two)
printed_equivalent one two is also =
    let front = refutation_lines one in
    let rest = refutation_lines two in
    let lines = codes "equivalent" ∷ (front ++ rest) in
    let text = lines_text Equivalence lines (both one two)
    (refl, each-append IsFree front rest (refutation_free one is) (refutation_free two also))
    (equivalent front rest refl (refutation_said one is) (refutation_said two also)) in
    let bytes : codes "equivalent\n" ++ refutation_text one ++ refutation_text two ≡ ended lines =
    append_assoc (codes "equivalent\n") (refutation_text one) (refutation_text two)
    ∙ ap (λ t. codes "equivalent\n" ++ (t ++ refutation_text two)) (refutation_ends one)
    ∙ ap (λ t. codes "equivalent\n" ++ (ended front ++ t)) (refutation_ends two)
    ∙ ap (λ t. codes "equivalent\n" ++ t) (sym (ended_both front rest)) in
    let P : List ℕ → Type 0 = λ b. IsText Equivalence b (both one two) in
    subst P (sym bytes) text
