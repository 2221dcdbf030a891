-- How proofs about formulas are printed.
use Rattle.std.specs.Prelude.{ℕ, List}
use Rattle.cnf_frames.specs.ProofTexts.{worded_text}
use Rattle.rank_proofs.specs.ProofTexts.{proof_text}
use Rattle.cert_text.specs.Certificates.{Refutation, ranks, free}
use Rattle.cert_text.specs.InductionLines.{free_word}

abbrev pub refutation_text : Refutation → List ℕ
refutation_text (ranks proof) = proof_text proof
refutation_text (free proof) = worded_text free_word proof
