-- How a proof by induction is printed:
--
--     proof induction DEPTH FACTS
--     a line for each fact: f 0 A, f 1 A, f = A B or f ! A B, by places of latches
--     or f | L .. with the literals: 2 * A for latch A is 1, 2 * A + 1 for latch A is 0
--     the logs: one for each group of facts, one for each base query from 0 on, that of the step
--
-- Where some fact is of literals, the first line is proof clauses DEPTH FACTS.
use Rattle.std.specs.Prelude.{◌≡◌, ℕ, Bool, true, false, cond, List, ◌∷◌, ◌++◌, length, codes, decimal}
use Rattle.std.specs.List.{flat_map, list_any}
use Rattle.chain_check.specs.LogTexts.{log_text}
use Rattle.cnf_frames.specs.declared.facts.Fact.{Fact}
use Rattle.cnf_frames.specs.declared.facts.Fact.TheVariants.{Zero, One, Same, Differ, AnyOf}
use Rattle.cnf_frames.specs.declared.inductions.InductionProof.{InductionProof}

abbrev pub fact_text : Fact → List ℕ
fact_text (Zero a) = codes "f 0 " ++ decimal a ++ codes "\n"
fact_text (One a) = codes "f 1 " ++ decimal a ++ codes "\n"
fact_text (Same a b) = codes "f = " ++ decimal a ++ codes " " ++ decimal b ++ codes "\n"
fact_text (Differ a b) = codes "f ! " ++ decimal a ++ codes " " ++ decimal b ++ codes "\n"
fact_text (AnyOf ls) = codes "f |" ++ flat_map (λ l. 32 ∷ decimal l) ls ++ codes "\n"

abbrev pub is_clause : Fact → Bool
is_clause (AnyOf ls) = true
is_clause _ = false

-- No fact is of literals.
abbrev pub AreSimple : List Fact → Type 0
AreSimple facts = list_any is_clause facts ≡ false

-- the word of a proof with these facts
abbrev pub kind_text : List Fact → List ℕ
kind_text facts = cond (list_any is_clause facts) (codes "clauses") (codes "induction")

-- a proof with this word
abbrev pub worded_text : List ℕ → InductionProof → List ℕ
worded_text word proof =
    codes "proof " ++ word ++ codes " " ++ decimal proof.depth ++ codes " "
    ++ decimal (length proof.inv) ++ codes "\n" ++ flat_map fact_text proof.inv ++ flat_map log_text proof.keep
    ++ flat_map log_text proof.base ++ log_text proof.step

abbrev pub proof_text : InductionProof → List ℕ
proof_text proof = worded_text (kind_text proof.inv) proof
