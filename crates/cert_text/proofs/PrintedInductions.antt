-- Proofs by induction that were printed are texts.
use Rattle.std.proofs.Common.{◌≡◌, ℕ, ◌<◌, Bool, true, false, List, [], ◌∷◌, ◌++◌, length, map, refl, sym, ◌∙◌, ap, subst, arith, append_assoc, append-nil}
use Rattle.std.specs.Prelude.{nat_le, decimal, codes, IsTrue}
use Rattle.std.specs.Fmt.{signed_decimal}
use Rattle.std.specs.List.{All, list_all, list_any, flat_map, join_with_byte}
use Rattle.std.proofs.lemmas.Bool.{or_left, or_right}
use Rattle.std.proofs.lemmas.Grind.{flat_map-append}
use Rattle.std.proofs.lemmas.List.Elements.{All-head, All-tail, All-nil, All-cons, All-append}
use Rattle.chain_check.specs.declared.logs.Learned.{Learned}
use Rattle.chain_check.specs.LogTexts.{entry_text, log_text}
use Rattle.cnf_frames.specs.ProofTexts.{fact_text, is_clause, proof_text, worded_text}
use Rattle.cnf_frames.specs.declared.facts.Fact.{Fact}
use Rattle.cnf_frames.specs.declared.facts.Fact.TheVariants.{Zero, One, Same, Differ, AnyOf}
use Rattle.cnf_frames.specs.declared.inductions.InductionProof.{InductionProof}
use Rattle.hy_formula.proofs.Each.{each-append}
use Rattle.cert_text.specs.declared.question.Question.TheVariants.{Circuit}
use Rattle.hy_text.specs.Numbers.{SaysNumber}
use Rattle.cert_text.specs.Lines.{Line, Say, words_of}
use Rattle.cert_text.specs.Numbers.{SaysCount, SaysLiteral}
use Rattle.cert_text.specs.InductionLines.{kind_word, SaysFact, SaysLearned, SayLogs, SayProofBy}
use Rattle.cert_text.specs.Certificates.{induction, holds_line, proved}
use Rattle.cert_text.specs.Texts.{IsText, ended}
use Rattle.cert_text.specs.Printed.{IsBelow, IsPrintableFact, IsPrintableLiteral, IsPrintableCount, IsPrintableEntry, IsPrintableLog, IsPrintableInduction}
use Rattle.cert_text.proofs.Joining.{Lacks, EachLacks, IsFree, AreFree, split_joined, decimal_lacks, signed_lacks, lacks_feed}
use Rattle.cert_text.proofs.OneFault.{ended_both}
use Rattle.cert_text.proofs.PrintedLines.{word_lacks, words_lack, joined_spaced, free_words, spelled_number, holds_free, texts_end, free_lines_of, say_lines_of, lines_text}

-- ---- facts

-- behind the first word
abbrev fact_rest : Fact → List (List ℕ)
fact_rest (Zero a) = codes "0" ∷ decimal a ∷ []
fact_rest (One a) = codes "1" ∷ decimal a ∷ []
fact_rest (Same a b) = codes "=" ∷ decimal a ∷ decimal b ∷ []
fact_rest (Differ a b) = codes "!" ∷ decimal a ∷ decimal b ∷ []
fact_rest (AnyOf ls) = codes "|" ∷ map decimal ls

abbrev fact_words : Fact → List (List ℕ)
fact_words fact = codes "f" ∷ fact_rest fact

abbrev fact_line : Fact → Line
fact_line fact = join_with_byte 32 (fact_words fact)

spaced_numbers : (ls : List ℕ) → flat_map (λ w. 32 ∷ w) (map decimal ls)
    ≡ flat_map (λ l. 32 ∷ decimal l) ls
spaced_numbers [] = refl
spaced_numbers (l ∷ ls) = ap (λ t. (32 ∷ decimal l) ++ t) (spaced_numbers ls)

fact_ends : (fact : Fact) → fact_text fact ≡ fact_line fact ++ 10 ∷ []
fact_ends (Zero a) = simp append_assoc
fact_ends (One a) = simp append_assoc
fact_ends (Same a b) = simp append_assoc
fact_ends (Differ a b) = simp append_assoc
fact_ends (AnyOf ls) =
    ap (λ t. (codes "f |" ++ t) ++ 10 ∷ []) (sym (spaced_numbers ls))
    ∙ ap (λ t. t ++ 10 ∷ []) (sym (joined_spaced (codes "f") (codes "|" ∷ map decimal ls)))

two_lack : (byte a b : ℕ) → byte < 33 → IsBelow a × IsBelow b
    → EachLacks byte (decimal a ∷ decimal b ∷ [])
two_lack byte a b low (one, two) =
    let second = decimal_lacks byte b (omega arith) two in
    (decimal_lacks byte a (omega arith) one, (second, tt))

rest_lacks : (byte : ℕ) (fact : Fact) → byte < 33 → IsPrintableFact fact
    → EachLacks byte (fact_rest fact)
rest_lacks byte (Zero a) low is =
    (word_lacks byte (codes "0") low refl, (decimal_lacks byte a (omega arith) is, tt))
rest_lacks byte (One a) low is =
    (word_lacks byte (codes "1") low refl, (decimal_lacks byte a (omega arith) is, tt))
rest_lacks byte (Same a b) low both =
    (word_lacks byte (codes "=") low refl, two_lack byte a b low both)
rest_lacks byte (Differ a b) low both =
    (word_lacks byte (codes "!") low refl, two_lack byte a b low both)
rest_lacks byte (AnyOf ls) low (all, some) = (
  word_lacks byte (codes "|") low refl,
  words_lack decimal IsBelow byte (λ l below. decimal_lacks byte l (omega arith) below) ls all,
)

fact_lacks : (byte : ℕ) (fact : Fact) → byte < 33 → IsPrintableFact fact
    → EachLacks byte (fact_words fact)
fact_lacks byte fact low is = (word_lacks byte (codes "f") low refl, rest_lacks byte fact low is)

fact_free : (fact : Fact) → IsPrintableFact fact → Lacks 10 (fact_line fact)
fact_free fact is = free_words (fact_words fact) (fact_lacks 10 fact (omega arith) is)

fact_cut : (fact : Fact) → IsPrintableFact fact → words_of (fact_line fact) ≡ fact_words fact
fact_cut fact is = split_joined 32 (codes "f") (fact_rest fact) (fact_lacks 32 fact (omega arith) is)

fact_says : (clauses : Bool) (fact : Fact) → (IsTrue (is_clause fact) → IsTrue clauses)
    → IsPrintableFact fact → SaysFact clauses (fact_line fact) fact
fact_says clauses (Zero a) taken is = (decimal a, fact_cut (Zero a) is, spelled_number a is)
fact_says clauses (One a) taken is = (decimal a, fact_cut (One a) is, spelled_number a is)
fact_says clauses (Same a b) taken is =
    (decimal a, decimal b, fact_cut (Same a b) is, spelled_number a is.0, spelled_number b is.1)
fact_says clauses (Differ a b) taken is =
    (decimal a, decimal b, fact_cut (Differ a b) is, spelled_number a is.0, spelled_number b is.1)
fact_says clauses (AnyOf ls) taken (all, some) = (
  taken refl,
  (
    map decimal ls,
    fact_cut (AnyOf ls) (all, some),
    say_lines_of decimal IsBelow SaysNumber spelled_number ls all,
    some,
  ),
)

facts_say : (clauses : Bool) (facts : List Fact)
    → (IsTrue (list_any is_clause facts) → IsTrue clauses) → All IsPrintableFact facts
    → Say (SaysFact clauses) (map fact_line facts) facts
facts_say clauses [] taken all = tt
facts_say clauses (fact ∷ facts) taken all = (
  fact_says clauses fact (λ is. taken (or_left (is_clause fact) (list_any is_clause facts) is))
      (All-head IsPrintableFact fact facts all),
  facts_say clauses facts
      (λ is. taken (or_right (is_clause fact) (list_any is_clause facts) is))
      (All-tail IsPrintableFact fact facts all),
)

-- ---- learned clauses

spaced_words : {A : Type 0} (word_of : A → List ℕ) (xs : List A) (ws : List (List ℕ))
    → flat_map (λ w. 32 ∷ w) (map word_of xs ++ ws)
    ≡ flat_map (λ x. 32 ∷ word_of x) xs ++ flat_map (λ w. 32 ∷ w) ws
spaced_words word_of [] ws = refl
spaced_words word_of (x ∷ xs) ws =
    ap (λ t. (32 ∷ word_of x) ++ t) (spaced_words word_of xs ws)
    ∙ sym (append_assoc (32 ∷ word_of x) (flat_map (λ x. 32 ∷ word_of x) xs)
    (flat_map (λ w. 32 ∷ w) ws))

-- the words of a clause's chain and its 0, and of all behind the first word
abbrev chain_words : Learned → List (List ℕ)
chain_words entry = map decimal entry.chain ++ codes "0" ∷ []

abbrev clause_words : Learned → List (List ℕ)
clause_words entry = map signed_decimal entry.clause ++ codes "0" ∷ chain_words entry

abbrev entry_line : Learned → Line
entry_line entry = join_with_byte 32 (codes "c" ∷ clause_words entry)

entry_ends : (entry : Learned) → entry_text entry ≡ entry_line entry ++ 10 ∷ []
entry_ends entry =
    let literals = flat_map (λ l. 32 ∷ signed_decimal l) entry.clause in
    let numbers = flat_map (λ k. 32 ∷ decimal k) entry.chain in
    let chain : flat_map (λ w. 32 ∷ w) (chain_words entry) ≡ numbers ++ codes " 0" =
    spaced_words decimal entry.chain (codes "0" ∷ []) in
    let words : flat_map (λ w. 32 ∷ w) (clause_words entry)
    ≡ literals ++ (codes " 0" ++ (numbers ++ codes " 0")) =
    spaced_words signed_decimal entry.clause (codes "0" ∷ chain_words entry)
    ∙ ap (λ t. literals ++ (codes " 0" ++ t)) chain in
    let line : entry_line entry ≡ codes "c" ++ (literals ++ (codes " 0" ++ (numbers ++ codes
    " 0"))) =
    joined_spaced (codes "c") (clause_words entry) ∙ ap (λ t. codes "c" ++ t) words in
    let apart : entry_text entry
    ≡ (codes "c" ++ (literals ++ (codes " 0" ++ (numbers ++ codes " 0")))) ++ 10 ∷ [] =
    simp append_assoc in
    apart ∙ ap (λ t. t ++ 10 ∷ []) (sym line)

chain_lacks : (byte : ℕ) (entry : Learned) → byte < 33 → IsPrintableEntry entry
    → EachLacks byte (chain_words entry)
chain_lacks byte entry low is =
    each-append (Lacks byte) (map decimal entry.chain) (codes "0" ∷ [])
    (words_lack decimal IsPrintableCount byte
    (λ k below. decimal_lacks byte k (omega arith) below.1) entry.chain is.chain)
    (word_lacks byte (codes "0") low refl, tt)

clause_lacks : (byte : ℕ) (entry : Learned) → byte < 33 → IsPrintableEntry entry
    → EachLacks byte (clause_words entry)
clause_lacks byte entry low is =
    each-append (Lacks byte) (map signed_decimal entry.clause) (codes "0" ∷ chain_words entry)
    (words_lack signed_decimal IsPrintableLiteral byte
    (λ l below. signed_lacks byte l (omega arith) below.1) entry.clause is.clause)
    (word_lacks byte (codes "0") low refl, chain_lacks byte entry low is)

entry_lacks : (byte : ℕ) (entry : Learned) → byte < 33 → IsPrintableEntry entry
    → EachLacks byte (codes "c" ∷ clause_words entry)
entry_lacks byte entry low is =
    (word_lacks byte (codes "c") low refl, clause_lacks byte entry low is)

entry_free : (entry : Learned) → IsPrintableEntry entry → Lacks 10 (entry_line entry)
entry_free entry is =
    free_words (codes "c" ∷ clause_words entry) (entry_lacks 10 entry (omega arith) is)

entry_says : (entry : Learned) → IsPrintableEntry entry → SaysLearned (entry_line entry) entry
entry_says entry is = (
  clause_words entry,
  chain_words entry,
  split_joined 32 (codes "c") (clause_words entry) (entry_lacks 32 entry (omega arith) is),
  (
    map signed_decimal entry.clause,
    refl,
    say_lines_of signed_decimal IsPrintableLiteral SaysLiteral
        (λ l below. record {
          spelled = refl;
          some = below.0;
          short =
              below.1;
        }) entry.clause is.clause,
  ),
  (
    map decimal entry.chain,
    refl,
    say_lines_of decimal IsPrintableCount SaysCount
        (λ k below. record {
          number = spelled_number k below.1;
          some =
              below.0;
        }) entry.chain is.chain,
  ),
)

-- ---- logs

abbrev log_words : List Learned → List (List ℕ)
log_words log = codes "log" ∷ decimal (length log) ∷ []

abbrev log_lines : List Learned → List Line
log_lines log = join_with_byte 32 (log_words log) ∷ map entry_line log

log_lacks : (byte : ℕ) (log : List Learned) → byte < 33 → IsPrintableLog log
    → EachLacks byte (log_words log)
log_lacks byte log low is = (
  word_lacks byte (codes "log") low refl,
  (decimal_lacks byte (length log) (omega arith) is.count, tt),
)

log_ends : (log : List Learned) → log_text log ≡ ended (log_lines log)
log_ends log =
    let head : codes "log " ++ decimal (length log) ++ codes "\n"
    ≡ join_with_byte 32 (log_words log) ++ 10 ∷ [] = simp append_assoc in
    ap (λ t. t ++ flat_map entry_text log) head
    ∙ ap (λ t. (join_with_byte 32 (log_words log) ++ 10 ∷ []) ++ t)
    (texts_end entry_line entry_text entry_ends log)

logs_end : (logs : List (List Learned)) → flat_map log_text logs ≡ ended (flat_map log_lines logs)
logs_end [] = refl
logs_end (log ∷ logs) =
    ap (λ t. t ++ flat_map log_text logs) (log_ends log)
    ∙ ap (λ t. ended (log_lines log) ++ t) (logs_end logs)
    ∙ sym (ended_both (log_lines log) (flat_map log_lines logs))

log_free : (log : List Learned) → IsPrintableLog log → AreFree (log_lines log)
log_free log is = (
  lacks_feed (join_with_byte 32 (log_words log))
      (free_words (log_words log) (log_lacks 10 log (omega arith) is)),
  free_lines_of entry_line IsPrintableEntry entry_free log is.each,
)

logs_free : (logs : List (List Learned)) → All IsPrintableLog logs
    → AreFree (flat_map log_lines logs)
logs_free [] all = tt
logs_free (log ∷ logs) all =
    each-append IsFree (log_lines log) (flat_map log_lines logs)
    (log_free log (All-head IsPrintableLog log logs all))
    (logs_free logs (All-tail IsPrintableLog log logs all))

logs_say : (logs : List (List Learned)) → All IsPrintableLog logs
    → SayLogs (flat_map log_lines logs) logs
logs_say [] all = refl
logs_say (log ∷ logs) all =
    let is = All-head IsPrintableLog log logs all in (
      join_with_byte 32 (log_words log),
      map entry_line log,
      flat_map log_lines logs,
      refl,
      (
        decimal (length log),
        split_joined 32 (codes "log") (decimal (length log) ∷ []) (log_lacks 32 log (omega arith)
            is),
        spelled_number (length log) is.count,
      ),
      say_lines_of entry_line IsPrintableEntry SaysLearned entry_says log is.each,
      logs_say logs (All-tail IsPrintableLog log logs all),
    )

-- ---- proofs

abbrev induction_words : List ℕ → InductionProof → List (List ℕ)
induction_words word proof =
    codes "proof" ∷ word ∷ decimal proof.depth ∷ decimal (length proof.inv) ∷ []

abbrev logs_of : InductionProof → List (List Learned)
logs_of proof = proof.keep ++ proof.base ++ proof.step ∷ []

abbrev pub induction_lines : List ℕ → InductionProof → List Line
induction_lines word proof =
    join_with_byte 32 (induction_words word proof)
    ∷ (map fact_line proof.inv ++ flat_map log_lines (logs_of proof))

-- The bytes of a word are behind the space.
abbrev pub IsWord : List ℕ → Type 0
IsWord word = list_all (nat_le 33) word ≡ true

induction_lacks : (byte : ℕ) (word : List ℕ) (proof : InductionProof) → byte < 33 → IsWord word
    → IsPrintableInduction proof → EachLacks byte (induction_words word proof)
induction_lacks byte word proof low above is =
    let depth = decimal_lacks byte proof.depth (omega arith) is.depth in
    let facts = decimal_lacks byte (length proof.inv) (omega arith) is.facts in
    let kind = word_lacks byte word low above in
    (word_lacks byte (codes "proof") low refl, (kind, (depth, (facts, tt))))

all_logs : (proof : InductionProof) → IsPrintableInduction proof
    → All IsPrintableLog (logs_of proof)
all_logs proof is =
    All-append IsPrintableLog (proof.keep ++ proof.base) (proof.step ∷ [])
    (All-append IsPrintableLog proof.keep proof.base is.keep is.base)
    (All-cons IsPrintableLog proof.step [] is.step (All-nil IsPrintableLog))

logs_texts : (proof : InductionProof) → flat_map log_text (logs_of proof)
    ≡ flat_map log_text proof.keep ++ (flat_map log_text proof.base ++ log_text proof.step)
logs_texts proof =
    flat_map-append log_text (proof.keep ++ proof.base) (proof.step ∷ [])
    ∙ ap (λ t. t ++ (log_text proof.step ++ [])) (flat_map-append log_text proof.keep proof.base)
    ∙ ap (λ t. (flat_map log_text proof.keep ++ flat_map log_text proof.base) ++ t)
    (append-nil (log_text proof.step))
    ∙ append_assoc (flat_map log_text proof.keep) (flat_map log_text proof.base)
    (log_text proof.step)

head_ends : (kind depth facts : List ℕ)
    → codes "proof " ++ kind ++ codes " " ++ depth ++ codes " " ++ facts ++ codes "\n"
    ≡ join_with_byte 32 (codes "proof" ∷ kind ∷ depth ∷ facts ∷ []) ++ 10 ∷ []
head_ends kind depth facts = simp append_assoc

pub induction_ends : (word : List ℕ) (proof : InductionProof)
    → worded_text word proof ≡ ended (induction_lines word proof)
induction_ends word proof =
    let head = join_with_byte 32 (induction_words word proof) in
    let facts = flat_map fact_text proof.inv in
    let front : codes "proof " ++ word ++ codes " " ++ decimal proof.depth
    ++ codes " " ++ decimal (length proof.inv) ++ codes "\n" ≡ head ++ 10 ∷ [] =
    head_ends word (decimal proof.depth) (decimal (length proof.inv)) in
    let keep = flat_map log_text proof.keep in
    let base = flat_map log_text proof.base in
    let step = log_text proof.step in
    ap (λ t. t ++ facts ++ keep ++ base ++ step) front
    ∙ append_assoc ((head ++ 10 ∷ []) ++ facts ++ keep) base step
    ∙ append_assoc ((head ++ 10 ∷ []) ++ facts) keep (base ++ step)
    ∙ ap (λ t. ((head ++ 10 ∷ []) ++ facts) ++ t) (sym (logs_texts proof) ∙ logs_end
    (logs_of proof))
    ∙ append_assoc (head ++ 10 ∷ []) facts (ended (flat_map log_lines (logs_of proof)))
    ∙ ap (λ t. (head ++ 10 ∷ []) ++ (t ++ ended (flat_map log_lines (logs_of proof))))
    (texts_end fact_line fact_text fact_ends proof.inv)
    ∙ ap (λ t. (head ++ 10 ∷ []) ++ t)
    (sym (ended_both (map fact_line proof.inv) (flat_map log_lines (logs_of proof))))

module _ (word : List ℕ) (proof : InductionProof) (above : IsWord word)
    (is : IsPrintableInduction proof) where
  pub induction_free : AreFree (induction_lines word proof)
  induction_free = (
    lacks_feed (join_with_byte 32 (induction_words word proof))
        (free_words (induction_words word proof)
        (induction_lacks 10 word proof (omega arith) above is)),
    each-append IsFree (map fact_line proof.inv) (flat_map log_lines (logs_of proof))
        (free_lines_of fact_line IsPrintableFact fact_free proof.inv is.each_fact)
        (logs_free (logs_of proof) (all_logs proof is)),
  )

  pub induction_said : (clauses : Bool) → (IsTrue (list_any is_clause proof.inv) → IsTrue clauses)
      → SayProofBy word clauses (induction_lines word proof) proof
  induction_said clauses taken = record {
    head = join_with_byte 32 (induction_words word proof);
    facts = map fact_line proof.inv;
    logs = flat_map log_lines (logs_of proof);
    parts = refl;
    counts = (
      decimal proof.depth,
      decimal (length proof.inv),
      split_joined 32 (codes "proof")
          (word ∷ decimal proof.depth ∷ decimal (length proof.inv) ∷ [])
          (induction_lacks 32 word proof (omega arith) above is),
      spelled_number proof.depth is.depth,
      spelled_number (length proof.inv) is.facts,
    );
    states = facts_say clauses proof.inv taken is.each_fact;
    refuted = logs_say (logs_of proof) (all_logs proof is);
    keeps = is.keeps;
    bases = is.bases;
  }

-- ---- proofs about circuits

kind_above : (clauses : Bool) → IsWord (kind_word clauses)
kind_above true = refl
kind_above false = refl

pub printed_induction : (holds : Bool) (proof : InductionProof) → IsPrintableInduction proof
    → IsText Circuit (holds_line holds ++ codes "\n" ++ proof_text proof) (induction holds
    proof)
printed_induction holds proof is =
    let clauses = list_any is_clause proof.inv in
    let word = kind_word clauses in
    let text = lines_text Circuit (holds_line holds ∷ induction_lines word proof)
    (induction holds proof) (holds_free holds, induction_free word proof (kind_above clauses) is)
    (proved (induction_lines word proof) refl
    (clauses, induction_said word proof (kind_above clauses) is clauses (λ is. is))) in
    let P : List ℕ → Type 0 =
    λ b. IsText Circuit (holds_line holds ++ codes "\n" ++ b) (induction holds proof) in
    subst P (sym (induction_ends word proof)) text
