-- The lines of rank proofs, logs and proofs by induction, as they are wanted and as they are said.
use Rattle.std.proofs.Common.{◌≡◌, ℕ, zero, suc, ◌+◌, ◌/◌, Bool, true, List, [], ◌∷◌, ◌++◌, length, take, drop, inl, inr, refl, sym, ◌∙◌, ap, subst, arith, append_assoc, length-append}
use Rattle.std.proofs.lemmas.List.{take-append-drop, length-take-le, length-drop}
use Rattle.chain_check.specs.declared.logs.Learned.{Learned}
use Rattle.cnf_frames.specs.declared.inductions.InductionProof.{InductionProof}
use Rattle.rank_proofs.specs.declared.rank_proof.RankProof.{RankProof}
use Rattle.cert_text.specs.Certificates.{Refutation, SayRefutation, ranks, free}
use Rattle.cert_text.specs.Lines.{Line, Speaks}
use Rattle.cert_text.specs.RankLines.{SaysRankHead, SaysBranch, SaysReason, SayRankProof}
use Rattle.cert_text.specs.InductionLines.{SaysHead, SaysFact, SaysLogHead, SaysLearned, SayLogs, SayProofBy, free_word}
use Rattle.cert_text.specs.Wants.{Many, FillInduction, FillLogs, FillProofs, logs_of}
use Rattle.cert_text.proofs.Counted.{many_said, said_many}

-- lines in three parts
joined : (front middle rest : List Line) {lines behind : List Line} → lines ≡ front ++ behind
    → behind ≡ middle ++ rest → lines ≡ (front ++ middle) ++ rest
joined front middle rest parts more =
    parts ∙ ap (λ l. front ++ l) more ∙ sym (append_assoc front middle rest)

-- ---- logs

-- So many logs, and lines of which Then holds behind them.
pub record AreLogs (n : ℕ) (Then : List Line → Type 0) (lines : List Line) : Type 0 where
  pub front : List Line
  pub rest : List Line
  pub logs : List (List Learned)
  pub parts : lines ≡ front ++ rest
  pub many : length logs ≡ n
  pub said : SayLogs front logs
  pub behind : Then rest

module _ (Then : List Line → Type 0) where
  logs_said : (n : ℕ) (lines : List Line) → FillLogs n Then lines → AreLogs n Then lines
  logs_said zero lines behind = record {
    front = [];
    rest = lines;
    logs = [];
    parts = refl;
    many = refl;
    said = refl;
    behind = behind;
  }
  logs_said (suc n) [] none = absurd none
  logs_said (suc n) (line ∷ lines) (k, counts, fill) =
      let first = many_said SaysLearned (FillLogs n Then) k lines fill in
      let more = logs_said n first.rest first.behind in
      let whole = joined first.front more.front more.rest first.parts more.parts in
      record {
        front = line ∷ (first.front ++ more.front);
        rest = more.rest;
        logs = first.values ∷ more.logs;
        parts = ap (λ l. line ∷ l) whole;
        many = ap suc more.many;
        said = (
          line,
          first.front,
          more.front,
          refl,
          subst (SaysLogHead line) (sym first.many) counts,
          first.said,
          more.said,
        );
        behind = more.behind;
      }

  said_logs : (front rest : List Line) (logs : List (List Learned)) → SayLogs front logs
      → Then rest → FillLogs (length logs) Then (front ++ rest)
  said_logs front rest [] none behind = subst Then (ap (λ l. l ++ rest) (sym none)) behind
  said_logs front rest (log ∷ logs) (head, clauses, others, parts, counts, said, more) behind =
      let first = said_many SaysLearned (FillLogs (length logs) Then) clauses (others ++ rest) log
      said (said_logs others rest logs more behind) in
      let whole : head ∷ (clauses ++ (others ++ rest)) ≡ front ++ rest =
      ap (λ l. head ∷ l) (sym (append_assoc clauses others rest))
      ∙ ap (λ l. l ++ rest) (sym parts) in
      subst (FillLogs (length (log ∷ logs)) Then) whole (length log, counts, first)

-- ---- proofs by induction

-- logs dealt out: those of the groups, those of the base queries, that of the step
pub record AreDealt (groups bases : ℕ) (logs : List (List Learned)) : Type 0 where
  pub keep : List (List Learned)
  pub base : List (List Learned)
  pub step : List Learned
  pub parts : logs ≡ keep ++ base ++ step ∷ []
  pub keeps : length keep ≡ groups
  pub bases_many : length base ≡ bases

last_of : {A : Type 0} (n : ℕ) (xs : List A) → length xs ≡ n + 1
    → (front : List A) × (x : A) × (xs ≡ front ++ x ∷ []) × (length front ≡ n)
last_of n [] long = absurd (omega arith)
last_of n (x ∷ []) long = ([], x, refl, omega arith)
last_of zero (x ∷ y ∷ xs) long = absurd (omega arith)
last_of (suc n) (x ∷ y ∷ xs) long =
    let (front, last, parts, few) = last_of n (y ∷ xs) (omega arith) in
    (x ∷ front, last, ap (λ l. x ∷ l) parts, ap suc few)

deal : (g b : ℕ) (logs : List (List Learned)) → length logs ≡ g + (b + 1) → AreDealt g b logs
deal g b logs many =
    let left : length (drop g logs) ≡ b + 1 = omega (arith, length-drop g logs) in
    let (base, step, parts, few) = last_of b (drop g logs) left in
    record {
      keep = take g logs;
      base = base;
      step = step;
      parts =
          sym (take-append-drop g logs) ∙ ap (λ l. take g logs ++ l) parts
          ∙ sym (append_assoc (take g logs) base (step ∷ []));
      keeps = length-take-le g logs (omega arith);
      bases_many = few;
    }

-- A proof by induction with this word, and lines of which Then holds behind it.
pub record IsInductionFirst (word : List ℕ) (clauses : Bool) (Then : List Line → Type 0)
    (lines : List Line) : Type 0 where
  pub front : List Line
  pub rest : List Line
  pub proof : InductionProof
  pub parts : lines ≡ front ++ rest
  pub said : SayProofBy word clauses front proof
  pub behind : Then rest

-- Lines that begin with the head of a proof.
pub record IsHeaded (word : List ℕ) (clauses : Bool) (Then : List Line → Type 0)
    (proof : InductionProof) (lines : List Line) : Type 0 where
  pub line : Line
  pub more : List Line
  pub parts : lines ≡ line ∷ more
  pub counts : SaysHead word line proof.depth (length proof.inv)
  pub fill : FillInduction clauses proof.depth (length proof.inv) Then more

module _ (word : List ℕ) (clauses : Bool) (Then : List Line → Type 0) where
  pub induction_said : (k f : ℕ) (line : Line) (lines : List Line) → SaysHead word line k f
      → FillInduction clauses k f Then lines
      → IsInductionFirst word clauses Then (line ∷ lines)
  induction_said k f line lines counts fill =
      let facts = many_said (SaysFact clauses) (FillLogs (logs_of k f) Then) f lines fill in
      let logs = logs_said Then (logs_of k f) facts.rest facts.behind in
      let split : logs_of k f ≡ (f + 63) / 64 + (suc k + 1) = omega arith in
      let dealt = deal ((f + 63) / 64) (suc k) logs.logs (logs.many ∙ split) in
      let whole = joined facts.front logs.front logs.rest facts.parts logs.parts in
      record {
        front = line ∷ (facts.front ++ logs.front);
        rest = logs.rest;
        proof = record {
          inv = facts.values;
          depth = k;
          keep = dealt.keep;
          base = dealt.base;
          step = dealt.step;
        };
        parts = ap (λ l. line ∷ l) whole;
        said = record {
          head = line;
          facts = facts.front;
          logs = logs.front;
          parts = refl;
          counts = subst (SaysHead word line k) (sym facts.many) counts;
          states = facts.said;
          refuted = subst (SayLogs logs.front) dealt.parts logs.said;
          keeps = dealt.keeps ∙ ap (λ n. (n + 63) / 64) (sym facts.many);
          bases = dealt.bases_many;
        };
        behind = logs.behind;
      }

  pub said_induction : (front rest : List Line) (proof : InductionProof)
      → SayProofBy word clauses front proof → Then rest
      → IsHeaded word clauses Then proof (front ++ rest)
  said_induction front rest proof said behind =
      let many : length (proof.keep ++ proof.base ++ proof.step ∷ [])
      ≡ logs_of proof.depth (length proof.inv) = omega (
        arith,
        said.keeps,
        said.bases,
        length-append (proof.keep ++ proof.base) (proof.step ∷ []),
        length-append proof.keep proof.base,
      ) in
      let P : ℕ → Type 0 = λ n. FillLogs n Then (said.logs ++ rest) in
      let logs = subst P many (said_logs Then said.logs rest _ said.refuted behind) in
      record {
        line = said.head;
        more = said.facts ++ (said.logs ++ rest);
        parts =
            ap (λ l. l ++ rest) said.parts
            ∙ ap (λ l. said.head ∷ l) (append_assoc said.facts said.logs rest);
        counts = said.counts;
        fill =
            said_many (SaysFact clauses)
            (FillLogs (logs_of proof.depth (length proof.inv)) Then) said.facts
            (said.logs ++ rest) proof.inv said.states logs;
      }

-- ---- proofs about formulas

-- A proof, and so many more behind it.
pub record IsProofFirst (n : ℕ) (lines : List Line) : Type 0 where
  pub front : List Line
  pub rest : List Line
  pub proof : Refutation
  pub parts : lines ≡ front ++ rest
  pub said : SayRefutation front proof
  pub behind : FillProofs n rest

ranks_said : (n b r : ℕ) (line : Line) (lines : List Line) → SaysRankHead line b r
    → Many (Speaks SaysBranch) b (Many (Speaks SaysReason) r (FillProofs n)) lines
    → IsProofFirst n (line ∷ lines)
ranks_said n b r line lines counts fill =
    let branches = many_said SaysBranch (Many (Speaks SaysReason) r (FillProofs n)) b lines fill in
    let reasons = many_said SaysReason (FillProofs n) r branches.rest branches.behind in
    let whole = joined branches.front reasons.front reasons.rest branches.parts reasons.parts in
    let P : ℕ → Type 0 = λ m. SaysRankHead line m (length reasons.values) in
    record {
      front = line ∷ (branches.front ++ reasons.front);
      rest = reasons.rest;
      proof = ranks (record { branches = branches.values; reasons = reasons.values });
      parts = ap (λ l. line ∷ l) whole;
      said = record {
        head = line;
        branches = branches.front;
        reasons = reasons.front;
        parts = refl;
        counts =
            subst P (sym branches.many) (subst (SaysRankHead line b) (sym reasons.many) counts);
        entries = branches.said;
        ranks = reasons.said;
      };
      behind = reasons.behind;
    }

pub proof_said : (n : ℕ) (lines : List Line) → FillProofs (suc n) lines → IsProofFirst n lines
proof_said n [] none = absurd none
proof_said n (line ∷ lines) (inl (b, r, counts, fill)) = ranks_said n b r line lines counts fill
proof_said n (line ∷ lines) (inr (k, f, counts, fill)) =
    let first = induction_said free_word true (FillProofs n) k f line lines counts fill in
    record {
      front = first.front;
      rest = first.rest;
      proof = free first.proof;
      parts = first.parts;
      said = first.said;
      behind = first.behind;
    }

said_ranks : (n : ℕ) (front rest : List Line) (proof : RankProof) → SayRankProof front proof
    → FillProofs n rest → FillProofs (suc n) (front ++ rest)
said_ranks n front rest proof said behind =
    let reasons = said_many SaysReason (FillProofs n) said.reasons rest proof.reasons said.ranks
    behind in
    let branches = said_many SaysBranch (Many (Speaks SaysReason) (length proof.reasons)
    (FillProofs n))
    said.branches (said.reasons ++ rest) proof.branches said.entries reasons in
    let whole : FillProofs (suc n) (said.head ∷ (said.branches ++ (said.reasons ++ rest))) =
    inl (length proof.branches, length proof.reasons, said.counts, branches) in
    let parts : said.head ∷ (said.branches ++ (said.reasons ++ rest)) ≡ front ++ rest =
    ap (λ l. said.head ∷ l) (sym (append_assoc said.branches said.reasons rest))
    ∙ ap (λ l. l ++ rest) (sym said.parts) in
    subst (FillProofs (suc n)) parts whole

pub said_proof : (n : ℕ) (front rest : List Line) (proof : Refutation)
    → SayRefutation front proof → FillProofs n rest → FillProofs (suc n) (front ++ rest)
said_proof n front rest (ranks proof) said behind = said_ranks n front rest proof said behind
said_proof n front rest (free proof) said behind =
    let first = said_induction free_word true (FillProofs n) front rest proof said behind in
    let whole : FillProofs (suc n) (first.line ∷ first.more) =
    inr (proof.depth, length proof.inv, first.counts, first.fill) in
    subst (FillProofs (suc n)) (sym first.parts) whole
