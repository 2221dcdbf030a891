-- A text spells one certificate.
use Rattle.std.proofs.Common.{◌≡◌, ℕ, suc, Bool, true, false, List, [], ◌∷◌, ◌++◌, length, refl, sym, ◌∙◌, ap, subst, arith, append_assoc, length-append}
use Rattle.std.specs.Prelude.{codes}
use Rattle.std.proofs.lemmas.List.{same_from_push}
use Rattle.aig_net.specs.declared.run.Run.{Run}
use Rattle.chain_check.specs.declared.logs.Learned.{Learned}
use Rattle.cnf_frames.specs.declared.inductions.InductionProof.{InductionProof}
use Rattle.cnf_frames.specs.Queries.{groups}
use Rattle.rank_proofs.specs.declared.rank_proof.RankProof.{RankProof}
use Rattle.hy_text.specs.Bytes.{past_blanks}
use Rattle.hy_lasso.specs.LassoLines.{Spelled, SaysLasso}
use Rattle.hy_lasso.proofs.ReadingLassos.{one_lasso}
use Rattle.cert_text.specs.declared.question.Question.{Question}
use Rattle.cert_text.specs.Lines.{Line, Say, Speaks}
use Rattle.cert_text.specs.RankLines.{SaysRankHead, SaysBranch, SaysReason, SayRankProof}
use Rattle.cert_text.specs.InductionLines.{kind_word, free_word, SaysHead, SaysFact, SaysLogHead, SaysLearned, SayLogs, SayProofBy, SayInductionProof}
use Rattle.cert_text.specs.RunLines.{SaysRun, SaysRunsHead, SayRuns}
use Rattle.cert_text.specs.Certificates.{Side, first, second, Certificate, Refutation, model, ranks, free, refuted, both, induction, runs, SayLassos, SayRefutation, holds_line, side_line, Spells, satisfiable, unsatisfiable, not_implied, implied, not_equivalent, equivalent, proved, shown}
use Rattle.cert_text.specs.Texts.{IsText}
use Rattle.cert_text.proofs.Lists.{heads, tails, parts_same}
use Rattle.cert_text.proofs.OneReading.{SaysOnce, say_once, say_long, one_branch, one_reason, one_fact, one_entry, one_run}
use Rattle.cert_text.proofs.Verdicts.{side_long}
use Rattle.cert_text.proofs.Stepping.{same_one, same_two, same_head, words_apart, proof_no_lasso}

-- so many lines of one kind, and others behind them
said_same : {A : Type 0} (Says : Line → A → Type 0) → SaysOnce Says
    → (front rest other more : List Line) (xs ys : List A) → front ++ rest ≡ other ++ more
    → length xs ≡ length ys → Say Says front xs → Say Says other ys → (xs ≡ ys) × (rest ≡ more)
said_same Says once front rest other more xs ys e many one two =
    let long = say_long Says front xs one ∙ many ∙ sym (say_long Says other ys two) in
    let (same, behind) = parts_same front rest other more e long in
    let P : List Line → Type 0 = λ l. Say Says l xs in
    (say_once Says once other xs ys (subst P same one) two, behind)

-- ---- rank proofs

-- One rank proof stands at the front.
pub one_rank_proof : (front rest other more : List Line) (p q : RankProof)
    → front ++ rest ≡ other ++ more → SayRankProof front p → SayRankProof other q
    → (p ≡ q) × (rest ≡ more)
one_rank_proof front rest other more p q e one two =
    let P : List Line → Type 0 = λ l. l ++ rest ≡ other ++ more in
    let Q : List Line → Type 0 = λ l. one.head ∷ (one.branches ++ one.reasons) ++ rest
    ≡ l ++ more in
    let whole = subst Q two.parts (subst P one.parts e) in
    let R : Line → Type 0 = λ l. SaysRankHead l (length p.branches) (length p.reasons) in
    let (branches_many, reasons_many) =
    same_two (codes "proof") (codes "rank") two.head _ _ _ _ (subst R (heads whole) one.counts)
    two.counts in
    let apart = sym (append_assoc one.branches one.reasons rest) ∙ tails whole
    ∙ append_assoc two.branches two.reasons more in
    let (branches, behind) = said_same SaysBranch one_branch one.branches (one.reasons ++ rest)
    two.branches (two.reasons ++ more) p.branches q.branches apart branches_many one.entries
    two.entries in
    let (reasons, left) = said_same SaysReason one_reason one.reasons rest two.reasons more
    p.reasons
    q.reasons behind reasons_many one.ranks two.ranks in
    (λ i. record { branches = branches i; reasons = reasons i }, left)

-- ---- proofs by induction

-- Logs at the front are so many of these.
one_logs : (front rest other more : List Line) (xs ys : List (List Learned))
    → front ++ rest ≡ other ++ more → length xs ≡ length ys → SayLogs front xs
    → SayLogs other ys → (xs ≡ ys) × (rest ≡ more)
one_logs front rest other more [] [] e long one two =
    (refl, ap (λ l. l ++ rest) (sym one) ∙ e ∙ ap (λ l. l ++ more) two)
one_logs front rest other more [] (y ∷ ys) e long one two = absurd (omega arith)
one_logs front rest other more (x ∷ xs) [] e long one two = absurd (omega arith)
one_logs front rest other more (x ∷ xs) (y ∷ ys) e long
    (head, clauses, behind, parts, counts, said, others)
    (head2, clauses2, behind2, parts2, counts2, said2, others2) =
    let whole : head ∷ (clauses ++ behind) ++ rest ≡ head2 ∷ (clauses2 ++ behind2) ++ more =
    ap (λ l. l ++ rest) (sym parts) ∙ e ∙ ap (λ l. l ++ more) parts2 in
    let P : Line → Type 0 = λ l. SaysLogHead l (length x) in
    let many = same_one (codes "log") head2 (length x) (length y) (subst P (heads whole) counts)
    counts2 in
    let apart = sym (append_assoc clauses behind rest) ∙ tails whole
    ∙ append_assoc clauses2 behind2 more in
    let (same, left) = said_same SaysLearned one_entry clauses (behind ++ rest) clauses2
    (behind2 ++ more) x y apart many said said2 in
    let (all, end) = one_logs behind rest behind2 more xs ys left (omega arith) others others2 in
    (ap (λ l. l ∷ xs) same ∙ ap (λ l. y ∷ l) all, end)

-- One proof by induction with this word stands at the front.
one_by : (word : List ℕ) (clauses : Bool) (front rest other more : List Line)
    (p q : InductionProof) → front ++ rest ≡ other ++ more → SayProofBy word clauses front p
    → SayProofBy word clauses other q → (p ≡ q) × (rest ≡ more)
one_by word clauses front rest other more p q e one two =
    let whole : one.head ∷ (one.facts ++ one.logs) ++ rest
    ≡ two.head ∷ (two.facts ++ two.logs) ++ more =
    ap (λ l. l ++ rest) (sym one.parts) ∙ e ∙ ap (λ l. l ++ more) two.parts in
    let P : Line → Type 0 = λ l. SaysHead word l p.depth (length p.inv) in
    let (depth, many) = same_two (codes "proof") word two.head _ _ _ _
    (subst P (heads whole) one.counts) two.counts in
    let apart = sym (append_assoc one.facts one.logs rest) ∙ tails whole
    ∙ append_assoc two.facts two.logs more in
    let (facts, behind) = said_same (SaysFact clauses) (one_fact clauses) one.facts
    (one.logs ++ rest) two.facts (two.logs ++ more) p.inv q.inv apart many one.states
    two.states in
    let keeps : length p.keep ≡ length q.keep = one.keeps ∙ ap groups facts ∙ sym two.keeps in
    let bases : length p.base ≡ length q.base = one.bases ∙ ap suc depth ∙ sym two.bases in
    let long : length (p.keep ++ p.base ++ p.step ∷ []) ≡ length (q.keep ++ q.base ++ q.step ∷ []) =
    omega (
      arith,
      keeps,
      bases,
      length-append (p.keep ++ p.base) (p.step ∷ []),
      length-append p.keep p.base,
      length-append (q.keep ++ q.base) (q.step ∷ []),
      length-append q.keep q.base,
    ) in
    let (logs, end) = one_logs one.logs rest two.logs more (p.keep ++ p.base ++ p.step ∷ [])
    (q.keep ++ q.base ++ q.step ∷ []) behind long one.refuted two.refuted in
    let both_many : length (p.keep ++ p.base) ≡ length (q.keep ++ q.base) =
    omega (arith, keeps, bases, length-append p.keep p.base, length-append q.keep q.base) in
    let (fronts, steps) = parts_same (p.keep ++ p.base) (p.step ∷ []) (q.keep ++ q.base)
    (q.step ∷ [])
    logs both_many in
    let (keep, base) = parts_same p.keep p.base q.keep q.base fronts keeps in (
      λ i. record {
        inv = facts i;
        depth = depth i;
        keep = keep i;
        base = base i;
        step = heads steps i;
      },
      end,
    )

pub one_induction : (lines : List Line) (p q : InductionProof) → SayInductionProof lines p
    → SayInductionProof lines q → p ≡ q
one_induction lines p q (a, one) (b, two) =
    let whole = sym one.parts ∙ two.parts in
    let P : Line → Type 0 = λ l. SaysHead (kind_word a) l p.depth (length p.inv) in
    let (kind, _, _) = same_head a b two.head _ _ _ _ (subst P (heads whole) one.counts)
    two.counts in
    let Q : Bool → Type 0 = λ k. SayProofBy (kind_word k) k lines p in
    (one_by (kind_word b) b lines [] lines [] p q refl (subst Q kind one) two).0

-- ---- proofs about formulas

-- the heads of two proofs at the front
ranks_not_free : (front rest other more : List Line) (p : RankProof) (q : InductionProof)
    → front ++ rest ≡ other ++ more → SayRankProof front p
    → ¬ SayProofBy free_word true other q
ranks_not_free front rest other more p q e one two =
    let whole : one.head ∷ (one.branches ++ one.reasons) ++ rest
    ≡ two.head ∷ (two.facts ++ two.logs) ++ more =
    ap (λ l. l ++ rest) (sym one.parts) ∙ e ∙ ap (λ l. l ++ more) two.parts in
    let P : Line → Type 0 = λ l. SaysRankHead l (length p.branches) (length p.reasons) in
    words_apart two.head _ _ _ _ (subst P (heads whole) one.counts) two.counts

pub one_refutation : (front rest other more : List Line) (p q : Refutation)
    → front ++ rest ≡ other ++ more → SayRefutation front p → SayRefutation other q
    → (p ≡ q) × (rest ≡ more)
one_refutation front rest other more (ranks p) (ranks q) e one two =
    let (same, end) = one_rank_proof front rest other more p q e one two in (ap ranks same, end)
one_refutation front rest other more (ranks p) (free q) e one two =
    absurd (ranks_not_free front rest other more p q e one two)
one_refutation front rest other more (free p) (ranks q) e one two =
    absurd (ranks_not_free other more front rest q p (sym e) two one)
one_refutation front rest other more (free p) (free q) e one two =
    let (same, end) = one_by free_word true front rest other more p q e one two in
    (ap free same, end)

-- ---- lassos and runs

pub one_said : SaysOnce SaysLasso
one_said line said other one two = one_lasso (past_blanks line) said other one two

pub one_list : (lines : List Line) (xs ys : List Spelled) → SayLassos lines xs → SayLassos lines ys
    → xs ≡ ys
one_list lines xs ys one two = say_once SaysLasso one_said lines xs ys one.0 two.0

one_tuple : (lines : List Line) (xs ys : List Run) → SayRuns lines xs → SayRuns lines ys → xs ≡ ys
one_tuple lines xs ys one two =
    let same = tails (sym one.parts ∙ two.parts) in
    let P : List Line → Type 0 = λ l. Say SaysRun l xs in
    say_once SaysRun one_run two.rest xs ys (subst P same one.each) two.each

-- The head of runs is no lasso.
head_no_lasso : (line : Line) (n : ℕ) → SaysRunsHead line n → ¬ Speaks SaysLasso line
head_no_lasso line n (word, words, says) =
    proof_no_lasso line (codes "runs" ∷ word ∷ []) words

-- Where lassos end and runs begin is one place.
one_seam : (front other rest more : List Line) (xs ys : List Spelled) (r q : List Run)
    → front ++ rest ≡ other ++ more → Say SaysLasso front xs → Say SaysLasso other ys
    → SayRuns rest r → SayRuns more q → (front ≡ other) × (rest ≡ more)
one_seam [] [] rest more xs ys r q e one two three four = (refl, e)
one_seam [] (line ∷ other) rest more xs [] r q e one two three four = absurd two
one_seam [] (line ∷ other) rest more xs (y ∷ ys) r q e one (says, two) three four =
    let same = heads (sym three.parts ∙ e) in
    let P : Line → Type 0 = λ l. SaysRunsHead l (length r) in
    absurd (head_no_lasso line (length r) (subst P same three.counts) (y, says))
one_seam (line ∷ front) [] rest more [] ys r q e one two three four = absurd one
one_seam (line ∷ front) [] rest more (x ∷ xs) ys r q e (says, one) two three four =
    let same = heads (sym four.parts ∙ sym e) in
    let P : Line → Type 0 = λ l. SaysRunsHead l (length q) in
    absurd (head_no_lasso line (length q) (subst P same four.counts) (x, says))
one_seam (line ∷ front) (next ∷ other) rest more [] ys r q e one two three four = absurd one
one_seam (line ∷ front) (next ∷ other) rest more (x ∷ xs) [] r q e one two three four = absurd two
one_seam (line ∷ front) (next ∷ other) rest more (x ∷ xs) (y ∷ ys) r q e (says, one)
    (also, two) three four =
    let (fronts, behind) = one_seam front other rest more xs ys r q (tails e) one two three four in
    (ap (λ l. line ∷ l) fronts ∙ ap (λ a. a ∷ other) (heads e), behind)

-- A proof by induction begins with no lasso.
no_mixture : (lines front rest : List Line) (p : InductionProof) (xs : List Spelled)
    → SayInductionProof lines p → lines ≡ front ++ rest → ¬ SayLassos front xs
no_mixture lines [] rest p [] one e (said, some) = absurd (omega arith)
no_mixture lines [] rest p (x ∷ xs) one e (said, some) = absurd said
no_mixture lines (line ∷ front) rest p [] one e (said, some) = absurd said
no_mixture lines (line ∷ front) rest p (x ∷ xs) (clauses, one) e ((says, said), some) =
    let same = heads (sym one.parts ∙ e) in
    let P : Line → Type 0 = λ l. SaysHead (kind_word clauses) l p.depth (length p.inv) in
    let (k, f, words, depth, facts) = subst P same one.counts in
    proof_no_lasso line (kind_word clauses ∷ k ∷ f ∷ []) words (x, says)

-- ---- certificates

sides_apart : (s t : Side) → side_line s ≡ side_line t → s ≡ t
sides_apart first first e = refl
sides_apart first second e = absurd (omega (arith, ap length e))
sides_apart second first e = absurd (omega (arith, ap length e))
sides_apart second second e = refl

truths_apart : (a b : Bool) → holds_line a ≡ holds_line b → a ≡ b
truths_apart true true e = refl
truths_apart true false e = absurd (omega (arith, ap length e))
truths_apart false true e = absurd (omega (arith, ap length e))
truths_apart false false e = refl

pub one_spelled : (lines : List Line) (question : Question) (c d : Certificate) → Spells lines question c
    → Spells lines question d → c ≡ d
one_spelled lines question c d (satisfiable {lassos = xs} rest e said) (satisfiable {lassos =
    ys} more f also) =
    let P : List Line → Type 0 = λ l. SayLassos l xs in
    ap (model first) (one_list more xs ys (subst P (tails (sym e ∙ f)) said) also)
one_spelled lines question c d (satisfiable rest e said) (unsatisfiable more f also) =
    absurd (omega (arith, ap length (heads (sym e ∙ f))))
one_spelled lines question c d (unsatisfiable rest e said) (satisfiable more f also) =
    absurd (omega (arith, ap length (heads (sym e ∙ f))))
one_spelled lines question c d (unsatisfiable {proof = p} rest e said) (unsatisfiable {proof =
    q} more f also) =
    ap refuted (one_refutation rest [] more [] p q (ap (λ l. l ++ []) (tails (sym e
    ∙ f))) said also).0
one_spelled lines question c d (not_implied {lassos = xs} rest e said) (not_implied {lassos =
    ys} more f also) =
    let P : List Line → Type 0 = λ l. SayLassos l xs in
    ap (model first) (one_list more xs ys (subst P (tails (sym e ∙ f)) said) also)
one_spelled lines question c d (not_implied rest e said) (implied more f also) =
    absurd (omega (arith, ap length (heads (sym e ∙ f))))
one_spelled lines question c d (implied rest e said) (not_implied more f also) =
    absurd (omega (arith, ap length (heads (sym e ∙ f))))
one_spelled lines question c d (implied {proof = p} rest e said) (implied {proof = q} more f also) =
    ap refuted (one_refutation rest [] more [] p q (ap (λ l. l ++ []) (tails (sym e
    ∙ f))) said also).0
one_spelled lines question c d (not_equivalent {side = s} {lassos =
    xs} rest e said) (not_equivalent {side = t} {lassos = ys} more f also) =
    let P : List Line → Type 0 = λ l. SayLassos l xs in
    ap (λ side. model side xs) (sides_apart s t (heads (sym e ∙ f)))
    ∙ ap (model t) (one_list more xs ys (subst P (tails (sym e ∙ f)) said) also)
one_spelled lines question c d (not_equivalent {side =
    s} rest e said) (equivalent front more f one two) =
    absurd (omega (arith, side_long s, ap length (heads (sym e ∙ f))))
one_spelled lines question c d (equivalent front rest e one two) (not_equivalent {side =
    t} more f also) =
    absurd (omega (arith, side_long t, ap length (heads (sym e ∙ f))))
one_spelled lines question c d (equivalent {one = p} {two = r} front rest e one two)
    (equivalent {one = q} {two = t} other more f one2 two2) =
    let (first_same, behind) = one_refutation front rest other more p q (tails (sym e
    ∙ f)) one one2 in
    let (second_same, none) = one_refutation rest [] more [] r t (ap (λ l. l ++ []) behind) two
    two2 in
    ap (λ x. both x r) first_same ∙ ap (both q) second_same
one_spelled lines question c d (proved {holds = a} {proof = p} rest e said) (proved {holds =
    b} {proof = q} more f also) =
    let P : List Line → Type 0 = λ l. SayInductionProof l p in
    ap (λ x. induction x p) (truths_apart a b (heads (sym e ∙ f)))
    ∙ ap (induction b) (one_induction more p q (subst P (tails (sym e ∙ f)) said) also)
one_spelled lines question c d (proved {holds = a} {proof = p} rest e said) (shown {holds =
    b} {lassos = xs} front more f one two) =
    absurd (no_mixture rest front more p xs said (tails (sym e ∙ f)) one)
one_spelled lines question c d (shown {holds = a} {lassos =
    xs} front rest e one two) (proved {holds = b} {proof = p} more f said) =
    absurd (no_mixture more front rest p xs said (tails (sym f ∙ e)) one)
one_spelled lines question c d (shown {holds = a} {lassos = xs} {tuple = r} front rest e one two)
    (shown {holds = b} {lassos = ys} {tuple = q} other more f one2 two2) =
    let (fronts, behind) = one_seam front other rest more xs ys r q (tails (sym e ∙ f)) one.0 one2.0
    two two2 in
    let P : List Line → Type 0 = λ l. SayLassos l xs in
    let Q : List Line → Type 0 = λ l. SayRuns l r in
    ap (λ x. runs x xs r) (truths_apart a b (heads (sym e ∙ f)))
    ∙ ap (λ x. runs b x r) (one_list other xs ys (subst P fronts one) one2)
    ∙ ap (runs b ys) (one_tuple more r q (subst Q behind two) two2)

pub one_text : (question : Question) (bytes : List ℕ) (c d : Certificate) → IsText question bytes c
    → IsText question bytes d → c ≡ d
one_text question bytes c d one two =
    let (same, _) = same_from_push one.lines two.lines [] [] (sym one.ended ∙ two.ended) in
    let P : List Line → Type 0 = λ l. Spells l question c in
    one_spelled two.lines question c d (subst P same one.spelled) two.spelled
