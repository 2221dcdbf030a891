-- Each want is filled by some lines, none of which has a line feed.
use Rattle.std.proofs.Common.{◌≡◌, ℕ, zero, suc, Bool, true, List, [], ◌∷◌, inl, inr, refl, sym, arith, None}
use Rattle.std.specs.Prelude.{codes}
use Rattle.std.specs.List.{list_all}
use Rattle.std.proofs.lemmas.Fmt.{decimal_digit}
use Rattle.hy_text.specs.Bytes.{is_in_line}
use Rattle.hy_lasso.specs.LassoLines.{SaysLasso}
use Rattle.cert_text.specs.declared.question.Question.{Question}
use Rattle.cert_text.specs.declared.question.Question.TheVariants.{Formula, Implication, Equivalence, Circuit}
use Rattle.cert_text.specs.declared.want.Want.{Want}
use Rattle.cert_text.specs.declared.want.Want.TheVariants.{Verdict, FirstLasso, Lassos, Evidence, MoreEvidence, Proofs, Branches, Reasons, Facts, Logs, LearnedClauses, Runs}
use Rattle.cnf_frames.specs.declared.facts.Fact.TheVariants.{Zero}
use Rattle.cert_text.specs.Lines.{Line, Speaks}
use Rattle.hy_text.specs.Numbers.{SaysNumber}
use Rattle.cert_text.specs.RankLines.{SaysRankHead, SaysBranch, SaysReason}
use Rattle.cert_text.specs.InductionLines.{SaysFact, SaysLogHead, SaysLearned}
use Rattle.cert_text.specs.RunLines.{SaysRunsHead, SaysRun}
use Rattle.cert_text.specs.Wants.{Ends, Many, FillLogs, FillProofs, FillShown, FillEvidence, FillSome, Fills}
use Rattle.cert_text.proofs.Joining.{AreFree, IsFree}
use Rattle.cert_text.proofs.Verdicts.{IsSpelled, Opens, sat_opens, not_implied_opens, equivalent_opens, holds_opens}

-- Some lines without line feeds are as P says.
pub record IsFilled (P : List Line → Type 0) : Type 0 where
  pub lines : List Line
  pub free : AreFree lines
  pub fills : P lines

-- a line of each kind
zero_said : SaysNumber (codes "0") 0
zero_said = record { spelled = sym (decimal_digit 0 (omega arith)); short = omega arith }

branch : Speaks SaysBranch (codes "b 0 - -")
branch = (
  record { rank = 0; now = []; next = [] },
  (codes "0", codes "-", codes "-", refl, zero_said, refl, refl),
)

reason : Speaks SaysReason (codes "n")
reason = (None, refl)

rank_head : SaysRankHead (codes "proof rank 0 0") 0 0
rank_head = (codes "0", codes "0", refl, zero_said, zero_said)

fact : (clauses : Bool) → Speaks (SaysFact clauses) (codes "f 0 0")
fact clauses = (Zero 0, (codes "0", refl, zero_said))

log_head : SaysLogHead (codes "log 0") 0
log_head = (codes "0", refl, zero_said)

learned : Speaks SaysLearned (codes "c 0 0")
learned = (
  record { clause = []; chain = [] },
  (codes "0" ∷ codes "0" ∷ [], codes "0" ∷ [], refl, ([], refl, tt), ([], refl, tt)),
)

runs_head : SaysRunsHead (codes "proof runs 0") 0
runs_head = (codes "0", refl, zero_said)

run : Speaks SaysRun (codes "- |-")
run = (
  record { first = []; stem = []; cycle = [] ∷ [] },
  (codes "-", codes "|-", [], codes "-", refl, refl, refl, refl, (refl, tt)),
)

lasso : Speaks SaysLasso (codes "|{}")
lasso = (
  record { stem = []; cycle = [] ∷ [] },
  (codes "{}", refl, ([], (codes "}", refl, refl), refl, λ next e. (cc))),
)

-- ---- lines of one kind

fill_many : (Is : Line → Type 0) (Then : List Line → Type 0) (line : Line)
    → list_all is_in_line line ≡ true → Is line → IsFilled Then → (n : ℕ)
    → IsFilled (Many Is n Then)
fill_many Is Then line free is then zero = then
fill_many Is Then line free is then (suc n) =
    let more = fill_many Is Then line free is then n in
    record { lines = line ∷ more.lines; free = (free, more.free); fills = (is, more.fills) }

fill_proofs : (n : ℕ) → IsFilled (FillProofs n)
fill_proofs zero = record { lines = []; free = tt; fills = refl }
fill_proofs (suc n) =
    let more = fill_proofs n in
    record {
      lines = codes "proof rank 0 0" ∷ more.lines;
      free = (refl, more.free);
      fills = inl (0, 0, rank_head, more.fills);
    }

fill_reasons : (r n : ℕ) → IsFilled (Many (Speaks SaysReason) r (FillProofs n))
fill_reasons r n = fill_many (Speaks SaysReason) (FillProofs n) (codes "n") refl reason
    (fill_proofs n) r

fill_logs : (logs n : ℕ) → IsFilled (FillLogs logs (FillProofs n))
fill_logs zero n = fill_proofs n
fill_logs (suc logs) n =
    let more = fill_logs logs n in
    record {
      lines = codes "log 0" ∷ more.lines;
      free = (refl, more.free);
      fills = (0, log_head, more.fills);
    }

fill_shown : IsFilled FillShown
fill_shown = record {
  lines = codes "proof runs 0" ∷ [];
  free = (refl, tt);
  fills = inl (0, runs_head, refl);
}

fill_evidence : IsFilled FillEvidence
fill_evidence = record {
  lines = codes "|{}" ∷ fill_shown.lines;
  free = (refl, fill_shown.free);
  fills = inr (lasso, fill_shown.fills);
}

fill_some : IsFilled FillSome
fill_some = record { lines = codes "|{}" ∷ []; free = (refl, tt); fills = (lasso, tt) }

-- the lines behind an answer
fill_behind : (question : Question) (word : Line) (Then : List Line → Type 0) → IsFree word
    → Opens question word Then → IsFilled Then → IsFilled (IsSpelled question)
fill_behind question word Then free opens filled = record {
  lines = word ∷ filled.lines;
  free = (free, filled.free);
  fills = (opens filled.lines).1 filled.fills;
}

fill_verdict : (question : Question) → IsFilled (IsSpelled question)
fill_verdict Formula =
    fill_behind Formula (codes "sat") FillSome refl (sat_opens (codes "sat") refl) fill_some
fill_verdict Implication =
    fill_behind Implication (codes "not implied") FillSome refl
    (not_implied_opens (codes "not implied") refl) fill_some
fill_verdict Equivalence =
    fill_behind Equivalence (codes "equivalent") (FillProofs 2) refl
    (equivalent_opens (codes "equivalent") refl) (fill_proofs 2)
fill_verdict Circuit =
    fill_behind Circuit (codes "holds") FillEvidence refl (holds_opens true (codes "holds") refl)
    fill_evidence

pub fillable : (want : Want) → IsFilled (Fills want)
fillable (Verdict question) = fill_verdict question
fillable FirstLasso = fill_some
fillable Lassos = record { lines = []; free = tt; fills = tt }
fillable Evidence = fill_evidence
fillable MoreEvidence = fill_shown
fillable (Proofs n) = fill_proofs n
fillable (Branches b r n) =
    fill_many (Speaks SaysBranch) (Many (Speaks SaysReason) r (FillProofs n)) (codes "b 0 - -") refl
    branch (fill_reasons r n) b
fillable (Reasons r n) = fill_reasons r n
fillable (Facts clauses f logs n) =
    fill_many (Speaks (SaysFact clauses)) (FillLogs logs (FillProofs n)) (codes "f 0 0") refl
    (fact clauses) (fill_logs logs n) f
fillable (Logs logs n) = fill_logs logs n
fillable (LearnedClauses k logs n) =
    fill_many (Speaks SaysLearned) (FillLogs logs (FillProofs n)) (codes "c 0 0") refl learned
    (fill_logs logs n) k
fillable (Runs n) =
    let none : IsFilled Ends = record { lines = []; free = tt; fills = refl } in
    fill_many (Speaks SaysRun) Ends (codes "- |-") refl run none n
