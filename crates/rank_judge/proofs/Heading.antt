-- The first line of a rank proof, and how many ranks a text of so many bytes has.
use Rattle.std.proofs.Common.{◌≡◌, ◌≢◌, ℕ, suc, ◌≤◌, List, [], ◌∷◌, ◌++◌, length, Option, Some, None, sym, ◌∙◌, ap, subst, arith, append_assoc, length-append}
use Rattle.std.specs.Prelude.{codes}
use Rattle.std.proofs.lemmas.List.Splits.{length-slice_split}
use Rattle.std.proofs.lemmas.List.Sums.{count_by-le-length}
use Rattle.hy_text.specs.Lines.{lines_of, left_lines}
use Rattle.hy_text.specs.Bytes.{is_line_feed}
use Rattle.rank_proofs.specs.declared.rank_proof.RankProof.{RankProof}
use Rattle.cert_text.specs.Lines.{Line}
use Rattle.cert_text.specs.RankLines.{SaysRankHead, SaysReason}
use Rattle.cert_text.proofs.OneReading.{say_long}
use Rattle.cert_text.proofs.Stepping.{same_two}
use Rattle.rank_judge.specs.Fronts.{IsFirst, IsHead}
use Rattle.rank_judge.proofs.Walking.{no_append}

-- The first line is the head of the proof, and its other lines stand behind it.
first-line : (text : List ℕ) (proof : RankProof) (rest : List Line) (line : Line)
    (behind : Option (List ℕ)) (first : IsFirst text proof rest)
    → lines_of text ≡ line ∷ left_lines behind
    → (first.said.head ≡ line) × (left_lines behind ≡ first.said.branches ++ (first.said.reasons ++ rest))
first-line text proof rest line behind first cut =
    let said = first.said in
    let whole : line ∷ left_lines behind ≡ said.head ∷ ((said.branches ++ said.reasons) ++ rest) =
    sym cut ∙ first.parts ∙ ap (λ l. l ++ rest) said.parts in
    let head : said.head ≡ line = cc in
    let left : left_lines behind ≡ (said.branches ++ said.reasons) ++ rest = cc in
    (head, left ∙ append_assoc said.branches said.reasons rest)

-- There is a text behind the first line.
pub not_alone : (text : List ℕ) (proof : RankProof) (rest : List Line) (line : Line)
    → rest ≢ [] → IsFirst text proof rest → lines_of text ≡ line ∷ [] → ⊥
not_alone text proof rest line some first cut =
    let (head, left) = first-line text proof rest line None first cut in
    some (no_append first.said.reasons rest (no_append first.said.branches
    (first.said.reasons ++ rest) (sym left)))

-- The first line says the counts.
pub head_said : (text : List ℕ) (proof : RankProof) (rest : List Line) (line : Line)
    (behind : Option (List ℕ)) → IsFirst text proof rest → lines_of text ≡ line ∷ left_lines behind
    → SaysRankHead line (length proof.branches) (length proof.reasons)
head_said text proof rest line behind first cut =
    let (head, left) = first-line text proof rest line behind first cut in
    let P : Line → Type 0 = λ l. SaysRankHead l (length proof.branches) (length proof.reasons) in
    subst P head first.said.counts

-- There are no more ranks than lines.
pub few_ranks : (text : List ℕ) (proof : RankProof) (rest : List Line) → IsFirst text proof rest
    → length proof.reasons ≤ suc (length text)
few_ranks text proof rest first =
    let said = first.said in
    let all = ap length first.parts ∙ length-append first.lines rest in
    let lines = ap length said.parts in
    omega (
      arith,
      all,
      lines,
      length-append said.branches said.reasons,
      say_long SaysReason said.reasons proof.reasons said.ranks,
      length-slice_split is_line_feed text,
      count_by-le-length is_line_feed text,
    )

-- The count of ranks is no more than that.
pub ranks_fit : (text : List ℕ) (proof : RankProof) (rest : List Line) (line : Line)
    (behind : Option (List ℕ)) (b r : ℕ) → IsFirst text proof rest
    → lines_of text ≡ line ∷ left_lines behind → SaysRankHead line b r → r ≤ suc (length text)
ranks_fit text proof rest line behind b r first cut counts =
    let said = head_said text proof rest line behind first cut in
    let (one, two) = same_two (codes "proof") (codes "rank") line (length proof.branches)
    (length proof.reasons) b r said counts in
    omega (arith, two, few_ranks text proof rest first)

pub head_read : (text : List ℕ) (proof : RankProof) (rest : List Line) (line : Line)
    (behind : List ℕ) (b r : ℕ) → IsFirst text proof rest
    → lines_of text ≡ line ∷ left_lines (Some behind) → SaysRankHead line b r
    → IsHead proof rest b r behind
head_read text proof rest line behind b r first cut counts =
    let (head, left) = first-line text proof rest line (Some behind) first cut in
    let said = head_said text proof rest line (Some behind) first cut in
    let (one, two) = same_two (codes "proof") (codes "rank") line (length proof.branches)
    (length proof.reasons) b r said counts in
    record {
      branches_many = one;
      ranks_many = two;
      reasons = first.said.reasons;
      entries = record {
        lines = first.said.branches;
        parts = left;
        said = first.said.entries;
      };
      ranks_said = first.said.ranks;
    }
