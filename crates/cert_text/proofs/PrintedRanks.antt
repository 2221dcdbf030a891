-- Rank proofs that were printed are texts.
use Rattle.std.proofs.Common.{◌≡◌, ℕ, ◌<◌, List, [], ◌∷◌, ◌++◌, length, map, refl, sym, ◌∙◌, ap, subst, arith, Option, Some, None, append_assoc}
use Rattle.std.specs.Prelude.{decimal, codes}
use Rattle.std.specs.List.{All, flat_map, join_with_byte}
use Rattle.rank_proofs.specs.ProofTexts.{numbers_text, branch_text, reason_text, proof_text}
use Rattle.rank_proofs.specs.declared.rank_proof.RankProof.{RankProof}
use Rattle.rank_proofs.specs.declared.rank_proof.ProofBranch.{ProofBranch}
use Rattle.hy_formula.proofs.Each.{each-append}
use Rattle.cert_text.specs.Lines.{Line, Say}
use Rattle.hy_text.specs.Numbers.{SaysNumber}
use Rattle.cert_text.specs.Numbers.{SaysMembers}
use Rattle.cert_text.specs.RankLines.{SaysRankHead, SaysBranch, SaysReason, SayRankProof}
use Rattle.cert_text.specs.Texts.{ended}
use Rattle.cert_text.specs.Printed.{IsBelow, AreMembers, IsPrintableBranch, IsPrintableReason, IsPrintable}
use Rattle.cert_text.proofs.Joining.{Lacks, EachLacks, IsFree, AreFree, split_joined, joined_lacks, decimal_lacks, lacks_feed}
use Rattle.cert_text.proofs.OneFault.{ended_both}
use Rattle.cert_text.proofs.PrintedLines.{word_lacks, words_lack, spelled_number, texts_end, free_lines_of, say_lines_of}

-- ---- members

numbers_lack : (byte : ℕ) (ks : List ℕ) → byte < 48 → All IsBelow ks
    → EachLacks byte (map decimal ks)
numbers_lack byte ks low below =
    words_lack decimal IsBelow byte (λ k short. decimal_lacks byte k low short) ks below

members_say : (ks : List ℕ) → AreMembers ks → SaysMembers (numbers_text ks) ks
members_say [] are = refl
members_say (k ∷ ks) (below, rising) =
    let cut = split_joined 44 (decimal k) (map decimal ks) (numbers_lack 44 (k ∷ ks) (omega arith)
    below) in
    let P : List (List ℕ) → Type 0 = λ ps. Say SaysNumber ps (k ∷ ks) in
    (subst P (sym cut) (say_lines_of decimal IsBelow SaysNumber spelled_number (k ∷ ks) below), rising)

-- Members have neither a space nor a line feed.
members_lack : (byte : ℕ) (ks : List ℕ) → byte < 33 → AreMembers ks
    → Lacks byte (numbers_text ks)
members_lack byte [] low are = word_lacks byte (codes "-") low refl
members_lack byte (k ∷ ks) low (below, rising) =
    joined_lacks byte 44 (map decimal (k ∷ ks)) (λ e. absurd (omega (arith, e)))
    (numbers_lack byte (k ∷ ks) (omega arith) below)

-- ---- lines

-- the line of a branch
abbrev branch_words : ProofBranch → List (List ℕ)
branch_words b = codes "b" ∷ decimal b.rank ∷ numbers_text b.now ∷ numbers_text b.next ∷ []

abbrev branch_line : ProofBranch → Line
branch_line b = join_with_byte 32 (branch_words b)

branch_ends : (b : ProofBranch) → branch_text b ≡ branch_line b ++ 10 ∷ []
branch_ends b = simp append_assoc

branch_lacks : (byte : ℕ) (b : ProofBranch) → byte < 33 → IsPrintableBranch b
    → EachLacks byte (branch_words b)
branch_lacks byte b low is =
    let first = word_lacks byte (codes "b") low refl in
    let rank = decimal_lacks byte b.rank (omega arith) is.rank in (
      first,
      (
        rank,
        (
          members_lack byte b.now low is.now,
          (
            members_lack byte b.next low is.next,
            tt,
          ),
        ),
      ),
    )

branch_free : (b : ProofBranch) → IsPrintableBranch b → Lacks 10 (branch_line b)
branch_free b is =
    joined_lacks 10 32 (branch_words b) (λ e. absurd (omega (arith, e)))
    (branch_lacks 10 b (omega arith) is)

branch_says : (b : ProofBranch) → IsPrintableBranch b → SaysBranch (branch_line b) b
branch_says b is = (
  decimal b.rank,
  numbers_text b.now,
  numbers_text b.next,
  split_joined 32 (codes "b") (decimal b.rank ∷ numbers_text b.now ∷ numbers_text b.next ∷ [])
      (branch_lacks 32 b (omega arith) is),
  spelled_number b.rank is.rank,
  members_say b.now is.now,
  members_say b.next is.next,
)

-- the line of a reason
abbrev reason_line : Option ℕ → Line
reason_line None = codes "n"
reason_line (Some until) = join_with_byte 32 (codes "u" ∷ decimal until ∷ [])

reason_ends : (reason : Option ℕ) → reason_text reason ≡ reason_line reason ++ 10 ∷ []
reason_ends None = refl
reason_ends (Some until) = simp append_assoc

until_lacks : (byte until : ℕ) → byte < 33 → IsBelow until
    → EachLacks byte (codes "u" ∷ decimal until ∷ [])
until_lacks byte until low below =
    let first = word_lacks byte (codes "u") low refl in
    (first, (decimal_lacks byte until (omega arith) below, tt))

reason_free : (reason : Option ℕ) → IsPrintableReason reason → Lacks 10 (reason_line reason)
reason_free None is = word_lacks 10 (codes "n") (omega arith) refl
reason_free (Some until) is =
    joined_lacks 10 32 (codes "u" ∷ decimal until ∷ []) (λ e. absurd (omega (arith, e)))
    (until_lacks 10 until (omega arith) is)

reason_says : (reason : Option ℕ) → IsPrintableReason reason → SaysReason (reason_line reason)
    reason
reason_says None is = refl
reason_says (Some until) is = (
  decimal until,
  split_joined 32 (codes "u") (decimal until ∷ []) (until_lacks 32 until (omega arith) is),
  spelled_number until is,
)

-- the first line of a proof
abbrev head_words : ℕ → ℕ → List (List ℕ)
head_words b r = codes "proof" ∷ codes "rank" ∷ decimal b ∷ decimal r ∷ []

abbrev head_line : ℕ → ℕ → Line
head_line b r = join_with_byte 32 (head_words b r)

head_lacks : (byte b r : ℕ) → byte < 33 → IsBelow b → IsBelow r
    → EachLacks byte (head_words b r)
head_lacks byte b r low one two =
    let first = decimal_lacks byte b (omega arith) one in
    let second = decimal_lacks byte r (omega arith) two in
    let kind = word_lacks byte (codes "rank") low refl in
    (word_lacks byte (codes "proof") low refl, (kind, (first, (second, tt))))

head_says : (b r : ℕ) → IsBelow b → IsBelow r → SaysRankHead (head_line b r) b r
head_says b r one two = (
  decimal b,
  decimal r,
  split_joined 32 (codes "proof") (codes "rank" ∷ decimal b ∷ decimal r ∷ [])
      (head_lacks 32 b r (omega arith) one two),
  spelled_number b one,
  spelled_number r two,
)

-- ---- proofs

abbrev pub rank_lines : RankProof → List Line
rank_lines proof =
    head_line (length proof.branches) (length proof.reasons)
    ∷ (map branch_line proof.branches ++ map reason_line proof.reasons)

pub proof_ends : (proof : RankProof) → proof_text proof ≡ ended (rank_lines proof)
proof_ends proof =
    let b = length proof.branches in
    let r = length proof.reasons in
    let head : codes "proof rank " ++ decimal b ++ codes " " ++ decimal r ++ codes "\n"
    ≡ head_line b r ++ 10 ∷ [] = simp append_assoc in
    let both = ended_both (map branch_line proof.branches) (map reason_line proof.reasons) in
    ap (λ t. t ++ flat_map branch_text proof.branches ++ flat_map reason_text proof.reasons) head
    ∙ append_assoc (head_line b r ++ 10 ∷ []) (flat_map branch_text proof.branches)
    (flat_map reason_text proof.reasons)
    ∙ ap (λ t. (head_line b r ++ 10 ∷ []) ++ (t ++ flat_map reason_text proof.reasons))
    (texts_end branch_line branch_text branch_ends proof.branches)
    ∙ ap (λ t. (head_line b r ++ 10 ∷ []) ++ (ended (map branch_line proof.branches) ++ t))
    (texts_end reason_line reason_text reason_ends proof.reasons)
    ∙ ap (λ t. (head_line b r ++ 10 ∷ []) ++ t) (sym both)

pub proof_free : (proof : RankProof) → IsPrintable proof → AreFree (rank_lines proof)
proof_free proof is = (
  lacks_feed (head_line (length proof.branches) (length proof.reasons))
      (joined_lacks 10 32 (head_words (length proof.branches) (length proof.reasons))
      (λ e. absurd (omega (arith, e)))
      (head_lacks 10 (length proof.branches) (length proof.reasons) (omega arith) is.branches
      is.reasons)),
  each-append IsFree (map branch_line proof.branches) (map reason_line proof.reasons)
      (free_lines_of branch_line IsPrintableBranch branch_free proof.branches is.each_branch)
      (free_lines_of reason_line IsPrintableReason reason_free proof.reasons is.each_reason),
)

pub proof_said : (proof : RankProof) → IsPrintable proof → SayRankProof (rank_lines proof) proof
proof_said proof is = record {
  head = head_line (length proof.branches) (length proof.reasons);
  branches = map branch_line proof.branches;
  reasons = map reason_line proof.reasons;
  parts = refl;
  counts =
      head_says (length proof.branches) (length proof.reasons) is.branches is.reasons;
  entries =
      say_lines_of branch_line IsPrintableBranch SaysBranch branch_says proof.branches
      is.each_branch;
  ranks =
      say_lines_of reason_line IsPrintableReason SaysReason reason_says proof.reasons
      is.each_reason;
}
