-- What the heads of proofs, logs and runs leave wanted.
use Rattle.std.proofs.Common.{◌≡◌, ◌≢◌, ℕ, zero, suc, ◌-◌, ◌↔◌, Bool, true, false, cond, nat_eq, List, [], ◌∷◌, get_or, inl, inr, refl, sym, ◌∙◌, ap, subst, arith}
use Rattle.std.specs.Prelude.{codes}
use Rattle.std.specs.List.{onto_first}
use Rattle.hy_text.specs.Bytes.{past_blanks}
use Rattle.hy_text.specs.Words.{SpellsWord}
use Rattle.hy_lasso.specs.LassoLines.{SpellsStem, SaysLasso}
use Rattle.hy_text.specs.Cuts.{cut_at}
use Rattle.cert_text.specs.Lines.{Line, words_of, Speaks}
use Rattle.hy_text.specs.Numbers.{SaysNumber}
use Rattle.cert_text.specs.Numbers.{SaysOne, SaysTwo}
use Rattle.cert_text.specs.RankLines.{SaysRankHead, SaysBranch, SaysReason}
use Rattle.cert_text.specs.InductionLines.{SaysInductionHead, SaysFreeHead, SaysLogHead, SaysLearned, free_word}
use Rattle.cert_text.specs.RunLines.{SaysRunsHead, SaysRun}
use Rattle.cert_text.specs.Wants.{Ends, Many, FillInduction, FillLogs, FillProofs, FillShown, FillEvidence}
use Rattle.cert_text.proofs.Lists.{heads, tails}
use Rattle.cert_text.proofs.NumbersRead.{same_number}

-- ---- one number, two numbers

pub same_one : (front : List ℕ) (line : Line) (m n : ℕ) → SaysOne (front ∷ []) line m
    → SaysOne (front ∷ []) line n → m ≡ n
same_one front line m n (x, words, says) (y, others, also) =
    let same : x ≡ y = cc in
    let P : List ℕ → Type 0 = λ w. SaysNumber w m in
    same_number y m n (subst P same says) also

pub same_second : (one two : List ℕ) (line : Line) (m n : ℕ) → SaysOne (one ∷ two ∷ []) line m
    → SaysOne (one ∷ two ∷ []) line n → m ≡ n
same_second one two line m n (x, words, says) (y, others, also) =
    let same : x ≡ y = cc in
    let P : List ℕ → Type 0 = λ w. SaysNumber w m in
    same_number y m n (subst P same says) also

pub same_two : (one two : List ℕ) (line : Line) (m n p q : ℕ) → SaysTwo (one ∷ two ∷ []) line m n
    → SaysTwo (one ∷ two ∷ []) line p q → (m ≡ p) × (n ≡ q)
same_two one two line m n p q (x, y, words, says, second) (v, w, others, also, last) =
    let first_same : x ≡ v = cc in
    let second_same : y ≡ w = cc in
    let P : List ℕ → Type 0 = λ t. SaysNumber t m in
    let Q : List ℕ → Type 0 = λ t. SaysNumber t n in (
      same_number v m p (subst P first_same says) also,
      same_number w n q (subst Q second_same
          second) last,
    )

-- the kind, the depth and the count of a proof by induction
pub same_head : (c d : Bool) (line : Line) (k f p q : ℕ) → SaysInductionHead c line k f
    → SaysInductionHead d line p q → (c ≡ d) × (k ≡ p) × (f ≡ q)
same_head true true line k f p q one two =
    let (depth, count) = same_two (codes "proof") (codes "clauses") line k f p q one two in
    (refl, depth, count)
same_head false false line k f p q one two =
    let (depth, count) = same_two (codes "proof") (codes "induction") line k f p q one two in
    (refl, depth, count)
same_head true false line k f p q (x, y, words, says, more) (v, w, others, also, last) =
    let same : codes "clauses" ≡ codes "induction" = heads (tails (sym words ∙ others)) in
    absurd (omega (arith, ap (λ w. get_or w 0 0) same))
same_head false true line k f p q (x, y, words, says, more) (v, w, others, also, last) =
    let same : codes "induction" ≡ codes "clauses" = heads (tails (sym words ∙ others)) in
    absurd (omega (arith, ap (λ w. get_or w 0 0) same))

-- ---- no head is a lasso

onto-first : (b : ℕ) (ps : List (List ℕ)) (piece : List ℕ) (more : List (List ℕ))
    → onto_first b ps ≡ piece ∷ more → get_or piece 0 b ≡ b
onto-first b [] piece more e = ap (λ w. get_or w 0 b) (sym (piece_is e))
  where
    piece_is : (b ∷ []) ∷ [] ≡ piece ∷ more → b ∷ [] ≡ piece
    piece_is e = cc
onto-first b (p ∷ ps) piece more e = ap (λ w. get_or w 0 b) (sym (piece_is e))
  where
    piece_is : (b ∷ p) ∷ ps ≡ piece ∷ more → b ∷ p ≡ piece
    piece_is e = cc

cut-first : (x : Bool) (b : ℕ) (ps : List (List ℕ)) (word : List ℕ) (more : List (List ℕ))
    → cond x ([] ∷ ps) (onto_first b ps) ≡ (112 ∷ word) ∷ more → b ≡ 112
cut-first true b ps word more e = let clash : [] ≡ 112 ∷ word = cc in absurd (cc)
cut-first false b ps word more e = sym (onto-first b ps (112 ∷ word) more e)

first_byte : (line word : List ℕ) (more : List (List ℕ)) → words_of line ≡ (112 ∷ word) ∷ more
    → (rest : List ℕ) × (line ≡ 112 ∷ rest)
first_byte [] word more e = let clash : [] ≡ 112 ∷ word = cc in absurd (cc)
first_byte (b ∷ line) word more e =
    (line, ap (λ x. x ∷ line) (cut-first (nat_eq b 32) b (cut_at 32 line) word more e))

no_word : (rest end : List ℕ) (sets : List (List (List ℕ))) → ¬ SpellsWord (112 ∷ rest) sets end
no_word rest end [] spelled = spelled
no_word rest end (names ∷ []) (behind, (inner, brace, members), blank, bare) =
    absurd (omega (arith, ap (λ w. get_or w 0 0) brace))
no_word rest end (names ∷ more ∷ sets) (behind, next, (inner, brace, members), blank, tail) =
    absurd (omega (arith, ap (λ w. get_or w 0 0) brace))

no_stem : (rest end : List ℕ) (sets : List (List (List ℕ))) → ¬ SpellsStem (112 ∷ rest) sets end
no_stem rest end [] bar = absurd (omega (arith, ap (λ w. get_or w 0 0) bar))
no_stem rest end (names ∷ sets) spelled = no_word rest (124 ∷ end) (names ∷ sets) spelled

-- A line that begins with the word proof says no lasso.
pub proof_no_lasso : (line : Line) (more : List (List ℕ)) → words_of line ≡ codes "proof" ∷ more
    → ¬ Speaks SaysLasso line
proof_no_lasso line more e (said, (end, stem, cycle)) =
    let (rest, is) = first_byte line (codes "roof") more e in
    let P : List ℕ → Type 0 = λ l. SpellsStem (past_blanks l) said.stem end in
    no_stem rest end said.stem (subst P is stem)

-- ---- heads

-- a proof by ranks is none over a free net
pub words_apart : (line : Line) (b r k f : ℕ) → SaysRankHead line b r → ¬ SaysFreeHead line k f
words_apart line b r k f (x, y, words, says, more) (v, w, others, also, last) =
    let same : codes "rank" ≡ codes "free" = heads (tails (sym words ∙ others)) in
    absurd (omega (arith, ap (λ w. get_or w 0 0) same))

pub rank_step : (n b r : ℕ) (line : Line) (rest : List Line) → n ≢ 0 → SaysRankHead line b r
    → FillProofs n (line ∷ rest)
    ↔ Many (Speaks SaysBranch) b (Many (Speaks SaysReason) r (FillProofs (n - 1))) rest
rank_step zero b r line rest some says = absurd (some refl)
rank_step (suc n) b r line rest some says =
    let less : n ≡ suc n - 1 = omega arith in
    let P : ℕ → Type 0 = λ m. Many (Speaks SaysBranch) b (Many (Speaks SaysReason) r
    (FillProofs m)) rest in (
      λ fill. elim fill [
        | inl (p, q, also, fill) ↦
            let (one, two) = same_two (codes "proof") (codes "rank") line p q b r also says in
            let Q : ℕ → Type 0 = λ m. Many (Speaks SaysBranch) m (Many (Speaks SaysReason) q
            (FillProofs n)) rest in
            let R : ℕ → Type 0 = λ m. Many (Speaks SaysBranch) b (Many (Speaks SaysReason) m
            (FillProofs n)) rest in
            subst P less (subst R two (subst Q one fill))
        | inr (k, f, also, fill) ↦ absurd (words_apart line b r k f says also)
      ],
      λ fill. inl (b, r, says, subst P (sym less) fill),
    )

pub free_step : (n k f : ℕ) (line : Line) (rest : List Line) → n ≢ 0 → SaysFreeHead line k f
    → FillProofs n (line ∷ rest) ↔ FillInduction true k f (FillProofs (n - 1)) rest
free_step zero k f line rest some says = absurd (some refl)
free_step (suc n) k f line rest some says =
    let less : n ≡ suc n - 1 = omega arith in
    let P : ℕ → Type 0 = λ m. FillInduction true k f (FillProofs m) rest in (
      λ fill. elim fill [
        | inl (b, r, also, fill) ↦ absurd (words_apart line b r k f also says)
        | inr (p, q, also, fill) ↦
            let (one, two) = same_two (codes "proof") free_word line p q k f also says in
            let Q : ℕ → Type 0 = λ m. FillInduction true m q (FillProofs n) rest in
            let R : ℕ → Type 0 = λ m. FillInduction true k m (FillProofs n) rest in
            subst P less (subst R two (subst Q one fill))
      ],
      λ fill. inr (k, f, says, subst P (sym less) fill),
    )

pub log_step : (n k : ℕ) (Then : List Line → Type 0) (line : Line) (rest : List Line) → n ≢ 0
    → SaysLogHead line k
    → FillLogs n Then (line ∷ rest) ↔ Many (Speaks SaysLearned) k (FillLogs (n - 1) Then) rest
log_step zero k Then line rest some says = absurd (some refl)
log_step (suc n) k Then line rest some says =
    let less : n ≡ suc n - 1 = omega arith in
    let P : ℕ → Type 0 = λ m. Many (Speaks SaysLearned) k (FillLogs m Then) rest in (
      λ (j, also, fill).
          let one = same_one (codes "log") line j k also says in
          let Q : ℕ → Type 0 = λ m. Many (Speaks SaysLearned) m (FillLogs n Then) rest in
          subst P less (subst Q one fill),
      λ fill. (k, says, subst P (sym less) fill),
    )

pub induction_step : (clauses : Bool) (k f : ℕ) (line : Line) (rest : List Line)
    → SaysInductionHead clauses line k f
    → FillEvidence (line ∷ rest) ↔ FillInduction clauses k f (FillProofs 0) rest
induction_step clauses k f line rest says = (
  λ fill. elim fill [
    | inl (d, p, q, also, fill) ↦
        let (kind, one, two) = same_head d clauses line p q k f also says in
        let P : Bool → Type 0 = λ b. FillInduction b p q (FillProofs 0) rest in
        let Q : ℕ → Type 0 = λ m. FillInduction clauses m q (FillProofs 0) rest in
        let R : ℕ → Type 0 = λ m. FillInduction clauses k m (FillProofs 0) rest in
        subst R two (subst Q one (subst P kind fill))
    | inr (speaks, fill) ↦ absurd (proof_no_lasso line _ says.2 speaks)
  ],
  λ fill. inl (clauses, k, f, says, fill),
)

pub runs_step : (n : ℕ) (line : Line) (rest : List Line) → SaysRunsHead line n
    → FillShown (line ∷ rest) ↔ Many (Speaks SaysRun) n Ends rest
runs_step n line rest says = (
  λ fill. elim fill [
    | inl (m, also, fill) ↦
        let one = same_second (codes "proof") (codes "runs") line m n also says in
        let Q : ℕ → Type 0 = λ m. Many (Speaks SaysRun) m Ends rest in subst Q one fill
    | inr (speaks, fill) ↦ absurd (proof_no_lasso line _ says.1 speaks)
  ],
  λ fill. inl (n, says, fill),
)

-- another line
pub no_proof : (n : ℕ) (line : Line) (rest : List Line) → n ≢ 0
    → ((b r : ℕ) → ¬ SaysRankHead line b r) → ((k f : ℕ) → ¬ SaysFreeHead line k f)
    → ¬ FillProofs n (line ∷ rest)
no_proof zero line rest some no_ranks no_free fill = some refl
no_proof (suc n) line rest some no_ranks no_free (inl (b, r, says, fill)) = no_ranks b r says
no_proof (suc n) line rest some no_ranks no_free (inr (k, f, says, fill)) = no_free k f says

pub no_log : (n : ℕ) (Then : List Line → Type 0) (line : Line) (rest : List Line) → n ≢ 0
    → ((k : ℕ) → ¬ SaysLogHead line k) → ¬ FillLogs n Then (line ∷ rest)
no_log zero Then line rest some none fill = some refl
no_log (suc n) Then line rest some none (k, says, fill) = none k says

-- ---- lassos, where no head stands

pub lasso_evidence : (line : Line) (rest : List Line)
    → ((c : Bool) (k f : ℕ) → ¬ SaysInductionHead c line k f) → Speaks SaysLasso line
    → FillEvidence (line ∷ rest) ↔ FillShown rest
lasso_evidence line rest none says = (
  λ fill. elim fill [
    | inl (c, k, f, head, fill) ↦ absurd (none c k f head)
    | inr (_, fill) ↦ fill
  ],
  λ fill. inr (says, fill),
)

pub no_evidence : (line : Line) (rest : List Line)
    → ((c : Bool) (k f : ℕ) → ¬ SaysInductionHead c line k f) → ¬ Speaks SaysLasso line → ¬ FillEvidence (line ∷ rest)
no_evidence line rest none silent fill = elim fill [
  | inl (c, k, f, head, fill) ↦ none c k f head
  | inr (says, fill) ↦ silent says
]

pub lasso_shown : (line : Line) (rest : List Line) → ((n : ℕ) → ¬ SaysRunsHead line n)
    → Speaks SaysLasso line → FillShown (line ∷ rest) ↔ FillShown rest
lasso_shown line rest none says = (
  λ fill. elim fill [ inl (n, head, fill) ↦ absurd (none n head) | inr (_, fill) ↦ fill ],
  λ fill. inr (says, fill),
)

pub no_shown : (line : Line) (rest : List Line) → ((n : ℕ) → ¬ SaysRunsHead line n)
    → ¬ Speaks SaysLasso line → ¬ FillShown (line ∷ rest)
no_shown line rest none silent fill = elim fill [
  | inl (n, head, fill) ↦ none n head
  | inr (says, fill) ↦ silent says
]
