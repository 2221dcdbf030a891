-- Lines behind their first words.
use Rattle.std.proofs.Common.{◌≡◌, ◌≢◌, ℕ, ◌↔◌, ◌⊎◌, Bool, true, false, List, [], ◌∷◌, get_or, inl, inr, sym, ◌∙◌, ap, subst, arith, Option, Some, None}
use Rattle.std.specs.Prelude.{MatchOption, IsTrue, codes}
use Rattle.cnf_frames.specs.declared.facts.Fact.{Fact}
use Rattle.cnf_frames.specs.declared.facts.Fact.TheVariants.{Zero, One, Same, Differ, AnyOf}
use Rattle.cert_text.specs.Lines.{Line, words_of, Speaks}
use Rattle.hy_text.specs.Numbers.{SaysNumber}
use Rattle.cert_text.specs.Numbers.{SaysMembers, SaysOne, SaysTwo}
use Rattle.cert_text.specs.RankLines.{SaysBranch, SaysReason}
use Rattle.cert_text.specs.InductionLines.{SaysInductionHead, SaysSimple}
use Rattle.cert_text.proofs.Lists.{tails}

-- ---- one word and what stands behind it

pub one_behind : (word : List ℕ) (words : List (List ℕ)) (line rest : Line) (n : ℕ)
    → words_of line ≡ word ∷ words_of rest → SaysOne words rest n ↔ SaysOne (word ∷ words) line n
one_behind word words line rest n cut = (
  λ (x, parts, says). (x, cut ∙ ap (λ l. word ∷ l) parts, says),
  λ (x, parts, says). (x, tails (sym cut ∙ parts), says),
)

pub two_behind : (word : List ℕ) (words : List (List ℕ)) (line rest : Line) (m n : ℕ)
    → words_of line ≡ word ∷ words_of rest
    → SaysTwo words rest m n ↔ SaysTwo (word ∷ words) line m n
two_behind word words line rest m n cut = (
  λ (x, y, parts, says, also). (x, y, cut ∙ ap (λ l. word ∷ l) parts, says, also),
  λ (x, y, parts, says, also). (x, y, tails (sym cut ∙ parts), says, also),
)

-- the number behind two words
pub one_behind_two : (one two : List ℕ) (line middle rest : Line) (o : Option ℕ)
    → words_of line ≡ one ∷ words_of middle → words_of middle ≡ two ∷ words_of rest
    → MatchOption o ((n : ℕ) → ¬ SaysOne [] rest n) (λ n. SaysOne [] rest n)
    → MatchOption o ((n : ℕ) → ¬ SaysOne (one ∷ two ∷ []) line n)
    (λ n. SaysOne (one ∷ two ∷ []) line n)
one_behind_two one two line middle rest None first second none = λ n says.
    none n ((one_behind two [] middle rest n second).1
    ((one_behind one (two ∷ []) line middle n first).1 says))
one_behind_two one two line middle rest (Some n) first second says =
    (one_behind one (two ∷ []) line middle n first).0
    ((one_behind two [] middle rest n second).0 says)

-- the number behind one word
pub one_behind_one : (one : List ℕ) (line rest : Line) (o : Option ℕ)
    → words_of line ≡ one ∷ words_of rest
    → MatchOption o ((n : ℕ) → ¬ SaysOne [] rest n) (λ n. SaysOne [] rest n)
    → MatchOption o ((n : ℕ) → ¬ SaysOne (one ∷ []) line n) (λ n. SaysOne (one ∷ []) line n)
one_behind_one one line rest None cut none =
    λ n says. none n ((one_behind one [] line rest n cut).1 says)
one_behind_one one line rest (Some n) cut says = (one_behind one [] line rest n cut).0 says

-- the two numbers behind two words
pub two_behind_two : (one two : List ℕ) (line middle rest : Line) (o : Option (ℕ × ℕ))
    → words_of line ≡ one ∷ words_of middle → words_of middle ≡ two ∷ words_of rest
    → MatchOption o ((m n : ℕ) → ¬ SaysTwo [] rest m n) (λ c. SaysTwo [] rest c.0 c.1)
    → MatchOption o ((m n : ℕ) → ¬ SaysTwo (one ∷ two ∷ []) line m n)
    (λ c. SaysTwo (one ∷ two ∷ []) line c.0 c.1)
two_behind_two one two line middle rest None first second none = λ m n says.
    none m n ((two_behind two [] middle rest m n second).1
    ((two_behind one (two ∷ []) line middle m n first).1 says))
two_behind_two one two line middle rest (Some c) first second says =
    (two_behind one (two ∷ []) line middle c.0 c.1 first).0
    ((two_behind two [] middle rest c.0 c.1 second).0 says)

-- another second word
pub no_second_one : (one two : List ℕ) (line middle : Line) → words_of line ≡ one ∷ words_of middle
    → ((next : List ℕ) (more : List (List ℕ)) → words_of middle ≢ two ∷ next ∷ more)
    → (n : ℕ) → ¬ SaysOne (one ∷ two ∷ []) line n
no_second_one one two line middle cut none n says =
    let (x, parts, number) = (one_behind one (two ∷ []) line middle n cut).1 says in none x [] parts

pub no_second_two : (one two : List ℕ) (line middle : Line) → words_of line ≡ one ∷ words_of middle
    → ((next : List ℕ) (more : List (List ℕ)) → words_of middle ≢ two ∷ next ∷ more)
    → (m n : ℕ) → ¬ SaysTwo (one ∷ two ∷ []) line m n
no_second_two one two line middle cut none m n says =
    let (x, y, parts, number, also) = (two_behind one (two ∷ []) line middle m n cut).1 says in
    none x (y ∷ []) parts

-- no head of a proof of either kind
pub no_head : (line : Line) → ((k f : ℕ) → ¬ SaysInductionHead false line k f)
    → ((k f : ℕ) → ¬ SaysInductionHead true line k f) → (clauses : Bool) (k f : ℕ)
    → ¬ SaysInductionHead clauses line k f
no_head line one two true = two
no_head line one two false = one

-- ---- reasons

pub reason_said : (line rest : Line) → words_of line ≡ codes "u" ∷ words_of rest
    → Speaks (SaysOne []) rest ↔ Speaks SaysReason line
reason_said line rest cut = (
  λ (n, says). (Some n, (one_behind (codes "u") [] line rest n cut).0 says),
  λ (reason, says). reason-number reason says,
)
  where
    reason-number : (reason : Option ℕ) → SaysReason line reason → Speaks (SaysOne []) rest
    reason-number None says =
        let clash : codes "n" ∷ [] ≡ codes "u" ∷ words_of rest = sym (ap words_of says) ∙ cut in
        let same : codes "n" ≡ codes "u" = cc in
        absurd (omega (arith, ap (λ w. get_or w 0 0) same))
    reason-number (Some n) says = (n, (one_behind (codes "u") [] line rest n cut).1 says)

-- no reason without an until, and none with one
pub no_reason_words : (line : Line) → line ≢ codes "n"
    → ((next : List ℕ) (more : List (List ℕ)) → words_of line ≢ codes "u" ∷ next ∷ more)
    → ¬ Speaks SaysReason line
no_reason_words line other none (None, says) = other says
no_reason_words line other none (Some n, (word, words, says)) = none word [] words

-- ---- facts

-- the words of a fact
pub record IsFactLine (line sign latches : List ℕ) : Type 0 where
  pub parts : words_of line ≡ codes "f" ∷ sign ∷ words_of latches

sign-of : (line sign latches other : List ℕ) (words : List (List ℕ)) → IsFactLine line sign latches
    → words_of line ≡ codes "f" ∷ other ∷ words → sign ≡ other
sign-of line sign latches other words fact e = let both = sym fact.parts ∙ e in cc

latches-of : (line sign latches other : List ℕ) (words : List (List ℕ))
    → IsFactLine line sign latches → words_of line ≡ codes "f" ∷ other ∷ words
    → words_of latches ≡ words
latches-of line sign latches other words fact e = let both = sym fact.parts ∙ e in cc

-- no number behind a sign of facts about one latch
pub no_latch : (line sign latches : List ℕ) → IsFactLine line sign latches
    → (sign ≡ codes "0") ⊎ (sign ≡ codes "1") → ((a : ℕ) → ¬ SaysOne [] latches a)
    → ¬ Speaks SaysSimple line
no_latch line sign latches fact which none (said, says) = latch said says
  where
    not_two : {other : List ℕ} → (get_or other 0 0 ≡ 48 → ⊥) → (get_or other 0 0 ≡ 49 → ⊥)
        → sign ≡ other → ⊥
    not_two zero_not one_not is = elim which [
      | inl e ↦ zero_not (ap (λ w. get_or w 0 0) (sym is ∙ e))
      | inr e ↦ one_not (ap (λ w. get_or w 0 0) (sym is ∙ e))
    ]

    latch : (said : Fact) → ¬ SaysSimple line said
    latch (Zero a) (x, words, says) =
        none a (x, latches-of line sign latches (codes "0") (x ∷ []) fact words, says)
    latch (One a) (x, words, says) =
        none a (x, latches-of line sign latches (codes "1") (x ∷ []) fact words, says)
    latch (Same a b) (x, y, words, says, also) =
        not_two (λ e. omega (arith, e)) (λ e. omega (arith, e))
        (sign-of line sign latches (codes "=") (x ∷ y ∷ []) fact words)
    latch (Differ a b) (x, y, words, says, also) =
        not_two (λ e. omega (arith, e)) (λ e. omega (arith, e))
        (sign-of line sign latches (codes "!") (x ∷ y ∷ []) fact words)
    latch (AnyOf ls) says = says

-- no two numbers behind a sign of facts about two latches
pub no_latches : (line sign latches : List ℕ) → IsFactLine line sign latches
    → (sign ≡ codes "=") ⊎ (sign ≡ codes "!") → ((a b : ℕ) → ¬ SaysTwo [] latches a b)
    → ¬ Speaks SaysSimple line
no_latches line sign latches fact which none (said, says) = latch said says
  where
    not_one : {other : List ℕ} → (get_or other 0 0 ≡ 61 → ⊥) → (get_or other 0 0 ≡ 33 → ⊥)
        → sign ≡ other → ⊥
    not_one same_not differ_not is = elim which [
      | inl e ↦ same_not (ap (λ w. get_or w 0 0) (sym is ∙ e))
      | inr e ↦ differ_not (ap (λ w. get_or w 0 0) (sym is ∙ e))
    ]

    latch : (said : Fact) → ¬ SaysSimple line said
    latch (Zero a) (x, words, says) =
        not_one (λ e. omega (arith, e)) (λ e. omega (arith, e))
        (sign-of line sign latches (codes "0") (x ∷ []) fact words)
    latch (One a) (x, words, says) =
        not_one (λ e. omega (arith, e)) (λ e. omega (arith, e))
        (sign-of line sign latches (codes "1") (x ∷ []) fact words)
    latch (Same a b) (x, y, words, says, also) =
        none a b (x, y, latches-of line sign latches (codes "=") (x ∷ y ∷ []) fact words, says, also)
    latch (Differ a b) (x, y, words, says, also) =
        none a b (x, y, latches-of line sign latches (codes "!") (x ∷ y ∷ []) fact words, says, also)
    latch (AnyOf ls) says = says

-- no fact about one latch or two
pub no_fact : (line sign latches : List ℕ) → IsFactLine line sign latches → sign ≢ codes "0"
    → sign ≢ codes "1" → sign ≢ codes "=" → sign ≢ codes "!" → ¬ Speaks SaysSimple line
no_fact line sign latches fact zero_not one_not same_not differ_not (Zero a, (x, words, says)) =
    zero_not (sign-of line sign latches (codes "0") (x ∷ []) fact words)
no_fact line sign latches fact zero_not one_not same_not differ_not (One a, (x, words, says)) =
    one_not (sign-of line sign latches (codes "1") (x ∷ []) fact words)
no_fact line sign latches fact zero_not one_not same_not differ_not (
  Same a b,
  (
    x,
    y,
    words,
    says,
    also,
  ),
) =
    same_not (sign-of line sign latches (codes "=") (x ∷ y ∷ []) fact words)
no_fact line sign latches fact zero_not one_not same_not differ_not (
  Differ a b,
  (
    x,
    y,
    words,
    says,
    also,
  ),
) =
    differ_not (sign-of line sign latches (codes "!") (x ∷ y ∷ []) fact words)
no_fact line sign latches fact zero_not one_not same_not differ_not (AnyOf ls, says) = says

-- no line of more than two words that begins with the word of facts
pub no_fact_words : (line : Line)
    → ((next : List ℕ) (more : List (List ℕ)) → words_of line ≢ codes "f" ∷ next ∷ more)
    → ¬ Speaks SaysSimple line
no_fact_words line none (Zero a, (x, words, says)) = none (codes "0") (x ∷ []) words
no_fact_words line none (One a, (x, words, says)) = none (codes "1") (x ∷ []) words
no_fact_words line none (Same a b, (x, y, words, says, also)) = none (codes "=") (x ∷ y ∷ []) words
no_fact_words line none (Differ a b, (x, y, words, says, also)) =
    none (codes "!") (x ∷ y ∷ []) words
no_fact_words line none (AnyOf ls, says) = says

-- ---- branches

pub branch_said : (line rank now next : List ℕ) (b : Bool)
    → words_of line ≡ codes "b" ∷ rank ∷ now ∷ next ∷ [] → Speaks SaysNumber rank
    → Speaks SaysMembers now → IsTrue b ↔ Speaks SaysMembers next
    → IsTrue b ↔ Speaks SaysBranch line
branch_said line rank now next b words (r, rank_says) (ks, now_says) is = (
  λ yes. whole (is.0 yes),
  λ (branch, (x, y, z, others, rank_also, now_also, next_says)).
      let both = sym words ∙ others in
      let same : z ≡ next = cc in
      let P : List ℕ → Type 0 = λ t. SaysMembers t branch.next in
      is.1 (branch.next, subst P same next_says),
)
  where
    whole : Speaks SaysMembers next → Speaks SaysBranch line
    whole (ms, next_says) = (
      record { rank = r; now = ks; next = ms },
      (rank, now, next, words, rank_says, now_says, next_says),
    )

-- other words
pub no_branch_words : (line : Line)
    → ((rank now next : List ℕ) → words_of line ≢ codes "b" ∷ rank ∷ now ∷ next ∷ [])
    → ¬ Speaks SaysBranch line
no_branch_words line none (branch, (x, y, z, words, rank, now, next)) = none x y z words
