-- What is kept of branches and reasons, one more of them at a time.
use Rattle.std.proofs.Common.{◌≡◌, ◌↔◌, ◌⊎◌, ℕ, Bool, IsTrue, List, [], ◌∷◌, ◌++◌, map, length, Option, Some, None, inl, inr, sym, ◌∙◌, ap, subst, ◌≤◌, true, false, true≢false, refl, IfSome}
use Rattle.std.specs.List.{All, Contains}
use Rattle.std.specs.Option.{ForSome}
use Rattle.std.proofs.lemmas.List.{map-append}
use Rattle.std.proofs.lemmas.List.Elements.{All-contains, Contains-push, Contains-append_left, Contains-append_right, Contains-push_cases}
use Rattle.hy_base.proofs.Members.{contains-here, contains-none, map-of}
use Rattle.std.specs.Bool.{then_some}
use denote.Ref.{Bor}
use Rattle.hy_text.specs.Lines.{lines_of}
use Rattle.ltl_closure.specs.Nodes.{Node}
use Rattle.ltl_tableau.specs.Branches.{Members}
use Rattle.ltl_tableau.specs.Ranks.{Ranked, RankProof as Plain, IsUntilNode, IsRankProof}
use Rattle.rank_proofs.specs.declared.rank_proof.RankProof.{RankProof}
use Rattle.rank_proofs.specs.declared.rank_proof.ProofBranch.{ProofBranch}
use Rattle.rank_proofs.specs.Proofs.{ranked_of, plain_proof}
use Rattle.rank_proofs.specs.Readings.{MayBeEntry, IsEntryRead}
use Rattle.rank_proofs.proofs.Same.{same-entries}
use Rattle.cert_text.specs.Lines.{Line}
use Rattle.cert_text.specs.RankLines.{SaysBranch, SaysReason}
use Rattle.cert_text.proofs.OneReading.{one_branch, one_reason}
use Rattle.rank_judge.specs.Judged.{IsJudgedAt}
use Rattle.rank_judge.specs.Kept.{AreOf, AreReasonsRead, IsKept, IsProofRead}

-- ---- entries

pub no_entries : (entries : List Ranked) → entries ≡ [] → AreOf [] entries
no_entries entries none e =
    let P : List Ranked → Type 0 = λ es. Contains es e in
    (λ c. subst P none c, λ c. absurd (contains-none e c))

-- one entry more
pub more_entries : (front : List ProofBranch) (branch : ProofBranch) (entries all : List Ranked)
    (entry : Ranked) → AreOf front entries → entry ≡ ranked_of branch
    → ((e : Ranked) → Contains all e ↔ (Contains entries e ⊎ (entry ≡ e)))
    → AreOf (front ++ branch ∷ []) all
more_entries front branch entries all entry are is added e =
    let split : map ranked_of (front ++ branch ∷ []) ≡ map ranked_of front ++ ranked_of branch ∷ [] =
    map-append ranked_of front (branch ∷ []) in
    let P : List Ranked → Type 0 = λ es. Contains es e in (
      λ c. subst P (sym split)
          (elim ((added e).0 c) [
            | inl old ↦ Contains-append_left (map ranked_of front) (ranked_of branch ∷ []) e ((are e).0 old)
            | inr same ↦
                let Q : Ranked → Type 0 = λ r. Contains (map ranked_of front ++ ranked_of branch ∷ []) r in
                subst Q (sym is ∙ same) (Contains-push (map ranked_of front) (ranked_of branch))
          ]),
      λ c. (added e).1
          (elim (Contains-push_cases (map ranked_of front) (ranked_of branch) e (subst P split c)) [
            | inl old ↦ inl ((are e).1 old)
            | inr same ↦ inr (is ∙ same)
          ]),
    )

-- an entry by the numbers of a line, and so by the branch that it says
pub entry_said : (nodes : List Node) (n : ℕ) (line : Line) (branch : ProofBranch) (r : ℕ)
    (ks ms now next : List ℕ) (entry : Option Ranked)
    → SaysBranch line (record { rank = r; now = ks; next = ms }) → now ≡ ks → next ≡ ms
    → SaysBranch line branch
    → IsEntryRead nodes n (record { rank = r; now = now; next = next }) entry
    → IsEntryRead nodes n branch entry
entry_said nodes n line branch r ks ms now next entry said one two also read =
    let given : ProofBranch = record { rank = r; now = now; next = next } in
    let kept : ProofBranch = record { rank = r; now = ks; next = ms } in
    let moved : given ≡ kept = λ i. record { rank = r; now = one i; next = two i } in
    let P : ProofBranch → Type 0 = λ b. IsEntryRead nodes n b entry in
    subst P (moved ∙ one_branch line kept branch said also) read

pub entry_is : (nodes : List Node) (n : ℕ) (branch : ProofBranch) (entry : Ranked)
    → IsEntryRead nodes n branch (Some entry) → entry ≡ ranked_of branch
entry_is nodes n branch entry (is, may) = is

-- One of the values is not so.
pub not_all : {A B : Type 0} (P : B → Type 0) (f : A → B) (values front back : List A) (x : A)
    → values ≡ front ++ x ∷ back → ¬ P (f x) → ¬ All P (map f values)
not_all {A} {B} P f values front back x parts bad all =
    let there = Contains-append_right front (x ∷ back) x (contains-here x back) in
    let Q : List A → Type 0 = λ l. Contains l x in
    let whole = subst Q (sym parts) there in
    bad (All-contains P (map f values) (f x) all (map-of f values x whole))

pub not_each : {A : Type 0} (P : A → Type 0) (values front back : List A) (x : A)
    → values ≡ front ++ x ∷ back → ¬ P x → ¬ All P values
not_each {A} P values front back x parts bad all =
    let there = Contains-append_right front (x ∷ back) x (contains-here x back) in
    let Q : List A → Type 0 = λ l. Contains l x in
    bad (All-contains P values x all (subst Q (sym parts) there))

-- ---- reasons

pub reason_none : (line : Line) (said reason : Option ℕ) → said ≡ None → SaysReason line said
    → SaysReason line reason → None ≡ reason
reason_none line said reason none says also = sym none ∙ one_reason line said reason says also

pub reason_kept : (line : Line) (said reason : Option ℕ) (number until : ℕ) → said ≡ Some number
    → until ≡ number → SaysReason line said → SaysReason line reason → Some until ≡ reason
reason_kept line said reason number until is same says also =
    ap Some same ∙ sym is ∙ one_reason line said reason says also

pub reason_refused : (nodes : List Node) (line : Line) (said reason : Option ℕ) (number : ℕ)
    → said ≡ Some number → ¬ IsUntilNode nodes number → SaysReason line said
    → SaysReason line reason → ¬ ForSome reason (IsUntilNode nodes)
reason_refused nodes line said reason number is none says also each =
    none (each number (sym (one_reason line said reason says also) ∙ is))

-- ---- proofs

-- What is asked of a rank proof is asked of what is kept of it, and back.
pub kept_same : (nodes : List Node) (roots : Members) (said : RankProof) (proof : Plain)
    → IsKept said proof → IsRankProof nodes roots proof ↔ IsRankProof nodes roots (plain_proof said)
kept_same nodes roots said proof kept = (
  same-entries nodes roots proof (plain_proof said) kept.reasons (λ e. (kept.entries e).1)
      (λ e. (kept.entries e).0),
  same-entries nodes roots (plain_proof said) proof (sym kept.reasons) (λ e. (kept.entries e).0)
      (λ e. (kept.entries e).1),
)

-- a test of what is kept, by the same roots
judged_so : (nodes : List Node) (roots tops : Members) (said : RankProof) (proof : Plain)
    (b : Bool) → IsKept said proof → roots ≡ tops → IsTrue b ↔ IsRankProof nodes roots proof
    → IsTrue b ↔ IsRankProof nodes tops (plain_proof said)
judged_so nodes roots tops said proof b kept same is =
    let (to, back) = kept_same nodes roots said proof kept in
    let P : Members → Type 0 = λ r. IsTrue b ↔ IsRankProof nodes r (plain_proof said) in
    subst P same (λ yes. to (is.0 yes), λ so. is.1 (back so))

-- the same of a proof that was read, and what is left of the text
pub judged_left : (nodes : List Node) (roots tops : Members) (said : RankProof) (rest : List Line)
    (proof : Plain) (end : Option (Bor (List ℕ))) (left : Bor (List ℕ)) (b : Bool)
    → IsProofRead nodes said rest proof end → end ≡ Some left → roots ≡ tops
    → IsTrue b ↔ IsRankProof nodes roots proof → IsJudgedAt nodes tops said rest (then_some b left)
judged_left nodes roots tops said rest proof end left b read is same exactly =
    let P : Option (Bor (List ℕ)) → Type 0 = IsProofRead nodes said rest proof in
    let (kept, lines) = subst P is read in
    at b (judged_so nodes roots tops said proof b kept same exactly) lines
  where
    at : (b : Bool) → IsTrue b ↔ IsRankProof nodes tops (plain_proof said)
        → lines_of left.now ≡ rest → IsJudgedAt nodes tops said rest (then_some b left)
    at true is lines = (is.0 refl, lines)
    at false is lines = λ so. true≢false (sym (is.1 so))

pub left_shorter : (b : Bool) (left : Bor (List ℕ)) (n : ℕ) → length left.now ≤ n
    → IfSome (then_some b left) (λ left. length left.now ≤ n)
left_shorter true left n shorter = shorter
left_shorter false left n shorter = tt

-- Where an entry may be none, or a reason names no until, there is no rank proof.
pub no_proof_entries : (nodes : List Node) (n : ℕ) (said : RankProof) → length said.reasons ≡ n
    → ¬ All (MayBeEntry nodes n) (map ranked_of said.branches) → (roots : Members)
    → ¬ IsRankProof nodes roots (plain_proof said)
no_proof_entries nodes n said many bad roots is =
    let P : ℕ → Type 0 = λ m. All (MayBeEntry nodes m) (map ranked_of said.branches) in
    bad (subst P many (λ i e lt. (is.members i e lt, is.ranked i e lt)))

pub no_proof_reasons : (nodes : List Node) (said : RankProof)
    → ¬ All (λ reason. ForSome reason (IsUntilNode nodes)) said.reasons → (roots : Members)
    → ¬ IsRankProof nodes roots (plain_proof said)
no_proof_reasons nodes said bad roots is = bad is.untils

pub proof_read : (nodes : List Node) (said : RankProof) (rest : List Line) (proof : Plain)
    (left : Option (Bor (List ℕ))) → AreOf said.branches proof.entries
    → AreReasonsRead nodes said.reasons rest proof.reasons left
    → IsProofRead nodes said rest proof left
proof_read nodes said rest proof None are bad = no_proof_reasons nodes said bad
proof_read nodes said rest proof (Some text) are (same, lines) =
    (record { entries = are; reasons = same }, lines)
