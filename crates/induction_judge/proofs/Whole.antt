-- A text of a proof by induction as a whole.
use Rattle.std.proofs.Common.{◌≡◌, ℕ, ◌<◌, ◌≤◌, ◌↔◌, Bool, true, List, [], ◌∷◌, ◌++◌, length, sym, ◌∙◌, ap, subst, arith, append_assoc, append-nil, true≢false, Option, Some, None}
use Rattle.std.specs.Prelude.{IsTrue, codes, is_some, IfSome}
use denote.Ref.{Bor}
use Rattle.hy_text.specs.Lines.{lines_of}
use Rattle.chain_check.specs.declared.logs.Learned.{Learned}
use Rattle.live_safe.specs.declared.safe_net.SafeNet.{SafeNet}
use Rattle.cnf_frames.specs.declared.facts.Fact.{Fact}
use Rattle.cnf_frames.specs.declared.inductions.InductionProof.{InductionProof}
use Rattle.cnf_frames.specs.declared.queries.FrameError.{FrameError}
use Rattle.cnf_frames.specs.Facts.{IsSafe}
use Rattle.cert_text.specs.Lines.{Line}
use Rattle.cert_text.specs.InductionLines.{SaysHead, SaysFreeHead, SaysInductionHead, SaysFact, SayFreeProof, SayProofBy, SayInductionProof, free_word, kind_word}
use Rattle.cert_text.proofs.Lists.{heads, tails}
use Rattle.cert_text.proofs.Stepping.{same_head, same_two}
use Rattle.induction_judge.specs.Asking.{places, AreRefuted}
use Rattle.induction_judge.specs.Good.{most_depth, IsGoodInduction, IsRefusedOf}
use Rattle.induction_judge.specs.Judged.{AreLogsJudged, IsBody, IsJudged}
use Rattle.induction_judge.specs.Reading.{AreFactsTaken, AreLines, AreSaid, AreStartFacts, AreLogs}
use Rattle.induction_judge.proofs.Places.{many, dealt, gathered}
use Rattle.induction_judge.proofs.Starting.{facts_start, start_facts}

-- ---- the lines

-- what the first line of a text is
module _ (word : List ℕ) (clauses : Bool) (text next : List ℕ) (line : Line)
    (front rest : List Line) (proof : InductionProof)
    (cut : lines_of text ≡ line ∷ lines_of next) (parts : AreLines text (front ++ rest))
    (said : SayProofBy word clauses front proof) where
  both : line ∷ lines_of next ≡ (said.head ∷ (said.facts ++ said.logs) ++ rest) ++ [] ∷ []
  both = sym cut ∙ parts ∙ ap (λ l. (l ++ rest) ++ [] ∷ []) said.parts

  pub head_says : SaysHead word line proof.depth (length proof.inv)
  head_says =
      let P : Line → Type 0 = λ l. SaysHead word l proof.depth (length proof.inv) in
      subst P (sym (heads both)) said.counts

  pub body_of : (depth count : ℕ) → depth ≡ proof.depth → count ≡ length proof.inv
      → IsBody clauses next depth count proof rest
  body_of depth count one two = record {
    depth_is = one;
    count_is = two;
    logs = said.logs;
    facts = record {
      front = said.facts;
      parts =
          tails both
          ∙ ap (λ l. l ++ [] ∷ []) (append_assoc said.facts said.logs rest);
      said = said.states;
      many = sym two;
    };
    refuted = said.refuted;
    keeps = said.keeps;
    bases = said.bases;
  }

-- a whole text about a circuit
module _ (text next : List ℕ) (line : Line) (lines : List Line) (proof : InductionProof)
    (cut : lines_of text ≡ line ∷ lines_of next) (parts : AreLines text lines)
    (said : SayInductionProof lines proof) where
  whole-parts : AreLines text (lines ++ [])
  whole-parts = parts ∙ ap (λ l. l ++ [] ∷ []) (sym (append-nil lines))

  pub kind_says : SaysInductionHead said.0 line proof.depth (length proof.inv)
  kind_says =
      head_says (kind_word said.0) said.0 text next line lines [] proof cut whole-parts said.1

  pub kind_body : (clauses : Bool) (depth count : ℕ) → SaysInductionHead clauses line depth count
      → IsBody clauses next depth count proof []
  kind_body clauses depth count says =
      let (kind, one, two) = same_head clauses said.0 line depth count proof.depth
      (length proof.inv) says kind_says in
      let P : Bool → Type 0 = λ b. IsBody b next depth count proof [] in
      subst P (sym kind)
      (body_of (kind_word said.0) said.0 text next line lines [] proof cut whole-parts said.1
      depth count one two)

-- a text whose front is a proof over a free net
module _ (text next : List ℕ) (line : Line) (front rest : List Line) (proof : InductionProof)
    (cut : lines_of text ≡ line ∷ lines_of next) (parts : AreLines text (front ++ rest))
    (said : SayFreeProof front proof) where
  pub free_says : SaysFreeHead line proof.depth (length proof.inv)
  free_says = head_says free_word true text next line front rest proof cut parts said

  pub free_body : (depth count : ℕ) → SaysFreeHead line depth count
      → IsBody true next depth count proof rest
  free_body depth count says =
      let (one, two) = same_two (codes "proof") free_word line depth count proof.depth
      (length proof.inv) says free_says in
      body_of free_word true text next line front rest proof cut parts said depth count one two

-- What is said of the proof over a free net at the front of a text.
abbrev pub FreeJudged : SafeNet → List ℕ → Option (Bor (List ℕ)) → Type 0
FreeJudged safe text left =
    (proof : InductionProof) (front rest : List Line) → AreLines text (front ++ rest)
    → SayFreeProof front proof → IsJudged safe proof rest left

abbrev pub FreeRefused : SafeNet → List ℕ → FrameError → Type 0
FreeRefused safe text e =
    (proof : InductionProof) (front rest : List Line) → AreLines text (front ++ rest)
    → SayFreeProof front proof → IsRefusedOf safe proof.inv proof.depth e

-- whether a proof behind which nothing stands is good
pub judged_whole : (safe : SafeNet) (proof : InductionProof) (left : Option (Bor (List ℕ)))
    (good : Bool) → good ≡ is_some left → IsJudged safe proof [] left
    → IsTrue good ↔ IsGoodInduction safe proof
judged_whole safe proof None good is not =
    (λ t. absurd (true≢false (sym t ∙ is)), λ so. absurd (not so))
judged_whole safe proof (Some left) good is (so, lines) = (λ t. so, λ g. is)

-- ---- what is good

good_starts : (safe : SafeNet) (proof : InductionProof) → IsSafe safe → IsGoodInduction safe proof
    → AreStartFacts (length safe.net.latches) proof.inv
good_starts safe proof is (right, _) =
    start_facts safe is proof.inv right.inside right.starts

module _ (clauses : Bool) (safe : SafeNet) (text : List ℕ) (depth count : ℕ)
    (proof : InductionProof) (rest : List Line) (body : IsBody clauses text depth count proof rest)
  where
    -- Facts of the lines are no good.
    pub bad_facts : (latches : ℕ) → IsSafe safe → latches ≡ length safe.net.latches
        → ((facts : List Fact) (rest : List Line) → AreSaid (SaysFact clauses) text count facts rest
        → ¬ AreStartFacts latches facts) → ¬ IsGoodInduction safe proof
    bad_facts latches is many bad good =
        let P : ℕ → Type 0 = λ n. AreStartFacts n proof.inv in
        bad proof.inv (body.logs ++ rest) body.facts
        (subst P (sym many) (good_starts safe proof is good))

    -- The depth is no good.
    pub too_deep : most_depth < depth → ¬ IsGoodInduction safe proof
    too_deep deep (_, few) = omega (arith, body.depth_is, few)

abbrev all_logs : InductionProof → List (List Learned)
all_logs proof = proof.keep ++ proof.base ++ proof.step ∷ []

-- All that was read before the logs.
pub record IsReadSo (clauses : Bool) (safe : SafeNet) (text left : List ℕ) (depth count : ℕ)
    (taken : List Fact) : Type 0 where
  pub is : IsSafe safe
  pub few : depth ≤ most_depth
  pub starts : AreStartFacts (length safe.net.latches) taken
  pub read : (facts : List Fact) (rest : List Line) → AreSaid (SaysFact clauses) text count facts rest
      → (taken ≡ facts) × AreLines left rest

pub read_so : (clauses : Bool) (safe : SafeNet) (latches : ℕ) (text : List ℕ)
    (left : Bor (List ℕ)) (depth count : ℕ) (taken : List Fact) (end : Option (Bor (List ℕ)))
    → IsSafe safe → latches ≡ length safe.net.latches → depth ≤ most_depth
    → AreStartFacts latches taken → AreFactsTaken clauses latches text count end taken
    → end ≡ Some left → IsReadSo clauses safe text left.now depth count taken
read_so clauses safe latches text left depth count taken end is many few starts took same =
    let P : ℕ → Type 0 = λ n. AreStartFacts n taken in
    let Q : Option (Bor (List ℕ)) → Type 0 =
    λ o. AreFactsTaken clauses latches text count o taken in
    record { is = is; few = few; starts = subst P many starts; read = subst Q same took }

-- What is said of the proof at the front of a text behind its head.
abbrev pub Judges : Bool → SafeNet → List ℕ → ℕ → ℕ → Option (Bor (List ℕ)) → Type 0
Judges clauses safe text depth count left =
    (proof : InductionProof) (rest : List Line) → IsBody clauses text depth count proof rest
    → IsJudged safe proof rest left

abbrev pub Refuses : Bool → SafeNet → List ℕ → ℕ → ℕ → FrameError → Type 0
Refuses clauses safe text depth count e =
    (proof : InductionProof) (rest : List Line) → IsBody clauses text depth count proof rest
    → IsRefusedOf safe proof.inv proof.depth e

module _ (clauses : Bool) (safe : SafeNet) (text left : List ℕ) (depth count : ℕ)
    (taken : List Fact) (so : IsReadSo clauses safe text left depth count taken) where
  module _ (proof : InductionProof) (rest : List Line)
      (body : IsBody clauses text depth count proof rest) where
    facts_same : taken ≡ proof.inv
    facts_same = (so.read proof.inv (body.logs ++ rest) body.facts).0

    are : AreLogs left (all_logs proof) rest
    are = record {
      lines = body.logs;
      parts = (so.read proof.inv (body.logs ++ rest) body.facts).1;
      said = body.refuted;
    }

    whole_many : length (all_logs proof) ≡ places taken depth
    whole_many =
        let P : List Fact → Type 0 = λ fs. length (all_logs proof) ≡ places fs depth in
        let Q : ℕ → Type 0 = λ d. length (all_logs proof) ≡ places proof.inv d in
        subst P (sym facts_same) (subst Q (sym body.depth_is)
        (many safe proof.inv proof.depth proof.keep proof.base proof.step body.keeps body.bases))

    good : AreRefuted safe taken depth (all_logs proof) (length (all_logs proof))
        → IsGoodInduction safe proof
    good right =
        let R : List Fact → Type 0 =
        λ fs. AreRefuted safe fs depth (all_logs proof) (length (all_logs proof)) in
        let S : ℕ → Type 0 =
        λ d. AreRefuted safe proof.inv d (all_logs proof) (length (all_logs proof)) in
        let parts = dealt safe proof.inv proof.depth proof.keep proof.base proof.step body.keeps
        body.bases (subst S body.depth_is (subst R facts_same right)) in
        let T : List Fact → Type 0 = AreStartFacts (length safe.net.latches) in
        let starts = subst T facts_same so.starts in
        let few = so.few in (
          record {
            inside = λ fact there. (starts fact there).0;
            starts = facts_start safe so.is proof.inv starts;
            keeps = record { many = body.keeps; each = parts.groups_right };
            bases = record { many = body.bases; each = parts.bases_right };
            step = parts.step_right;
          },
          omega (arith, few, body.depth_is),
        )

    refuted : IsGoodInduction safe proof
        → AreRefuted safe taken depth (all_logs proof) (length (all_logs proof))
    refuted (right, _) =
        let R : List Fact → Type 0 =
        λ fs. AreRefuted safe fs depth (all_logs proof) (length (all_logs proof)) in
        let S : ℕ → Type 0 =
        λ d. AreRefuted safe proof.inv d (all_logs proof) (length (all_logs proof)) in
        subst R (sym facts_same) (subst S (sym body.depth_is)
        (gathered safe proof.inv proof.depth proof.keep proof.base proof.step body.keeps body.bases
        (record {
          groups_right = right.keeps.each;
          bases_right = right.bases.each;
          step_right = right.step;
        })))

  -- The logs decide.
  pub judged : (behind : Option (Bor (List ℕ))) → AreLogsJudged safe taken depth left behind
      → Judges clauses safe text depth count behind
  judged None none proof rest body =
      λ right. none (all_logs proof) rest (are proof rest body) (whole_many proof rest body)
      (refuted proof rest body right)
  judged (Some behind) all proof rest body =
      let (right, lines) = all (all_logs proof) rest (are proof rest body)
      (whole_many proof rest body) in
      (good proof rest body right, lines)

  -- The refusals are those of the proof.
  pub refused : (e : FrameError) → IsRefusedOf safe taken depth e
      → Refuses clauses safe text depth count e
  refused e is proof rest body =
      let P : List Fact → Type 0 = λ fs. IsRefusedOf safe fs depth e in
      let Q : ℕ → Type 0 = λ d. IsRefusedOf safe proof.inv d e in
      subst Q body.depth_is (subst P (facts_same proof rest body) is)

-- ---- what is left of a text

pub no_longer : (left : Option (Bor (List ℕ))) (middle text : List ℕ) → length middle ≤ length text
    → IfSome left (λ left. length left.now ≤ length middle)
    → IfSome left (λ left. length left.now ≤ length text)
no_longer None middle text less shorter = tt
no_longer (Some left) middle text less shorter = omega (arith, less, shorter)
