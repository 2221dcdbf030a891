-- What an answer's first line wants behind it.
use Rattle.std.proofs.Common.{◌≡◌, ◌<◌, ◌↔◌, ◌⊎◌, Bool, List, [], ◌∷◌, ◌++◌, length, inl, inr, refl, sym, ◌∙◌, ap, subst, arith, append-nil}
use Rattle.std.specs.Prelude.{codes}
use Rattle.aig_net.specs.declared.run.Run.{Run}
use Rattle.hy_lasso.specs.LassoLines.{Spelled, SaysLasso}
use Rattle.cert_text.specs.declared.question.Question.{Question}
use Rattle.cert_text.specs.declared.question.Question.TheVariants.{Formula, Implication, Equivalence, Circuit}
use Rattle.cert_text.specs.Lines.{Line, Say, Speaks}
use Rattle.cert_text.specs.InductionLines.{SayProofBy, kind_word}
use Rattle.cert_text.specs.RunLines.{SaysRun, SaysRunsHead, SayRuns}
use Rattle.cert_text.specs.Certificates.{Side, first, second, Certificate, Refutation, model, refuted, both, induction, runs, SayLassos, SayRefutation, holds_line, side_line, Spells, satisfiable, unsatisfiable, not_implied, implied, not_equivalent, equivalent, proved, shown}
use Rattle.cert_text.specs.Wants.{Ends, Many, FillProofs, FillSome, FillShown, FillEvidence}
use Rattle.cert_text.proofs.Counted.{many_said, said_many}
use Rattle.cert_text.proofs.WordsRead.{each_said, said_each}
use Rattle.cert_text.proofs.Evidence.{proof_said, said_proof, induction_said, said_induction}

-- The lines are the lines that some certificate spells.
abbrev pub IsSpelled : Question → List Line → Type 0
IsSpelled question lines = (c : Certificate) × Spells lines question c

-- ---- lassos

some_said : (lines : List Line) → FillSome lines
    → (lassos : List Spelled) × SayLassos lines lassos
some_said [] fill = absurd fill
some_said (line ∷ lines) ((lasso, says), fill) =
    let (lassos, said) = each_said SaysLasso lines fill in
    (lasso ∷ lassos, ((says, said), omega arith))

said_some : (lines : List Line) (lassos : List Spelled) → SayLassos lines lassos → FillSome lines
said_some [] [] (said, some) = absurd (omega arith)
said_some [] (lasso ∷ lassos) (said, some) = absurd said
said_some (line ∷ lines) [] (said, some) = absurd said
said_some (line ∷ lines) (lasso ∷ lassos) ((says, said), some) =
    ((lasso, says), said_each SaysLasso lines lassos said)

-- ---- proofs

-- nothing stands behind the front
front_whole : (lines front rest : List Line) → lines ≡ front ++ rest → rest ≡ [] → front ≡ lines
front_whole lines front rest parts none =
    sym (parts ∙ ap (λ l. front ++ l) none ∙ append-nil front)

one_said : (lines : List Line) → FillProofs 1 lines
    → (proof : Refutation) × SayRefutation lines proof
one_said lines fill =
    let one = proof_said 0 lines fill in
    let P : List Line → Type 0 = λ l. SayRefutation l one.proof in
    (one.proof, subst P (front_whole lines one.front one.rest one.parts one.behind) one.said)

said_one : (lines : List Line) (proof : Refutation) → SayRefutation lines proof
    → FillProofs 1 lines
said_one lines proof said =
    subst (FillProofs 1) (append-nil lines) (said_proof 0 lines [] proof said refl)

-- ---- lassos and runs

-- Lassos, maybe none, and runs.
pub record AreShown (lines : List Line) : Type 0 where
  pub front : List Line
  pub rest : List Line
  pub lassos : List Spelled
  pub tuple : List Run
  pub parts : lines ≡ front ++ rest
  pub seen : Say SaysLasso front lassos
  pub said : SayRuns rest tuple

shown_said : (lines : List Line) → FillShown lines → AreShown lines
shown_said [] none = absurd none
shown_said (line ∷ lines) (inl (n, counts, fill)) =
    let many = many_said SaysRun Ends n lines fill in
    let whole : lines ≡ many.front =
    many.parts ∙ ap (λ l. many.front ++ l) many.behind ∙ append-nil many.front in
    record {
      front = [];
      rest = line ∷ lines;
      lassos = [];
      tuple = many.values;
      parts = refl;
      seen = tt;
      said = record {
        head = line;
        rest = many.front;
        parts = ap (λ l. line ∷ l) whole;
        counts = subst (SaysRunsHead line) (sym many.many) counts;
        each = many.said;
      };
    }
shown_said (line ∷ lines) (inr ((lasso, says), fill)) =
    let more = shown_said lines fill in
    record {
      front = line ∷ more.front;
      rest = more.rest;
      lassos = lasso ∷ more.lassos;
      tuple = more.tuple;
      parts = ap (λ l. line ∷ l) more.parts;
      seen = (says, more.seen);
      said = more.said;
    }

said_shown : (front rest : List Line) (lassos : List Spelled) (tuple : List Run)
    → Say SaysLasso front lassos → SayRuns rest tuple → FillShown (front ++ rest)
said_shown [] rest [] tuple seen said =
    let P : List Line → Type 0 = Many (Speaks SaysRun) (length tuple) Ends in
    let many = subst P (append-nil said.rest) (said_many SaysRun Ends said.rest [] tuple said.each
    refl) in
    subst FillShown (sym said.parts) (inl (length tuple, said.counts, many))
said_shown [] rest (lasso ∷ lassos) tuple seen said = absurd seen
said_shown (line ∷ front) rest [] tuple seen said = absurd seen
said_shown (line ∷ front) rest (lasso ∷ lassos) tuple (says, seen) said =
    inr ((lasso, says), said_shown front rest lassos tuple seen said)

-- ---- the answers

-- A text that begins with the line is one where Then holds of the lines behind it.
abbrev pub Opens : Question → Line → (List Line → Type 0) → Type 0
Opens question line Then = (rest : List Line) → IsSpelled question (line ∷ rest) ↔ Then rest

lassos_after : (line line' : Line) (rest rest' : List Line) (lassos : List Spelled)
    → line ∷ rest ≡ line' ∷ rest' → SayLassos rest' lassos → (line ≡ line') × FillSome rest
lassos_after line line' rest rest' lassos e said =
    let same : line ≡ line' = cc in
    let behind : rest' ≡ rest = cc in
    (same, subst FillSome behind (said_some rest' lassos said))

proof_after : (line line' : Line) (rest rest' : List Line) (proof : Refutation)
    → line ∷ rest ≡ line' ∷ rest' → SayRefutation rest' proof → (line ≡ line') × FillProofs 1 rest
proof_after line line' rest rest' proof e said =
    let same : line ≡ line' = cc in
    let behind : rest' ≡ rest = cc in
    (same, subst (FillProofs 1) behind (said_one rest' proof said))

pub formula_spelled : (line : Line) (rest : List Line) → IsSpelled Formula (line ∷ rest)
    → ((line ≡ codes "sat") × FillSome rest) ⊎ ((line ≡ codes "unsat") × FillProofs 1 rest)
formula_spelled line rest (c, satisfiable {lassos} more e said) =
    inl (lassos_after line (codes "sat") rest more lassos e said)
formula_spelled line rest (c, unsatisfiable {proof} more e said) =
    inr (proof_after line (codes "unsat") rest more proof e said)

pub sat_opens : (line : Line) → line ≡ codes "sat" → Opens Formula line FillSome
sat_opens line is rest = (
  λ spelled. elim (formula_spelled line rest spelled) [
    | inl (e, fill) ↦ fill
    | inr (e, fill) ↦ absurd (omega (arith, ap length (sym is ∙ e)))
  ],
  λ fill. let (lassos, said) = some_said rest fill in
      (model first lassos, satisfiable rest (ap (λ l. l ∷ rest) is) said),
)

pub unsat_opens : (line : Line) → line ≡ codes "unsat" → Opens Formula line (FillProofs 1)
unsat_opens line is rest = (
  λ spelled. elim (formula_spelled line rest spelled) [
    | inl (e, fill) ↦ absurd (omega (arith, ap length (sym is ∙ e)))
    | inr (e, fill) ↦ fill
  ],
  λ fill. let (proof, said) = one_said rest fill in
      (refuted proof, unsatisfiable rest (ap (λ l. l ∷ rest) is) said),
)

pub implication_spelled : (line : Line) (rest : List Line) → IsSpelled Implication (line ∷ rest)
    → ((line ≡ codes "not implied") × FillSome rest)
    ⊎ ((line ≡ codes "implied") × FillProofs 1 rest)
implication_spelled line rest (c, not_implied {lassos} more e said) =
    inl (lassos_after line (codes "not implied") rest more lassos e said)
implication_spelled line rest (c, implied {proof} more e said) =
    inr (proof_after line (codes "implied") rest more proof e said)

pub not_implied_opens : (line : Line) → line ≡ codes "not implied"
    → Opens Implication line FillSome
not_implied_opens line is rest = (
  λ spelled. elim (implication_spelled line rest spelled) [
    | inl (e, fill) ↦ fill
    | inr (e, fill) ↦ absurd (omega (arith, ap length (sym is ∙ e)))
  ],
  λ fill. let (lassos, said) = some_said rest fill in
      (model first lassos, not_implied rest (ap (λ l. l ∷ rest) is) said),
)

pub implied_opens : (line : Line) → line ≡ codes "implied" → Opens Implication line (FillProofs 1)
implied_opens line is rest = (
  λ spelled. elim (implication_spelled line rest spelled) [
    | inl (e, fill) ↦ absurd (omega (arith, ap length (sym is ∙ e)))
    | inr (e, fill) ↦ fill
  ],
  λ fill. let (proof, said) = one_said rest fill in
      (refuted proof, implied rest (ap (λ l. l ∷ rest) is) said),
)

pub equivalence_spelled : (line : Line) (rest : List Line) → IsSpelled Equivalence (line ∷ rest)
    → ((side : Side) × (line ≡ side_line side) × FillSome rest)
    ⊎ ((line ≡ codes "equivalent") × FillProofs 2 rest)
equivalence_spelled line rest (c, not_equivalent {side} {lassos} more e said) =
    let (same, fill) = lassos_after line (side_line side) rest more lassos e said in
    inl (side, same, fill)
equivalence_spelled line rest (c, equivalent {one} {two} front more e said also) =
    let same : line ≡ codes "equivalent" = cc in
    let behind : front ++ more ≡ rest = cc in
    let both_said = said_proof 1 front more one said (said_one more two also) in
    inr (same, subst (FillProofs 2) behind both_said)

pub side_long : (side : Side) → 10 < length (side_line side)
side_long first = omega arith
side_long second = omega arith

pub side_opens : (side : Side) (line : Line) → line ≡ side_line side
    → Opens Equivalence line FillSome
side_opens side line is rest = (
  λ spelled. elim (equivalence_spelled line rest spelled) [
    | inl (other, e, fill) ↦ fill
    | inr (e, fill) ↦ absurd (omega (arith, side_long side, ap length (sym is ∙ e)))
  ],
  λ fill. let (lassos, said) = some_said rest fill in
      (model side lassos, not_equivalent rest (ap (λ l. l ∷ rest) is) said),
)

pub equivalent_opens : (line : Line) → line ≡ codes "equivalent"
    → Opens Equivalence line (FillProofs 2)
equivalent_opens line is rest = (
  λ spelled. elim (equivalence_spelled line rest spelled) [
    | inl (side, e, fill) ↦ absurd (omega (arith, side_long side, ap length (sym is ∙ e)))
    | inr (e, fill) ↦ fill
  ],
  λ fill. let one = proof_said 1 rest fill in
      let (two, also) = one_said one.rest one.behind in
      let parts : line ∷ rest ≡ codes "equivalent" ∷ (one.front ++ one.rest) = cc (one.parts) in
      (both one.proof two, equivalent one.front one.rest parts one.said also),
)

pub circuit_spelled : (line : Line) (rest : List Line) → IsSpelled Circuit (line ∷ rest)
    → (holds : Bool) × (line ≡ holds_line holds) × FillEvidence rest
circuit_spelled line rest (c, proved {holds} {proof} more e (clauses, said)) =
    let same : line ≡ holds_line holds = cc in
    let behind : more ≡ rest = cc in
    let first = said_induction (kind_word clauses) clauses (FillProofs 0) more [] proof said refl in (
      holds,
      same,
      subst FillEvidence (sym first.parts ∙ append-nil more ∙ behind)
          (inl (clauses, proof.depth, length proof.inv, first.counts, first.fill)),
    )
circuit_spelled line rest (c, shown {holds} {lassos} {tuple} front more e said also) =
    let same : line ≡ holds_line holds = cc in
    let behind : front ++ more ≡ rest = cc in
    (holds, same, subst FillEvidence behind (begun front lassos said))
  where
    begun : (front : List Line) (lassos : List Spelled) → SayLassos front lassos
        → FillEvidence (front ++ more)
    begun [] [] (seen, some) = absurd (omega arith)
    begun [] (lasso ∷ lassos) (seen, some) = absurd seen
    begun (line ∷ front) [] (seen, some) = absurd seen
    begun (line ∷ front) (lasso ∷ lassos) ((says, seen), some) =
        inr ((lasso, says), said_shown front more lassos tuple seen also)

spelled_circuit : (holds : Bool) (line : Line) (rest : List Line) → line ≡ holds_line holds
    → FillEvidence rest → IsSpelled Circuit (line ∷ rest)
spelled_circuit holds line [] is none = absurd none
spelled_circuit holds line (head ∷ rest) is (inl (clauses, k, f, counts, fill)) =
    let first = induction_said (kind_word clauses) clauses (FillProofs 0) k f head rest counts
    fill in
    let P : List Line → Type 0 = λ l. SayProofBy (kind_word clauses) clauses l first.proof in
    let said = subst P
    (front_whole (head ∷ rest) first.front first.rest first.parts first.behind) first.said in (
      induction holds first.proof,
      proved (head ∷ rest) (ap (λ l. l ∷ head ∷ rest) is) (clauses, said),
    )
spelled_circuit holds line (head ∷ rest) is (inr ((lasso, says), fill)) =
    let more = shown_said rest fill in
    let parts : line ∷ head ∷ rest ≡ holds_line holds ∷ ((head ∷ more.front) ++ more.rest) =
    cc (more.parts) in
    let some : 0 < length (lasso ∷ more.lassos) = omega arith in (
      runs holds (lasso ∷ more.lassos) more.tuple,
      shown (head ∷ more.front) more.rest parts ((says, more.seen), some) more.said,
    )

pub holds_opens : (holds : Bool) (line : Line) → line ≡ holds_line holds
    → Opens Circuit line FillEvidence
holds_opens holds line is rest = (
  λ spelled. (circuit_spelled line rest spelled).2,
  λ fill. spelled_circuit holds line rest is fill,
)
