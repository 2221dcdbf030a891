-- The parts of a certificate text: its first line, the lines of its lassos, and those behind them.
use Rattle.std.proofs.Common.{◌≡◌, ◌≢◌, ℕ, zero, suc, ◌<◌, Bool, List, [], ◌∷◌, ◌++◌, length, append_assoc, append-nil, refl, sym, ap, ◌∙◌, subst, arith}
use Rattle.std.specs.Prelude.{codes}
use Rattle.std.proofs.lemmas.List.{length-map}
use Rattle.hy_bits.specs.Letter.{Letter}
use Rattle.hy_formula.specs.Lassos.{Lasso}
use Rattle.hy_lasso.specs.LassoLines.{Spelled, lasso_of, SaysLasso}
use Rattle.hy_lasso.specs.Words.{AreLassos}
use Rattle.hy_text.specs.Bytes.{past_blanks}
use Rattle.hy_text.specs.Lines.{lines_of}
use Rattle.hy_text.specs.Sets.{letter_of}
use Rattle.hy_text.specs.Words.{SpellsWord}
use Rattle.cert_text.specs.declared.question.Question.{Question}
use Rattle.cert_text.specs.declared.question.Question.TheVariants.{Formula, Implication, Equivalence, Circuit}
use Rattle.cert_text.specs.Certificates.{Certificate, Refutation, SayRefutation, Spells, first, second, model, ranks, free, refuted, both, induction, runs, holds_line, side_line, satisfiable, unsatisfiable, not_implied, implied, not_equivalent, equivalent, proved, shown}
use Rattle.cert_text.specs.InductionLines.{SaysFreeHead, SaysInductionHead}
use Rattle.cert_text.specs.Lines.{Line, Say}
use Rattle.cert_text.specs.RankLines.{SaysRankHead}
use Rattle.cert_text.specs.RunLines.{SaysRunsHead}
use Rattle.cert_text.specs.Texts.{IsText}
use Rattle.run_judge.specs.Fronts.{AreFrontLassos}
use Rattle.cert_text.proofs.Lists.{heads, tails}
use Rattle.claim_check.specs.Good.{lassos_over}
use Rattle.claim_check.specs.Reading.{IsFilled, IsHead, IsRead, Shows}
use Rattle.claim_check.specs.Verdicts.{spelled_in}

record Parts (question : Question) (c : Certificate) (lines : List Line) : Type 0 where
  pub head : Line
  pub front : List Line
  pub back : List Line
  pub parts : lines ≡ head ∷ (front ++ back)
  pub begun : IsHead question c head
  pub said : Say SaysLasso front (spelled_in c)
  pub filled : IsFilled c (length (spelled_in c))
  pub shows : Shows back c

parts-of : (question : Question) (c : Certificate) (lines : List Line) → Spells lines question c
    → Parts question c lines
parts-of Formula (model first lassos) lines (satisfiable rest e (said, some)) = record {
  head = codes "sat";
  front = rest;
  back = [];
  parts = e ∙ ap (λ l. codes "sat" ∷ l) (sym (append-nil rest));
  begun = refl;
  said = said;
  filled = some;
  shows = refl;
}
parts-of Formula (refuted proof) lines (unsatisfiable rest e shows) = record {
  head = codes "unsat";
  front = [];
  back = rest;
  parts = e;
  begun = refl;
  said = tt;
  filled = refl;
  shows = shows;
}
parts-of Implication (model first lassos) lines (not_implied rest e (said, some)) = record {
  head = codes "not implied";
  front = rest;
  back = [];
  parts = e ∙ ap (λ l. codes "not implied" ∷ l) (sym (append-nil rest));
  begun = refl;
  said = said;
  filled = some;
  shows = refl;
}
parts-of Implication (refuted proof) lines (implied rest e shows) = record {
  head = codes "implied";
  front = [];
  back = rest;
  parts = e;
  begun = refl;
  said = tt;
  filled = refl;
  shows = shows;
}
parts-of Equivalence (model side lassos) lines (not_equivalent rest e (said, some)) = record {
  head = side_line side;
  front = rest;
  back = [];
  parts = e ∙ ap (λ l. side_line side ∷ l) (sym (append-nil rest));
  begun = refl;
  said = said;
  filled = some;
  shows = refl;
}
parts-of Equivalence (both one two) lines (equivalent front rest e a b) = record {
  head = codes "equivalent";
  front = [];
  back = front ++ rest;
  parts = e;
  begun = refl;
  said = tt;
  filled = refl;
  shows = (front, rest, refl, a, b);
}
parts-of Circuit (induction holds proof) lines (proved rest e shows) = record {
  head = holds_line holds;
  front = [];
  back = rest;
  parts = e;
  begun = refl;
  said = tt;
  filled = refl;
  shows = shows;
}
parts-of Circuit (runs holds lassos tuple) lines (shown front rest e (said, some) shows) = record {
  head = holds_line holds;
  front = front;
  back = rest;
  parts = e;
  begun = refl;
  said = said;
  filled = some;
  shows = shows;
}
-- no question has others
parts-of Formula (model second lassos) lines x = elim x [ ]
parts-of Formula (both one two) lines x = elim x [ ]
parts-of Formula (induction holds proof) lines x = elim x [ ]
parts-of Formula (runs holds lassos tuple) lines x = elim x [ ]
parts-of Implication (model second lassos) lines x = elim x [ ]
parts-of Implication (both one two) lines x = elim x [ ]
parts-of Implication (induction holds proof) lines x = elim x [ ]
parts-of Implication (runs holds lassos tuple) lines x = elim x [ ]
parts-of Equivalence (refuted proof) lines x = elim x [ ]
parts-of Equivalence (induction holds proof) lines x = elim x [ ]
parts-of Equivalence (runs holds lassos tuple) lines x = elim x [ ]
parts-of Circuit (model side lassos) lines x = elim x [ ]
parts-of Circuit (refuted proof) lines x = elim x [ ]
parts-of Circuit (both one two) lines x = elim x [ ]

-- ---- what stands behind the lassos

-- The heads of evidence, and the empty line, say no lasso.
abbrev pub RanksEnd : Type 0
RanksEnd = (line : Line) (b r : ℕ) (said : Spelled) → SaysRankHead line b r → ¬ SaysLasso line said

abbrev pub InductionEnds : Type 0
InductionEnds =
    (clauses : Bool) (line : Line) (k f : ℕ) (said : Spelled) → SaysInductionHead clauses line k f
    → ¬ SaysLasso line said

abbrev pub FreeEnds : Type 0
FreeEnds = (line : Line) (k f : ℕ) (said : Spelled) → SaysFreeHead line k f → ¬ SaysLasso line said

abbrev pub RunsEnd : Type 0
RunsEnd = (line : Line) (n : ℕ) (said : Spelled) → SaysRunsHead line n → ¬ SaysLasso line said

abbrev pub EmptyEnds : Type 0
EmptyEnds = (said : Spelled) → ¬ SaysLasso [] said

-- The first line behind the lassos says none.
record Behind (back : List Line) : Type 0 where
  pub line : Line
  pub more : List Line
  pub parts : back ++ [] ∷ [] ≡ line ∷ more
  pub silent : (said : Spelled) → ¬ SaysLasso line said

module _ (ranks-end : RanksEnd) (induction-ends : InductionEnds) (free-ends : FreeEnds)
    (runs-end : RunsEnd) (empty-ends : EmptyEnds) where
  -- a proof about a formula, whatever stands behind it
  refutation-behind : (proof : Refutation) (front rest : List Line) → SayRefutation front proof
      → Behind (front ++ rest)
  refutation-behind (ranks proof) front rest shows = record {
    line = shows.head;
    more = ((shows.branches ++ shows.reasons) ++ rest) ++ [] ∷ [];
    parts = ap (λ l. (l ++ rest) ++ [] ∷ []) shows.parts;
    silent = λ said. ranks-end shows.head _ _ said shows.counts;
  }
  refutation-behind (free proof) front rest shows = record {
    line = shows.head;
    more = ((shows.facts ++ shows.logs) ++ rest) ++ [] ∷ [];
    parts = ap (λ l. (l ++ rest) ++ [] ∷ []) shows.parts;
    silent = λ said. free-ends shows.head _ _ said shows.counts;
  }

  behind : (c : Certificate) (back : List Line) → Shows back c → Behind back
  behind (model side lassos) back none = record {
    line = [];
    more = [];
    parts = ap (λ l. l ++ [] ∷ []) none;
    silent = empty-ends;
  }
  behind (refuted proof) back shows =
      subst Behind (append-nil back) (refutation-behind proof back [] shows)
  behind (both one two) back (front, rest, e, a, b) =
      subst Behind (sym e) (refutation-behind one front rest a)
  behind (induction holds proof) back (clauses, shows) = record {
    line = shows.head;
    more = (shows.facts ++ shows.logs) ++ [] ∷ [];
    parts = ap (λ l. l ++ [] ∷ []) shows.parts;
    silent = λ said. induction-ends clauses shows.head _ _ said shows.counts;
  }
  behind (runs holds lassos tuple) back shows = record {
    line = shows.head;
    more = shows.rest ++ [] ∷ [];
    parts = ap (λ l. l ++ [] ∷ []) shows.parts;
    silent = λ said. runs-end shows.head _ said shows.counts;
  }

  -- ---- lassos have cycles

  has-cycle : (line : Line) (said : Spelled) → SaysLasso line said → 0 < length said.cycle
  has-cycle line said (rest, stem, cycle) = by said.cycle cycle
    where
      by : (sets : List (List (List ℕ))) → SpellsWord (past_blanks rest) sets [] → 0 < length sets
      by [] none = absurd none
      by (x ∷ sets) some = omega arith

  have-cycles : (names : List (List ℕ)) (lines : List Line) (lassos : List Spelled)
      → Say SaysLasso lines lassos → AreLassos (lassos_over names lassos)
  have-cycles names [] [] said v few = absurd (omega (arith, few))
  have-cycles names [] (x ∷ lassos) said v few = absurd said
  have-cycles names (line ∷ lines) [] said v few = absurd said
  have-cycles names (line ∷ lines) (x ∷ lassos) (says, said) zero few =
      subst (λ n. 0 < n) (sym (length-map x.cycle (letter_of names))) (has-cycle line x says)
  have-cycles names (line ∷ lines) (x ∷ lassos) (says, said) (suc v) few =
      have-cycles names lines lassos said v (omega (arith, few))

  -- ---- reading

  module _ (names : List (List ℕ)) (text : List ℕ) (question : Question) (c : Certificate)
      (is : IsText question text c) where
    -- A text has a second line.
    pub not_alone : (head : Line) → lines_of text ≢ head ∷ []
    not_alone head cut =
        let p = parts-of question c is.lines is.spelled in
        let whole : head ∷ [] ≡ p.head ∷ ((p.front ++ p.back) ++ [] ∷ []) =
        sym cut ∙ is.ended ∙ ap (λ l. l ++ [] ∷ []) p.parts in
        no_last (p.front ++ p.back) (tails whole)
      where
        no_last : (lines : List Line) → [] ≢ lines ++ [] ∷ []
        no_last [] e = cc
        no_last (l ∷ lines) e = cc

    pub is_read : (head : Line) (rest left : List ℕ) (list : List (Lasso Letter))
        → lines_of text ≡ head ∷ lines_of rest → AreFrontLassos names rest list left
        → IsRead names question c head list left
    is_read head rest left list cut front =
        let p = parts-of question c is.lines is.spelled in
        let whole : head ∷ lines_of rest ≡ p.head ∷ ((p.front ++ p.back) ++ [] ∷ []) =
        sym cut ∙ is.ended ∙ ap (λ l. l ++ [] ∷ []) p.parts in
        let b = behind c p.back p.shows in
        let lines : lines_of rest ≡ p.front ++ b.line ∷ b.more =
        tails whole ∙ append_assoc p.front p.back ([] ∷ []) ∙ ap (λ l. p.front ++ l) b.parts in
        let (are, after) = front (spelled_in c) p.front b.line b.more lines p.said b.silent in
        let B : Line → Type 0 = λ l. IsHead question c l in
        let N : ℕ → Type 0 = λ n. IsFilled c n in
        let L : List (Lasso Letter) → Type 0 = λ l. AreLassos l in
        record {
          begun = subst B (sym (heads whole)) p.begun;
          over = are;
          filled = subst N (sym (ap length are ∙ length-map (spelled_in c) (lasso_of names))) p.filled;
          lassos = subst L (sym are) (have-cycles names p.front (spelled_in c) p.said);
          lines = p.back;
          ended = after ∙ sym b.parts;
          shown = p.shows;
        }
