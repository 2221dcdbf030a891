-- Lassos that are read line by line.
use Rattle.std.proofs.Common.{◌≡◌, ◌≢◌, ℕ, List, [], ◌∷◌, ◌++◌, append_assoc, append-nil, map, refl, sym, ◌∙◌, ap, subst, Some, None}
use Rattle.hy_bits.specs.Letter.{Letter}
use Rattle.hy_formula.specs.Lassos.{Lasso}
use Rattle.hy_lasso.specs.LassoLines.{Spelled, lasso_of, SpellsStem, SaysLasso, IsLassoSaid}
use Rattle.hy_lasso.proofs.ReadingLassos.{one_lasso}
use Rattle.hy_text.specs.Bytes.{past_blanks}
use Rattle.hy_text.specs.Lines.{lines_of}
use Rattle.cert_text.specs.Lines.{Line, Say}
use Rattle.cert_text.proofs.Lists.{heads, tails}
use Rattle.run_judge.specs.Fronts.{AreFrontLassos}

-- What is left of a reading: lassos, and behind them the line that says none, and more.
pub record IsLeft (table : List (List ℕ)) (lassos : List Spelled) (line : Line) (more : List Line)
    (left : List ℕ) (list : List (Lasso Letter)) : Type 0 where
  pub rest : List Spelled
  pub lines : List Line
  pub parts : lines_of left ≡ lines ++ line ∷ more
  pub said : Say SaysLasso lines rest
  pub so_far : map (lasso_of table) lassos ≡ list ++ map (lasso_of table) rest

-- The list has the lassos of the text up to what is left.
abbrev pub AreGathered : List (List ℕ) → List ℕ → List ℕ → List (Lasso Letter) → Type 0
AreGathered table text left list =
    (lassos : List Spelled) (front : List Line) (line : Line) (more : List Line)
    → lines_of text ≡ front ++ line ∷ more → Say SaysLasso front lassos
    → ((said : Spelled) → ¬ SaysLasso line said) → IsLeft table lassos line more left list

pub none_gathered : (table : List (List ℕ)) (text : List ℕ) → AreGathered table text text []
none_gathered table text lassos front line more parts said none =
    record { rest = lassos; lines = front; parts = parts; said = said; so_far = refl }

module _ (table : List (List ℕ)) (text left : List ℕ) (list : List (Lasso Letter))
    (are : AreGathered table text left list) where
  -- one lasso more
  pub more_gathered : (behind : List ℕ) (first : Line) (lasso : Lasso Letter)
      (added : List (Lasso Letter)) → lines_of left ≡ first ∷ lines_of behind
      → IsLassoSaid table first (Some lasso) → added ≡ list ++ lasso ∷ []
      → AreGathered table text behind added
  more_gathered behind first lasso added cut (own, says, lasso_is) is lassos front line more parts
      said none =
      let r = are lassos front line more parts said none in step r.lines r.rest r.parts r.said r.so_far
    where
      step : (lines : List Line) (rest : List Spelled) → lines_of left ≡ lines ++ line ∷ more
          → Say SaysLasso lines rest → map (lasso_of table) lassos ≡ list ++ map (lasso_of table) rest
          → IsLeft table lassos line more behind added
      step [] rest e all so_far =
          let same : first ≡ line = heads (sym cut ∙ e) in
          let P : Line → Type 0 = λ l. SaysLasso l own in
          absurd (none own (subst P same says))
      step (l ∷ lines) [] e all so_far = absurd all
      step (l ∷ lines) (x ∷ rest) e (here, all) so_far =
          let same : l ≡ first = heads (sym e ∙ cut) in
          let P : Line → Type 0 = λ l. SaysLasso l x in
          let one : x ≡ own = one_lasso (past_blanks first) x own (subst P same here) says in
          let value : lasso_of table x ≡ lasso = ap (lasso_of table) one ∙ sym lasso_is in
          record {
            rest = rest;
            lines = lines;
            parts = tails (sym cut ∙ e);
            said = all;
            so_far =
                so_far ∙ ap (λ y. list ++ y ∷ map (lasso_of table) rest) value
                ∙ sym (append_assoc list (lasso ∷ []) (map (lasso_of table) rest))
                ∙ ap (λ l. l ++ map (lasso_of table) rest) (sym is);
          }

  -- no lasso more
  all-gathered : ((lassos : List Spelled) (line : Line) (more : List Line) (l : Line)
      (lines : List Line) (x : Spelled)
      → ((said : Spelled) → ¬ SaysLasso line said) → lines_of left ≡ l ∷ (lines ++ line ∷ more)
      → ¬ SaysLasso l x) → AreFrontLassos table text list left
  all-gathered over lassos front line more parts said none =
      let r = are lassos front line more parts said none in here r.lines r.rest r.parts r.said r.so_far
    where
      here : (lines : List Line) (rest : List Spelled) → lines_of left ≡ lines ++ line ∷ more
          → Say SaysLasso lines rest → map (lasso_of table) lassos ≡ list ++ map (lasso_of table) rest
          → (list ≡ map (lasso_of table) lassos) × (lines_of left ≡ line ∷ more)
      here [] [] e all so_far = (sym (so_far ∙ append-nil list), e)
      here [] (x ∷ rest) e all so_far = absurd all
      here (l ∷ lines) [] e all so_far = absurd all
      here (l ∷ lines) (x ∷ rest) e (says, all) so_far =
          absurd (over lassos line more l lines x none e says)

  -- The line says none.
  pub stopped : (first : Line) (behind : List Line) → lines_of left ≡ first ∷ behind
      → IsLassoSaid table first None → AreFrontLassos table text list left
  stopped first behind cut silent =
      all-gathered (λ lassos line more l lines x none e says.
      let P : Line → Type 0 = λ l. SaysLasso l x in
      silent x (subst P (heads (sym e ∙ cut)) says))

  -- The line is the last one.
  pub ended : (first : Line) → lines_of left ≡ first ∷ [] → AreFrontLassos table text list left
  ended first cut =
      all-gathered (λ lassos line more l lines x none e says.
      no_more lines line more (tails (sym e ∙ cut)))
    where
      no_more : (lines : List Line) (line : Line) (more : List Line) → lines ++ line ∷ more ≢ []
      no_more [] line more e = cc
      no_more (l ∷ lines) line more e = cc

-- ---- the empty line

no-stem : (sets : List (List (List ℕ))) (rest : List ℕ) → ¬ SpellsStem [] sets rest
no-stem [] rest bar = cc
no-stem (names ∷ []) rest (behind, (inner, brace, members), blank, bare) = cc
no-stem (names ∷ more ∷ sets) rest (behind, next, (inner, brace, members), blank, tail) = cc

pub empty_no_lasso : (said : Spelled) → ¬ SaysLasso [] said
empty_no_lasso said (rest, stem, cycle) = no-stem said.stem rest stem
