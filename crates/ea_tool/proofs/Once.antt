-- The rules are settled: words ask one question, files are one text, and a question comes to one answer.
use Rattle.std.proofs.Common.{◌≡◌, ◌≢◌, ℕ, Bool, true, false, List, [], ◌∷◌, Result, Err, sym, subst, ◌∙◌}
use Rattle.std.specs.Bool.{IsTrue}
use Rattle.hy_bits.specs.Letter.{Letter}
use Rattle.hy_formula.specs.Formulas.{Plain}
use Rattle.hy_formula.specs.Lassos.{Lasso}
use Rattle.hy_text.specs.declared.line_error.LineError.{LineError}
use Rattle.hy_text.specs.declared.line_error.LineError.TheVariants.{Memory}
use Rattle.hy_lasso.specs.LassoFiles.{IsLassosAnswer}
use Rattle.hy_files.specs.Contents.{IsFormula, IsText, IsRefused}
use Rattle.hy_files.specs.declared.fault.FileFault.{FileFault}
use Rattle.hy_words.specs.Parsers.{is_syntax}
use Rattle.hy_words.specs.Words.{Syntax, Item, AreItems, GiveSame}
use Rattle.hy_run.specs.Laws.{AgreeOrShort, AreSettled}
use Rattle.hy_run.specs.Names.{Text}
use Rattle.hy_run.specs.Runs.{Answer}
use Rattle.bound_search.specs.declared.bound.Bound.{Bound}
use Rattle.ea_tool.specs.Agreeing.{same}
use Rattle.ea_tool.specs.Deciding.{IsDecision, IsRelated}
use Rattle.ea_tool.specs.Finding.{IsSearch}
use Rattle.ea_tool.specs.Judging.{IsJudgement}
use Rattle.ea_tool.specs.Rules.{ComesTo, IsTextIn, IsRefusedIn, ea_rules, has_lassos}
use Rattle.ea_tool.specs.declared.verdict.EaFault.{EaFault}
use Rattle.ea_tool.specs.declared.verdict.Engine.{Engine}
use Rattle.ea_tool.specs.declared.verdict.EaVerdict.{EaVerdict}
use Rattle.ea_tool.specs.declared.verdict.Question.{Question}
use Rattle.ea_tool.specs.declared.verdict.Question.TheVariants.{Judge, Decide, Relate, Find}
use Rattle.ea_tool.specs.declared.verdict.Relation.{Relation}
use Rattle.ea_tool.proofs.Agreements.{decisions_once, judged_once, relations_once}
use Rattle.ea_tool.proofs.Asking.{asks_once}
use Rattle.ea_tool.proofs.LassoFiles.{fault_once, lassos_not_refused, lassos_once}
use Rattle.ea_tool.proofs.Searches.{searches_agree}

module _ (reading : (syntax : Syntax) → IsTrue (is_syntax syntax) → (words : List Text) (items others : List Item) → AreItems syntax words items
    → AreItems syntax words others → GiveSame syntax items others)
    (taken : (many : Bool) (quantifiers : ℕ) (old : List Text) (bytes : List ℕ) (formulas others : List Plain)
    (new later : List Text) → IsText many quantifiers old bytes formulas new
    → IsText many quantifiers old bytes others later → (formulas ≡ others) × (new ≡ later))
    (refused : (many : Bool) (quantifiers : ℕ) (old : List Text) (bytes : List ℕ) (a b : FileFault)
    → IsRefused many quantifiers old bytes a → IsRefused many quantifiers old bytes b → a ≡ b)
    (apart : (many : Bool) (quantifiers : ℕ) (old : List Text) (bytes : List ℕ) (formulas : List Plain)
    (new : List Text) (fault : FileFault) → IsText many quantifiers old bytes formulas new
    → ¬ IsRefused many quantifiers old bytes fault)
    (lists : (table : List Text) (bytes : List ℕ) (a b : Result (List (Lasso Letter)) LineError) → a ≢ Err Memory
    → b ≢ Err Memory → IsLassosAnswer table bytes a → IsLassosAnswer table bytes b → a ≡ b) where
  -- ---- files

  formula_once : (old : List Text) (bytes : List ℕ) (f g : Plain) (new later : List Text) → IsFormula 8 old bytes f new
      → IsFormula 8 old bytes g later → (f ≡ g) × (new ≡ later)
  formula_once old bytes f g new later one two =
      let (formulas, names) = taken false 8 old bytes (f ∷ []) (g ∷ []) new later one two in
      let formula : f ≡ g = cc in (formula, names)

  text_once : (lassos : Bool) (old : List Text) (bytes : List ℕ) (new later : List Text) → IsTextIn lassos old bytes new
      → IsTextIn lassos old bytes later → new ≡ later
  text_once true old bytes new later one two = one.1 ∙ sym two.1
  text_once false old bytes new later (f, one) (g, two) = (formula_once old bytes f g new later one two).1

  refused_once : (lassos : Bool) (old : List Text) (bytes : List ℕ) (a b : FileFault) → IsRefusedIn lassos old bytes a
      → IsRefusedIn lassos old bytes b → a ≡ b
  refused_once true old bytes a b one two = fault_once lists old bytes a b one two
  refused_once false old bytes a b one two = refused false 8 old bytes a b one two

  not_both : (lassos : Bool) (old : List Text) (bytes : List ℕ) (new : List Text) (fault : FileFault) → IsTextIn lassos old bytes new
      → ¬ IsRefusedIn lassos old bytes fault
  not_both true old bytes new fault ((list, one), e) two = lassos_not_refused lists old bytes list fault one two
  not_both false old bytes new fault (f, one) two = apart false 8 old bytes (f ∷ []) new fault one two

  -- ---- questions

  judges_once : (one two : List ℕ) (names : List Text) (a b : Answer EaVerdict EaFault) → ComesTo Judge (one ∷ two ∷ []) names a
      → ComesTo Judge (one ∷ two ∷ []) names b → AgreeOrShort ea_rules a b
  judges_once one two names a b (f, list, first, second, is) (g, other, also, then, was) =
      let formula = (formula_once [] one f g names names first also).0 in
      let lassos = lassos_once lists names two list other second then in
      let P : Plain → Type 0 = λ h. IsJudgement h.prefix h.body list a in
      let R : List (Lasso Letter) → Type 0 = λ l. IsJudgement g.prefix g.body l a in
      judged_once g.prefix g.body other a b (subst R lassos (subst P formula is)) was

  decides_once : (engine : Engine) (proof : Bool) (one : List ℕ) (names : List Text) (a b : Answer EaVerdict EaFault)
      → ComesTo (Decide engine proof) (one ∷ []) names a → ComesTo (Decide engine proof) (one ∷ []) names b → AgreeOrShort ea_rules a b
  decides_once engine proof one names a b (f, first, is) (g, also, was) =
      let P : Plain → Type 0 = λ h. IsDecision h engine a in
      decisions_once g engine a b (subst P (formula_once [] one f g names names first also).0 is) was

  relates_once : (relation : Relation) (engine : Engine) (proof : Bool) (one two : List ℕ) (names : List Text) (a b : Answer EaVerdict EaFault)
      → ComesTo (Relate relation engine proof) (one ∷ two ∷ []) names a → ComesTo (Relate relation engine proof) (one ∷ two ∷ []) names b
      → AgreeOrShort ea_rules a b
  relates_once relation engine proof one two names a b (f, g, known, first, second, is) (h, k, table, also, then, was) =
      let (formula, tables) = formula_once [] one f h known table first also in
      let N : List Text → Type 0 = λ t. IsFormula 8 t two g names in
      let other = (formula_once table two g k names names (subst N tables second) then).0 in
      let P : Plain → Type 0 = λ x. IsRelated relation x g engine a in
      let R : Plain → Type 0 = λ x. IsRelated relation h x engine a in
      relations_once relation h k engine a b (subst R other (subst P formula is)) was

  finds_once : (bound : Bound) (conflicts : ℕ) (one : List ℕ) (names : List Text) (a b : Answer EaVerdict EaFault)
      → ComesTo (Find bound conflicts) (one ∷ []) names a → ComesTo (Find bound conflicts) (one ∷ []) names b → AgreeOrShort ea_rules a b
  finds_once bound conflicts one names a b (f, first, is) (g, also, was) =
      let P : Plain → Type 0 = λ h. IsSearch bound conflicts h a in
      searches_agree bound conflicts g a b (subst P (formula_once [] one f g names names first also).0 is) was

  comes_once : (question : Question) (files : List (List ℕ)) (names : List Text) (a b : Answer EaVerdict EaFault) → ComesTo question files names a
      → ComesTo question files names b → AgreeOrShort ea_rules a b
  comes_once Judge (x ∷ y ∷ []) names a b one two = judges_once x y names a b one two
  comes_once (Decide n p) (x ∷ []) names a b one two = decides_once n p x names a b one two
  comes_once (Relate r n p) (x ∷ y ∷ []) names a b one two = relates_once r n p x y names a b one two
  comes_once (Find k n) (x ∷ []) names a b one two = finds_once k n x names a b one two
  comes_once Judge [] names a b one two = absurd one
  comes_once Judge (x ∷ []) names a b one two = absurd one
  comes_once Judge (x ∷ y ∷ z ∷ rest) names a b one two = absurd one
  comes_once (Decide n p) [] names a b one two = absurd one
  comes_once (Decide n p) (x ∷ y ∷ rest) names a b one two = absurd one
  comes_once (Relate r n p) [] names a b one two = absurd one
  comes_once (Relate r n p) (x ∷ []) names a b one two = absurd one
  comes_once (Relate r n p) (x ∷ y ∷ z ∷ rest) names a b one two = absurd one
  comes_once (Find k n) [] names a b one two = absurd one
  comes_once (Find k n) (x ∷ y ∷ rest) names a b one two = absurd one

  pub ea_settled : AreSettled ea_rules
  ea_settled = record {
    command = asks_once reading;
    text = λ question k old bytes new later one two. text_once (has_lassos question k) old bytes new later one two;
    fault = λ question k old bytes a b one two. refused_once (has_lassos question k) old bytes a b one two;
    apart = λ question k old bytes new fault one two. not_both (has_lassos question k) old bytes new fault one two;
    answer = comes_once;
    same = same;
  }
