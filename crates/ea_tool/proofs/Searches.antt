-- What a search for lassos within a bound comes to, the run follows, and no two searches deny each other.
use Rattle.std.proofs.Common.{◌≡◌, ℕ, List, [], ◌∷◌, Err, inl, inr, refl, sym, ap, subst, ◌∙◌, arith}
use Rattle.hy_base.specs.Limits.{most}
use Rattle.hy_base.specs.declared.limit.Kind.{Kind}
use Rattle.hy_base.specs.declared.limit.Kind.TheVariants as kinds
use Rattle.hy_base.specs.declared.limit.Limit.{Limit as Past}
use Rattle.hy_base.specs.declared.shelf.Shelf.{Ghosts}
use Rattle.hy_formula.specs.Formulas.{Plain}
use Rattle.chain_check.specs.FewClauses.{literals_in}
use Rattle.bound_search.specs.Queries.{clauses_of, variables_of}
use Rattle.bound_search.specs.Sizes.{IsPastBy, IsRefusal, IsRefusalBy, IsTaken}
use Rattle.bound_search.specs.declared.bound.Bound.{Bound}
use Rattle.bound_search.specs.declared.bound_error.BoundError.{BoundError}
use Rattle.bound_search.specs.declared.bound_error.BoundError.TheVariants as errors
use Rattle.hy_files.specs.Contents.{IsFormula}
use Rattle.hy_files.specs.Steps.{Takes}
use Rattle.hy_run.specs.Laws.{AgreeOrShort}
use Rattle.hy_run.specs.Runs.{Answer, Follows}
use Rattle.hy_run.specs.declared.refusal.Refusal.TheVariants.{Limit}
use Rattle.hy_run.proofs.Steps.{finish}
use Rattle.ea_tool.specs.Agreeing.{Agree, same, other_search}
use Rattle.ea_tool.specs.Finding.{IsAdmitted, IsSearch, within, none, undecided, too_large, spent, search_refusal}
use Rattle.ea_tool.specs.Rules.{ea_rules}
use Rattle.ea_tool.specs.declared.verdict.EaFault.{EaFault}
use Rattle.ea_tool.specs.declared.verdict.EaVerdict.{EaVerdict}
use Rattle.ea_tool.specs.declared.verdict.EaVerdict.TheVariants.{Sat, NoneWithin, Spent}
use Rattle.ea_tool.specs.declared.verdict.Question.TheVariants.{Find}
use Rattle.ea_tool.proofs.Reading.{past_first}

-- ---- counts of one question

module _ (variables literals : ℕ) where
  -- What is within both limits is past none.
  taken-or-past : (kind : Kind) → IsTaken variables literals → ¬ IsPastBy variables literals kind
  taken-or-past kinds.CnfVariables taken past = omega (arith, taken.few_variables, past)
  taken-or-past kinds.CnfLiterals taken past = omega (arith, taken.few_literals, past.1)
  taken-or-past _ taken past = past

  one-kind : (kind other : Kind) → IsPastBy variables literals kind → IsPastBy variables literals other → kind ≡ other
  one-kind kinds.CnfVariables kinds.CnfVariables past also = refl
  one-kind kinds.CnfVariables kinds.CnfLiterals past also = absurd (omega (arith, past, also.0))
  one-kind kinds.CnfLiterals kinds.CnfVariables past also = absurd (omega (arith, past.0, also))
  one-kind kinds.CnfLiterals kinds.CnfLiterals past also = refl
  one-kind kinds.CnfVariables _ past also = absurd also
  one-kind kinds.CnfLiterals _ past also = absurd also
  one-kind _ other past also = absurd past

  past-agree : (one two : Past) → IsRefusalBy variables literals (errors.Limit one) → IsRefusalBy variables literals (errors.Limit two)
      → Agree (Err (Limit one.kind one.limit)) (Err (Limit two.kind two.limit))
  past-agree one two (past, is) (also, are) =
      let kind : one.kind ≡ two.kind = one-kind one.kind two.kind past also in
      let limit : one.limit ≡ two.limit = is ∙ ap most kind ∙ sym are in
      let P : Answer EaVerdict EaFault → Type 0 = λ a. Agree (Err (Limit one.kind one.limit)) a in
      subst P (λ i. Err (Limit (kind i) (limit i))) (same (Err (Limit one.kind one.limit)))

-- ---- two searches

module _ (bound : Bound) (conflicts : ℕ) (f : Plain) where
  abbrev variables : ℕ
  variables = variables_of bound f.prefix f.body

  abbrev literals : ℕ
  literals = literals_in (clauses_of bound f.prefix f.body)

  not-past : (limit : Past) → IsAdmitted bound f → ¬ IsRefusal bound f.prefix f.body (errors.Limit limit)
  not-past limit admitted (past, is) = taken-or-past variables literals limit.kind admitted past

  -- What an error of a search says is its answer.
  pub refused : (error : BoundError) → IsRefusal bound f.prefix f.body error → IsSearch bound conflicts f (Err (search_refusal error))
  refused (errors.Limit limit) is = too_large limit is
  refused errors.Memory is = spent

  -- The run follows what the search comes to.
  pub find_follows : {S : Type 0} (g : Ghosts S) (old new : S) (file : List ℕ) (names : List (List ℕ))
      → Takes g old new file (λ bytes. IsFormula 8 [] bytes f names) → (answer : Answer EaVerdict EaFault) → IsSearch bound conflicts f answer
      → Follows ea_rules g old new (Find bound conflicts) (file ∷ []) names answer
  find_follows g old new file names first answer is =
      finish ea_rules (Find bound conflicts) (file ∷ []) g old new (first.bytes ∷ []) names answer
      (past_first (Find bound conflicts) file [] g old new f names first) (f, first.is, is)

  pub searches_agree : (a b : Answer EaVerdict EaFault) → IsSearch bound conflicts f a → IsSearch bound conflicts f b → AgreeOrShort ea_rules a b
  searches_agree _ b spent two = inl refl
  searches_agree a _ (within list one is) spent = inr (inl refl)
  searches_agree a _ (none log one is) spent = inr (inl refl)
  searches_agree a _ (undecided log one is) spent = inr (inl refl)
  searches_agree a _ (too_large limit past) spent = inr (inl refl)
  searches_agree _ _ (within list one is) (within other two also) = inr (inr (other_search (Sat list) (Sat other) tt tt (λ deny. deny)))
  searches_agree _ _ (within list one is) (none log two also) = absurd (also.1 list is.within)
  searches_agree _ _ (within list one is) (undecided log two also) = inr (inr (other_search (Sat list) (Spent conflicts log) tt tt (λ deny. deny)))
  searches_agree _ _ (within list one is) (too_large limit past) = absurd (not-past limit one past)
  searches_agree _ _ (none log one is) (within list two also) = absurd (is.1 list also.within)
  searches_agree _ _ (none log one is) (none other two also) = inr (inr (other_search (NoneWithin log) (NoneWithin other) tt tt (λ deny. deny)))
  searches_agree _ _ (none log one is) (undecided other two also) =
      inr (inr (other_search (NoneWithin log) (Spent conflicts other) tt tt (λ deny. deny)))
  searches_agree _ _ (none log one is) (too_large limit past) = absurd (not-past limit one past)
  searches_agree _ _ (undecided log one is) (within list two also) = inr (inr (other_search (Spent conflicts log) (Sat list) tt tt (λ deny. deny)))
  searches_agree _ _ (undecided log one is) (none other two also) =
      inr (inr (other_search (Spent conflicts log) (NoneWithin other) tt tt (λ deny. deny)))
  searches_agree _ _ (undecided log one is) (undecided other two also) =
      inr (inr (other_search (Spent conflicts log) (Spent conflicts other) tt tt (λ deny. deny)))
  searches_agree _ _ (undecided log one is) (too_large limit past) = absurd (not-past limit one past)
  searches_agree _ _ (too_large limit past) (within list two also) = absurd (not-past limit two past)
  searches_agree _ _ (too_large limit past) (none log two also) = absurd (not-past limit two past)
  searches_agree _ _ (too_large limit past) (undecided log two also) = absurd (not-past limit two past)
  searches_agree _ _ (too_large limit past) (too_large other also) = inr (inr (past-agree variables literals limit other past also))
