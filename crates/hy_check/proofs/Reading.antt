-- What was read where a run has a verdict: of any tool.
use Rattle.std.proofs.Common.{◌≡◌, ℕ, List, [], ◌∷◌, ◌++◌, map, Ok, Err, inl, inr, refl, sym, ap, subst, append-nil, append_assoc}
use Rattle.hy_base.specs.Shelf.{Read}
use Rattle.hy_run.specs.Names.{Text}
use Rattle.hy_run.specs.Rules.{Rules}
use Rattle.hy_run.specs.Runs.{DecidesBehind}

module _ {Q V F : Type 0} (rules : Rules Q V F) (question : Q) where
  -- The files behind those that are done were read to their ends, and with these bytes the question comes to the verdict.
  pub record AllRead (done : List (List ℕ)) (names : List Text) (given : List Read) (verdict : V) : Type 0 where
    pub contents : List (List ℕ)
    pub read : given ≡ map Ok contents
    pub comes : rules.comes question (done ++ contents) names (Ok verdict)

  pub all_read : (files : List Text) (done : List (List ℕ)) (old names : List Text) (given : List Read) (verdict : V)
      → DecidesBehind rules question files done old given names (Ok verdict) → AllRead done names given verdict
  all_read [] done old names [] verdict (e, comes) =
      let P : List Text → Type 0 = λ n. rules.comes question (done ++ []) n (Ok verdict) in
      let R : List (List ℕ) → Type 0 = λ fs. rules.comes question fs old (Ok verdict) in
      record { contents = []; read = refl; comes = subst P (sym e) (subst R (sym (append-nil done)) comes) }
  all_read [] done old names (read ∷ given) verdict decides = absurd decides
  all_read (file ∷ files) done old names [] verdict decides = absurd decides
  all_read (file ∷ files) done old names (Err error ∷ given) verdict (e, is) = cc
  all_read (file ∷ files) done old names (Ok bytes ∷ given) verdict (inl (e, stops)) = elim stops [ ]
  all_read (file ∷ files) done old names (Ok bytes ∷ given) verdict (inr (new, is, decides)) =
      let rest = all_read files (done ++ bytes ∷ []) new names given verdict decides in
      let P : List (List ℕ) → Type 0 = λ fs. rules.comes question fs names (Ok verdict) in
      record {
        contents = bytes ∷ rest.contents;
        read = ap (λ (rs : List Read). Ok bytes ∷ rs) rest.read;
        comes = subst P (append_assoc done (bytes ∷ []) rest.contents) rest.comes;
      }
