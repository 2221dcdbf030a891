-- The ranks of a pass that is over.
use Rattle.std.proofs.Common.{◌≡◌, ◌≢◌, ℕ, ◌≤◌, length, get_or, map, Option, Some, None, IsSome, inl, inr, refl, sym, ap, ◌∙◌, subst, arith}
use Rattle.std.specs.List.{Contains}
use Rattle.std.proofs.lemmas.Bool.{cases_lt}
use Rattle.std.proofs.lemmas.List.{get_or-map, get_or_past, get_or_default, length-map}
use Rattle.rank_check.specs.declared.ranks.Ranks.{Ranks}
use Rattle.rank_check.specs.Graphs.{Shape, members_of, IsEdge}
use Rattle.rank_check.specs.Ranking.{rank_of, reason_of, Explains, IsRanked}
use Rattle.fair_search.specs.declared.pass.Place.{Place}
use Rattle.fair_search.specs.declared.pass.Place.TheVariants.{New, Open, Done}
use Rattle.fair_search.specs.declared.pass.Pass.{Pass}
use Rattle.fair_search.specs.Passing.{place_of, rank_at, ExplainsDone, IsOver}
use Rattle.fair_search.proofs.Looking.{no_stack}

done_at : (x : Place) (k : ℕ) → rank_at x ≡ Some k → x ≡ Done k
done_at New k e = let f : None ≡ Some k = e in absurd cc
done_at (Open i) k e = let f : None ≡ Some k = e in absurd cc
done_at (Done r) k e = let f : r ≡ k = cc in ap Done f

some_at : (x : Place) → x ≢ New → ((i : ℕ) → x ≢ Open i) → IsSome (rank_at x)
some_at New seen shut = absurd (seen refl)
some_at (Open i) seen shut = absurd (shut i refl)
some_at (Done r) seen shut = refl

module _ (g : Shape) (p : Pass) (over : IsOver g p) where
  abbrev pub Given : Ranks
  Given = record { ranks = map rank_at p.places; reasons = p.reasons }

  rank_is : (v : ℕ) → rank_of Given v ≡ rank_at (place_of p v)
  rank_is v =
      elim (cases_lt v (length p.places)) [
        | inl lt ↦ get_or-map rank_at p.places v New None lt
        | inr le ↦
            get_or_past (map rank_at p.places) v None
            (omega (arith, le, length-map p.places rank_at))
            ∙ sym (ap rank_at (get_or_past p.places v New le))
      ]

  is_done : (v k : ℕ) → rank_of Given v ≡ Some k → place_of p v ≡ Done k
  is_done v k at = done_at (place_of p v) k (sym (rank_is v) ∙ at)

  shut : (v i : ℕ) → place_of p v ≢ Open i
  shut v i at = omega (arith, (over.pass.opened v i at).0, no_stack g p over.pass 0 over.idle)

  given_starts : (v : ℕ) → Contains (members_of g 0) v → IsSome (rank_of Given v)
  given_starts v (k, lt, at) =
      let same = get_or_default (members_of g 0) k 0 v lt ∙ at in
      let P : ℕ → Type 0 = λ v. place_of p v ≢ New in
      let seen = subst P same (over.pass.begun_seen k (omega (arith, lt, over.all))) in
      let S : Option ℕ → Type 0 = IsSome in
      subst S (sym (rank_is v)) (some_at (place_of p v) seen (shut v))

  given_falls : (v w k : ℕ) → IsEdge g v w → rank_of Given v ≡ Some k
      → (j : ℕ) × (rank_of Given w ≡ Some j) × (j ≤ k)
  given_falls v w k edge at =
      let (s, there, le) = over.pass.closed v w k (is_done v k at) edge in
      (s, rank_is w ∙ ap rank_at there, le)

  explains : (k : ℕ) (reason : Option ℕ) → ExplainsDone g p k reason → Explains g Given k reason
  explains k (Some until) why = λ v made at. why v (is_done v k at)
  explains k None why = λ v w edge at there. why v w edge (is_done v k at) (is_done w k there)

  given_explained : (k : ℕ) → Explains g Given k (reason_of Given k)
  given_explained k =
      elim (cases_lt k (length p.reasons)) [
        | inl lt ↦ explains k (get_or p.reasons k None) (over.pass.explained k lt)
        | inr le ↦
            let P : Option ℕ → Type 0 = Explains g Given k in
            subst P (sym (get_or_past p.reasons k None le))
            (λ v w edge at there. omega (arith, over.pass.ranked v k (is_done v k at), le))
      ]

  pub given_ranked : IsRanked g Given
  given_ranked = record { starts = given_starts; falls = given_falls; explained = given_explained }
